-- What is asked of a valid field or method, one by one.
use Rattle.std.proofs.Common.{◌≡◌, ℕ, Bool, true, not, ◌&&◌}
use Rattle.std.proofs.lemmas.Bool.{and_parts}
use Rattle.jc_desc.specs.Names.{is_init_name, spells_member_name}
use Rattle.jc_desc.specs.Pool.{no_result}
use Rattle.jc_desc.specs.Reading.{method_of, slots_of_method}
use Rattle.jc_desc.specs.Utf8.{is_modified_utf8}
use Rattle.jc_facts.specs.declared.class_facts.Member.{Member}
use Rattle.jc_facts.specs.Flags.{static_flag}
use Rattle.jc_facts.specs.file.Rules.{member_descriptor_fits, member_flags_fit, slots_fit_in, implies}
use Rattle.jc_facts.proofs.ReadValid.{member_valid}

-- in a class of this major and these flags
pub record IsValidMember (method : Bool) (major class : ℕ) (m : Member) : Type 0 where
  pub name_fits : spells_member_name m.name method ≡ true
  pub name_text : is_modified_utf8 m.name ≡ true
  pub descriptor_fits : member_descriptor_fits method m.name m.flags m.descriptor ≡ true
  pub descriptor_text : is_modified_utf8 m.descriptor ≡ true
  pub flags_fit : member_flags_fit method major class m.name m.flags ≡ true

pub valid_member : (method : Bool) (major class : ℕ) (m : Member) → member_valid method major class m ≡ true → IsValidMember method major class m
valid_member method major class m h =
    let v4 = and_parts (spells_member_name m.name method && is_modified_utf8 m.name && member_descriptor_fits method m.name m.flags m.descriptor && is_modified_utf8 m.descriptor) (member_flags_fit method major class m.name m.flags) h in
    let v3 = and_parts (spells_member_name m.name method && is_modified_utf8 m.name && member_descriptor_fits method m.name m.flags m.descriptor) (is_modified_utf8 m.descriptor) v4.0 in
    let v2 = and_parts (spells_member_name m.name method && is_modified_utf8 m.name) (member_descriptor_fits method m.name m.flags m.descriptor) v3.0 in
    let v1 = and_parts (spells_member_name m.name method) (is_modified_utf8 m.name) v2.0 in
    record { name_fits = v1.0; name_text = v1.1; descriptor_fits = v2.1; descriptor_text = v3.1; flags_fit = v4.1 }

-- the parameters of a method, with the object, take at most 255 slots
pub valid_slots : (major class : ℕ) (m : Member) → member_valid true major class m ≡ true → slots_fit_in (not (static_flag m.flags)) (slots_of_method m.descriptor) ≡ true
valid_slots major class m h = (and_parts (slots_fit_in (not (static_flag m.flags)) (slots_of_method m.descriptor)) (implies (is_init_name m.name) (no_result (method_of m.descriptor))) (valid_member true major class m h).descriptor_fits).0
