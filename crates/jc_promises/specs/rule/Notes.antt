-- Notes: what is worth telling and breaks no client's linking, over the old side O and the new side N alone.
--     NoteStands O N n      the note is one of theirs
use Rattle.std.specs.Prelude.{Bool, not, Option, Some, is_some, ◌&&◌, ◌≡◌, IsTrue, if◌then◌else◌}
use Rattle.std.specs.List.{find as first_where}
use Rattle.jc_facts.specs.Records.{same_constant}
use Rattle.jc_facts.specs.declared.class_facts.ClassFacts.{ClassFacts}
use Rattle.jc_facts.specs.declared.class_facts.Member.{Member}
use Rattle.jc_facts.specs.declared.class_facts.Fixed.{Fixed}
use Rattle.jc_facts.specs.declared.class_facts.Constant.{Constant}
use Rattle.jc_facts.specs.declared.key.Key.{Key}
use Rattle.jc_facts.specs.declared.verdict.Note.{Note}
use Rattle.jc_facts.specs.declared.verdict.Note.TheVariants as note
use Rattle.jc_facts.specs.Names.{Bytes, same_key}
use Rattle.jc_facts.specs.Flags.{static_flag, final_flag}
use Rattle.jc_facts.specs.Options.{and_then, some_and}
use Rattle.jc_facts.specs.world.World.{World, class_named, own_field_of}
use Rattle.jc_facts.specs.world.Loading.{load_fault}
use Rattle.jc_promises.specs.rule.Bases.{is_kept}

-- the constant value of the class's field of the key, where it has one (JVMS 4.7.2)
abbrev pub value_of_constant : ClassFacts → Key → Option Constant
value_of_constant c k = and_then (λ f. Some f.value) (first_where (λ (f : Fixed). same_key f.key k) c.constants)

-- the field of the key that the class declares is static and final
abbrev pub has_static_final : ClassFacts → Key → Bool
has_static_final c k = some_and (λ (m : Member). static_flag m.flags && final_flag m.flags) (own_field_of c k)

-- both classes declare a field of the key, the old one static and final with a constant value, and the new one has none or another
unfoldable pub has_lost_constant : ClassFacts → ClassFacts → Key → Bool
has_lost_constant c d k = has_static_final c k && is_some (own_field_of d k)
    && some_and (λ v. not (some_and (same_constant v) (value_of_constant d k))) (value_of_constant c k)

-- the class of this name in the release of the side, the platform left out
abbrev pub in_release : World → Bytes → Option ClassFacts
in_release W x = class_named W.release x

-- the note is one of these sides: a class of the old or the new release with its load fault;
-- or a kept class of both releases that loses the constant of the key. The platform gives none
abbrev pub NoteStands : World → World → Note → Type 0
NoteStands O N (note.Unloadable old x e) =
    let W = if old then O else N in
    IsTrue (is_some (in_release W x)) × (load_fault W x ≡ Some e)
NoteStands O N (note.Fixed x k) = IsTrue (is_kept O N x && some_and (λ c. some_and (λ d. has_lost_constant c d k) (in_release N x)) (in_release O x))
