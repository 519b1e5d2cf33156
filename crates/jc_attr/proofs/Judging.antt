-- The answer of a descriptor is that for each member of one kind.
use Rattle.std.proofs.Common.{◌≡◌, ℕ, Bool, true, false, ◌&&◌, refl, sym, ap, ◌∙◌}
use Rattle.std.specs.Prelude.{nat_eq}
use Rattle.std.specs.Bool.{beq}
use Rattle.std.specs.Cmp.Lexicographic.{pointwise, same_text}
use Rattle.std.proofs.lemmas.Bool.{and_parts}
use Rattle.jc_lemmas.proofs.Bools.{beq_is}
use Rattle.jc_desc.specs.Names.{is_init_name}
use Rattle.jc_facts.specs.Flags.{static_flag}
use Rattle.jc_facts.specs.Names.{Bytes}
use Rattle.jc_facts.specs.file.Rules.{member_descriptor_fits}
use Rattle.jc_attr.specs.steps.Judgements.{JudgementOf, IsRight}

-- two members of one kind
pub of_one_kind : (method : Bool) (x y : Bytes) (f g : ℕ) (descriptor : Bytes) → is_init_name x ≡ is_init_name y → static_flag f ≡ static_flag g → member_descriptor_fits method x f descriptor ≡ member_descriptor_fits method y g descriptor
of_one_kind true x y f g descriptor i s = rw (i, s) refl
of_one_kind false x y f g descriptor i s = refl

-- the answer that is kept
pub as_judged : (j : JudgementOf) (method : Bool) (name : Bytes) (flags : ℕ) (descriptor : Bytes) → IsRight j
    → (beq j.method method && beq j.init (is_init_name name) && beq j.of_class (static_flag flags) && pointwise nat_eq j.descriptor descriptor) ≡ true
    → j.fits ≡ member_descriptor_fits method name flags descriptor
as_judged j method name flags descriptor right t =
    let p = and_parts (beq j.method method && beq j.init (is_init_name name) && beq j.of_class (static_flag flags)) (pointwise nat_eq j.descriptor descriptor) t in
    let q = and_parts (beq j.method method && beq j.init (is_init_name name)) (beq j.of_class (static_flag flags)) p.0 in
    let r = and_parts (beq j.method method) (beq j.init (is_init_name name)) q.0 in
    sym (right name flags (sym (beq_is j.init (is_init_name name) r.1)) (sym (beq_is j.of_class (static_flag flags) q.1)))
    ∙ ap (λ (m : Bool). member_descriptor_fits m name flags j.descriptor) (beq_is j.method method r.0)
    ∙ ap (λ (d : Bytes). member_descriptor_fits method name flags d) (same_text j.descriptor descriptor (sym p.1))
