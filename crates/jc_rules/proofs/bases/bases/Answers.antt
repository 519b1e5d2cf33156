use Rattle.std.proofs.Common.{subst, ap, ◌∙◌, map}
use Rattle.jc_sides.specs.SharedOf.{SharedOf}
use Rattle.jc_sides.specs.SidesOf.{SidesOf}
use Rattle.jc_rules.specs.Bases.{AreBases}
use Rattle.jc_rules.proofs.OldNumbers.{are_bases}
use Rattle.jc_rules.proofs.bases.bases.Goals as goal

pub returns : goal.returns
returns c =
    subst (λ (s : SidesOf). AreBases s.old s.new c.in_ok-ids.ids.items) c.in_ok-sides.ensures
    (are_bases c.in_ok-sides.sides c.in_ok-classes.classes.items c.in_ok-ids.ids.items c.in_ok-classes.ensures (c.in_ok-ids.ensures ∙ ap (map (λ (b : SharedOf). b.old)) c.as_slice.ensures.value))
