use Rattle.std.proofs.Common.{refl, sym, ap, ◌∙◌}
use Rattle.jc_facts.specs.Names.{Bytes}
use Rattle.jc_index.specs.Ids.{id_of}
use Rattle.jc_sides.specs.SidesOf.{SidesOf}
use Rattle.jc_select.proofs.DroppedRows.{absent_loser, no_loser, one_loser}
use Rattle.jc_select.proofs.dropped.loser_named.Goals as goal

pub returns-in-None : goal.returns-in-None
returns-in-None c = absent_loser c.args.sides.now c.args.name.now (c.in-None.ensures.value ∙ ap (λ (x : Bytes). id_of c.sides.inside.old.now x) c.as_bytes.ensures ∙ ap (λ (s : SidesOf). id_of s.old c.args.name.now) c.sides.view_is)

pub returns-then-count-eq0 : goal.returns-then-count-eq0
returns-then-count-eq0 c =
    no_loser c.args.sides.now c.args.sets.now c.requires.sets c.args.name.now c.in-Some.id c.number.result c.index-sets-number.result
    (c.in-Some.ensures.value ∙ ap (λ (x : Bytes). id_of c.sides.inside.old.now x) c.as_bytes.ensures ∙ ap (λ (s : SidesOf). id_of s.old c.args.name.now) c.sides.view_is) c.number.ensures c.index-sets-number.is (sym c.len-count.ensures.len ∙ c.if-count-eq0.true)

pub returns-else-count-eq0 : goal.returns-else-count-eq0
returns-else-count-eq0 c = one_loser c.args.sides.now c.args.name.now c.in-Some.id (record { id = c.in-Some.id; count = c.len-count.result }) (c.in-Some.ensures.value ∙ ap (λ (x : Bytes). id_of c.sides.inside.old.now x) c.as_bytes.ensures ∙ ap (λ (s : SidesOf). id_of s.old c.args.name.now) c.sides.view_is) refl
