use Rattle.std.proofs.Common.{List, [], ◌++◌, sym, ap, subst, ◌∙◌}
use Rattle.std.specs.List.{cons_option}
use Rattle.jc_facts.specs.Names.{Bytes}
use Rattle.jc_facts.specs.world.Search.{supers_of}
use Rattle.jc_facts.specs.world.World.{find_class}
use Rattle.jc_index.specs.Ids.{name_at}
use Rattle.jc_sides.specs.SidesOf.{SidesOf}
use Rattle.jc_select.specs.declared.dropped.Loser.{Loser}
use Rattle.jc_select.specs.steps.Losing.{AreLosers}
use Rattle.jc_select.proofs.DroppedRows.{losers_of_class}
use Rattle.jc_select.proofs.dropped.losers_above.Goals as goal

pub returns : goal.returns
returns c =
    losers_of_class c.args.sides.now (name_at c.args.sides.now.old c.args.class) c.facts-facts.result.now c.add_losers.new.losers.items
    (c.facts-facts.ensures ∙ ap (λ (s : SidesOf). find_class s.old (name_at s.old c.args.class)) c.sides.view_is)
    (subst (λ (is : List Bytes). AreLosers c.args.sides.now (supers_of c.facts-facts.result.now.superclass [] ++ is) c.add_losers.new.losers.items) c.as_slice.ensures
    (c.in_ok-add_losers.ensures (supers_of c.facts-facts.result.now.superclass [])
    (subst (λ (ls : List Loser). AreLosers c.args.sides.now (supers_of c.facts-facts.result.now.superclass []) ls) (sym (c.in_ok-push_some.ensures ∙ ap (λ (ls : List Loser). ls ++ cons_option c.superclass_of.result []) c.new-losers.ensures.items)) c.superclass_of.ensures)))
