use Rattle.std.proofs.Common.{List, ℕ, sym, subst}
use Rattle.jc_index.specs.steps.Parts.{LiesIn}
use Rattle.jc_index.proofs.Shares.{part-lies}
use Rattle.jc_index.proofs.class_lists.ClassLists.row.Goals as goal

pub items_in-requires : goal.items_in-requires
items_in-requires c =
    subst (λ (ids : List ℕ). LiesIn ids c.in-Some.part) (sym c.as_slice.ensures.value)
    (part-lies c.self.inside.ids.items c.self.inside.parts.items c.args.self.now c.args.id c.number.result c.index.result.now c.in-Some.part c.self.invariant c.self.view_is c.requires c.number.ensures
    c.index.ensures c.in-Some.is)
