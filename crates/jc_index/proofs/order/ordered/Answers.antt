use Rattle.std.proofs.Common.{List, sym, subst}
use Rattle.std.specs.List.Sorted.{IsPermutation}
use Rattle.std.proofs.lemmas.List.Sorted.{IsPermutation-refl}
use Rattle.jc_facts.specs.Names.{Bytes}
use Rattle.jc_index.specs.steps.Order.{names_at}
use Rattle.jc_index.proofs.order.ordered.Goals as goal

pub returns : goal.returns
returns c =
    let names : List Bytes = names_at c.args.classes.now in
    c.in_ok-order.ensures c.args.classes.now c.requires (subst (λ (ns : List Bytes). IsPermutation names ns) (sym c.in_ok-places.ensures.names) (IsPermutation-refl names)) c.in_ok-places.ensures.at
