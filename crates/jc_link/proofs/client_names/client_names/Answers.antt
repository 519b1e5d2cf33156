use Rattle.std.proofs.Common.{List, subst}
use Rattle.std.specs.List.Sorted.{IsPermutation}
use Rattle.jc_facts.specs.Names.{Bytes}
use Rattle.jc_link.proofs.Taken.{all_are_of}
use Rattle.jc_link.proofs.client_names.client_names.Goals as goal

pub returns : goal.returns
returns c =
    all_are_of _ c.args.clients.now (subst (λ (xs : List Bytes). IsPermutation xs c.in_ok-names.names) c.in_ok-names_of.ensures c.in_ok-names.ensures)
    (subst (λ (xs : List Bytes). IsPermutation xs c.in_ok-packages.packages) c.in_ok-packages_of.ensures c.in_ok-packages.ensures)
