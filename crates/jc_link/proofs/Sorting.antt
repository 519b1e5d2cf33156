-- Clients in byte order of their names.
use Rattle.std.proofs.Common.{◌≡◌, List, ◌++◌, length, sym, ◌∙◌}
use Rattle.std.specs.Prelude.{IsTrue}
use Rattle.std.specs.List.{All}
use Rattle.std.specs.List.Sorted.{IsPermutation, IsSortedBy}
use Rattle.std.specs.Ordering.{is_lt}
use Rattle.std.proofs.lemmas.List.Elements.{All-from_recursion, recursion_from_All}
use Rattle.std.proofs.lemmas.List.Sorted.{Contains-permutation, IsPermutation-sym}
use Rattle.jc_facts.specs.declared.client.ClientClass.{ClientClass}
use Rattle.jc_facts.specs.declared.class_facts.ClassFacts.{ClassFacts}
use Rattle.jc_facts.specs.Exactly.{name_order}
use Rattle.jc_facts.specs.world.World.{side, with_clients, differ_by_name}
use Rattle.jc_facts.specs.client.Valid.{facts_of, IsValidClient}
use Rattle.jc_facts.specs.client.Linked.{in_order}
use Rattle.jc_facts.proofs.Apart.{Apart, rec-Apart, Apart-permutation, NamesRise-sorted}
use Rattle.jc_facts.proofs.Clients.{clients_apart, facts_length, name_of}
use Rattle.jc_facts.proofs.OneList.{same_list}
use Rattle.jc_worlds.specs.Alike.{FindAlike}
use Rattle.jc_worlds.proofs.Alike.{clients_are_found}
use Rattle.jc_worlds.proofs.ClientOrder.{sorted_each, sorted_rise, sorted_length, to_sorted, from_sorted, found}

-- ---- sorted

pub sorted_order : (cs ds : List ClientClass) → IsTrue (differ_by_name (facts_of cs)) → IsPermutation cs ds → IsSortedBy (λ x y. is_lt (name_order x.facts.name y.facts.name)) ds → ds ≡ in_order cs
sorted_order cs ds d p s =
    let far : Apart name_of ds = Apart-permutation name_of cs ds p (rec-Apart name_of cs (clients_apart cs d)) in
    same_list name_of ds (in_order cs) (NamesRise-sorted name_of ds s far) (sorted_rise cs d)
    (λ z k. to_sorted cs z (Contains-permutation ds cs z (IsPermutation-sym cs ds p) k))
    (λ z k. Contains-permutation cs ds z p (from_sorted cs z k))

pub order_valid : (cs : List ClientClass) → All IsValidClient cs → All IsValidClient (in_order cs)
order_valid cs h = All-from_recursion IsValidClient (in_order cs) (sorted_each IsValidClient cs (recursion_from_All IsValidClient cs h))

pub order_length : (cs : List ClientClass) → length (in_order cs) ≡ length cs
order_length cs = sym (facts_length (in_order cs)) ∙ sorted_length cs ∙ facts_length cs

-- it doesn't matter in which order the clients stand beside the release
pub find_in_order : (P R : List ClassFacts) (cs : List ClientClass) → IsTrue (differ_by_name (facts_of cs)) → FindAlike (with_clients (side P R) (facts_of cs)) (side P (R ++ facts_of (in_order cs)))
find_in_order P R cs d x = found (side P R) cs d x ∙ clients_are_found P R (facts_of (in_order cs)) x
