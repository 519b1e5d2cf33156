-- The order of keys.
use Rattle.std.specs.Prelude.{◌≡◌, Some, refl}
use Rattle.std.specs.declared.cmp.Ordering.{Ordering}
use Rattle.std.specs.Ordering.{nat_cmp, ordering_then, eq_by_cmp, partial_ordering_then}
use Rattle.std.specs.Cmp.{IsTotalOrder, IsEquivalence, IsPartialOrder, then_total, on_total, and_equiv, on_equiv, then_po, on_po, both_tied, Agrees, then_agrees}
use Rattle.std.specs.Cmp.Lexicographic.{slice_cmp, nat_list_cmp_total, nat_list_eq_equiv, texts_ties, texts_po}
use Rattle.std.proofs.Common.{subst}
use Rattle.jc_facts.specs.declared.key.Key.{Key}
use Rattle.jc_facts.specs.Names.{same_key}

-- by name, then by descriptor
abbrev pub key_cmp : Key → Key → Ordering
key_cmp x y = ordering_then (slice_cmp nat_cmp x.name y.name) (slice_cmp nat_cmp x.descriptor y.descriptor)

pub key_total : IsTotalOrder key_cmp
key_total = then_total (on_total (λ (k : Key). k.name) nat_list_cmp_total) (on_total (λ (k : Key). k.descriptor) nat_list_cmp_total)

pub same_key_equiv : IsEquivalence same_key
same_key_equiv = and_equiv (on_equiv (λ (k : Key). k.name) nat_list_eq_equiv) (on_equiv (λ (k : Key). k.descriptor) nat_list_eq_equiv)

pub key_ties : (x y : Key) → same_key x y ≡ eq_by_cmp key_cmp x y
key_ties x y = both_tied _ _ (slice_cmp nat_cmp x.name y.name) (slice_cmp nat_cmp x.descriptor y.descriptor) (texts_ties x.name y.name) (texts_ties x.descriptor y.descriptor)

pub key_po : IsPartialOrder same_key (λ x y. Some (key_cmp x y))
key_po =
    let agree : Agrees (λ x y. partial_ordering_then (Some (slice_cmp nat_cmp x.name y.name)) (Some (slice_cmp nat_cmp x.descriptor y.descriptor))) key_cmp = then_agrees (λ (x y : Key). refl) (λ (x y : Key). refl) in
    subst (IsPartialOrder same_key) (λ i x y. agree x y i) (then_po (on_po (λ (k : Key). k.name) texts_po) (on_po (λ (k : Key). k.descriptor) texts_po))
