-- Keys collected in a set.
use Rattle.std.proofs.Common.{◌≡◌, refl, ◌∙◌, ap, List, [], ◌∷◌, false, Bool, true, cond, ◌||◌, sym, ◌<◌, ◌+◌, ℕ, length, get_or, drop}
use Rattle.std.specs.declared.cmp.Ordering.{Ordering}
use Rattle.std.specs.declared.cmp.Ordering.TheVariants.{Less, Equal, Greater}
use Rattle.std.specs.Ordering.{ordering_then, nat_cmp}
use Rattle.jc_facts.specs.declared.key.Key.{Key}
use Rattle.jc_facts.specs.Names.{Bytes, is_key, key_of, same}
use Rattle.std.specs.Cmp.Lexicographic.{slice_cmp}
use Rattle.std.proofs.lemmas.Map.Lookups.{CmpEqualImpliesEq, exact_bytes}
use Rattle.jc_facts.specs.KeyOrder.{key_cmp, key_ties}
use Rattle.std.specs.List.Sorted.{IsStrictlySortedBy}
use Rattle.jc_facts.specs.Exactly.{Rises}
use Rattle.std.specs.BTreeSet as sorted
use Rattle.jc_facts.specs.declared.class_facts.Member.{Member}
use Rattle.std.specs.List.{list_any}
use Rattle.std.proofs.lemmas.List.{drop_more}
use Rattle.std.proofs.lemmas.Bool.{and_parts}
use Rattle.jc_facts.proofs.Same.{same_is}

pub then_equal : (a b : Ordering) → ordering_then a b ≡ Equal → (a ≡ Equal) × (b ≡ Equal)
then_equal Less b e = absurd (let clash : Less ≡ Equal = e in cc)
then_equal Equal b e = (refl, e)
then_equal Greater b e = absurd (let clash : Greater ≡ Equal = e in cc)

pub key_with : Bytes → Bytes → Key
key_with x y = record { name = x; descriptor = y }

pub key_exact : CmpEqualImpliesEq key_cmp
unfolding key_with
key_exact x y e =
    let p = then_equal (slice_cmp nat_cmp x.name y.name) (slice_cmp nat_cmp x.descriptor y.descriptor) e in
    let whole : key_with x.name x.descriptor ≡ key_with y.name y.descriptor = ap (λ (n : Bytes). key_with n x.descriptor) (exact_bytes x.name y.name p.0) ∙ ap (key_with y.name) (exact_bytes x.descriptor y.descriptor p.1) in
    whole

pub rises : (ks : List Key) → IsStrictlySortedBy key_cmp ks → Rises key_cmp ks
unfolding Rises IsStrictlySortedBy
rises [] o = tt
rises (k ∷ ks) o = (o.0, rises ks o.1)

-- a set without keys
pub empty_has : (set : sorted.BTreeSet Key) → set.keys ≡ [] → (k : Key) → sorted.contains key_cmp set k ≡ false
empty_has set e k = rw e refl

-- one key more
pub key_step : (before now : sorted.BTreeSet Key) (m : Member) → sorted.Updates key_cmp before now (key_of m) true → (k : Key) (rest : Bool)
    → (sorted.contains key_cmp now k || rest) ≡ (sorted.contains key_cmp before k || (is_key k m || rest))
key_step before now m u k rest = ap (λ b. b || rest) added ∙ go (is_key k m) (sorted.contains key_cmp before k)
  where
    added : sorted.contains key_cmp now k ≡ cond (is_key k m) true (sorted.contains key_cmp before k)
    added = u.0 k ∙ ap (λ (b : Bool). cond b true (sorted.contains key_cmp before k)) (sym (key_ties (key_of m) k))

    go : (i b : Bool) → (cond i true b || rest) ≡ (b || (i || rest))
    go true true = refl
    go true false = refl
    go false true = refl
    go false false = refl

-- what the set has, and what is still to come of these fields
abbrev pub Comes : sorted.BTreeSet Key → List Member → sorted.BTreeSet Key → List Member → Type 0
Comes now rest before all = (k : Key) → (sorted.contains key_cmp now k || list_any (is_key k) rest) ≡ (sorted.contains key_cmp before k || list_any (is_key k) all)

pub comes_more : (first before now : sorted.BTreeSet Key) (ms : List Member) (i : ℕ) (m : Member) → i < length ms → m ≡ get_or ms i m → sorted.Updates key_cmp before now (key_of m) true
    → Comes before (drop i ms) first ms → Comes now (drop (i + 1) ms) first ms
comes_more first before now ms i m l g u h = λ k.
    key_step before now m u k (list_any (is_key k) (drop (i + 1) ms))
    ∙ ap (λ (n : Member). sorted.contains key_cmp before k || (is_key k n || list_any (is_key k) (drop (i + 1) ms))) g
    ∙ ap (λ ns. sorted.contains key_cmp before k || list_any (is_key k) ns) (sym (drop_more ms i m l)) ∙ h k

pub key-same : (k : Key) (m : Member) → is_key k m ≡ true → key_of m ≡ k
key-same k m h =
    let q = and_parts (same m.name k.name) (same m.descriptor k.descriptor) h in
    go (same_is m.name k.name q.0) (same_is m.descriptor k.descriptor q.1)
  where
    go : m.name ≡ k.name → m.descriptor ≡ k.descriptor → key_of m ≡ k
    go p q =
        let f : Bytes → Key = λ n. record { name = n; descriptor = m.descriptor } in
        let g : Bytes → Key = λ d. record { name = k.name; descriptor = d } in
        ap f p ∙ ap g q
