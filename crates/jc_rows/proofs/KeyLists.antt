-- Lists of keys that grow: each key stands once, stays where it is, and is that of a member.
use Rattle.std.proofs.Common.{◌≡◌, ℕ, ◌⊎◌, inl, inr, Bool, suc, zero, true, false, List, [], ◌∷◌, ◌++◌, length, map, refl, sym, ◌∙◌, ap, Option, Some, None, ◌||◌}
use Rattle.std.specs.Prelude.{slice_get, cond}
use Rattle.std.specs.List.{list_any}
use Rattle.jc_facts.specs.declared.class_facts.ClassFacts.{ClassFacts}
use Rattle.jc_facts.specs.declared.class_facts.Member.{Member}
use Rattle.jc_facts.specs.declared.key.Key.{Key}
use Rattle.jc_facts.specs.Names.{Bytes, same_key, key_of}
use Rattle.jc_facts.specs.world.World.{World}
use Rattle.jc_index.specs.Ids.{names}
use Rattle.jc_rows.specs.Keys.{AreDistinct, with_key, with_keys, with_keys_of, with_all_keys, class_with_rows, numbered_keys}
use Rattle.jc_rows.specs.steps.Numbering.{AreNumbers}
use Rattle.jc_facts.proofs.Same.{key_itself}

-- ---- keys stay where they are

-- the keys of a list have their numbers in another too
abbrev pub Stay : List Key → List Key → Type 0
Stay before now = (n : ℕ) (k : Key) → slice_get before n ≡ Some k → slice_get now n ≡ Some k

stay_append : (before more : List Key) → Stay before (before ++ more)
stay_append [] more n k e = absurd (let c : None ≡ Some k = e in cc)
stay_append (x ∷ xs) more zero k e = e
stay_append (x ∷ xs) more (suc n) k e = stay_append xs more n k e

pub stay_key : (keys : List Key) (k : Key) → Stay keys (with_key keys k)
stay_key keys k = go (list_any (same_key k) keys)
  where
    go : (b : Bool) → Stay keys (cond b keys (keys ++ k ∷ []))
    go true = λ n j e. e
    go false = stay_append keys (k ∷ [])

pub stay_keys : (keys : List Key) (ms : List Member) → Stay keys (with_keys keys ms)
stay_keys keys [] n k e = e
stay_keys keys (m ∷ ms) n k e = stay_keys (with_key keys (key_of m)) ms n k (stay_key keys (key_of m) n k e)

pub stay_class : (keys : List Key) (o : Option ClassFacts) → Stay keys (with_keys_of keys o)
stay_class keys None n k e = e
stay_class keys (Some c) n k e = stay_keys (with_keys keys c.fields) c.methods n k (stay_keys keys c.fields n k e)

-- so their numbers do
pub numbers_stay : (before now : List Key) → Stay before now → (ms : List Member) (ns : List ℕ) → AreNumbers before ms ns → AreNumbers now ms ns
numbers_stay before now s [] [] a = refl
numbers_stay before now s [] (n ∷ ns) a = absurd (let e : slice_get before n ∷ map (slice_get before) ns ≡ [] = a in cc)
numbers_stay before now s (m ∷ ms) [] a = absurd (let e : [] ≡ Some (key_of m) ∷ map (λ (g : Member). Some (key_of g)) ms = a in cc)
numbers_stay before now s (m ∷ ms) (n ∷ ns) a =
    let h : slice_get before n ∷ map (slice_get before) ns ≡ Some (key_of m) ∷ map (λ (g : Member). Some (key_of g)) ms = a in
    let first : slice_get before n ≡ Some (key_of m) = cc in
    let others : AreNumbers before ms ns = cc in
    ap (λ (o : Option Key). o ∷ map (slice_get now) ns) (s n (key_of m) first) ∙ ap (λ (os : List (Option Key)). Some (key_of m) ∷ os) (numbers_stay before now s ms ns others)

-- ---- each stands once

-- a key that a test finds nowhere has no number
absent : (k : Key) (keys : List Key) (n : ℕ) → list_any (same_key k) keys ≡ false → slice_get keys n ≡ Some k → ⊥
absent k [] n h e = let c : None ≡ Some k = e in cc
absent k (x ∷ xs) n h e = go n (same_key k x) refl h e (absent k xs)
  where
    go : (i : ℕ) (b : Bool) → same_key k x ≡ b → (b || list_any (same_key k) xs) ≡ false → slice_get (x ∷ xs) i ≡ Some k → ((j : ℕ) → list_any (same_key k) xs ≡ false → slice_get xs j ≡ Some k → ⊥) → ⊥
    go i true p q r more = let c : true ≡ false = q in cc
    go zero false p q r more = let c : Some x ≡ Some k = r in let y : x ≡ k = cc in let t : true ≡ false = sym (key_itself k) ∙ sym (ap (same_key k) y) ∙ p in cc
    go (suc j) false p q r more = more j q r

-- what stands in a longer list stands in the front, or is the last
last_or : (keys : List Key) (k j : Key) (n : ℕ) → slice_get (keys ++ k ∷ []) n ≡ Some j → (slice_get keys n ≡ Some j) ⊎ ((n ≡ length keys) × (j ≡ k))
last_or [] k j zero e = inr (refl, let c : Some k ≡ Some j = e in cc)
last_or [] k j (suc n) e = absurd (let c : None ≡ Some j = e in cc)
last_or (x ∷ xs) k j zero e = inl e
last_or (x ∷ xs) k j (suc n) e = go (last_or xs k j n e)
  where
    go : (slice_get xs n ≡ Some j) ⊎ ((n ≡ length xs) × (j ≡ k)) → (slice_get xs n ≡ Some j) ⊎ ((suc n ≡ suc (length xs)) × (j ≡ k))
    go (inl h) = inl h
    go (inr h) = inr (ap suc h.0, h.1)

distinct_key : (keys : List Key) (k : Key) → AreDistinct keys → AreDistinct (with_key keys k)
distinct_key keys k d = go (list_any (same_key k) keys) refl
  where
    apart : list_any (same_key k) keys ≡ false → (n m : ℕ) (j : Key) → (slice_get keys n ≡ Some j) ⊎ ((n ≡ length keys) × (j ≡ k)) → (slice_get keys m ≡ Some j) ⊎ ((m ≡ length keys) × (j ≡ k)) → n ≡ m
    apart h n m j (inl e) (inl f) = d n m j e f
    apart h n m j (inl e) (inr f) = absurd (absent k keys n h (e ∙ ap (λ (i : Key). Some i) f.1))
    apart h n m j (inr e) (inl f) = absurd (absent k keys m h (f ∙ ap (λ (i : Key). Some i) e.1))
    apart h n m j (inr e) (inr f) = e.0 ∙ sym f.0

    go : (b : Bool) → list_any (same_key k) keys ≡ b → AreDistinct (cond b keys (keys ++ k ∷ []))
    go true h = d
    go false h = λ n m j e f. apart h n m j (last_or keys k j n e) (last_or keys k j m f)

distinct_keys : (keys : List Key) (ms : List Member) → AreDistinct keys → AreDistinct (with_keys keys ms)
distinct_keys keys [] d = d
distinct_keys keys (m ∷ ms) d = distinct_keys (with_key keys (key_of m)) ms (distinct_key keys (key_of m) d)

distinct_class : (keys : List Key) (o : Option ClassFacts) → AreDistinct keys → AreDistinct (with_keys_of keys o)
distinct_class keys None d = d
distinct_class keys (Some c) d = distinct_keys (with_keys keys c.fields) c.methods (distinct_keys keys c.fields d)

distinct_all : (W : World) (keys : List Key) (xs : List Bytes) → AreDistinct keys → AreDistinct (with_all_keys W keys xs)
distinct_all W keys [] d = d
distinct_all W keys (x ∷ xs) d = distinct_all W (with_keys_of keys (class_with_rows W x)) xs (distinct_class keys (class_with_rows W x) d)

pub numbered_keys-distinct : (W : World) → AreDistinct (numbered_keys W)
unfolding numbered_keys
numbered_keys-distinct W = distinct_all W [] (names W) (λ n m k e f. absurd (let c : None ≡ Some k = e in cc))
