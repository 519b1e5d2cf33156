-- Lists of keys, and what a loop collects.
use Rattle.std.proofs.Common.{◌≡◌, ◌<◌, ◌≤◌, ◌+◌, ◌++◌, ℕ, Bool, true, false, cond, ◌||◌, ◌&&◌, List, [], ◌∷◌, length, get_or, refl, sym, ◌∙◌, ap, Some, take}
use Rattle.std.specs.List.{list_any, find as first_where}
use Rattle.std.proofs.lemmas.List.{take_more, take_all}
use Rattle.jc_facts.specs.declared.class_facts.Member.{Member}
use Rattle.jc_facts.specs.declared.key.Key.{Key}
use Rattle.jc_facts.specs.Names.{same_key, is_key, key_of}
use Rattle.jc_facts.specs.file.Valid.{has_key}
use Rattle.jc_facts.specs.Options.{some_and}
use Rattle.jc_facts.proofs.Keys.{flip}
use Rattle.std.proofs.lemmas.List.Folds.{list_any-append}
use Rattle.std.proofs.Math.Bool.{or-false, or-true}
use Rattle.jc_lemmas.proofs.Bools.{or_assoc}
use Rattle.jc_sides.specs.Members.{HasAll}
use Rattle.jc_sides.specs.steps.KeySets.{AddsKeys, has_member}

-- ---- one more key

pub push_adds : (m : Member) (k : Key) (wanted : Bool) (before after : List Key) → wanted ≡ true → k ≡ key_of m → after ≡ before ++ k ∷ [] → AddsKeys (λ q. wanted && is_key q m) before after
push_adds m k wanted before after w e a = record {
  has = λ q. ap (has_key q) a ∙ list_any-append (same_key q) before (k ∷ [])
      ∙ ap (λ (b : Bool). has_key q before || b) (or-false (same_key q k) ∙ ap (same_key q) e ∙ flip q (key_of m) ∙ ap (λ (b : Bool). b && is_key q m) (sym w));
}

-- ---- a loop that adds

-- nothing yet
pub adds_none : (keys : List Key) → AddsKeys (λ q. false) keys keys
adds_none keys = record { has = λ q. sym (or-false (has_key q keys)) }

-- one more item
pub adds_more : {A : Type 0} (p : Key → A → Bool) (d : A) (xs : List A) (i : ℕ) (first before after : List Key) → i < length xs → AddsKeys (λ q. list_any (p q) (take i xs)) first before → AddsKeys (λ q. p q (get_or xs i d)) before after
    → AddsKeys (λ q. list_any (p q) (take (i + 1) xs)) first after
adds_more p d xs i first before after l h k = record {
  has = λ q. k.has q ∙ ap (λ (b : Bool). b || p q (get_or xs i d)) (h.has q)
      ∙ or_assoc (has_key q first) (list_any (p q) (take i xs)) (p q (get_or xs i d))
      ∙ ap (λ (b : Bool). has_key q first || b) (ap (λ (b : Bool). list_any (p q) (take i xs) || b) (sym (or-false (p q (get_or xs i d)))) ∙ sym (list_any-append (p q) (take i xs) (get_or xs i d ∷ [])) ∙ ap (list_any (p q)) (sym (take_more xs i d l)));
}

-- the same is listed
adds_same : (a b : Key → Bool) (before after : List Key) → ((q : Key) → a q ≡ b q) → AddsKeys a before after → AddsKeys b before after
adds_same a b before after e h = record { has = λ q. h.has q ∙ ap (λ (c : Bool). has_key q before || c) (e q) }

-- one more member, where it passes
pub put_member : (test : Member → Bool) (ms : List Member) (i : ℕ) (m : Member) (wanted : Bool) (first before after : List Key) → i < length ms → m ≡ get_or ms i m → wanted ≡ test m
    → AddsKeys (has_member test (take i ms)) first before → AddsKeys (λ q. wanted && is_key q m) before after → AddsKeys (has_member test (take (i + 1) ms)) first after
put_member test ms i m wanted first before after l is w h j =
    adds_more (λ q o. test o && is_key q o) m ms i first before after l h
    (adds_same (λ q. wanted && is_key q m) (λ q. test (get_or ms i m) && is_key q (get_or ms i m)) before after
    (λ q. ap (λ (b : Bool). b && is_key q m) w ∙ ap (λ (o : Member). test o && is_key q o) is) j)

-- all items
pub adds_all : {A : Type 0} (p : Key → A → Bool) (xs : List A) (i : ℕ) (first keys : List Key) → length xs ≤ i → AddsKeys (λ q. list_any (p q) (take i xs)) first keys → AddsKeys (λ q. list_any (p q) xs) first keys
adds_all p xs i first keys l h = record { has = λ q. h.has q ∙ ap (λ ys. has_key q first || list_any (p q) ys) (take_all i xs l) }

-- to a list without keys
pub adds_each : (listed : Key → Bool) (first keys : List Key) → first ≡ [] → AddsKeys listed first keys → HasAll listed keys
adds_each listed first keys o h q e = h.has q ∙ ap (λ (ks : List Key). has_key q ks || listed q) o ∙ e

-- ---- a member by its key

-- what the member of the key passes, a member of the key passes
pub some_member : (test : Member → Bool) (ms : List Member) (q : Key) → some_and test (first_where (is_key q) ms) ≡ true → has_member test ms q ≡ true
some_member test [] q h = absurd (cc)
some_member test (m ∷ ms) q h = go (is_key q m) refl h (some_member test ms q)
  where
    go : (b : Bool) → is_key q m ≡ b → some_and test (cond b (Some m) (first_where (is_key q) ms)) ≡ true → (some_and test (first_where (is_key q) ms) ≡ true → has_member test ms q ≡ true)
        → ((test m && is_key q m) || has_member test ms q) ≡ true
    go true e s r = let t : test m ≡ true = s in rw (t, e) refl
    go false e s r = rw (r s) (or-true (test m && is_key q m))
