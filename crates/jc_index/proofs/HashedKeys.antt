-- Keys that are collected, each once.
use Rattle.std.proofs.Common.{◌≡◌, ◌<◌, ◌≤◌, ◌+◌, ℕ, Bool, true, false, cond, ◌||◌, List, [], ◌∷◌, ◌++◌, length, take, get_or, refl, sym, ◌∙◌, ap, subst}
use Rattle.std.proofs.lemmas.List.{take_more, take_all}
use Rattle.std.proofs.lemmas.List.Folds.{list_any-append}
use Rattle.jc_facts.specs.declared.key.Key.{Key}
use Rattle.std.proofs.lemmas.Bool.{and_parts, or_left, or_right}
use Rattle.std.proofs.Math.Bool.{or-false}
use Rattle.jc_facts.specs.Names.{Bytes, same, same_key, is_name_among}
use Rattle.jc_facts.specs.file.Valid.{has_key}
use Rattle.jc_facts.proofs.Same.{same_is, same_itself}
use Rattle.jc_index.specs.steps.HashedKeys.{with_one, HaveNames}
use Rattle.jc_index.specs.steps.Adding.{AddsNames}

-- keys that a test finds equal are one
pub key_is : (k l : Key) → same_key k l ≡ true → k ≡ l
key_is k l h =
    let p = and_parts (same k.name l.name) (same k.descriptor l.descriptor) h in
    ap (λ (x : Bytes). record { name = x; descriptor = k.descriptor }) (same_is k.name l.name p.0) ∙ ap (λ (x : Bytes). record { name = l.name; descriptor = x }) (same_is k.descriptor l.descriptor p.1)

-- a key that equals one that is there is there
there : (q k : Key) (keys : List Key) → has_key k keys ≡ true → (b : Bool) → same_key q k ≡ b → has_key q keys ≡ (has_key q keys || b)
there q k keys h false e = sym (or-false (has_key q keys))
there q k keys h true e = let is : q ≡ k = key_is q k e in let t : has_key q keys ≡ true = ap (λ (j : Key). has_key j keys) is ∙ h in rw t refl

-- one more
pub one_more : (q k : Key) (keys : List Key) → has_key q (with_one keys k) ≡ (has_key q keys || same_key q k)
one_more q k keys = go (has_key k keys) refl
  where
    go : (b : Bool) → has_key k keys ≡ b → has_key q (cond b keys (keys ++ k ∷ [])) ≡ (has_key q keys || same_key q k)
    go true h = there q k keys h (same_key q k) refl
    go false h = list_any-append (same_key q) keys (k ∷ []) ∙ ap (λ (b : Bool). has_key q keys || b) (or-false (same_key q k))

-- the same in a longer list
pub next_listed : (q k : Key) (seen keys now : List Key) → has_key q keys ≡ has_key q seen → now ≡ with_one keys k → has_key q now ≡ has_key q (seen ++ k ∷ [])
next_listed q k seen keys now h e =
    ap (has_key q) e ∙ one_more q k keys ∙ ap (λ (b : Bool). b || same_key q k) h
    ∙ sym (list_any-append (same_key q) seen (k ∷ []) ∙ ap (λ (b : Bool). has_key q seen || b) (or-false (same_key q k)))

-- ---- the names of keys

-- the name of one key more
pub names_next : (ks : List Key) (n : ℕ) (k : Key) (before now : List Bytes) → n < length ks → k ≡ get_or ks n k → AddsNames before now (k.name ∷ []) → HaveNames before (take n ks) → HaveNames now (take (n + 1) ks)
names_next ks n k before now l e a h q p = a q.name ∙ go (has_key q (take n ks)) refl
  where
    split : has_key q (take (n + 1) ks) ≡ (has_key q (take n ks) || same_key q k)
    split =
        ap (has_key q) (take_more ks n k l) ∙ ap (λ (j : Key). has_key q (take n ks ++ j ∷ [])) (sym e)
        ∙ list_any-append (same_key q) (take n ks) (k ∷ []) ∙ ap (λ (b : Bool). has_key q (take n ks) || b) (or-false (same_key q k))

    new : same_key q k ≡ true → is_name_among (k.name ∷ []) q.name ≡ true
    new s = or_left (same k.name q.name) false (ap (λ (j : Key). same k.name j.name) (key_is q k s) ∙ same_itself k.name)

    go : (b : Bool) → has_key q (take n ks) ≡ b → (is_name_among before q.name || is_name_among (k.name ∷ []) q.name) ≡ true
    go true t = or_left (is_name_among before q.name) (is_name_among (k.name ∷ []) q.name) (h q t)
    go false t =
        let s : same_key q k ≡ true = sym (split ∙ ap (λ (b : Bool). b || same_key q k) t) ∙ p in
        or_right (is_name_among before q.name) (is_name_among (k.name ∷ []) q.name) (new s)

pub names_all : (ks : List Key) (n : ℕ) (names : List Bytes) → length ks ≤ n → HaveNames names (take n ks) → HaveNames names ks
names_all ks n names l h = subst (λ (js : List Key). HaveNames names js) (take_all n ks l) h

-- a name that isn't there has no key
pub no_key : (ks : List Key) (names : List Bytes) (x : Bytes) (q : Key) → HaveNames names ks → q.name ≡ x → is_name_among names x ≡ false → has_key q ks ≡ false
no_key ks names x q h e f = go (has_key q ks) refl
  where
    go : (b : Bool) → has_key q ks ≡ b → has_key q ks ≡ false
    go false t = t
    go true t = absurd (let c : true ≡ false = sym (h q t) ∙ ap (is_name_among names) e ∙ f in cc)
