-- Lists of keys, and a set against the list of its keys.
use Rattle.std.proofs.Common.{◌≡◌, Bool, true, false, cond, not, ◌||◌, ◌&&◌, List, [], ◌∷◌, ◌++◌, refl, sym, ap, ◌∙◌}
use Rattle.std.specs.List.{list_all}
use Rattle.std.specs.BTreeSet as sorted
use Rattle.jc_facts.specs.declared.key.Key.{Key}
use Rattle.jc_facts.specs.Names.{same_key}
use Rattle.jc_facts.specs.file.Valid.{has_key, keys_differ}
use Rattle.jc_facts.specs.KeyOrder.{key_cmp, key_ties, same_key_equiv}
use Rattle.jc_facts.specs.Seen.{Holds}

pub flip : (x y : Key) → same_key x y ≡ same_key y x
flip x y = same_key_equiv.symm x y

or_last : (a b : Bool) → (a || (b || false)) ≡ cond b true a
or_last true true = refl
or_last true false = refl
or_last false true = refl
or_last false false = refl

or_through : (a b c : Bool) → (a || cond b true c) ≡ cond b true (a || c)
or_through true true c = refl
or_through true false c = refl
or_through false true c = refl
or_through false false c = refl

pub has_push : (q k : Key) (seen : List Key) → has_key q (seen ++ k ∷ []) ≡ cond (same_key k q) true (has_key q seen)
has_push q k [] = or_last false (same_key q k) ∙ ap (λ (b : Bool). cond b true false) (flip q k)
has_push q k (l ∷ ls) = ap (λ (b : Bool). same_key q l || b) (has_push q k ls) ∙ or_through (same_key q l) (same_key k q) (has_key q ls)

pub put_holds : (old new : sorted.BTreeSet Key) (k : Key) (seen : List Key) → sorted.Updates key_cmp old new k true → Holds old seen → Holds new (seen ++ k ∷ [])
put_holds old new k seen u h = λ q. u.0 q ∙ ap (λ (b : Bool). cond b true (sorted.contains key_cmp old q)) (sym (key_ties k q)) ∙ ap (λ (b : Bool). cond (same_key k q) true b) (h q) ∙ sym (has_push q k seen)

-- ---- no key stands twice, in the order of the list

-- no key stands twice, and none is among those seen before
abbrev pub differ_from : List Key → List Key → Bool
differ_from seen [] = true
differ_from seen (k ∷ ks) = not (has_key k seen) && differ_from (seen ++ k ∷ []) ks

-- none is among those seen before
abbrev pub all_new : List Key → List Key → Bool
all_new seen ks = list_all (λ q. not (has_key q seen)) ks

new_step : (s h a b : Bool) → (not (cond s true h) && (a && not b)) ≡ ((not h && a) && not (s || b))
new_step true true true true = refl
new_step true true true false = refl
new_step true true false b = refl
new_step true false true true = refl
new_step true false true false = refl
new_step true false false true = refl
new_step true false false false = refl
new_step false true a b = refl
new_step false false true true = refl
new_step false false true false = refl
new_step false false false true = refl
new_step false false false false = refl

all_new_push : (seen : List Key) (k : Key) (ks : List Key) → all_new (seen ++ k ∷ []) ks ≡ (all_new seen ks && not (has_key k ks))
all_new_push seen k [] = refl
all_new_push seen k (q ∷ qs) =
    ap (λ (b : Bool). not b && all_new (seen ++ k ∷ []) qs) (has_push q k seen)
    ∙ ap (λ (b : Bool). not (cond (same_key k q) true (has_key q seen)) && b) (all_new_push seen k qs)
    ∙ new_step (same_key k q) (has_key q seen) (all_new seen qs) (has_key k qs)

regroup : (a b c d : Bool) → (a && ((b && c) && d)) ≡ ((a && b) && (c && d))
regroup true true c d = refl
regroup true false c d = refl
regroup false b c d = refl

pub differ_from_is : (seen ks : List Key) → differ_from seen ks ≡ (all_new seen ks && keys_differ ks)
differ_from_is seen [] = refl
differ_from_is seen (k ∷ ks) =
    ap (λ (b : Bool). not (has_key k seen) && b) (differ_from_is (seen ++ k ∷ []) ks ∙ ap (λ (b : Bool). b && keys_differ ks) (all_new_push seen k ks))
    ∙ regroup (not (has_key k seen)) (all_new seen ks) (not (has_key k ks)) (keys_differ ks)

all_new_none : (ks : List Key) → all_new [] ks ≡ true
all_new_none [] = refl
all_new_none (k ∷ ks) = all_new_none ks

pub differ_is : (ks : List Key) → differ_from [] ks ≡ keys_differ ks
differ_is ks = differ_from_is [] ks ∙ ap (λ (b : Bool). b && keys_differ ks) (all_new_none ks)
