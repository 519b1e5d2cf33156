-- Where classes were mentioned first in a list.
use Rattle.std.proofs.Common.{◌≡◌, ◌<◌, ◌+◌, ℕ, List, [], ◌∷◌, ◌++◌, length, sym, ap, subst, ◌∙◌, arith}
use Rattle.std.specs.Prelude.{slice_get, slice_index_or, Some, Result, Ok, Err, OnOk}
use Rattle.std.proofs.lemmas.List.{length-append}
use Rattle.jc_lemmas.proofs.Lists.{get_before, get_pushed}
use Rattle.jc_desc.specs.Pool.{PoolOf}
use Rattle.jc_desc.specs.PoolAnswers.{class_in}
use Rattle.jc_facts.specs.Names.{Bytes}
use Rattle.jc_attr.specs.steps.Firsts.{AreFirsts}
use Rattle.jc_attr.specs.declared.class_names.First.{First}

-- a name more
pub firsts_more : (pool : PoolOf) (names now : List Bytes) (x : Bytes) (firsts : List First) → now ≡ names ++ x ∷ [] → AreFirsts pool names firsts → AreFirsts pool now firsts
firsts_more pool names now x firsts e h = λ k d l.
    let f = h k d l in (
      subst (λ (xs : List Bytes). (slice_index_or firsts k d).place < length xs) (sym e) (simp length-append (omega (arith, f.0))),
      ap (λ (xs : List Bytes). slice_get xs (slice_index_or firsts k d).place) e ∙ get_before names (x ∷ []) (slice_index_or firsts k d).place f.0 ∙ f.1,
    )

-- the same where it stands at an earlier place too
pub firsts_again : (pool : PoolOf) (names now : List Bytes) (x : Bytes) (index place : ℕ) (firsts : List First) → slice_get names place ≡ class_in pool index → class_in pool index ≡ Some x
    → ((y : Bytes) → slice_get names place ≡ Some y → now ≡ names ++ y ∷ []) → AreFirsts pool names firsts → AreFirsts pool now firsts
firsts_again pool names now x index place firsts s n e h = firsts_more pool names now x firsts (e x (s ∙ n)) h

-- the name that was added last
pub last_place : (names now : List Bytes) (x : Bytes) → now ≡ names ++ x ∷ [] → length names < length now
last_place names now x e = subst (λ (xs : List Bytes). length names < length xs) (sym e) (simp length-append (omega arith))

pub last_name : (pool : PoolOf) (names now : List Bytes) (x : Bytes) (index : ℕ) → now ≡ names ++ x ∷ [] → class_in pool index ≡ Some x → slice_get now (length names) ≡ class_in pool index
last_name pool names now x index e n = ap (λ (xs : List Bytes). slice_get xs (length names)) e ∙ get_pushed names x ∙ sym n

pub on_ok_map : {T E P Q : Type 0} (r : Result T E) → (P → Q) → OnOk r P → OnOk r Q
on_ok_map (Ok x) f p = f p
on_ok_map (Err e) f p = tt
