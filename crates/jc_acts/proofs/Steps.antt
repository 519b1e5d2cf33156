-- What a loop has found so far along a list; q of the list is g of each of its items.
use Rattle.std.proofs.Common.{◌≡◌, ℕ, ◌+◌, ◌<◌, ◌≤◌, List, [], ◌∷◌, length, drop, get_or, sym, ◌∙◌, ap, Option, Some, None}
use Rattle.std.proofs.lemmas.List.{at_drop_more, at_drop_all}
use Rattle.jc_acts.specs.steps.Firsts.{with_or, first_at}

-- ---- the first of which something is said

module _ {X Y A : Type 0} (f : X → Option A) (g : Y → X) (q : List Y → List X) (more : (y : Y) (ys : List Y) → q (y ∷ ys) ≡ g y ∷ q ys) (none : q [] ≡ []) where
  at_front : (ys : List Y) (n : ℕ) (d : Y) → n < length ys → first_at f (q (drop n ys)) ≡ with_or (g (get_or ys n d)) (f (g (get_or ys n d))) (first_at f (q (drop (n + 1) ys)))
  unfolding first_at
  at_front ys n d l = at_drop_more (λ zs. first_at f (q zs)) ys n d l ∙ ap (first_at f) (more (get_or ys n d) (drop (n + 1) ys))

  pub first_here : (ys : List Y) (n : ℕ) (d y : Y) (e : A) → n < length ys → y ≡ get_or ys n d → f (g y) ≡ Some e → first_at f (q (drop n ys)) ≡ Some (g y, e)
  first_here ys n d y e l is h =
      at_front ys n d l ∙ ap (λ z. with_or (g z) (f (g z)) (first_at f (q (drop (n + 1) ys)))) (sym is) ∙ ap (λ o. with_or (g y) o (first_at f (q (drop (n + 1) ys)))) h

  pub first_next : (ys : List Y) (n : ℕ) (d y : Y) → n < length ys → y ≡ get_or ys n d → f (g y) ≡ None → first_at f (q (drop n ys)) ≡ first_at f (q (drop (n + 1) ys))
  first_next ys n d y l is h =
      at_front ys n d l ∙ ap (λ z. with_or (g z) (f (g z)) (first_at f (q (drop (n + 1) ys)))) (sym is) ∙ ap (λ o. with_or (g y) o (first_at f (q (drop (n + 1) ys)))) h

  pub first_end : (ys : List Y) (n : ℕ) → length ys ≤ n → first_at f (q (drop n ys)) ≡ None
  unfolding first_at
  first_end ys n l = at_drop_all (λ zs. first_at f (q zs)) ys n l ∙ ap (first_at f) none
