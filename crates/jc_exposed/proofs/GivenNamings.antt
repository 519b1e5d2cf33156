-- Lists of keys that name classes, put together.
use Rattle.std.proofs.Common.{◌≡◌, ◌<◌, ◌≤◌, ◌+◌, ◌==◌, ℕ, Bool, true, false, List, [], ◌∷◌, ◌++◌, length, get_or, take, sym, ◌∙◌, ap, subst, ◌||◌, ◌&&◌}
use Rattle.std.specs.List.{list_any}
use Rattle.std.proofs.lemmas.List.{take_all, take_more}
use Rattle.std.proofs.lemmas.List.Folds.{list_any-append}
use Rattle.std.proofs.Math.Bool.{or-false}
use Rattle.jc_facts.specs.declared.key.Key.{Key}
use Rattle.jc_exposed.specs.Namings.{Gives}
use Rattle.jc_exposed.specs.declared.namings.Naming.{Naming}

module _ (on : ℕ → Bool) where
  pub gives_same : (p q : (Key → Bool) → ℕ → Bool) (ns : List Naming) → ((g : Key → Bool) (t : ℕ) → on t ≡ true → p g t ≡ q g t) → Gives on p ns → Gives on q ns
  gives_same p q ns e f = record { exact = λ g t o. f.exact g t o ∙ e g t o }

  pub gives_none : (p : (Key → Bool) → ℕ → Bool) (ns : List Naming) → ns ≡ [] → ((g : Key → Bool) (t : ℕ) → on t ≡ true → p g t ≡ false) → Gives on p ns
  gives_none p ns e h = subst (Gives on p) (sym e) (record { exact = λ g t o. sym (h g t o) })

  pub gives_both : (p q : (Key → Bool) → ℕ → Bool) (xs ys zs : List Naming) → zs ≡ xs ++ ys → Gives on p xs → Gives on q ys → Gives on (λ g t. p g t || q g t) zs
  gives_both p q xs ys zs e f h = subst (Gives on (λ g t. p g t || q g t)) (sym e) (record {
    exact = λ g t o. list_any-append (λ n. (n.exposed == t) && g n.key) xs ys ∙ ap (λ b. b || list_any (λ n. (n.exposed == t) && g n.key) ys) (f.exact g t o) ∙ ap (λ b. p g t || b) (h.exact g t o);
  })

  module _ {A : Type 0} (p : A → (Key → Bool) → ℕ → Bool) where
    pub gives_next : (xs : List A) (n : ℕ) (x d : A) (ns more now : List Naming) → n < length xs → x ≡ get_or xs n d → now ≡ ns ++ more → Gives on (λ g t. list_any (λ y. p y g t) (take n xs)) ns → Gives on (p x) more
        → Gives on (λ g t. list_any (λ y. p y g t) (take (n + 1) xs)) now
    gives_next xs n x d ns more now l i e f h =
        gives_same (λ g t. list_any (λ y. p y g t) (take n xs) || p x g t) (λ g t. list_any (λ y. p y g t) (take (n + 1) xs)) now
        (λ g t o. sym (ap (list_any (λ y. p y g t)) (take_more xs n d l ∙ ap (λ y. take n xs ++ y ∷ []) (sym i)) ∙ list_any-append (λ y. p y g t) (take n xs) (x ∷ []) ∙ ap (λ b. list_any (λ y. p y g t) (take n xs) || b) (or-false (p x g t))))
        (gives_both (λ g t. list_any (λ y. p y g t) (take n xs)) (p x) ns more now e f h)

    pub gives_end : (xs : List A) (n : ℕ) (ns : List Naming) → length xs ≤ n → Gives on (λ g t. list_any (λ y. p y g t) (take n xs)) ns → Gives on (λ g t. list_any (λ y. p y g t) xs) ns
    gives_end xs n ns l f = subst (λ ys. Gives on (λ g t. list_any (λ y. p y g t) ys) ns) (take_all n xs l) f

  pub gives_one : (id : ℕ) (k : Key) (n : Naming) → n.exposed ≡ id → n.key ≡ k → Gives on (λ g t. (id == t) && g k) (n ∷ [])
  gives_one id k n e i = record { exact = λ g t o. or-false ((n.exposed == t) && g n.key) ∙ ap (λ x. (x == t) && g n.key) e ∙ ap (λ x. (id == t) && g x) i }
