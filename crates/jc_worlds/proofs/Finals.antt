-- What a class's methods override of the classes above, one at a time.
use Rattle.std.proofs.Common.{◌≡◌, Bool, true, false, cond, List, [], ◌∷◌, ◌++◌, refl, sym, ◌∙◌, ap, Option, Some, None, ◌||◌, ◌&&◌}
use Rattle.jc_facts.specs.declared.class_facts.ClassFacts.{ClassFacts}
use Rattle.jc_facts.specs.declared.key.Key.{Key}
use Rattle.jc_facts.specs.Flags.{final_flag}
use Rattle.jc_facts.specs.world.World.{DeclaredMember, declared_method}
use Rattle.jc_facts.specs.world.Overriding.{directly_overrides, is_overridden_by_any, linked, overrides_this_final, reaches_final}
use Rattle.std.proofs.lemmas.List.Folds.{list_any-append}

-- one class further down, where M says what the classes above it meet
module _ (M : List DeclaredMember → Bool) (add : (xs ys : List DeclaredMember) → M (xs ++ ys) ≡ (M xs || M ys)) (xs ys : List DeclaredMember) (a : DeclaredMember) (f : Bool) where
  join : (b x y : Bool) → (b || (x || y)) ≡ ((b || x) || (b || y))
  join true x y = refl
  join false x y = refl

  left : (b x y : Bool) → (b || (x || y)) ≡ ((b || x) || y)
  left true x y = refl
  left false x y = refl

  right : (b x y : Bool) → (b || (x || y)) ≡ (x || (b || y))
  right true true y = refl
  right true false y = refl
  right false x y = refl

  four : (p q x y : Bool) → ((p || q) && f || (x || y)) ≡ ((p && f || x) || (q && f || y))
  four p q x y = go f p q x y
    where
      go : (f p q x y : Bool) → ((p || q) && f || (x || y)) ≡ ((p && f || x) || (q && f || y))
      go true true q x y = refl
      go true false true true y = refl
      go true false true false y = refl
      go true false false x y = refl
      go false true true x y = refl
      go false true false x y = refl
      go false false true x y = refl
      go false false false x y = refl

  one : (l : List DeclaredMember) → M (a ∷ l) ≡ (M (a ∷ []) || M l)
  one l = add (a ∷ []) l

  both : M (a ∷ (xs ++ ys)) ≡ (M (a ∷ []) || (M xs || M ys))
  both = one (xs ++ ys) ∙ ap (λ b. M (a ∷ []) || b) (add xs ys)

  pub links : (p q : Bool) → M (cond (p || q) (a ∷ (xs ++ ys)) (xs ++ ys)) ≡ (M (cond p (a ∷ xs) xs) || M (cond q (a ∷ ys) ys))
  links true true = both ∙ join (M (a ∷ [])) (M xs) (M ys) ∙ ap (λ b. b || (M (a ∷ []) || M ys)) (sym (one xs)) ∙ ap (λ b. M (a ∷ xs) || b) (sym (one ys))
  links true false = both ∙ left (M (a ∷ [])) (M xs) (M ys) ∙ ap (λ b. b || M ys) (sym (one xs))
  links false true = both ∙ right (M (a ∷ [])) (M xs) (M ys) ∙ ap (λ b. M xs || b) (sym (one ys))
  links false false = add xs ys

  step : (p q : Bool) → ((p || q) && f || M (cond (p || q) (a ∷ (xs ++ ys)) (xs ++ ys))) ≡ ((p && f || M (cond p (a ∷ xs) xs)) || (q && f || M (cond q (a ∷ ys) ys)))
  step p q = ap (λ b. (p || q) && f || b) (links p q) ∙ four p q (M (cond p (a ∷ xs) xs)) (M (cond q (a ∷ ys) ys))

-- the classes above meet two lists of methods where they meet one of them
pub meets_final-append : (k : Key) (xs ys : List DeclaredMember) (cs : List ClassFacts) → reaches_final k (xs ++ ys) cs ≡ (reaches_final k xs cs || reaches_final k ys cs)
unfolding reaches_final
meets_final-append k xs ys [] = refl
meets_final-append k xs ys (c ∷ cs) = go (declared_method k c) (λ us vs. meets_final-append k us vs cs)
  where
    go : (o : Option DeclaredMember) → ((us vs : List DeclaredMember) → reaches_final k (us ++ vs) cs ≡ (reaches_final k us cs || reaches_final k vs cs))
        → (overrides_this_final (xs ++ ys) o || reaches_final k (linked (xs ++ ys) o) cs) ≡ ((overrides_this_final xs o || reaches_final k (linked xs o) cs) || (overrides_this_final ys o || reaches_final k (linked ys o) cs))
    go None r = r xs ys
    go (Some a) r = rw (list_any-append (λ b. directly_overrides b a) xs ys) (step (λ l. reaches_final k l cs) r xs ys a (final_flag a.member.flags) (is_overridden_by_any xs a) (is_overridden_by_any ys a))
