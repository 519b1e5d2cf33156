-- What is found on subjects in rising order is a list in order, with all that stands and nothing else.
use Rattle.std.proofs.Common.{◌≡◌, List, [], ◌∷◌, refl, sym, ◌∙◌, ap, subst, Option, Some, None, ◌⊎◌, inl, inr, arith}
use Rattle.std.specs.List.{Contains, filter_map}
use Rattle.std.specs.declared.cmp.Ordering.{Ordering}
use Rattle.std.specs.declared.cmp.Ordering.TheVariants.{Less}
use Rattle.std.proofs.lemmas.List.Elements.{All-from_recursion, Contains-append_cases, Contains-append_left, Contains-append_right, Contains-push, Contains-push_cases}
use Rattle.jc_facts.specs.Exactly.{Rises, HasExactly}
use Rattle.jc_lemmas.proofs.Listed.{EachOf}

-- `find` gives at most one thing on each subject, and `at` says on which
module _ {S F : Type 0} (order : S → S → Ordering) (find : S → Option F) (at : F → S) (is_at : (s : S) (f : F) → find s ≡ Some f → at f ≡ s) where
  stands : (s : S) (f : F) → find s ≡ Some f → find (at f) ≡ Some f
  stands s f e = subst (λ z. find z ≡ Some f) (sym (is_at s f e)) e

  all_stand : (ss : List S) → EachOf (λ f. find (at f) ≡ Some f) (filter_map find ss)
  all_stand [] = tt
  all_stand (s ∷ ss) = go (find s) refl (all_stand ss)
    where
      go : (o : Option F) → find s ≡ o → EachOf (λ f. find (at f) ≡ Some f) (filter_map find ss) → EachOf (λ f. find (at f) ≡ Some f) (filter_map find (s ∷ ss))
      go None e r = rw e r
      go (Some f) e r = rw e (stands s f e, r)

  after : (t : S) (ss : List S) → EachOf (λ s. order t s ≡ Less) ss → EachOf (λ f. order t (at f) ≡ Less) (filter_map find ss)
  after t [] h = tt
  after t (s ∷ ss) h = go (find s) refl (after t ss h.1)
    where
      go : (o : Option F) → find s ≡ o → EachOf (λ f. order t (at f) ≡ Less) (filter_map find ss) → EachOf (λ f. order t (at f) ≡ Less) (filter_map find (s ∷ ss))
      go None e r = rw e r
      go (Some f) e r = rw e (subst (λ z. order t z ≡ Less) (sym (is_at s f e)) h.0, r)

  rise : (ss : List S) → Rises order ss → Rises (λ f g. order (at f) (at g)) (filter_map find ss)
  unfolding Rises
  rise [] h = tt
  rise (s ∷ ss) h = go (find s) refl (rise ss h.1)
    where
      go : (o : Option F) → find s ≡ o → Rises (λ f g. order (at f) (at g)) (filter_map find ss) → Rises (λ f g. order (at f) (at g)) (filter_map find (s ∷ ss))
      go None e r = rw e r
      go (Some f) e r = rw e (subst (λ z. EachOf (λ g. order z (at g) ≡ Less) (filter_map find ss)) (sym (is_at s f e)) (after s ss h.0), r)

  found_in : (ss : List S) (s : S) (f : F) → find s ≡ Some f → Contains ss s → Contains (filter_map find ss) f
  found_in [] s f e c = absurd (let h = c.1 in omega arith)
  found_in (t ∷ ss) s f e c = go (find t) refl (Contains-append_cases (t ∷ []) ss s c) (found_in ss s f e)
    where
      first : Contains (t ∷ []) s → t ≡ s
      first d = by (Contains-push_cases [] t s d)
        where
          by : Contains [] s ⊎ (t ≡ s) → t ≡ s
          by (inl p) = absurd (let h = p.1 in omega arith)
          by (inr p) = p

      go : (o : Option F) → find t ≡ o → Contains (t ∷ []) s ⊎ Contains ss s → (Contains ss s → Contains (filter_map find ss) f) → Contains (filter_map find (t ∷ ss)) f
      go None q (inl p) r = absurd (let z : None ≡ Some f = sym q ∙ ap find (first p) ∙ e in cc)
      go None q (inr p) r = rw q (r p)
      go (Some g) q (inl p) r = let z : Some g ≡ Some f = sym q ∙ ap find (first p) ∙ e in let y : f ≡ g = cc in rw (q, y) (Contains-append_left (g ∷ []) (filter_map find ss) g (Contains-push [] g))
      go (Some g) q (inr p) r = rw q (Contains-append_right (g ∷ []) (filter_map find ss) f (r p))

  -- where the subjects rise, and have that of each thing that stands
  pub exact_list : (ss : List S) → Rises order ss → ((f : F) → find (at f) ≡ Some f → Contains ss (at f)) → HasExactly (λ f g. order (at f) (at g)) (λ f. find (at f) ≡ Some f) (filter_map find ss)
  exact_list ss h all = record {
    in_order = rise ss h;
    sound = All-from_recursion (λ f. find (at f) ≡ Some f) (filter_map find ss) (all_stand ss);
    complete = λ f e. found_in ss (at f) f e (all f e);
  }
