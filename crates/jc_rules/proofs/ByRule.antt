-- Rules one after another, by their numbers: what one makes stands behind what those before it have made.
use Rattle.std.proofs.Common.{◌≡◌, ◌≢◌, ◌<◌, ◌≤◌, ◌+◌, ◌++◌, [], ℕ, true, false, List, length, sym, ◌∙◌, ap, subst, Option, Some, ◌⊎◌, inl, inr, arith}
use Rattle.std.proofs.Math.Dec.{eqb}
use Rattle.std.proofs.lemmas.Bool.Decides.{eqb_tells}
use Rattle.std.specs.declared.cmp.Ordering.{Ordering}
use Rattle.std.specs.declared.cmp.Ordering.TheVariants.{Less}
use Rattle.jc_facts.specs.Exactly.{HasExactly}
use Rattle.jc_facts.proofs.InOrder.{exact_none, exact_same, exact_append}
use Rattle.jc_sides.specs.Limit.{HasMore, IsWithin, over, beside}
use Rattle.jc_sides.proofs.Limits.{over_none, past_beside, within_both}

-- things that have a rule, by which they are in order
module _ {F : Type 0} (order : F → F → Ordering) (rule_of : F → ℕ) (Stand : F → Type 0) (most : Option ℕ) where
  -- what stands, of this rule
  abbrev pub Of : ℕ → F → Type 0
  Of rule f = (rule_of f ≡ rule) × Stand f

  -- what stands, of the rules before this one
  abbrev pub Before : ℕ → F → Type 0
  Before rule f = (rule_of f < rule) × Stand f

  -- the list is just that, in order, and within the limit
  abbrev pub Made : ℕ → List F → Type 0
  Made rule xs = HasExactly order (Before rule) xs × (over (length xs) most ≡ false)

  -- the first rule has none before it
  pub start : (first : ℕ) → ((f : F) → Stand f → first ≤ rule_of f) → (xs : List F) → xs ≡ [] → Made first xs
  start first from xs e = subst (Made first) (sym e) (exact_none order (Before first) (λ f p. never (rule_of f) p.0 (from f p.1)), over_none most)
    where
      never : (r : ℕ) → r < first → first ≤ r → ⊥
      never r a b = omega arith

  -- behind the last one, of a number before this, all is made
  pub whole : (rule : ℕ) → ((f : F) → Stand f → rule_of f < rule) → (xs : List F) → Made rule xs → IsWithin order Stand most (Some xs)
  whole rule to xs made = (exact_same order (Before rule) Stand xs (λ f p. p.1) (λ f s. (to f s, s)) made.0, made.1)

  -- what no rule makes, of a number that nothing has
  pub none_of : (rule : ℕ) → ((f : F) → Stand f → rule_of f ≡ rule → ⊥) → (xs : List F) → xs ≡ [] → IsWithin order (Of rule) most (Some xs)
  none_of rule never xs e = subst (λ (ys : List F). IsWithin order (Of rule) most (Some ys)) (sym e) (exact_none order (Of rule) (λ f p. never f p.1 p.0), over_none most)

  -- one more rule, with the room that the list leaves, whose length is n
  module _ (apart : (f g : F) → rule_of f < rule_of g → order f g ≡ Less) (rule : ℕ) (xs : List F) (made : Made rule xs) (n : ℕ) (room : Option ℕ) (is : n ≡ length xs) (rest : room ≡ beside most n) where
    later : (f g : F) → Before rule f → Of rule g → order f g ≡ Less
    later f g p q = apart f g (subst (λ r. rule_of f < r) (sym q.0) p.0)

    left : room ≡ beside most (length xs)
    left = rest ∙ ap (beside most) is

    pub next : (ys zs : List F) → HasExactly order (Of rule) ys × (over (length ys) room ≡ false) → zs ≡ xs ++ ys → Made (rule + 1) zs
    next ys zs h e = (
      subst (HasExactly order (Before (rule + 1))) (sym e) (exact_same order (λ f. Before rule f ⊎ Of rule f) (Before (rule + 1)) (xs ++ ys) to from (exact_append order (Before rule) (Of rule) xs ys made.0 h.0 later)),
      within_both most xs ys zs e made.1 (subst (λ (o : Option ℕ). over (length ys) o ≡ false) left h.1),
    )
      where
        below : (r : ℕ) → r < rule → r < rule + 1
        below r a = omega arith

        at : (r : ℕ) → r ≡ rule → r < rule + 1
        at r a = omega arith

        before : (r : ℕ) → r < rule + 1 → r ≢ rule → r < rule
        before r a b = omega arith

        to : (f : F) → Before rule f ⊎ Of rule f → Before (rule + 1) f
        to f (inl p) = (below (rule_of f) p.0, p.1)
        to f (inr q) = (at (rule_of f) q.0, q.1)

        from : (f : F) → Before (rule + 1) f → Before rule f ⊎ Of rule f
        from f p = go (eqb_tells (rule_of f) rule)
          where
            go : ((eqb (rule_of f) rule ≡ true) × (rule_of f ≡ rule)) ⊎ ((eqb (rule_of f) rule ≡ false) × (rule_of f ≢ rule)) → Before rule f ⊎ Of rule f
            go (inl q) = inr (q.1, p.1)
            go (inr q) = inl (before (rule_of f) p.0 q.1, p.1)

    pub past : HasMore order (Of rule) room → HasMore order Stand most
    past more = past_beside order (Before rule) (Of rule) Stand most xs (λ f p. p.1) (λ f q. q.1) later made.0 made.1 (subst (HasMore order (Of rule)) left more)
