-- Lines of one kind behind those of others.
use Rattle.std.proofs.Common.{◌≡◌, ◌<◌, ◌++◌, ℕ, false, List, length, refl, sym, ◌∙◌, ap, subst, Option, ◌⊎◌, inl, inr, arith}
use Rattle.std.specs.Cmp.{nat_cmp_is}
use Rattle.std.specs.declared.cmp.Ordering.{Ordering}
use Rattle.std.specs.declared.cmp.Ordering.TheVariants.{Less}
use Rattle.jc_calls.specs.Lines.{line_order, place_of, LineStands}
use Rattle.jc_facts.specs.Exactly.{HasExactly}
use Rattle.jc_call_kinds.specs.declared.call_line.CallKind.{CallKind}
use Rattle.jc_call_kinds.specs.declared.call_line.CallKind.TheVariants.{Reference, Access, Joined, Constants}
use Rattle.jc_call_kinds.specs.declared.call_line.CallLine.{CallLine}
use Rattle.jc_facts.specs.world.World.{World}
use Rattle.jc_facts.proofs.InOrder.{exact_same, exact_append}
use Rattle.jc_sides.specs.Limit.{HasMore, beside, over}
use Rattle.jc_sides.proofs.Limits.{past_beside, within_both}
use Rattle.std.proofs.lemmas.List.Elements.{All-weaker}
use Rattle.jc_call_lines.specs.steps.Kinds.{OfKind}

-- ---- two lists, whatever they have

module _ {F : Type 0} (order : F → F → Ordering) (P Q R : F → Type 0) (first : (f : F) → P f → R f) (then : (f : F) → Q f → R f) (both : (f : F) → R f → P f ⊎ Q f)
    (before : (f g : F) → P f → Q g → order f g ≡ Less) (most : Option ℕ) where
  -- the first list is past the limit
  pub first_past : HasMore order P most → HasMore order R most
  first_past m = record { some = m.some; in_order = m.in_order; stand = All-weaker P R first m.some m.stand; many = m.many }

  module _ (xs : List F) (h : HasExactly order P xs × (over (length xs) most ≡ false)) (n : ℕ) (room : Option ℕ) (is : n ≡ length xs) (rest : room ≡ beside most n) where
    left : room ≡ beside most (length xs)
    left = rest ∙ ap (beside most) is

    -- the second is past what it leaves
    pub then_past : HasMore order Q room → HasMore order R most
    then_past m = past_beside order P Q R most xs first then before h.0 h.1 (subst (HasMore order Q) left m)

    -- both are within it
    pub joined : (ys zs : List F) → HasExactly order Q ys × (over (length ys) room ≡ false) → zs ≡ xs ++ ys → HasExactly order R zs × (over (length zs) most ≡ false)
    joined ys zs k e = (
      subst (HasExactly order R) (sym e) (exact_same order (λ f. P f ⊎ Q f) R (xs ++ ys) to both (exact_append order P Q xs ys h.0 k.0 before)),
      within_both most xs ys zs e h.1 (subst (λ (o : Option ℕ). over (length ys) o ≡ false) left k.1),
    )
      where
        to : (f : F) → P f ⊎ Q f → R f
        to f (inl p) = first f p
        to f (inr q) = then f q

-- ---- kinds

-- a line of a kind that comes first
kind_before : (l m : CallLine) → place_of l.kind < place_of m.kind → line_order l m ≡ Less
kind_before l m h = rw (sym (nat_cmp_is (place_of l.kind) (place_of m.kind) Less h)) refl

placed : (a b : CallKind) (l m : CallLine) → l.kind ≡ a → m.kind ≡ b → place_of a < place_of b → line_order l m ≡ Less
placed a b l m p q h = kind_before l m (subst (λ n. n < place_of m.kind) (sym (ap place_of p)) (subst (λ n. place_of a < n) (sym (ap place_of q)) h))

module _ (O N : World) where
  -- the lines on methods
  abbrev pub OnMethod : CallLine → Type 0
  OnMethod l = OfKind Reference O N l ⊎ OfKind Access O N l

  -- the lines on classes
  abbrev pub OnClass : CallLine → Type 0
  OnClass l = OfKind Joined O N l ⊎ OfKind Constants O N l

  pub accesses_later : (l m : CallLine) → OfKind Reference O N l → OfKind Access O N m → line_order l m ≡ Less
  accesses_later l m p q = placed Reference Access l m p.0 q.0 (omega arith)

  pub constants_later : (l m : CallLine) → OfKind Joined O N l → OfKind Constants O N m → line_order l m ≡ Less
  constants_later l m p q = placed Joined Constants l m p.0 q.0 (omega arith)

  -- those on classes follow those on methods
  class_later : (a : CallKind) → place_of a < 2 → (l m : CallLine) → l.kind ≡ a → OnClass m → line_order l m ≡ Less
  class_later a h l m p (inl q) = placed a Joined l m p q.0 h
  class_later a h l m p (inr q) = placed a Constants l m p q.0 (omega (arith, h))

  pub classes_later : (l m : CallLine) → OnMethod l → OnClass m → line_order l m ≡ Less
  classes_later l m (inl p) q = class_later Reference (omega arith) l m p.0 q
  classes_later l m (inr p) q = class_later Access (omega arith) l m p.0 q

  pub stands_first : (l : CallLine) → OnMethod l → LineStands O N l
  stands_first l (inl p) = p.1
  stands_first l (inr p) = p.1

  pub stands_then : (l : CallLine) → OnClass l → LineStands O N l
  stands_then l (inl p) = p.1
  stands_then l (inr p) = p.1

  pub each_kind : (l : CallLine) → LineStands O N l → OnMethod l ⊎ OnClass l
  each_kind l h = go l.kind refl
    where
      go : (c : CallKind) → l.kind ≡ c → OnMethod l ⊎ OnClass l
      go Reference e = inl (inl (e, h))
      go Access e = inl (inr (e, h))
      go Joined e = inr (inl (e, h))
      go Constants e = inr (inr (e, h))
