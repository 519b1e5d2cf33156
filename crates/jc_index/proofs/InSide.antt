-- The classes at the places of a side.
use Rattle.std.proofs.Common.{◌≡◌, ℕ, zero, suc, ◌<◌, ◌≤◌, ◌+◌, Bool, true, false, ◌||◌, List, [], ◌∷◌, ◌++◌, length, take, get_or, refl, sym, ◌∙◌, ap, subst, Some, arith}
use Rattle.std.specs.Prelude.{slice_get}
use Rattle.std.specs.List.{list_any, Contains}
use Rattle.std.proofs.Math.Seq.{take-append_seam}
use Rattle.std.proofs.lemmas.List.{append_assoc, length-append, take-append-drop, take-append-le, take_all}
use Rattle.std.proofs.lemmas.List.Folds.{list_any_more}
use Rattle.std.proofs.lemmas.List.Elements.{Contains-get_or}
use Rattle.std.proofs.lemmas.Option.{slice_get_within, get_or_from_slice_get}
use Rattle.jc_facts.specs.declared.class_facts.ClassFacts.{ClassFacts}
use Rattle.jc_facts.specs.world.Mentioned.{mentions, all_mentions}
use Rattle.jc_facts.specs.world.World.{World, classes}
use Rattle.jc_index.specs.Ids.{name_in, name_or}
use Rattle.jc_index.specs.SideFields.{world_of}
use Rattle.jc_index.specs.declared.side.Side.TheInside.{Inside}
use Rattle.jc_lemmas.proofs.Listed.{any_has}

-- the class at a place is the one that is read there
pub is_there : (W : World) (n : ℕ) (c : ClassFacts) → Some c ≡ slice_get (classes W) n → c ≡ get_or (classes W) n c
is_there W n c h = sym (get_or_from_slice_get (classes W) n c c (sym h))

-- those of the platform are the first ones
pub front : (W : World) → take (length W.platform) (classes W) ≡ W.platform
front W = take-append-le (length W.platform) (W.platform ++ W.release) W.clients (let e = length-append W.platform W.release in omega arith) ∙ take-append_seam W.platform W.release

-- a class of a list stands at its place where more classes stand behind the list
pub class-front : (cs ds : List ClassFacts) (n : ℕ) → n < length cs → slice_get (cs ++ ds) n ≡ slice_get cs n
class-front [] ds n l = absurd (omega arith)
class-front (c ∷ cs) ds zero l = refl
class-front (c ∷ cs) ds (suc n) l = class-front cs ds n (omega arith)

-- a class of the platform stands at its place on a side
pub of-platform : (V : World) (at : ℕ) → at < length V.platform → name_in (classes V) at ≡ name_in V.platform at
of-platform V at l =
    let both : at < length (V.platform ++ V.release) = omega (arith, length-append V.platform V.release) in
    ap name_or (class-front (V.platform ++ V.release) V.clients at both ∙ class-front V.platform V.release at l)

mentions-append : (cs ds : List ClassFacts) → length (all_mentions (cs ++ ds)) ≡ length (all_mentions cs) + length (all_mentions ds)
mentions-append [] ds = omega arith
mentions-append (c ∷ cs) ds = omega (arith, length-append (mentions c) (all_mentions (cs ++ ds)), length-append (mentions c) (all_mentions cs), mentions-append cs ds)

-- ---- a test of the classes, by their places

module _ (p : ClassFacts → Bool) (W : World) where
  pub any_there : (n : ℕ) (c : ClassFacts) → Some c ≡ slice_get (classes W) n → p c ≡ true → list_any p (classes W) ≡ true
  any_there n c h e = any_has p (classes W) c (subst (λ (d : ClassFacts). Contains (classes W) d) (sym (is_there W n c h)) (Contains-get_or (classes W) n c (slice_get_within (classes W) n c (sym h)))) e

  pub any_next : (n : ℕ) (c : ClassFacts) → n < length (classes W) → Some c ≡ slice_get (classes W) n → p c ≡ false → list_any p (take n (classes W)) ≡ false → list_any p (take (n + 1) (classes W)) ≡ false
  any_next n c l h e f = list_any_more p (classes W) n c l ∙ ap (λ (b : Bool). b || p (get_or (classes W) n c)) f ∙ ap p (sym (is_there W n c h)) ∙ e

  pub any_end : (n : ℕ) → length (classes W) ≤ n → list_any p (take n (classes W)) ≡ false → list_any p (classes W) ≡ false
  any_end n l f = ap (list_any p) (sym (take_all n (classes W) l)) ∙ f

-- ---- the platform's classes, and then those beside them

module _ (s : Inside) (W : World) (v : world_of s ≡ W) where
  pub platform_is : s.platform ≡ W.platform
  platform_is = ap (λ (V : World). V.platform) v

  pub beside_is : s.beside ≡ W.release ++ W.clients
  beside_is = sym (take-append-drop s.of_release s.beside) ∙ ap (λ (V : World). V.release ++ V.clients) v

  pub all_is : s.platform ++ s.beside ≡ classes W
  all_is =
      ap (λ (cs : List ClassFacts). s.platform ++ cs) beside_is ∙ ap (λ (cs : List ClassFacts). cs ++ (W.release ++ W.clients)) platform_is
      ∙ sym (append_assoc W.platform W.release W.clients)

  -- so many names do the two mention
  pub mentions_of_both : length (all_mentions s.platform) + length (all_mentions s.beside) ≡ length (all_mentions (classes W))
  mentions_of_both = sym (mentions-append s.platform s.beside) ∙ ap (λ (cs : List ClassFacts). length (all_mentions cs)) all_is
