-- The steps of a field lookup level by level.
use Rattle.std.proofs.Common.{◌≡◌, ◌<◌, ◌≤◌, ◌+◌, ℕ, zero, suc, List, length, get_or, drop, refl, sym, ◌∙◌, ap, subst, Option, Some, None}
use Rattle.std.proofs.lemmas.List.{drop_more}
use Rattle.std.proofs.Math.ListN.{drop_of_length-le}
use Rattle.jc_facts.specs.declared.class_facts.ClassFacts.{ClassFacts}
use Rattle.jc_facts.specs.declared.key.Key.{Key}
use Rattle.jc_facts.specs.Names.{Bytes}
use Rattle.jc_facts.specs.Options.{or_else, first_some, and_then}
use Rattle.jc_facts.specs.world.World.{World, find_class, size, own_field_of, found_in}
use Rattle.jc_facts.specs.world.Lookup.{field_found, field_step}
use Rattle.jc_worlds.proofs.Descent.{descend-absent, descend-none_left, descend-found}
use Rattle.jc_index.specs.Ids.{name_at, id_of}
use Rattle.jc_index.specs.Lookups.{IsAnswer}
use Rattle.jc_index.specs.declared.ids.Found.{Found}
use Rattle.jc_index.proofs.Numbers.{id_of-Some, find-None}
use Rattle.jc_field.specs.steps.Fields.{own_found, found_to}
use Rattle.jc_index.proofs.Lookups.{answer_none, answer_or, answer_else}

module _ (W : World) (k : Key) (x : Bytes) where
  pub to-absent : (n : ℕ) → None ≡ id_of W x → IsAnswer W None (found_to W k n x)
  to-absent n i = subst (IsAnswer W None) (sym (descend-absent W None None (field_step k) n x (find-None W x (sym i)))) tt

  -- no level is left
  pub level_none : (n : ℕ) → n ≡ 0 → IsAnswer W None (found_to W k n x)
  level_none n e = subst (λ j. IsAnswer W None (found_to W k j x)) (sym e) (go (find_class W x) refl)
    where
      go : (o : Option ClassFacts) → find_class W x ≡ o → IsAnswer W None (found_to W k zero x)
      go None f = subst (IsAnswer W None) (sym (descend-absent W None None (field_step k) zero x f)) tt
      go (Some c) f = subst (IsAnswer W None) (sym (descend-none_left W None None (field_step k) x c f)) tt

  module _ (a : ℕ) (c : ClassFacts) (i : Some a ≡ id_of W x) (f : Some c ≡ find_class W (name_at W a)) where
    found : find_class W x ≡ Some c
    found = ap (find_class W) (sym (id_of-Some W x a (sym i)).1) ∙ sym f

    own-is : own_found W (name_at W a) k ≡ found_in c (own_field_of c k)
    unfolding and_then
    own-is = ap (and_then (λ d. found_in d (own_field_of d k))) (sym f)

    module _ (n m : ℕ) (e : n ≡ suc m) where
      split : found_to W k n x ≡ or_else (own_found W (name_at W a) k) (or_else (first_some (found_to W k m) c.interfaces) (and_then (found_to W k m) c.superclass))
      unfolding field_step
      split =
          ap (λ j. found_to W k j x) e ∙ descend-found W None None (field_step k) m x c found
          ∙ ap (λ o. or_else o (or_else (first_some (found_to W k m) c.interfaces) (and_then (found_to W k m) c.superclass))) (sym own-is)

      pub to-own : (r : Found) → IsAnswer W (Some r) (own_found W (name_at W a) k) → IsAnswer W (Some r) (found_to W k n x)
      to-own r h = subst (IsAnswer W (Some r)) (sym split) (answer_or W r (own_found W (name_at W a) k) (or_else (first_some (found_to W k m) c.interfaces) (and_then (found_to W k m) c.superclass)) h)

      pub to-interface : (ys : List Bytes) (at : ℕ) (y z : Bytes) (r : Found) → ys ≡ c.interfaces → at < length ys → y ≡ get_or ys at y → z ≡ y → IsAnswer W None (own_found W (name_at W a) k)
          → first_some (found_to W k m) c.interfaces ≡ first_some (found_to W k m) (drop at c.interfaces) → IsAnswer W (Some r) (found_to W k m z) → IsAnswer W (Some r) (found_to W k n x)
      unfolding first_some
      to-interface ys at y z r same l g q o h s =
          subst (IsAnswer W (Some r)) (sym split)
          (answer_else W (Some r) (own_found W (name_at W a) k) (or_else (first_some (found_to W k m) c.interfaces) (and_then (found_to W k m) c.superclass)) o
          (answer_or W r (first_some (found_to W k m) c.interfaces) (and_then (found_to W k m) c.superclass)
          (subst (IsAnswer W (Some r)) (sym (h ∙ ap (λ (zs : List Bytes). first_some (found_to W k m) (drop at zs)) (sym same) ∙ ap (first_some (found_to W k m)) (drop_more ys at y l)))
          (answer_or W r (found_to W k m (get_or ys at y)) (first_some (found_to W k m) (drop (at + 1) ys)) (subst (λ (b : Bytes). IsAnswer W (Some r) (found_to W k m b)) (q ∙ g) s)))))

      pub to-super : (at : ℕ) (r : Option Found) → length c.interfaces ≤ at → IsAnswer W None (own_found W (name_at W a) k)
          → first_some (found_to W k m) c.interfaces ≡ first_some (found_to W k m) (drop at c.interfaces) → IsAnswer W r (and_then (found_to W k m) c.superclass) → IsAnswer W r (found_to W k n x)
      unfolding first_some
      to-super at r l o h s =
          subst (IsAnswer W r) (sym split)
          (answer_else W r (own_found W (name_at W a) k) (or_else (first_some (found_to W k m) c.interfaces) (and_then (found_to W k m) c.superclass)) o
          (answer_else W r (first_some (found_to W k m) c.interfaces) (and_then (found_to W k m) c.superclass)
          (subst (IsAnswer W None) (sym (h ∙ ap (first_some (found_to W k m)) (drop_of_length-le c.interfaces l))) tt) s))

pub to-next : (W : World) (k : Key) (m at : ℕ) (ys is : List Bytes) (y z : Bytes) → ys ≡ is → at < length ys → y ≡ get_or ys at y → z ≡ y → IsAnswer W None (found_to W k m z)
    → first_some (found_to W k m) is ≡ first_some (found_to W k m) (drop at is) → first_some (found_to W k m) is ≡ first_some (found_to W k m) (drop (at + 1) is)
unfolding first_some or_else
to-next W k m at ys is y z same l g q s h =
    h ∙ ap (λ (zs : List Bytes). first_some (found_to W k m) (drop at zs)) (sym same) ∙ ap (first_some (found_to W k m)) (drop_more ys at y l)
    ∙ ap (λ o. or_else o (first_some (found_to W k m) (drop (at + 1) ys))) (answer_none W (found_to W k m (get_or ys at y)) (subst (λ (b : Bytes). IsAnswer W None (found_to W k m b)) (q ∙ g) s))
    ∙ ap (λ (zs : List Bytes). first_some (found_to W k m) (drop (at + 1) zs)) same

pub super-some : (W : World) (k : Key) (m : ℕ) (o : Option Bytes) (s t : Bytes) (r : Option Found) → o ≡ Some s → t ≡ s → IsAnswer W r (found_to W k m t) → IsAnswer W r (and_then (found_to W k m) o)
unfolding and_then
super-some W k m o s t r e q h = subst (λ p. IsAnswer W r (and_then (found_to W k m) p)) (sym (e ∙ ap Some (sym q))) h

pub super-none : (W : World) (k : Key) (m : ℕ) (o : Option Bytes) → o ≡ None → IsAnswer W None (and_then (found_to W k m) o)
unfolding and_then
super-none W k m o e = subst (λ p. IsAnswer W None (and_then (found_to W k m) p)) (sym e) tt

-- as many levels as there are classes are all
pub to-all : (W : World) (k : Key) (a n : ℕ) (x : Bytes) (r : Option Found) → n ≡ size W → x ≡ name_at W a → IsAnswer W r (found_to W k n x) → IsAnswer W r (field_found W (name_at W a) k)
unfolding field_found
to-all W k a n x r e q h = subst (λ (y : Bytes). IsAnswer W r (found_to W k (size W) y)) q (subst (λ m. IsAnswer W r (found_to W k m x)) e h)
