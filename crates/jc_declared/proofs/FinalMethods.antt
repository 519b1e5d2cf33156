-- Final methods of a chain, by the flags of what each class itself declares.
use Rattle.std.proofs.Common.{◌≡◌, ◌<◌, ℕ, suc, Bool, true, false, ◌&&◌, ◌||◌, refl, sym, ◌∙◌, ap, Option, Some, None}
use Rattle.std.specs.Prelude.{IfSome}
use Rattle.jc_facts.specs.declared.class_facts.ClassFacts.{ClassFacts}
use Rattle.jc_facts.specs.declared.class_facts.Member.{Member}
use Rattle.jc_facts.specs.declared.key.Key.{Key}
use Rattle.jc_facts.specs.Names.{Bytes}
use Rattle.jc_facts.specs.Flags.{final_flag, no_static_flag, public_flag, protected_flag}
use Rattle.jc_facts.specs.Options.{some_and, and_then}
use Rattle.jc_facts.specs.world.Inheritance.{declares_as_final, is_open_final}
use Rattle.jc_facts.specs.world.Loading.{load_fault}
use Rattle.jc_facts.specs.world.Search.{supers_of}
use Rattle.jc_facts.specs.world.World.{World, find_class, size, own_method_of}
use Rattle.jc_lemmas.proofs.Listed.{EachOf}
use Rattle.jc_worlds.proofs.Loaded.{loads-parts}
use Rattle.jc_index.specs.Sides.{IsSide}
use Rattle.jc_index.specs.Ids.{name_at, id_of, superclass_of}
use Rattle.jc_index.proofs.Numbers.{IsClass, class_at, superclass_is, id_of-Some}
use Rattle.jc_load.proofs.Upwards.{declared-here, declared-above}
use Rattle.jc_index.proofs.Walking.{declared_from}
use Rattle.jc_declared.specs.steps.Own.{flags_of, method_flags_of}

-- the flags of such a method
abbrev pub final_flags : ℕ → Bool
final_flags f = final_flag f && no_static_flag f && (public_flag f || protected_flag f)

by_flags : (k : Key) (o : Option ClassFacts) → some_and final_flags (flags_of (and_then (λ c. own_method_of c k) o)) ≡ some_and (declares_as_final k) o
unfolding and_then
by_flags k None = refl
by_flags k (Some c) = go (own_method_of c k)
  where
    go : (o : Option Member) → some_and final_flags (flags_of o) ≡ some_and is_open_final o
    go None = refl
    go (Some m) = refl

module _ (W : World) (x : Bytes) (k : Key) where
  pub not_there : None ≡ method_flags_of W x k → false ≡ some_and (declares_as_final k) (find_class W x)
  not_there h = ap (some_and final_flags) h ∙ by_flags k (find_class W x)

  pub flags_say : (f : ℕ) (b : Bool) → Some f ≡ method_flags_of W x k → b ≡ final_flags f → b ≡ some_and (declares_as_final k) (find_class W x)
  flags_say f b h e = e ∙ ap (some_and final_flags) h ∙ by_flags k (find_class W x)

-- ---- along the chain

-- what is next loads
abbrev pub Loads : World → Option ℕ → Type 0
Loads W next = IfSome next (λ id. load_fault W (name_at W id) ≡ None)

module _ (W : World) (s : IsSide W) (k : Key) (id : ℕ) (below : id < size W) (loads : load_fault W (name_at W id) ≡ None) where
  at : IsClass W (name_at W id)
  at = class_at W id s.differ below

  said : (b : Bool) → b ≡ some_and (declares_as_final k) (find_class W (name_at W id)) → b ≡ declares_as_final k at.facts
  said b h = h ∙ ap (some_and (declares_as_final k)) at.found

  pub final_here : (m n : ℕ) (next : Option ℕ) (b : Bool) → m ≡ suc n → next ≡ Some id → b ≡ some_and (declares_as_final k) (find_class W (name_at W id)) → b ≡ true → declared_from W k m next ≡ true
  final_here m n next b q e h t = declared-here W k m n id next at.facts b q e (sym at.found) (said b h) t

  pub final_above : (m n : ℕ) (next up : Option ℕ) (b : Bool) → m ≡ suc n → next ≡ Some id → b ≡ some_and (declares_as_final k) (find_class W (name_at W id)) → b ≡ false → up ≡ superclass_of W (name_at W id)
      → declared_from W k m next ≡ declared_from W k n up
  final_above m n next up b q e h t u = declared-above W k m n id next up at.facts b q e (sym at.found) (said b h) t u

  -- the superclass of a class that loads does too
  pub up_loads : (up : Option ℕ) → up ≡ superclass_of W (name_at W id) → Loads W up
  unfolding and_then
  up_loads None e = tt
  up_loads (Some n) e = go at.facts.superclass (loads-parts W (name_at W id) at.facts at.found loads).0 (sym (superclass_is W (name_at W id) at.facts (sym at.found)) ∙ sym e)
    where
      go : (o : Option Bytes) → EachOf (λ y. load_fault W y ≡ None) (supers_of o at.facts.interfaces) → and_then (id_of W) o ≡ Some n → load_fault W (name_at W n) ≡ None
      go None h q = absurd (let clash : None ≡ Some n = q in cc)
      go (Some y) h q = ap (load_fault W) (id_of-Some W y n q).1 ∙ h.0
