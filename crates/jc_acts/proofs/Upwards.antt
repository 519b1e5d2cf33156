-- A test on the classes of a chain, along a walk up the superclasses.
use Rattle.std.proofs.Common.{◌≡◌, ℕ, suc, Bool, true, false, ◌||◌, refl, sym, ◌∙◌, ap, Option, Some, None}
use Rattle.std.specs.List.{list_any}
use Rattle.jc_facts.specs.declared.class_facts.ClassFacts.{ClassFacts}
use Rattle.jc_facts.specs.world.World.{World, find_class, size}
use Rattle.jc_facts.specs.world.Hierarchy.{chain}
use Rattle.jc_index.specs.Ids.{name_at, superclass_of}
use Rattle.jc_index.specs.steps.Walking.{chain_from}
use Rattle.jc_index.proofs.Walking.{from-step, from-none, from-nothing}

-- a class from this number up, so many of them at most, passes the test
abbrev pub any_from : World → (ClassFacts → Bool) → ℕ → Option ℕ → Bool
any_from W p n next = list_any p (chain_from W n next)

pub any-from : (W : World) (p : ClassFacts → Bool) (id m : ℕ) → m ≡ size W → list_any p (chain W (name_at W id)) ≡ any_from W p m (Some id)
unfolding chain chain_from
any-from W p id m e = rw e refl

pub any-step : (W : World) (p : ClassFacts → Bool) (m n id : ℕ) (next : Option ℕ) (c : ClassFacts) → m ≡ suc n → next ≡ Some id → Some c ≡ find_class W (name_at W id)
    → any_from W p m next ≡ (p c || any_from W p n (superclass_of W (name_at W id)))
any-step W p m n id next c q e f = ap (any_from W p m) e ∙ ap (list_any p) (from-step W m n id c q (sym f))

pub any-here : (W : World) (p : ClassFacts → Bool) (m n id : ℕ) (next : Option ℕ) (c : ClassFacts) → m ≡ suc n → next ≡ Some id → Some c ≡ find_class W (name_at W id) → p c ≡ true → any_from W p m next ≡ true
any-here W p m n id next c q e f t = any-step W p m n id next c q e f ∙ ap (λ a. a || any_from W p n (superclass_of W (name_at W id))) t

pub any-above : (W : World) (p : ClassFacts → Bool) (m n id : ℕ) (next up : Option ℕ) (c : ClassFacts) → m ≡ suc n → next ≡ Some id → Some c ≡ find_class W (name_at W id) → p c ≡ false → up ≡ superclass_of W (name_at W id)
    → any_from W p m next ≡ any_from W p n up
any-above W p m n id next up c q e f t u =
    any-step W p m n id next c q e f ∙ ap (λ a. a || any_from W p n (superclass_of W (name_at W id))) t ∙ ap (any_from W p n) (sym u)

pub any-out : (W : World) (p : ClassFacts → Bool) (m : ℕ) (next : Option ℕ) → next ≡ None → any_from W p m next ≡ false
any-out W p m next e = ap (any_from W p m) e ∙ ap (list_any p) (from-nothing W m)

pub any-end : (W : World) (p : ClassFacts → Bool) (m : ℕ) (next : Option ℕ) → m ≡ 0 → any_from W p m next ≡ false
any-end W p m next e = ap (λ n. any_from W p n next) e ∙ ap (list_any p) (from-none W next)
