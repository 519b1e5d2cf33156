-- Methods that may not be overridden, along a walk up the superclasses.
use Rattle.std.proofs.Common.{◌≡◌, ℕ, suc, Bool, true, false, ◌||◌, sym, ◌∙◌, ap, Option, Some, None}
use Rattle.std.specs.List.{list_any}
use Rattle.jc_facts.specs.declared.class_facts.ClassFacts.{ClassFacts}
use Rattle.jc_facts.specs.declared.key.Key.{Key}
use Rattle.jc_facts.specs.world.World.{World, find_class}
use Rattle.jc_facts.specs.world.Inheritance.{declares_as_final}
use Rattle.jc_index.specs.Ids.{name_at, superclass_of}
use Rattle.jc_index.proofs.Walking.{declared_from, from-step, from-none, from-nothing}

declared-step : (W : World) (k : Key) (m n id : ℕ) (next : Option ℕ) (c : ClassFacts) → m ≡ suc n → next ≡ Some id → Some c ≡ find_class W (name_at W id)
    → declared_from W k m next ≡ (declares_as_final k c || declared_from W k n (superclass_of W (name_at W id)))
declared-step W k m n id next c q e f = ap (declared_from W k m) e ∙ ap (list_any (declares_as_final k)) (from-step W m n id c q (sym f))

pub declared-here : (W : World) (k : Key) (m n id : ℕ) (next : Option ℕ) (c : ClassFacts) (b : Bool) → m ≡ suc n → next ≡ Some id → Some c ≡ find_class W (name_at W id) → b ≡ declares_as_final k c → b ≡ true → declared_from W k m next ≡ true
declared-here W k m n id next c b q e f h t =
    let d : declares_as_final k c ≡ true = sym h ∙ t in
    declared-step W k m n id next c q e f ∙ ap (λ a. a || declared_from W k n (superclass_of W (name_at W id))) d

pub declared-above : (W : World) (k : Key) (m n id : ℕ) (next up : Option ℕ) (c : ClassFacts) (b : Bool) → m ≡ suc n → next ≡ Some id → Some c ≡ find_class W (name_at W id) → b ≡ declares_as_final k c → b ≡ false → up ≡ superclass_of W (name_at W id)
    → declared_from W k m next ≡ declared_from W k n up
declared-above W k m n id next up c b q e f h t u =
    let d : declares_as_final k c ≡ false = sym h ∙ t in
    declared-step W k m n id next c q e f ∙ ap (λ a. a || declared_from W k n (superclass_of W (name_at W id))) d ∙ ap (declared_from W k n) (sym u)

pub declared-out : (W : World) (k : Key) (m : ℕ) (next : Option ℕ) → next ≡ None → declared_from W k m next ≡ false
declared-out W k m next e = ap (declared_from W k m) e ∙ ap (list_any (declares_as_final k)) (from-nothing W m)

pub declared-end : (W : World) (k : Key) (m : ℕ) (next : Option ℕ) → m ≡ 0 → declared_from W k m next ≡ false
declared-end W k m next e = ap (λ n. declared_from W k n next) e ∙ ap (list_any (declares_as_final k)) (from-none W next)
