-- The keys of final methods, along a walk up the superclasses.
use Rattle.std.proofs.Common.{◌≡◌, ◌<◌, ℕ, suc, Bool, true, false, List, ◌||◌, sym, ◌∙◌, ap, refl, Option, Some, None}
use Rattle.std.specs.List.{list_any}
use Rattle.std.specs.Prelude.{IfSome}
use Rattle.std.proofs.lemmas.Bool.{or_right}
use Rattle.jc_facts.specs.declared.class_facts.ClassFacts.{ClassFacts}
use Rattle.jc_facts.specs.declared.key.Key.{Key}
use Rattle.jc_facts.specs.Names.{Bytes}
use Rattle.jc_facts.specs.file.Valid.{has_key}
use Rattle.jc_facts.specs.world.Inheritance.{is_open_final, declares_as_final, is_final_in_chain}
use Rattle.jc_facts.specs.world.World.{World, find_class, size}
use Rattle.jc_lemmas.proofs.Bools.{or_without}
use Rattle.jc_index.specs.Ids.{name_at, superclass_of}
use Rattle.jc_index.proofs.Walking.{declared_from, finals-from, from-step, from-none, from-nothing}
use Rattle.jc_sides.specs.Members.{HasAll}
use Rattle.jc_sides.specs.steps.KeySets.{AddsKeys, has_member}
use Rattle.jc_sides.proofs.KeySets.{some_member}

steps : (W : World) (k : Key) (m n id : ℕ) (next up : Option ℕ) (c : ClassFacts) → m ≡ suc n → next ≡ Some id → Some c ≡ find_class W (name_at W id) → up ≡ superclass_of W (name_at W id)
    → declared_from W k m next ≡ (declares_as_final k c || declared_from W k n up)
steps W k m n id next up c q e f u =
    ap (declared_from W k m) e ∙ ap (list_any (declares_as_final k)) (from-step W m n id c q (sym f)) ∙ ap (λ (o : Option ℕ). declares_as_final k c || declared_from W k n o) (sym u)

-- the set has the keys of the classes passed, and the rest is still ahead
pub record HasPassed (W : World) (x : Bytes) (left : ℕ) (next : Option ℕ) (keys : List Key) : Type 0 where
  pub below : IfSome next (λ id. id < size W)
  pub has : (k : Key) → is_final_in_chain W x k ≡ true → (has_key k keys || declared_from W k left next) ≡ true

pub passed_start : (W : World) (id left : ℕ) (keys : List Key) → id < size W → left ≡ size W → HasPassed W (name_at W id) left (Some id) keys
passed_start W id left keys l e = record {
  below = l;
  has = λ k h. or_right (has_key k keys) (declared_from W k left (Some id)) (sym (finals-from W id left k e) ∙ h);
}

-- one more class
pub passed_more : (W : World) (x : Bytes) (left more id : ℕ) (next up : Option ℕ) (c : ClassFacts) (keys now : List Key) → left ≡ suc more → next ≡ Some id → Some c ≡ find_class W (name_at W id) → up ≡ superclass_of W (name_at W id)
    → IfSome up (λ id. id < size W) → HasPassed W x left next keys → AddsKeys (has_member is_open_final c.methods) keys now → HasPassed W x more up now
passed_more W x left more id next up c keys now q e f u b h a = record {
  below = b;
  has = λ k p. go k (has_key k keys) refl (declares_as_final k c) refl (h.has k p);
}
  where
    go : (k : Key) (s : Bool) → has_key k keys ≡ s → (d : Bool) → declares_as_final k c ≡ d → (s || declared_from W k left next) ≡ true → (has_key k now || declared_from W k more up) ≡ true
    go k true is d dis r = ap (λ (b : Bool). b || declared_from W k more up) (a.has k ∙ ap (λ (b : Bool). b || has_member is_open_final c.methods k) is)
    go k false is true dis r =
        ap (λ (b : Bool). b || declared_from W k more up) (a.has k ∙ or_right (has_key k keys) (has_member is_open_final c.methods k) (some_member is_open_final c.methods k dis))
    go k false is false dis r =
        or_right (has_key k now) (declared_from W k more up)
        (sym (steps W k left more id next up c q e f u ∙ ap (λ (b : Bool). b || declared_from W k more up) dis) ∙ r)

-- nothing is ahead
pub passed_out : (W : World) (x : Bytes) (left : ℕ) (next : Option ℕ) (keys : List Key) → next ≡ None → HasPassed W x left next keys → HasAll (is_final_in_chain W x) keys
passed_out W x left next keys e h = λ k p. or_without (has_key k keys) (declared_from W k left next) (ap (declared_from W k left) e ∙ ap (list_any (declares_as_final k)) (from-nothing W left)) (h.has k p)

pub passed_end : (W : World) (x : Bytes) (left : ℕ) (next : Option ℕ) (keys : List Key) → left ≡ 0 → HasPassed W x left next keys → HasAll (is_final_in_chain W x) keys
passed_end W x left next keys e h = λ k p. or_without (has_key k keys) (declared_from W k left next) (ap (λ n. declared_from W k n next) e ∙ ap (list_any (declares_as_final k)) (from-none W next)) (h.has k p)
