-- What a table of the two sides says of a class by its number, the sides say of it by its name; and the numbers of keys. t are the tables' worlds, d is the class as its fields have it.
use Rattle.std.proofs.Common.{◌≡◌, ℕ, sym, subst, Some, None}
use Rattle.jc_facts.specs.world.Loading.{load_fault}
use Rattle.jc_facts.specs.Names.{Bytes}
use Rattle.jc_facts.specs.declared.key.Key.{Key}
use Rattle.jc_facts.specs.world.World.{World}
use Rattle.jc_index.specs.Ids.{name_at, id_of}
use Rattle.jc_rows.specs.Keys.{numbered_keys, IsNumber}
use Rattle.jc_index.proofs.Numbers.{id_of-Some}
use Rattle.jc_sides.specs.Numbering.{AreNumbers}
use Rattle.jc_sides.specs.declared.key_numbers.KeyNumbers.{KeyNumbers}
use Rattle.jc_sides.specs.SharedOf.{IsShared, name_of, SharedOf}
use Rattle.jc_sides.specs.SidesOf.{SidesOf}
use Rattle.jc_sides.proofs.BaseParts.{IsOnBoth}

module _ (t s : SidesOf) (v : t ≡ s) (d b : SharedOf) (w : d ≡ b) (shared : IsShared s b) where
  pub of_old : (P : World → Bytes → Type 0) → P t.old (name_at t.old d.old) → P s.old (name_of b)
  of_old P h = subst (P s.old) shared.old_name (subst (λ (c : SharedOf). P s.old (name_at s.old c.old)) w (subst (λ (u : SidesOf). P u.old (name_at u.old d.old)) v h))

  pub of_new : (P : World → Bytes → Type 0) → P t.new (name_at t.new d.new) → P s.new (name_of b)
  of_new P h = subst (P s.new) shared.new_name (subst (λ (c : SharedOf). P s.new (name_at s.new c.new)) w (subst (λ (u : SidesOf). P u.new (name_at u.new d.new)) v h))

  pub to_old : (P : World → Bytes → Type 0) → P s.old (name_of b) → P t.old (name_at t.old d.old)
  to_old P h = subst (λ (u : SidesOf). P u.old (name_at u.old d.old)) (sym v) (subst (λ (c : SharedOf). P s.old (name_at s.old c.old)) (sym w) (subst (P s.old) (sym shared.old_name) h))

  pub to_new : (P : World → Bytes → Type 0) → P s.new (name_of b) → P t.new (name_at t.new d.new)
  to_new P h = subst (λ (u : SidesOf). P u.new (name_at u.new d.new)) (sym v) (subst (λ (c : SharedOf). P s.new (name_at s.new c.new)) (sym w) (subst (P s.new) (sym shared.new_name) h))

  -- a class that loads
  pub loads_before : IsOnBoth s (name_of b) → load_fault t.old (name_at t.old d.old) ≡ None
  loads_before h = to_old (λ W x. load_fault W x ≡ None) h.loads

  pub loads_after : IsOnBoth s (name_of b) → load_fault t.new (name_at t.new d.new) ≡ None
  loads_after h = to_new (λ W x. load_fault W x ≡ None) h.loads_now

-- ---- the numbers of a key

module _ (t s : SidesOf) (v : t ≡ s) (k : Key) (p : KeyNumbers) (numbers : AreNumbers s k p) where
  pub number_before : IsNumber (numbered_keys t.old) k p.old
  number_before = subst (λ (u : SidesOf). IsNumber (numbered_keys u.old) k p.old) (sym v) numbers.old

  pub number_after : IsNumber (numbered_keys t.new) k p.new
  number_after = subst (λ (u : SidesOf). IsNumber (numbered_keys u.new) k p.new) (sym v) numbers.new

-- the same of the new side's class that has the name of one of the old side
pub of_same_name : (t s : SidesOf) → t ≡ s → (n k : ℕ) → Some k ≡ id_of s.new (name_at s.old n) → (P : World → Bytes → Type 0) → P t.new (name_at t.new k) → P s.new (name_at s.old n)
of_same_name t s v n k e P h = subst (P s.new) (id_of-Some s.new (name_at s.old n) k (sym e)).1 (subst (λ (u : SidesOf). P u.new (name_at u.new k)) v h)
