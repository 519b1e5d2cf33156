-- Classes above which clients can name all: what a reference to one finds, they can name the class of.
use Rattle.std.proofs.Common.{◌≡◌, ◌<◌, ℕ, suc, Bool, true, false, cond, ◌||◌, [], refl, sym, ◌∙◌, ap, Option, Some, None, ◌⊎◌, inl, inr}
use Rattle.std.specs.Prelude.{IsTrue}
use Rattle.std.specs.List.{list_all, Contains}
use Rattle.std.proofs.lemmas.Bool.{or_left}
use Rattle.jc_facts.specs.declared.class_facts.ClassFacts.{ClassFacts}
use Rattle.jc_facts.specs.declared.key.Key.{Key}
use Rattle.jc_facts.specs.Names.{Bytes, same, object_name}
use Rattle.jc_facts.specs.world.Assignment.{is_interface_of}
use Rattle.jc_facts.specs.world.Hierarchy.{chain, of_super, in_chain, names_in}
use Rattle.jc_facts.specs.world.Loading.{load_fault}
use Rattle.jc_facts.specs.world.Lookup.{or_choices, superinterface_choices}
use Rattle.jc_facts.specs.world.World.{World, size, classes, differ_by_name, DeclaredMember}
use Rattle.jc_facts.proofs.Same.{same_itself}
use Rattle.jc_facts.proofs.World.{find-name}
use Rattle.jc_index.specs.Ids.{name_at, id_of, superclass_of}
use Rattle.jc_index.specs.Sides.{IsSide}
use Rattle.jc_index.specs.declared.ids.Found.{Found}
use Rattle.jc_index.proofs.Choices.{IsOne, one_of, choices_declared}
use Rattle.jc_index.proofs.Numbers.{number_of, id_of-Some}
use Rattle.jc_index.proofs.Sides.{side_valid}
use Rattle.jc_index.proofs.Upwards.{is_up, up-chain, up-none_left, up-top, up-above}
use Rattle.jc_lemmas.proofs.Bools.{contradicts}
use Rattle.jc_lemmas.proofs.Listed.{each_from, any_has, none, cases}
use Rattle.jc_rows.specs.steps.Fronts.{front_by, front_method}
use Rattle.jc_worlds.proofs.Bare.{has_root}
use Rattle.jc_worlds.proofs.Chains.{chain_there}
use Rattle.jc_worlds.proofs.Loaded.{loads-found}
use Rattle.jc_worlds.proofs.Unrolled.{chain-unroll}
use Rattle.jc_call_lines.specs.steps.Openly.{open_class, is_owner_open, is_said_open, choices_open, AreOpenAbove}
use Rattle.jc_call_lines.proofs.Chosen.{IsFirst, first_in, front_or, own_or_root, above_kind}
use Rattle.jc_call_lines.proofs.OpenAbove.{all_each}

-- ---- the walk up the chain

-- clients can name all that the walk came past: a class that they can't name stands in the chain of x where it stands in that of the class of number `at`
pub record IsOnChain (W : World) (x : Bytes) (left at : ℕ) : Type 0 where
  pub within : at < size W
  pub same : (b : ℕ) → b < size W → open_class W (name_at W b) ≡ false → in_chain W x (name_at W b) ≡ is_up W left (name_at W at) (name_at W b)

-- clients can name all classes of the chain
abbrev pub IsChainOpen : World → Bytes → Type 0
IsChainOpen W x = (y : Bytes) → in_chain W x y ≡ true → open_class W y ≡ true

pub chain_starts : (W : World) (a m : ℕ) → a < size W → m ≡ size W → IsOnChain W (name_at W a) m a
chain_starts W a m l e = record { within = l; same = λ b k s. up-chain W (name_at W a) (name_at W b) ∙ ap (λ j. is_up W j (name_at W a) (name_at W b)) (sym e) }

module _ (W : World) (d : IsTrue (differ_by_name (classes W))) (x : Bytes) where
  -- none that they can't name stands there
  none_there : ((b : ℕ) → b < size W → open_class W (name_at W b) ≡ false → in_chain W x (name_at W b) ≡ false) → IsChainOpen W x
  none_there h y c = go (open_class W y) refl
    where
      n : (k : ℕ) × (id_of W y ≡ Some k)
      n = number_of W y (chain_there W x y c)

      go : (b : Bool) → open_class W y ≡ b → b ≡ true
      go true e = refl
      go false e =
          let i = id_of-Some W y n.0 n.1 in
          absurd (contradicts (in_chain W x (name_at W n.0)) (ap (in_chain W x) i.1 ∙ c) (h n.0 i.0 (ap (open_class W) i.1 ∙ e)))

  module _ (m a : ℕ) (h : IsOnChain W x m a) where
    apart : open_class W (name_at W a) ≡ true → (b : ℕ) → open_class W (name_at W b) ≡ false → a ≡ b → ⊥
    apart o b e q = contradicts (open_class W (name_at W b)) (ap (λ j. open_class W (name_at W j)) (sym q) ∙ o) e

    pub chain_on : (n t : ℕ) → suc n ≡ m → (o : Bool) → o ≡ open_class W (name_at W a) → o ≡ true → Some t ≡ superclass_of W (name_at W a) → t < size W → IsOnChain W x n t
    chain_on n t e o p q u l = record {
      within = l;
      same = λ b k s. h.same b k s ∙ up-above W d a h.within m n b t e k (apart (sym p ∙ q) b s) u;
    }

    pub chain_top : 0 < m → (o : Bool) → o ≡ open_class W (name_at W a) → o ≡ true → None ≡ superclass_of W (name_at W a) → IsChainOpen W x
    chain_top l o p q u = none_there (λ b k s. h.same b k s ∙ up-top W d a h.within m b l k (apart (sym p ∙ q) b s) u)

    pub chain_out : m ≡ 0 → IsChainOpen W x
    chain_out e = none_there (λ b k s. h.same b k s ∙ ap (λ j. is_up W j (name_at W a) (name_at W b)) e ∙ up-none_left W d a h.within (name_at W b))

-- ---- what a reference finds

or_true : (b : Bool) → (b || true) ≡ true
or_true true = refl
or_true false = refl

module _ (W : World) (side : IsSide W) (x : Bytes) (loads : load_fault W x ≡ None) (h : AreOpenAbove W x) (k : Key) where
  itself : in_chain W x x ≡ true
  itself =
      let t = loads-found W x loads in
      ap (λ cs. names_in cs x) (chain-unroll W x t.0 t.1 loads) ∙ or_left (same t.0.name x) (names_in (of_super (chain W) t.0.superclass) x) (ap (λ y. same y x) (find-name W x t.0 t.1) ∙ same_itself x)

  front_open : (m : DeclaredMember) → front_method W x k ≡ Some m → is_owner_open W m ≡ true
  front_open m e = h.chain m.owner (go (is_interface_of W x) refl e)
    where
      of_root : (m.owner ≡ x) ⊎ (m.owner ≡ object_name) → in_chain W x m.owner ≡ true
      of_root (inl p) = ap (in_chain W x) p ∙ itself
      of_root (inr p) = ap (in_chain W x) p ∙ has_root W (side_valid W side) x loads

      go : (b : Bool) → is_interface_of W x ≡ b → front_by b W x k ≡ Some m → in_chain W x m.owner ≡ true
      go true i q = of_root (own_or_root W x k m q)
      go false i q =
          let f : IsFirst (chain W x) m = first_in k (chain W x) m q in
          any_has (λ (c : ClassFacts). same c.name m.owner) (chain W x) f.class f.is_in (ap (λ y. same y m.owner) (sym f.owner) ∙ same_itself m.owner)

  above_open : is_interface_of W x ≡ true → (m : DeclaredMember) → Contains (superinterface_choices W x k) m → is_owner_open W m ≡ true
  above_open t m c = ap (open_class W) (sym i.name) ∙ go (open_class W (name_at W i.number)) refl
    where
      i : IsOne W x loads k m
      i = one_of W x loads k m (choices_declared W x k m c)

      f : Found
      f = record { owner = i.number; flags = 0 }

      go : (b : Bool) → open_class W (name_at W i.number) ≡ b → b ≡ true
      go true e = refl
      go false e = absurd (let z : None ≡ Some f = sym (h.interfaces t i.number i.below i.above) ∙ ap (λ b. cond b None (Some f)) e in cc)

  -- what is said of one that stands in front, or above
  front_said_open : (b : Bool) (m : DeclaredMember) → front_method W x k ≡ Some m → is_said_open b W m ≡ true
  front_said_open true m e = front_open m e
  front_said_open false m e = ap (λ o. is_interface_of W m.owner || o) (front_open m e) ∙ or_true (is_interface_of W m.owner)

  above_said : (b : Bool) → is_interface_of W x ≡ b → (m : DeclaredMember) → Contains (superinterface_choices W x k) m → is_said_open b W m ≡ true
  above_said true t m c = above_open t m c
  above_said false t m c = ap (λ b. b || is_owner_open W m) (above_kind W x loads k m c)

  pub all_open : choices_open W x k ≡ true
  unfolding or_choices
  all_open =
      ap (list_all (is_said_open (is_interface_of W x) W)) (front_or W x k)
      ∙ all_each (is_said_open (is_interface_of W x) W) (or_choices (front_method W x k) (superinterface_choices W x k))
      (each_from (λ m. is_said_open (is_interface_of W x) W m ≡ true) (or_choices (front_method W x k) (superinterface_choices W x k)) (go (front_method W x k) refl))
    where
      go : (v : Option DeclaredMember) → front_method W x k ≡ v → (m : DeclaredMember) → Contains (or_choices v (superinterface_choices W x k)) m → is_said_open (is_interface_of W x) W m ≡ true
      go None e m c = above_said (is_interface_of W x) refl m c
      go (Some n) e m c = at (cases n [] m c)
        where
          at : (n ≡ m) ⊎ Contains [] m → is_said_open (is_interface_of W x) W m ≡ true
          at (inl i) = ap (is_said_open (is_interface_of W x) W) (sym i) ∙ front_said_open (is_interface_of W x) n e
          at (inr d) = absurd (none m d)
