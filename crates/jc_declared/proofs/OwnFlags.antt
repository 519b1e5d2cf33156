-- What a class itself declares is what a lookup from it finds, where the class is the owner of that.
use Rattle.std.proofs.Common.{◌≡◌, ◌<◌, ◌==◌, ℕ, Bool, true, false, cond, List, [], ◌∷◌, refl, sym, ◌∙◌, ap, subst, Option, Some, None, ◌⊎◌, inl, inr}
use Rattle.std.specs.List.{Contains}
use Rattle.std.proofs.lemmas.Bool.{eqb-true}
use Rattle.jc_facts.specs.declared.class_facts.ClassFacts.{ClassFacts}
use Rattle.jc_facts.specs.declared.class_facts.Member.{Member}
use Rattle.jc_facts.specs.declared.key.Key.{Key}
use Rattle.jc_facts.specs.Names.{Bytes, same}
use Rattle.jc_facts.specs.Options.{or_else, and_then}
use Rattle.jc_facts.specs.world.World.{World, find_class, size, own_field_of, own_method_of, found_in, DeclaredMember}
use Rattle.jc_facts.specs.world.Loading.{load_fault}
use Rattle.jc_facts.specs.world.Lookup.{field_found, field_step, first_declared, or_choices, method_choices, interface_choices}
use Rattle.jc_facts.specs.world.Assignment.{is_interface_of}
use Rattle.jc_facts.proofs.Same.{same_itself}
use Rattle.jc_facts.proofs.World.{find-name}
use Rattle.jc_lemmas.proofs.Listed.{EachOf, none, cases, each_in}
use Rattle.jc_worlds.proofs.Declared.{IsDeclared, method_choices-declared}
use Rattle.jc_worlds.proofs.FieldActs.{field_found-declared}
use Rattle.jc_worlds.proofs.Unrolled.{chain-unroll}
use Rattle.jc_sound.proofs.MethodLooked.{interface_choices-declared}
use Rattle.jc_field.proofs.Declared.{stepped}
use Rattle.jc_index.specs.Sides.{IsSide}
use Rattle.jc_index.specs.Ids.{name_at}
use Rattle.jc_index.specs.Lookups.{IsFound, IsAnswer, IsChoice}
use Rattle.jc_index.specs.declared.ids.Found.{Found}
use Rattle.jc_index.proofs.Aboves.{same_number}
use Rattle.jc_index.proofs.Numbers.{class_at}
use Rattle.jc_rows.specs.Rows.{choices_by, lookup_choices}
use Rattle.jc_declared.specs.steps.Own.{flags_of, field_flags_of, method_flags_of, flags_by}

module _ (W : World) (s : IsSide W) (id : ℕ) (below : id < size W) where
  -- what is found is the class's own
  here : (f : Found) (m : DeclaredMember) → IsFound W f m → m.owner ≡ name_at W id → flags_by id (Some f) ≡ Some m.member.flags
  here f m i o = ap (λ (b : Bool). cond b (Some f.flags) None) at ∙ ap Some i.flags
    where
      at : (f.owner == id) ≡ true
      at = sym (same_number W s.differ f.owner id i.below below) ∙ ap (λ (y : Bytes). same y (name_at W id)) (i.owner ∙ o) ∙ same_itself (name_at W id)

  -- it is another's
  elsewhere : (f : Found) (m : DeclaredMember) → IsFound W f m → (m.owner ≡ name_at W id → ⊥) → flags_by id (Some f) ≡ None
  elsewhere f m i not = go (f.owner == id) refl
    where
      go : (b : Bool) → (f.owner == id) ≡ b → cond b (Some f.flags) None ≡ None
      go true e = absurd (not (sym i.owner ∙ ap (name_at W) (eqb-true f.owner id e)))
      go false e = refl

  module _ (k : Key) (loads : load_fault W (name_at W id) ≡ None) where
    abbrev x : Bytes
    x = name_at W id

    -- ---- fields

    module _ (c : ClassFacts) (there : find_class W (name_at W id) ≡ Some c) where
      field_first : (m : Member) → own_field_of c k ≡ Some m → field_found W (name_at W id) k ≡ Some (record { owner = c.name; member = m })
      unfolding field_step or_else found_in
      field_first m e = stepped W k (name_at W id) c there loads ∙ rw e refl

      field_other : own_field_of c k ≡ None → (m : DeclaredMember) → field_found W (name_at W id) k ≡ Some m → m.owner ≡ name_at W id → ⊥
      field_other e m h o =
          let d = field_found-declared W k m (name_at W id) loads h in
          let q : Some d.class ≡ Some c = sym d.is_there ∙ ap (find_class W) o ∙ there in
          let w : d.class ≡ c = cc in
          let z : None ≡ Some m.member = sym e ∙ ap (λ (b : ClassFacts). own_field_of b k) (sym w) ∙ d.declares in
          absurd (cc)

      field_is : (o : Option Member) → own_field_of c k ≡ o → (r : Option Found) (p : Option DeclaredMember) → field_found W (name_at W id) k ≡ p → IsAnswer W r p → flags_by id r ≡ flags_of o
      field_is None e None p h a = refl
      field_is None e (Some f) None h a = absurd a
      field_is None e (Some f) (Some m) h a = elsewhere f m a (field_other e m h)
      field_is (Some n) e None None h a = absurd (let z : None ≡ Some (record { owner = c.name; member = n }) = sym h ∙ field_first n e in cc)
      field_is (Some n) e None (Some m) h a = absurd a
      field_is (Some n) e (Some f) None h a = absurd a
      field_is (Some n) e (Some f) (Some m) h a =
          let w : DeclaredMember = record { owner = c.name; member = n } in
          let q : Some w ≡ Some m = sym (field_first n e) ∙ h in
          let v : w ≡ m = cc in
          here f m a (ap (λ (d : DeclaredMember). d.owner) (sym v) ∙ find-name W (name_at W id) c there) ∙ ap (λ (d : DeclaredMember). Some d.member.flags) (sym v)

    pub own_field : (r : Option Found) → IsAnswer W r (field_found W (name_at W id) k) → flags_by id r ≡ field_flags_of W (name_at W id) k
    unfolding and_then
    own_field r a =
        let t = class_at W id s.differ below in
        field_is t.facts t.found (own_field_of t.facts k) refl r (field_found W (name_at W id) k) refl a ∙ ap (λ (o : Option ClassFacts). flags_of (and_then (λ c. own_field_of c k) o)) (sym t.found)

    -- ---- methods

    module _ (c : ClassFacts) (there : find_class W (name_at W id) ≡ Some c) where
      method_first : (m : Member) → own_method_of c k ≡ Some m → (b : Bool) → choices_by b W (name_at W id) k ≡ record { owner = c.name; member = m } ∷ []
      unfolding interface_choices method_choices first_declared or_choices or_else and_then found_in
      method_first m e true = rw (there, e) refl
      method_first m e false = rw (chain-unroll W (name_at W id) c there loads, e) refl

      each_declared : (b : Bool) → EachOf (IsDeclared W k) (choices_by b W (name_at W id) k)
      each_declared true = interface_choices-declared W (name_at W id) k loads
      each_declared false = method_choices-declared W (name_at W id) k loads

      method_other : own_method_of c k ≡ None → (b : Bool) (m : DeclaredMember) → Contains (choices_by b W (name_at W id) k) m → m.owner ≡ name_at W id → ⊥
      method_other e b m h o =
          let d : IsDeclared W k m = each_in (IsDeclared W k) (choices_by b W (name_at W id) k) m (each_declared b) h in
          let q : Some d.class ≡ Some c = sym d.is_there ∙ ap (find_class W) o ∙ there in
          let w : d.class ≡ c = cc in
          let z : None ≡ Some m.member = sym e ∙ ap (λ (a : ClassFacts). own_method_of a k) (sym w) ∙ d.declares in
          absurd (cc)

      only : (n m : DeclaredMember) → Contains (n ∷ []) m → n ≡ m
      only n m h = go (cases n [] m h)
        where
          go : (n ≡ m) ⊎ Contains [] m → n ≡ m
          go (inl i) = i
          go (inr h) = absurd (none m h)

      method_is : (o : Option Member) → own_method_of c k ≡ o → (b : Bool) (r : Option Found) → IsChoice W r (choices_by b W (name_at W id) k) → flags_by id r ≡ flags_of o
      method_is None e b None h = refl
      method_is None e b (Some f) h = elsewhere f h.0 h.2 (method_other e b h.0 h.1)
      method_is (Some n) e b None h =
          let w : DeclaredMember = record { owner = c.name; member = n } in
          let ms : List DeclaredMember = w ∷ [] in
          absurd (let z : [] ≡ ms = sym h ∙ method_first n e b in cc)
      method_is (Some n) e b (Some f) h =
          let w : DeclaredMember = record { owner = c.name; member = n } in
          let v : w ≡ h.0 = only w h.0 (subst (λ (ms : List DeclaredMember). Contains ms h.0) (method_first n e b) h.1) in
          here f h.0 h.2 (ap (λ (d : DeclaredMember). d.owner) (sym v) ∙ find-name W (name_at W id) c there) ∙ ap (λ (d : DeclaredMember). Some d.member.flags) (sym v)

    pub own_method : (r : Option Found) → IsChoice W r (lookup_choices W (name_at W id) k) → flags_by id r ≡ method_flags_of W (name_at W id) k
    unfolding and_then
    own_method r h =
        let t = class_at W id s.differ below in
        method_is t.facts t.found (own_method_of t.facts k) refl (is_interface_of W (name_at W id)) r h ∙ ap (λ (o : Option ClassFacts). flags_of (and_then (λ c. own_method_of c k) o)) (sym t.found)

-- the flags of what the class lists
pub listed : (W : World) (x : Bytes) (c : ClassFacts) → Some c ≡ find_class W x → (k j : Key) → j ≡ k → (o : Option Member) → o ≡ own_method_of c j → flags_of o ≡ method_flags_of W x k
unfolding and_then
listed W x c e k j q o p = ap flags_of (p ∙ ap (own_method_of c) q) ∙ ap (λ (f : Option ClassFacts). flags_of (and_then (λ d. own_method_of d k) f)) e
