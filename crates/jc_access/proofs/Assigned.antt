-- Assignment by what the code looks at.
use Rattle.std.proofs.Common.{◌≡◌, ◌<◌, ℕ, zero, suc, Bool, true, false, ◌||◌, refl, sym, ◌∙◌, ap, arith, Some, None}
use Rattle.jc_facts.specs.declared.class_facts.ClassFacts.{ClassFacts}
use Rattle.jc_facts.specs.Names.{Bytes, same}
use Rattle.jc_facts.specs.Flags.{interface_flag}
use Rattle.jc_facts.specs.Options.{some_and}
use Rattle.jc_facts.specs.world.World.{World, find_class}
use Rattle.jc_facts.specs.world.Hierarchy.{in_chain}
use Rattle.jc_facts.specs.world.Types.{Element}
use Rattle.jc_facts.specs.world.Assignment.{is_interface_of, is_class_assignable, is_element_assignable, assign_to, takes_any_array}
use Rattle.jc_worlds.proofs.Chains.{absent_above, none_above}
use Rattle.jc_index.specs.Ids.{name_at, id_of}
use Rattle.jc_index.proofs.Numbers.{id_of-Some, find-None}
use Rattle.jc_access.proofs.Hosts.{found_by}

-- ---- dimensions

to_same : (W : World) (n : ℕ) (s t : Element) → assign_to W n s n t ≡ is_element_assignable W s t
unfolding assign_to
to_same W zero s t = refl
to_same W (suc n) s t = to_same W n s t

pub to_equal : (W : World) (d e : ℕ) (s t : Element) → d ≡ e → assign_to W d s e t ≡ is_element_assignable W s t
to_equal W d e s t h = ap (λ k. assign_to W d s k t) (sym h) ∙ to_same W d s t

pub to_less : (W : World) (d e : ℕ) (s t : Element) → d < e → assign_to W d s e t ≡ false
unfolding assign_to
to_less W d zero s t h = absurd (omega arith)
to_less W zero (suc e) s t h = refl
to_less W (suc d) (suc e) s t h = to_less W d e s t (omega arith)

pub to_more : (W : World) (d e : ℕ) (s t : Element) → e < d → assign_to W d s e t ≡ takes_any_array t
unfolding assign_to
to_more W zero e s t h = absurd (omega arith)
to_more W (suc d) zero s t h = refl
to_more W (suc d) (suc e) s t h = to_more W d e s t (omega arith)

-- ---- classes

module _ (W : World) (s t : Bytes) (differ : same s t ≡ false) where
  rest : is_class_assignable W s t ≡ (is_interface_of W t || in_chain W s t)
  rest = ap (λ b. b || is_interface_of W t || in_chain W s t) differ

  pub assign-absent : None ≡ id_of W t → false ≡ is_class_assignable W s t
  assign-absent i =
      let n : find_class W t ≡ None = find-None W t (sym i) in
      sym (rest ∙ ap (λ o. some_and (λ c. interface_flag c.flags) o || in_chain W s t) n ∙ absent_above W s t n)

  module _ (n : ℕ) (c : ClassFacts) (i : Some n ≡ id_of W t) (f : Some c ≡ find_class W (name_at W n)) where
    kind : is_interface_of W t ≡ interface_flag c.flags
    kind = ap (some_and (λ d. interface_flag d.flags)) (found_by W t n c i f)

    pub assign-interface : (b : Bool) → b ≡ interface_flag c.flags → b ≡ true → true ≡ is_class_assignable W s t
    assign-interface b e h = sym (rest ∙ ap (λ q. q || in_chain W s t) (kind ∙ sym e ∙ h))

    pub assign-chain : (b r : Bool) (m : ℕ) → b ≡ interface_flag c.flags → b ≡ false → Some m ≡ id_of W s → r ≡ in_chain W (name_at W m) (name_at W n) → r ≡ is_class_assignable W s t
    assign-chain b r m e h j g =
        g ∙ ap (λ x. in_chain W x (name_at W n)) (id_of-Some W s m (sym j)).1 ∙ ap (in_chain W s) (id_of-Some W t n (sym i)).1
        ∙ sym (rest ∙ ap (λ q. q || in_chain W s t) (kind ∙ sym e ∙ h))

    pub assign-nothing : (b : Bool) → b ≡ interface_flag c.flags → b ≡ false → None ≡ id_of W s → false ≡ is_class_assignable W s t
    assign-nothing b e h j = sym (rest ∙ ap (λ q. q || in_chain W s t) (kind ∙ sym e ∙ h) ∙ none_above W s t (find-None W s (sym j)))
