-- Where no class above changed, nothing is warned of.
use Rattle.std.proofs.Common.{◌≡◌, Bool, true, false, not, cond, List, [], ◌∷◌, refl, sym, ◌∙◌, ap, subst, Some, None, ◌||◌, ◌&&◌}
use Rattle.std.specs.Bool.{beq}
use Rattle.std.specs.List.{list_all, filter, Contains}
use Rattle.std.proofs.lemmas.Bool.{and_from, or_left, or_right}
use Rattle.jc_facts.specs.declared.class_facts.ClassFacts.{ClassFacts}
use Rattle.jc_facts.specs.declared.key.Key.{Key}
use Rattle.jc_facts.specs.Names.{Bytes, same}
use Rattle.jc_facts.specs.Flags.{interface_flag}
use Rattle.jc_facts.specs.Options.{some_and}
use Rattle.jc_facts.specs.world.Inheritance.{offers}
use Rattle.jc_facts.specs.world.Assignment.{is_interface_of}
use Rattle.jc_facts.specs.world.Hierarchy.{chain, names_in, superinterfaces, is_superinterface, with_interfaces}
use Rattle.jc_facts.specs.world.Loading.{load_fault}
use Rattle.jc_facts.specs.world.World.{World, find_class, class_named}
use Rattle.jc_facts.proofs.Same.{same_is, same_itself}
use Rattle.jc_facts.proofs.World.{find-name, IsOf}
use Rattle.jc_lemmas.proofs.Listed.{EachOf, EachOf-map, each_in, any_has, here, there, filter-each}
use Rattle.jc_worlds.specs.Agreement.{LooksTheSame}
use Rattle.jc_worlds.proofs.Above.{superinterfaces-each}
use Rattle.jc_worlds.proofs.Loaded.{loads-found}
use Rattle.jc_index.specs.Sides.{IsSide}
use Rattle.jc_index.proofs.Strictly.{interface_leads}
use Rattle.jc_acts.specs.Seats.{may_be_closed}
use Rattle.jc_acts.proofs.Untouched.{looks_alike, one_record, above_alike}
use Rattle.jc_sides.specs.Members.{OfPassing}
use Rattle.jc_sides.specs.SidesOf.{SidesOf, AreSides}
use Rattle.jc_facts.specs.declared.warning.ChainKind.TheVariants.{Nothing}
use Rattle.jc_promises.specs.rule.Selection.{declares_abstract, first_kind, chain_kind}
use Rattle.jc_promises.specs.rule.Warnings.{is_base, is_below_other, interfaces_from, part, stays_in, parts_agree, warn_kind, warning_at}
use Rattle.jc_select.specs.steps.Warned.{warned, parts_differ}
use Rattle.jc_select.proofs.KindsWarned.{warned_parts, some_kind, base_loads}
use Rattle.jc_selection.proofs.Selected.{no_change}

pub beq_same : (a b : Bool) → a ≡ b → beq a b ≡ true
beq_same true true e = refl
beq_same true false e = absurd (cc)
beq_same false true e = absurd (cc)
beq_same false false e = refl

pub all_pass : (p : ClassFacts → Bool) (xs : List ClassFacts) → EachOf (λ x. p x ≡ true) xs → list_all p xs ≡ true
all_pass p [] h = refl
all_pass p (x ∷ xs) h = and_from (p x) (list_all p xs) h.0 (all_pass p xs h.1)

each_one : (P : ClassFacts → Type 0) (xs : List ClassFacts) → ((x : ClassFacts) → Contains xs x → P x) → EachOf P xs
each_one P [] f = tt
each_one P (x ∷ xs) f = (f x (here x xs), each_one P xs (λ y h. f y (there y x xs h)))

-- who is found by a name in a list of a world's classes is found in the world
pub named_in_list : (W : World) (cs : List ClassFacts) → EachOf (IsOf W) cs → (y : Bytes) → class_named cs y ≡ cond (names_in cs y) (find_class W y) None
unfolding class_named
named_in_list W [] g y = refl
named_in_list W (c ∷ cs) g y = go (same c.name y) refl (named_in_list W cs g.1 y)
  where
    go : (b : Bool) → same c.name y ≡ b → class_named cs y ≡ cond (names_in cs y) (find_class W y) None → cond b (Some c) (class_named cs y) ≡ cond (b || names_in cs y) (find_class W y) None
    go true e r = sym (ap (find_class W) (sym (same_is c.name y e)) ∙ g.0)
    go false e r = r

own_name : (W : World) (cs : List ClassFacts) → EachOf (IsOf W) cs → (c : ClassFacts) → Contains cs c → class_named cs c.name ≡ Some c
own_name W cs g c h =
    named_in_list W cs g c.name
    ∙ ap (λ b. cond b (find_class W c.name) None) (any_has (λ (d : ClassFacts). same d.name c.name) cs c h (same_itself c.name))
    ∙ each_in (IsOf W) cs c g h

-- ---- a part beside itself

module _ (O N : World) (k : Key) (cs : List ClassFacts) (g : EachOf (IsOf O) cs) (alike : EachOf (λ (c : ClassFacts). superinterfaces O c.name ≡ superinterfaces N c.name) cs) where
  one_stays : (c : ClassFacts) → Contains cs c → stays_in O N k cs cs c ≡ true
  one_stays c h =
      and_from (some_and (λ d. beq (declares_abstract k c) (declares_abstract k d)) (class_named cs c.name)) (list_all (λ i. beq (is_below_other O c.name i.name) (is_below_other N c.name i.name)) cs)
      (ap (some_and (λ d. beq (declares_abstract k c) (declares_abstract k d))) (own_name O cs g c h) ∙ beq_same (declares_abstract k c) (declares_abstract k c) refl)
      (all_pass (λ i. beq (is_below_other O c.name i.name) (is_below_other N c.name i.name)) cs
      (each_one (λ i. beq (is_below_other O c.name i.name) (is_below_other N c.name i.name) ≡ true) cs (λ i j. beq_same (is_below_other O c.name i.name) (is_below_other N c.name i.name)
      (ap (λ above. not (same c.name i.name) && names_in above i.name) (each_in (λ (c : ClassFacts). superinterfaces O c.name ≡ superinterfaces N c.name) cs c alike h)))))

  pub agrees_itself : parts_agree O N k cs cs ≡ true
  unfolding parts_agree
  agrees_itself =
      and_from (list_all (stays_in O N k cs cs) cs) (list_all (λ d. names_in cs d.name) cs)
      (all_pass (stays_in O N k cs cs) cs (each_one (λ c. stays_in O N k cs cs c ≡ true) cs one_stays))
      (all_pass (λ d. names_in cs d.name) cs (each_one (λ (d : ClassFacts). names_in cs d.name ≡ true) cs (λ d h. any_has (λ (c : ClassFacts). same c.name d.name) cs d h (same_itself d.name))))

-- ---- the interfaces from a class that loads on

-- its name, or above it, and found by its name
pub record IsFrom (W : World) (x : Bytes) (c : ClassFacts) : Type 0 where
  pub found : find_class W c.name ≡ Some c
  pub above : (same x c.name || is_superinterface W x c.name) ≡ true

module _ (W : World) (side : IsSide W) (x : Bytes) (loads : load_fault W x ≡ None) where
  above_from : EachOf (IsFrom W x) (superinterfaces W x)
  above_from = each_one (IsFrom W x) (superinterfaces W x) (λ c h. record {
    found = each_in (IsOf W) (superinterfaces W x) c (superinterfaces-each W (IsOf W) (λ y d f l i. ap (find_class W) (find-name W y d f) ∙ f) x loads) h;
    above = or_right (same x c.name) (is_superinterface W x c.name) (any_has (λ (d : ClassFacts). same d.name c.name) (superinterfaces W x) c h (same_itself c.name));
  })

  with_from : is_interface_of W x ≡ true → EachOf (IsFrom W x) (with_interfaces W x)
  with_from i =
      let t = loads-found W x loads in
      let n : t.0.name ≡ x = find-name W x t.0 t.1 in
      let j : interface_flag t.0.flags ≡ true = sym (ap (some_and (λ (c : ClassFacts). interface_flag c.flags)) t.1) ∙ i in
      let first : IsFrom W x t.0 = record {
        found = ap (find_class W) n ∙ t.1;
        above = or_left (same x t.0.name) (is_superinterface W x t.0.name) (subst (λ z. same x z ≡ true) (sym n) (same_itself x));
      } in
      subst (EachOf (IsFrom W x)) (sym (interface_leads W side x t.0 t.1 loads j)) (first, above_from)

  pub all_from : EachOf (IsFrom W x) (interfaces_from W x)
  unfolding interfaces_from
  all_from = go (is_interface_of W x) refl
    where
      go : (b : Bool) → is_interface_of W x ≡ b → EachOf (IsFrom W x) (cond b (with_interfaces W x) (superinterfaces W x))
      go true i = with_from i
      go false i = above_from

-- ---- both sides

module _ (s : SidesOf) (are : AreSides s) (x : Bytes) (k : Key) (free : may_be_closed s x ≡ false) (loads : load_fault s.old x ≡ None) (loads_now : load_fault s.new x ≡ None) where
  looks : LooksTheSame s.old s.new x
  looks = looks_alike s are x free loads_now

  record_same : find_class s.old x ≡ find_class s.new x
  record_same = one_record s are x free

  interface_same : is_interface_of s.old x ≡ is_interface_of s.new x
  interface_same = ap (some_and (λ (c : ClassFacts). interface_flag c.flags)) record_same

  kind_same : chain_kind s.old x k ≡ chain_kind s.new x k
  unfolding chain_kind
  kind_same = ap (λ b. cond b Nothing (first_kind k (chain s.old x))) interface_same ∙ ap (λ cs. cond (is_interface_of s.new x) Nothing (first_kind k cs)) looks.chain

  with_same : is_interface_of s.old x ≡ true → with_interfaces s.old x ≡ with_interfaces s.new x
  with_same i =
      let t = loads-found s.old x loads in
      let u : find_class s.new x ≡ Some t.0 = sym record_same ∙ t.1 in
      let j : interface_flag t.0.flags ≡ true = sym (ap (some_and (λ (c : ClassFacts). interface_flag c.flags)) t.1) ∙ i in
      interface_leads s.old are.old_side x t.0 t.1 loads j ∙ ap (λ cs. t.0 ∷ cs) looks.superinterfaces ∙ sym (interface_leads s.new are.new_side x t.0 u loads_now j)

  from_same : interfaces_from s.old x ≡ interfaces_from s.new x
  unfolding interfaces_from
  from_same = go (is_interface_of s.old x) refl
    where
      go : (b : Bool) → is_interface_of s.old x ≡ b → cond (is_interface_of s.old x) (with_interfaces s.old x) (superinterfaces s.old x) ≡ cond (is_interface_of s.new x) (with_interfaces s.new x) (superinterfaces s.new x)
      go true i =
          ap (λ b. cond b (with_interfaces s.old x) (superinterfaces s.old x)) i ∙ with_same i ∙ sym (ap (λ b. cond b (with_interfaces s.new x) (superinterfaces s.new x)) (sym interface_same ∙ i))
      go false i =
          ap (λ b. cond b (with_interfaces s.old x) (superinterfaces s.old x)) i ∙ looks.superinterfaces ∙ sym (ap (λ b. cond b (with_interfaces s.new x) (superinterfaces s.new x)) (sym interface_same ∙ i))

  parts_same : parts_differ s x k ≡ false
  unfolding part
  parts_same =
      ap (λ cs. not (parts_agree s.old s.new k (filter (offers k) (interfaces_from s.old x)) (filter (offers k) cs))) (sym from_same)
      ∙ ap not (agrees_itself s.old s.new k (filter (offers k) (interfaces_from s.old x))
      (filter-each (IsOf s.old) (offers k) (interfaces_from s.old x) (EachOf-map (λ (c : ClassFacts) (f : IsFrom s.old x c). f.found) (interfaces_from s.old x) (all_from s.old are.old_side x loads)))
      (filter-each (λ (c : ClassFacts). superinterfaces s.old c.name ≡ superinterfaces s.new c.name) (offers k) (interfaces_from s.old x) (EachOf-map (λ (c : ClassFacts) (f : IsFrom s.old x c). above_alike s are x free loads_now c.name f.above) (interfaces_from s.old x) (all_from s.old are.old_side x loads))))

  pub nothing_warned : warn_kind (chain_kind s.old x k) (chain_kind s.new x k) (parts_differ s x k) ≡ None
  nothing_warned =
      ap (λ b. warn_kind (chain_kind s.old x k) (chain_kind s.new x k) b) parts_same
      ∙ ap (λ a. warn_kind a (chain_kind s.new x k) false) kind_same
      ∙ no_change (chain_kind s.new x k)

pub of_none : (s : SidesOf) (x : Bytes) → AreSides s → is_base s.old s.new x ≡ true → may_be_closed s x ≡ false → OfPassing (warned s x) (λ k. false)
of_none s x are base free k w e =
    let d = some_kind x k (warning_at s.old s.new x k) w e in
    let p = warned_parts s x k d.0 d.1 in
    let l = base_loads s x base in
    absurd (let clash : None ≡ Some d.0 = sym (nothing_warned s are x k free l.loads l.loads_now) ∙ p.kind in cc)
