-- A class directly below a base, with an interface of its own that declares the key abstract or without, stops answering the key.
use Rattle.std.proofs.Common.{◌≡◌, Bool, true, false, cond, not, List, [], ◌∷◌, ◌++◌, refl, sym, ◌∙◌, ap, Option, Some, None, ◌||◌, ◌&&◌, ◌⊎◌, inl, inr}
use Rattle.std.specs.List.{list_any, list_all}
use Rattle.std.specs.Cmp.{both_ways}
use Rattle.std.proofs.lemmas.Bool.{and_parts, and_from, or_cases, or_left, or_right, not-true}
use Rattle.std.proofs.lemmas.List.Elements.{All-from_recursion, Contains-push, Contains-append_right}
use Rattle.std.proofs.lemmas.List.Folds.{list_any-append, list_all-append}
use Rattle.std.proofs.lemmas.List.{append-nil}
use Rattle.std.proofs.Math.Bool.{or-false}
use Rattle.jc_facts.specs.declared.class_facts.ClassFacts.{ClassFacts}
use Rattle.jc_facts.specs.declared.class_facts.Member.{Member}
use Rattle.jc_facts.specs.declared.client.ClientClass.{ClientClass}
use Rattle.jc_facts.specs.declared.client.Item.TheVariants as item
use Rattle.jc_facts.specs.declared.key.Key.{Key}
use Rattle.jc_facts.specs.declared.warning.ChainKind.{ChainKind}
use Rattle.jc_facts.specs.declared.warning.ChainKind.TheVariants.{Nothing, Abstract, Concrete}
use Rattle.jc_facts.specs.declared.warning.WarnKind.{WarnKind}
use Rattle.jc_facts.specs.declared.warning.WarnKind.TheVariants as warn
use Rattle.jc_facts.specs.Names.{Bytes, same, is_name_among, object_name}
use Rattle.jc_facts.specs.Flags.{public_flag, static_flag, private_flag, interface_flag, final_flag, abstract_flag}
use Rattle.jc_facts.specs.Options.{some_and}
use Rattle.jc_facts.specs.world.World.{World, DeclaredMember, find_class, class_named, with_clients, own_method_of, differ_by_name}
use Rattle.jc_facts.specs.world.Hierarchy.{chain, superinterfaces, each, with_interfaces, names_in}
use Rattle.jc_facts.specs.world.Inheritance.{offers, is_inheritable}
use Rattle.jc_facts.specs.world.Assignment.{is_interface_of}
use Rattle.jc_facts.specs.world.Loading.{load_fault, sealed_by, excludes}
use Rattle.jc_facts.specs.client.Outcome.{outcome}
use Rattle.jc_facts.specs.client.Valid.{IsValidClient, facts_of}
use Rattle.jc_facts.specs.client.Allowed.{is_allowed_name}
use Rattle.jc_facts.specs.file.Valid.{IsValidClass, is_valid_name}
use Rattle.jc_promises.specs.plan.PlannedNames.{fresh_package, own_name, constructor}
use Rattle.jc_promises.specs.plan.Planned.{an_interface, a_class, init_method, abstract_method}
use Rattle.jc_promises.specs.rule.Bases.{is_base_class, is_base_interface, is_key_of_method}
use Rattle.jc_promises.specs.rule.Selection.{first_kind, chain_kind, declares_abstract, concrete_choices, are_one, answers, is_due, is_answered}
use Rattle.jc_promises.specs.rule.Warnings.{is_base, interfaces_from, part, parts_agree, warn_kind, warning_at}
use Rattle.jc_facts.proofs.Same.{same_itself}
use Rattle.jc_facts.proofs.World.{find-name, IsOf}
use Rattle.jc_facts.proofs.Hierarchy.{any_each, each-all}
use Rattle.jc_lemmas.proofs.Bools.{contradicts}
use Rattle.jc_lemmas.proofs.Lists.{any_left}
use Rattle.jc_lemmas.proofs.Listed.{EachOf, EachOf-map, EachOf-append, each_in, any_passes, list_any-same, any_has, here}
use Rattle.jc_worlds.proofs.Above.{chain-each}
use Rattle.jc_worlds.proofs.Bare.{bare_interfaces}
use Rattle.jc_worlds.proofs.Clients.{Fits, find-client}
use Rattle.jc_worlds.proofs.Sides.{superinterfaces-side}
use Rattle.jc_worlds.proofs.Unrolled.{with_interfaces-unroll}
use Rattle.jc_sound.proofs.Reach.{declared_library}
use Rattle.jc_sound.proofs.ClientNames.{fits_old, fits_new}
use Rattle.jc_sound.proofs.Scope.{fits, scope_names, overrides_none}
use Rattle.jc_sound.proofs.Sound.{named_clients}
use Rattle.jc_sound.proofs.Standing.{IsUsable, usable_accessible}
use Rattle.jc_complete.specs.Completeness.{LinksWhole}
use Rattle.jc_complete.proofs.PlanBase.{OwnName, own_is, own_other, IsBase, base_parts, IsConstructor, constructor_is}
use Rattle.jc_complete.proofs.PlanGround.{Root, Planned, Ready, letter}
use Rattle.jc_complete.proofs.PlanInterfaceMethodLost.{same_back, IsBaseInterface, base_interface}
use Rattle.jc_complete.proofs.PlanInterfaces.{LibInterface, lib_with, each_with}
use Rattle.jc_complete.proofs.PlanActs.{seat_base}
use Rattle.jc_complete.proofs.PlanItems.{links_whole, ScopeOfPlan, scope_from, calls_above, below_root_loads}
use Rattle.jc_complete.proofs.PlanLoads.{TakesInterface, lib_find, lib_fault, client_loads, root_side, may_extend, may_implement, may_implement_client, shuts_none}
use Rattle.jc_complete.proofs.PlanLookups.{below_init}
use Rattle.jc_complete.proofs.PlanMeets.{chain_below, interfaces_below}
use Rattle.jc_complete.proofs.PlanMethodMadeFinal.{IsMethodText, method_text-is, abstract_valid, init_apart, plain_key}
use Rattle.jc_complete.proofs.PlanReady.{ready_of}
use Rattle.jc_complete.proofs.PlanSeats.{side_name, side_plain}
use Rattle.jc_complete.proofs.PlanUser.{not_root}
use Rattle.jc_complete.proofs.PlanValid.{plain_valid, with_init}
use Rattle.jc_selection.specs.Shown.{choices_among, super_below, named_below, kind_below, due_below, answered_below, can_stop, SomeClientStops, WarningsAreShown, KindsStop, NoOthersStop}
use Rattle.jc_selection.proofs.ChainKinds.{kind-abstract, abstract_offers}
use Rattle.jc_selection.proofs.Concrete.{chosen, chosen_among, one_by_owners}
use Rattle.jc_selection.proofs.Goods.{IsGood, goods_with, goods_super, are_of}
use Rattle.jc_selection.proofs.Parts.{is_offered, is_beside}
use Rattle.jc_facts.specs.world.Modules.{OfClients, same_module, module_of}

-- ---- what a class answers that declares nothing of the key, from the class above it, the interfaces of a base and those of its own

no_first : (b : Bool) → (b && false) ≡ false
no_first true = refl
no_first false = refl

-- these interfaces are beside no other, and their methods are abstract
pub record AddsNone (V : World) (k : Key) (js : List ClassFacts) : Type 0 where
  pub beside : (z : Bytes) → list_any (is_beside V k z) js ≡ false
  pub offered : (z : Bytes) → list_any (is_offered not k z) js ≡ false

module _ (W : World) (cs : List ClassFacts) (f : Fits W cs) (y : Bytes) (c : ClassFacts) (found : find_class (with_clients W cs) y ≡ Some c) (not_interface : interface_flag c.flags ≡ false) (k : Key) (not_own : own_method_of c k ≡ None)
    (above is js : List ClassFacts) (goods : EachOf (IsGood W) is) (chain_is : chain (with_clients W cs) y ≡ c ∷ above)
    (any_above : (p : ClassFacts → Bool) → list_any p (superinterfaces (with_clients W cs) y) ≡ (list_any p js || list_any p is)) where
  abbrev V : World
  V = with_clients W cs

  -- its chain has what those above it have
  kind_is : chain_kind V y k ≡ first_kind k above
  unfolding chain_kind first_kind
  kind_is =
      ap (λ b. cond b Nothing (first_kind k (chain V y))) (ap (some_and (λ (d : ClassFacts). interface_flag d.flags)) found ∙ not_interface)
      ∙ ap (first_kind k) chain_is
      ∙ ap (λ b. cond b (cond (declares_abstract k c) Abstract Concrete) (first_kind k above)) (ap (some_and is_inheritable) not_own)

  -- what is due to it
  pub due_is : is_due V y k ≡ (list_any (declares_abstract k) (above ++ is) || list_any (declares_abstract k) js)
  unfolding is_due
  due_is =
      list_any-append (declares_abstract k) (chain V y) (superinterfaces V y)
      ∙ ap (λ b. b || list_any (declares_abstract k) (superinterfaces V y)) (ap (list_any (declares_abstract k)) chain_is ∙ ap (λ o. some_and (λ (m : Member). abstract_flag m.flags) o || list_any (declares_abstract k) above) not_own)
      ∙ ap (λ b. list_any (declares_abstract k) above || b) (any_above (declares_abstract k))
      ∙ turn (list_any (declares_abstract k) above) (list_any (declares_abstract k) js) (list_any (declares_abstract k) is)
      ∙ ap (λ b. b || list_any (declares_abstract k) js) (sym (list_any-append (declares_abstract k) above is))
    where
      turn : (p q s : Bool) → (p || (q || s)) ≡ ((p || s) || q)
      turn true q s = refl
      turn false true true = refl
      turn false true false = refl
      turn false false true = refl
      turn false false false = refl

  module _ (adds : AddsNone V k js) where
    beside_same : (z : Bytes) → list_any (is_beside V k z) (superinterfaces V y) ≡ list_any (is_beside W k z) is
    beside_same z =
        any_above (is_beside V k z)
        ∙ ap (λ b. b || list_any (is_beside V k z) is) (adds.beside z)
        ∙ list_any-same (is_beside V k z) (is_beside W k z) is (EachOf-map step is goods)
      where
        step : (d : ClassFacts) → IsGood W d → is_beside V k z d ≡ is_beside W k z d
        step d g = ap (λ l. offers k d && not (same d.name z) && names_in l z) (sym (superinterfaces-side W cs f.bare f.unused d.name (declared_library W cs f d.name d g.found) g.loaded))

    offered_same : (z : Bytes) → list_any (is_offered not k z) (superinterfaces V y) ≡ list_any (is_offered not k z) is
    offered_same z = any_above (is_offered not k z) ∙ ap (λ b. b || list_any (is_offered not k z) is) (adds.offered z)

    owners_same : (z : Bytes) → list_any (λ (m : DeclaredMember). same m.owner z) (concrete_choices V y k) ≡ list_any (λ (m : DeclaredMember). same m.owner z) (choices_among W k is)
    owners_same z =
        chosen V y k z
        ∙ ap (λ b. not b && list_any (is_offered not k z) (superinterfaces V y)) (beside_same z)
        ∙ ap (λ b. not (list_any (is_beside W k z) is) && b) (offered_same z)
        ∙ sym (chosen_among W is k z)

    one_same : are_one (concrete_choices V y k) ≡ are_one (choices_among W k is)
    one_same = both_ways (are_one (concrete_choices V y k)) (are_one (choices_among W k is))
        (one_by_owners (concrete_choices V y k) (choices_among W k is) owners_same)
        (one_by_owners (choices_among W k is) (concrete_choices V y k) (λ z. sym (owners_same z)))

    -- it answers what those above it answer
    pub answered_is : is_answered V y k ≡ answers (first_kind k above) (are_one (choices_among W k is))
    unfolding is_answered
    answered_is = ap (λ t. answers t (are_one (concrete_choices V y k))) kind_is ∙ ap (answers (first_kind k above)) one_same

-- ---- the key's text

text_offered : (W : World) → ((x : Bytes) (c : ClassFacts) → find_class W x ≡ Some c → IsValidClass c) → (k : Key) (c : ClassFacts) → IsOf W c → offers k c ≡ true → IsMethodText k
text_offered W valid k c f o = go (own_method_of c k) refl o
  where
    go : (p : Option Member) → own_method_of c k ≡ p → some_and is_inheritable p ≡ true → IsMethodText k
    go None e h = absurd (cc)
    go (Some m) e h = method_text-is c k m (valid c.name c f) e (not-true (static_flag m.flags) (and_parts (not (static_flag m.flags)) (not (private_flag m.flags)) h).0)

-- of the first that has it
text_first : (W : World) → ((x : Bytes) (c : ClassFacts) → find_class W x ≡ Some c → IsValidClass c) → (k : Key) (cs : List ClassFacts) → EachOf (IsOf W) cs → first_kind k cs ≡ Concrete → IsMethodText k
unfolding first_kind
text_first W valid k [] h e = absurd (cc)
text_first W valid k (c ∷ cs) h e = go (offers k c) refl e (text_first W valid k cs h.1)
  where
    go : (b : Bool) → offers k c ≡ b → cond b (cond (declares_abstract k c) Abstract Concrete) (first_kind k cs) ≡ Concrete → (first_kind k cs ≡ Concrete → IsMethodText k) → IsMethodText k
    go true p q r = text_offered W valid k c h.0 p
    go false p q r = r q

module _ (W : World) (valid : (x : Bytes) (c : ClassFacts) → find_class W x ≡ Some c → IsValidClass c) (k : Key) (above is : List ClassFacts) (in_chain_of : EachOf (IsOf W) above) (in_above : EachOf (IsOf W) is) where
  pub text_answered : answers (first_kind k above) (are_one (choices_among W k is)) ≡ true → IsMethodText k
  text_answered h = go (first_kind k above) refl h
    where
      one : (ms : List DeclaredMember) → choices_among W k is ≡ ms → are_one ms ≡ true → IsMethodText k
      one [] e q = absurd (cc)
      one (m ∷ ms) e q =
          let s : list_any (λ (o : DeclaredMember). same o.owner m.owner) (choices_among W k is) ≡ true = ap (list_any (λ (o : DeclaredMember). same o.owner m.owner)) e ∙ any_has (λ (o : DeclaredMember). same o.owner m.owner) (m ∷ ms) m (here m ms) (same_itself m.owner) in
          let t = (and_parts (not (list_any (is_beside W k m.owner) is)) (list_any (is_offered not k m.owner) is) (sym (chosen_among W is k m.owner) ∙ s)).1 in
          let p = any_passes (is_offered not k m.owner) is t in
          text_offered W valid k p.one (each_in (IsOf W) is p.one in_above p.is_in) (and_parts (offers k p.one) (same p.one.name m.owner) (and_parts (offers k p.one && same p.one.name m.owner) (not (declares_abstract k p.one)) p.passes).0).0

      go : (t : ChainKind) → first_kind k above ≡ t → answers t (are_one (choices_among W k is)) ≡ true → IsMethodText k
      go Concrete e q = text_first W valid k above in_chain_of e
      go Abstract e q = absurd (cc)
      go Nothing e q = one (choices_among W k is) refl q

  pub text_due : is_key_of_method k ≡ true → list_any (declares_abstract k) (above ++ is) ≡ true → IsMethodText k
  text_due mk h =
      let p = any_passes (declares_abstract k) (above ++ is) h in
      let o : IsOf W p.one = each_in (IsOf W) (above ++ is) p.one (EachOf-append (IsOf W) above is in_chain_of in_above) p.is_in in
      text_offered W valid k p.one o (abstract_offers p.one k (valid p.one.name p.one o) mk p.passes)

-- ---- the clients

-- an interface of the side that a class of this name may implement
pub record MayImplement (W : World) (y i : Bytes) : Type 0 where
  pub usable : IsUsable W i
  pub kind : interface_flag usable.class.flags ≡ true
  pub included : excludes W usable.class OfClients ≡ false
  pub sealed : (e : ClassFacts) → e.name ≡ y → public_flag e.flags ≡ true → sealed_by e usable.class.name usable.class.permits ≡ false

-- a class of this name may stand below that of a side, and implement these interfaces
pub record MayStand (W : World) (s : Bytes) (v : IsUsable W s) (bs : List Bytes) (y : Bytes) : Type 0 where
  pub kind : interface_flag v.class.flags ≡ false
  pub extensible : final_flag v.class.flags ≡ false
  pub allowed : is_allowed_name W y ≡ true
  pub included : excludes W v.class OfClients ≡ false
  pub sealed : (e : ClassFacts) → e.name ≡ y → public_flag e.flags ≡ true → sealed_by e v.class.name v.class.permits ≡ false
  pub bases : EachOf (MayImplement W y) bs

-- the interfaces that stand above it so, and their superinterfaces
abbrev pub part_of : World → Bytes → List Bytes → List ClassFacts
part_of W s bs = each (with_interfaces W) bs ++ superinterfaces W s

module _ (root : ClassFacts) (is_root : Root root) (w : Bytes) (W : World) (p : Planned root w W) (s : Bytes) (v : IsUsable W s) (bs : List Bytes) (y : Bytes) (m : MayStand W s v bs y) where
  pub goods_of : EachOf (IsGood W) (part_of W s bs)
  goods_of = EachOf-append (IsGood W) (each (with_interfaces W) bs) (superinterfaces W s)
      (each-all (IsGood W) (with_interfaces W) bs (EachOf-map (λ i (u : MayImplement W y i). goods_with W root p.there is_root.superclass is_root.interfaces is_root.class p.valid i u.usable.class u.usable.is_there u.usable.loaded u.kind) bs m.bases))
      (goods_super W root p.there is_root.superclass is_root.interfaces is_root.class p.valid s v.loaded)

  pub chain_of : EachOf (IsOf W) (chain W s)
  chain_of = chain-each W (IsOf W) (λ x c e l. ap (find_class W) (find-name W x c e) ∙ e) s v.loaded

module _ (O N : World) (w : Bytes) (r : Ready O N w) (s : Bytes) (b : IsBase O N s) (bs : List Bytes) (y : Bytes) (y_named : is_valid_name y ≡ true) (yj : same y (letter w 74) ≡ false)
    (mo : MayStand O s b.was bs y) (mn : MayStand N s b.now bs y) (k : Key) (mk : is_key_of_method k ≡ true) (text : IsMethodText k) where
  abbrev j : Bytes
  j = letter w 74

  abbrev J : ClientClass
  J = an_interface j [] (abstract_method k ∷ [])

  -- Y implements J too, or doesn't
  abbrev named : Bool → List Bytes
  named t = cond t (j ∷ []) []

  abbrev Y : Bool → ClientClass
  Y t = a_class y 0x0021 s (constructor O s) (bs ++ named t) [] [] []

  named_j : (t : Bool) → class_named (J.facts ∷ (Y t).facts ∷ []) j ≡ Some J.facts
  unfolding class_named
  named_j t = rw (same_itself j) refl

  named_y : (t : Bool) → class_named (J.facts ∷ (Y t).facts ∷ []) y ≡ Some (Y t).facts
  unfolding class_named
  named_y t = rw (same_back y j yj, same_itself y) refl

  valid_J : IsValidClient J
  valid_J = record {
    facts = plain_valid j 0x0601 object_name [] [] (abstract_method k ∷ []) [] (record {
      named = r.name 74 refl;
      other = not_root O r.root j r.old.there (r.old.free 74 refl);
      good = refl;
      super = refl;
      of_interface = refl;
      names = refl;
      differ = refl;
      distinct = refl;
      field = λ c e. refl;
      method = λ c e m. rw (abstract_valid c k m mk text) refl;
    });
    items = refl;
  }

  names_fit : (t : Bool) → list_all is_valid_name (named t) ≡ true
  names_fit true = rw (r.name 74 refl) refl
  names_fit false = refl

  bases_fit : (is : List Bytes) → EachOf (MayImplement O y) is → list_all is_valid_name is ≡ true
  bases_fit [] h = refl
  bases_fit (i ∷ is) h = and_from (is_valid_name i) (list_all is_valid_name is) (side_name r.root w O r.old i h.0.usable.class h.0.usable.is_there) (bases_fit is h.1)

  valid_Y : (t : Bool) → IsValidClient (Y t)
  valid_Y t = record {
    facts = plain_valid y 0x0021 s (bs ++ named t) [] (init_method ∷ []) (item.Init s (constructor O s) ∷ []) (record {
      named = y_named;
      other = not_root O r.root y r.old.there mo.allowed;
      good = refl;
      super = side_name r.root w O r.old s b.was.class b.was.is_there;
      of_interface = refl;
      names = list_all-append is_valid_name bs (named t) ∙ and_from (list_all is_valid_name bs) (list_all is_valid_name (named t)) (bases_fit bs mo.bases) (names_fit t);
      differ = refl;
      distinct = refl;
      field = λ c e. refl;
      method = λ c e m. with_init c (ap interface_flag e);
    });
    items = and_from (same s y || same s s) true (or_right (same s y) (same s s) (same_itself s)) refl;
  }

  ctor : IsConstructor b.was.class (constructor O s)
  ctor = constructor_is O r.root r.is_root r.old.there s b.was.class b.was.is_there (r.old.valid s b.was.class b.was.is_there) b.has

  not_own : (t : Bool) → own_method_of (Y t).facts k ≡ None
  not_own t = rw (init_apart k (plain_key k mk).0) refl

  mine : own_method_of J.facts k ≡ Some (abstract_method k)
  mine = rw (same_itself k.name, same_itself k.descriptor) refl

  -- ---- one side

  module _ (W : World) (p : Planned r.root w W) (v : IsUsable W s) (m : MayStand W s v bs y) (t : Bool) where
    abbrev cs : List ClassFacts
    cs = J.facts ∷ (Y t).facts ∷ []

    abbrev VS : World
    VS = with_clients W (J.facts ∷ (Y t).facts ∷ [])

    f : Fits W (J.facts ∷ (Y t).facts ∷ [])
    f = fits W (J ∷ Y t ∷ []) p.bare (p.free 74 refl, (m.allowed, tt))

    loads_j : load_fault VS j ≡ None
    loads_j = below_root_loads W cs f r.root r.is_root w p j J.facts (named_j t) refl refl refl

    find_j : find_class VS j ≡ Some J.facts
    find_j = find-client W cs f j J.facts (named_j t)

    find_y : find_class VS y ≡ Some (Y t).facts
    find_y = find-client W cs f y (Y t).facts (named_y t)

    takes_own : (u : Bool) → EachOf (TakesInterface W cs f (Y t).facts) (named u)
    takes_own true = (record { class = J.facts; is_there = find_j; loaded = loads_j; taken = may_implement_client W cs f (Y t).facts j J.facts (named_j t) refl refl refl }, tt)
    takes_own false = tt

    takes_base : (i : Bytes) → MayImplement W y i → TakesInterface W cs f (Y t).facts i
    takes_base i u = record {
      class = u.usable.class;
      is_there = lib_find W cs f i u.usable.class u.usable.is_there;
      loaded = lib_fault W cs f i u.usable.class u.usable.is_there ∙ u.usable.loaded;
      taken = may_implement W cs f y (Y t).facts (named_y t) i u.usable u.kind u.included (u.sealed (Y t).facts refl refl);
    }

    takes : EachOf (TakesInterface W cs f (Y t).facts) (bs ++ named t)
    takes = EachOf-append (TakesInterface W cs f (Y t).facts) bs (named t) (EachOf-map takes_base bs m.bases) (takes_own t)

    up : load_fault VS s ≡ None
    up = lib_fault W cs f s v.class v.is_there ∙ v.loaded

    loads_y : load_fault VS y ≡ None
    loads_y = client_loads W cs f y (Y t).facts s v.class (named_y t) refl (lib_find W cs f s v.class v.is_there) up
        (may_extend W cs f y (Y t).facts (named_y t) s v m.kind m.extensible m.included (m.sealed (Y t).facts refl refl)) takes (rw (overrides_none y (chain VS s) (init_method ∷ []) (refl, tt)) refl)

    abbrev js : Bool → List ClassFacts
    js u = cond u (J.facts ∷ []) []

    base_with : (i : Bytes) → MayImplement W y i → with_interfaces VS i ≡ with_interfaces W i
    base_with i u = lib_with W cs f i (record { class = u.usable.class; is_there = u.usable.is_there; loaded = u.usable.loaded; interface = u.kind })

    own_any : (q : ClassFacts → Bool) (u : Bool) → list_any (λ x. list_any q (with_interfaces VS x)) (named u) ≡ list_any q (js u)
    unfolding each
    own_any q true = or-false (list_any q (with_interfaces VS j)) ∙ ap (list_any q) (with_interfaces-unroll VS j J.facts find_j loads_j)
    own_any q false = refl

    above_y : (q : ClassFacts → Bool) → list_any q (superinterfaces VS y) ≡ (list_any q (js t) || list_any q (part_of W s bs))
    above_y q =
        ap (list_any q) (interfaces_below W cs f y (Y t).facts s v.class (named_y t) refl v.is_there v.loaded loads_y)
        ∙ list_any-append q (each (with_interfaces VS) (bs ++ named t)) (superinterfaces W s)
        ∙ ap (λ c. c || list_any q (superinterfaces W s))
        (any_each q (with_interfaces VS) (bs ++ named t) ∙ list_any-append (λ x. list_any q (with_interfaces VS x)) bs (named t)
        ∙ ap (λ c. c || list_any (λ x. list_any q (with_interfaces VS x)) (named t)) (list_any-same (λ x. list_any q (with_interfaces VS x)) (λ x. list_any q (with_interfaces W x)) bs (EachOf-map (λ i u. ap (list_any q) (base_with i u)) bs m.bases) ∙ sym (any_each q (with_interfaces W) bs))
        ∙ ap (λ c. list_any q (each (with_interfaces W) bs) || c) (own_any q t))
        ∙ turn (list_any q (each (with_interfaces W) bs)) (list_any q (js t)) (list_any q (superinterfaces W s))
        ∙ ap (λ c. list_any q (js t) || c) (sym (list_any-append q (each (with_interfaces W) bs) (superinterfaces W s)))
      where
        turn : (c d e : Bool) → ((c || d) || e) ≡ (d || (c || e))
        turn true true e = refl
        turn true false e = refl
        turn false true e = refl
        turn false false e = refl

    chain_y : chain VS y ≡ (Y t).facts ∷ chain W s
    chain_y = chain_below W cs f y (Y t).facts s v.class (named_y t) refl v.is_there v.loaded loads_y

    -- no interface stands above J
    none_above : superinterfaces VS j ≡ []
    unfolding each
    none_above = interfaces_below W cs f j J.facts object_name r.root (named_j t) refl p.there (root_side W cs f r.root r.is_root w p) loads_j ∙ bare_interfaces W object_name r.root p.there r.is_root.superclass r.is_root.interfaces

    adds : (u : Bool) → AddsNone VS k (js u)
    adds false = record { beside = λ z. refl; offered = λ z. refl }
    adds true = record {
      beside = λ z. ap (λ l. (offers k J.facts && not (same j z) && names_in l z) || false) none_above ∙ ap (λ c. c || false) (no_first (offers k J.facts && not (same j z)));
      offered = λ z. ap (λ o. (offers k J.facts && same j z && not (some_and (λ (m : Member). abstract_flag m.flags) o)) || false) mine ∙ ap (λ c. c || false) (no_first (offers k J.facts && same j z));
    }

    abbrev goods_y : EachOf (IsGood W) (part_of W s bs)
    goods_y = goods_of r.root r.is_root w W p s v bs y m

    answers_same : is_answered VS y k ≡ answers (first_kind k (chain W s)) (are_one (choices_among W k (part_of W s bs)))
    answers_same = answered_is W cs f y (Y t).facts find_y refl k (not_own t) (chain W s) (part_of W s bs) (js t) goods_y chain_y above_y (adds t)

    due_j : (u : Bool) → list_any (declares_abstract k) (js u) ≡ u
    due_j true = ap (λ o. some_and (λ (m : Member). abstract_flag m.flags) o || false) mine
    due_j false = refl

    due_y : is_due VS y k ≡ (list_any (declares_abstract k) (chain W s ++ part_of W s bs) || t)
    due_y = due_is W cs f y (Y t).facts find_y refl k (not_own t) (chain W s) (part_of W s bs) (js t) goods_y chain_y above_y ∙ ap (λ c. list_any (declares_abstract k) (chain W s ++ part_of W s bs) || c) (due_j t)

  -- ---- both

  abbrev Due : World → Bool
  Due W = list_any (declares_abstract k) (chain W s ++ part_of W s bs)

  abbrev Answered : World → Bool
  Answered W = answers (first_kind k (chain W s)) (are_one (choices_among W k (part_of W s bs)))

  module _ (x : Bytes) (t : Bool) (below : (some_and (same x) (Y t).facts.superclass || is_name_among (Y t).facts.interfaces x) ≡ true) where
    abbrev VO : World
    VO = with_clients O (J.facts ∷ (Y t).facts ∷ [])

    fo : Fits O (J.facts ∷ (Y t).facts ∷ [])
    fo = f O r.old b.was mo t

    y_o : load_fault VO y ≡ None
    y_o = loads_y O r.old b.was mo t

    init_y : outcome VO y (item.Init s (constructor O s)) ≡ None
    init_y = below_init O (J.facts ∷ (Y t).facts ∷ []) fo y (Y t).facts s b.was.class (named_y t) refl b.was.is_there b.was.loaded y_o mo.allowed (side_plain r.root w O r.old s b.was.class b.was.is_there) (usable_accessible O s b.was y) b.class_o (constructor O s) ctor

    scope : ScopeOfPlan O N (J ∷ Y t ∷ [])
    unfolding differ_by_name class_named
    scope = scope_from O N (J ∷ Y t ∷ []) r.old.bare (valid_J, (valid_Y t, tt)) (rw yj refl) (r.old.free 74 refl, (mo.allowed, tt)) (r.new.free 74 refl, (mn.allowed, tt))
        (inl refl, (calls_above VO y 0x0021 s (constructor O s) (bs ++ named t) [] [] [] y_o init_y, tt))

    pub stops : (((Due O || t) ≡ true) → Answered O ≡ true) → (Due N || t) ≡ true → Answered N ≡ false → SomeClientStops O N x k
    stops answered due unanswered = record {
      clients = J ∷ Y t ∷ [];
      in_scope = scope.0;
      allowed_names = scope.1;
      links = All-from_recursion (LinksWhole VO (J ∷ Y t ∷ [])) (J ∷ Y t ∷ []) (links_whole VO (J ∷ Y t ∷ []) J (loads_j O r.old b.was mo t) tt, (links_whole VO (J ∷ Y t ∷ []) (Y t) y_o ((refl, init_y), tt), tt));
      client = Y t;
      below = below;
      declares_none = not_own t;
      stops = record {
        is_in = Contains-append_right (J ∷ []) (Y t ∷ []) (Y t) (Contains-push [] (Y t));
        class = refl;
        loads_old = y_o;
        loads_new = loads_y N r.new b.now mn t;
        answered = λ d. answers_same O r.old b.was mo t ∙ answered (sym (due_y O r.old b.was mo t) ∙ d);
        due = due_y N r.new b.now mn t ∙ due;
        unanswered = answers_same N r.new b.now mn t ∙ unanswered;
      };
    }

-- ---- below a base

last : (c : Bool) → (c || false) ≡ true → c ≡ true
last true e = refl
last false e = e

-- what the definitions say of a base is what such a class has above it
pub record IsPart (W : World) (x s : Bytes) (bs : List Bytes) (k : Key) : Type 0 where
  pub due : due_below W x k ≡ list_any (declares_abstract k) (chain W s ++ part_of W s bs)
  pub answered : answered_below W x k ≡ answers (first_kind k (chain W s)) (are_one (choices_among W k (part_of W s bs)))

-- ---- what the definitions say of a base

class_part : (W : World) (x : Bytes) (k : Key) → is_interface_of W x ≡ false → IsPart W x x [] k
unfolding due_below answered_below interfaces_from each
class_part W x k e = record {
  due = ap (λ c. list_any (declares_abstract k) (chain W (cond c object_name x) ++ cond c (with_interfaces W x) (superinterfaces W x))) e;
  answered = ap (λ c. answers (first_kind k (chain W (cond c object_name x))) (are_one (choices_among W k (cond c (with_interfaces W x) (superinterfaces W x))))) e;
}

interface_part : (W : World) (x : Bytes) (k : Key) → is_interface_of W x ≡ true → superinterfaces W object_name ≡ [] → IsPart W x object_name (x ∷ []) k
unfolding due_below answered_below interfaces_from each
interface_part W x k e bare = record {
  due = ap (λ c. list_any (declares_abstract k) (chain W (cond c object_name x) ++ cond c (with_interfaces W x) (superinterfaces W x))) e ∙ ap (λ is. list_any (declares_abstract k) (chain W object_name ++ is)) same_list;
  answered = ap (λ c. answers (first_kind k (chain W (cond c object_name x))) (are_one (choices_among W k (cond c (with_interfaces W x) (superinterfaces W x))))) e ∙ ap (λ is. answers (first_kind k (chain W object_name)) (are_one (choices_among W k is))) same_list;
}
  where
    same_list : with_interfaces W x ≡ (with_interfaces W x ++ []) ++ superinterfaces W object_name
    same_list = sym (append-nil (with_interfaces W x)) ∙ sym (append-nil (with_interfaces W x ++ [])) ∙ ap (λ is. (with_interfaces W x ++ []) ++ is) (sym bare)

-- a base, as classes of clients stand below it on both sides
pub record StandsOn (O N : World) (w x : Bytes) (k : Key) : Type 0 where
  pub super : Bytes
  pub class : IsBase O N super
  pub interfaces : List Bytes
  pub name : Bytes
  pub is_name : is_valid_name name ≡ true
  pub other : same name (letter w 74) ≡ false
  pub old : MayStand O super class.was interfaces name
  pub new : MayStand N super class.now interfaces name
  pub below : (some_and (same x) (Some super) || is_name_among interfaces x) ≡ true
  pub super_is : super_below O x ≡ super
  pub named_is : named_below O x ≡ interfaces
  pub part_old : IsPart O x super interfaces k
  pub part_new : IsPart N x super interfaces k

module _ (O N : World) (w : Bytes) (r : Ready O N w) (k : Key) where
  -- a class
  of_class : (x : Bytes) → IsBase O N x → StandsOn O N w x k
  of_class x b = record {
    super = x;
    class = b;
    interfaces = [];
    name = own_name O N (letter w 89) x;
    is_name = own.old.named;
    other = own_other O N w r x b.was.class b.was.is_there 89 refl 74 refl refl;
    old = record { kind = b.class_o; extensible = b.not_final_o; allowed = own.old.allowed_o; included = own.old.takes_o; sealed = own.old.sealed_o; bases = tt };
    new = record { kind = b.class_n; extensible = b.not_final_n; allowed = own.old.allowed_n; included = own.takes_n; sealed = own.sealed_n; bases = tt };
    below = or_left (same x x) false (same_itself x);
    super_is = ap (λ c. cond c object_name x) kind_o;
    named_is = ap (λ c. cond c (x ∷ []) []) kind_o;
    part_old = part O kind_o;
    part_new = part N (ap (some_and (λ (d : ClassFacts). interface_flag d.flags)) b.now.is_there ∙ b.class_n);
  }
    where
      own : OwnName O N b.was.class b.now.class (own_name O N (letter w 89) x)
      own = own_is O N w r x b.was.class b.now.class b.was.is_there b.now.is_there b.opens b.leaves 89 refl

      kind_o : is_interface_of O x ≡ false
      kind_o = ap (some_and (λ (d : ClassFacts). interface_flag d.flags)) b.was.is_there ∙ b.class_o

      part : (W : World) → is_interface_of W x ≡ false → IsPart W x x [] k
      part W e = class_part W x k e

  -- an interface
  of_interface : (x : Bytes) → IsBaseInterface O N x → StandsOn O N w x k
  of_interface x b = record {
    super = object_name;
    class = root;
    interfaces = x ∷ [];
    name = own_name O N (letter w 89) x;
    is_name = own.old.named;
    other = own_other O N w r x b.was.class b.was.is_there 89 refl 74 refl refl;
    old = record {
      kind = root.class_o;
      extensible = root.not_final_o;
      allowed = own.old.allowed_o;
      included = open_root O root.was (rooted O r.old root.was);
      sealed = λ e n p. ap (λ q. sealed_by e root.was.class.name q) (rooted O r.old root.was);
      bases = (record { usable = b.was; kind = b.kind_o; included = own.old.takes_o; sealed = own.old.sealed_o }, tt);
    };
    new = record {
      kind = root.class_n;
      extensible = root.not_final_n;
      allowed = own.old.allowed_n;
      included = open_root N root.now (rooted N r.new root.now);
      sealed = λ e n p. ap (λ q. sealed_by e root.now.class.name q) (rooted N r.new root.now);
      bases = (record { usable = b.now; kind = b.kind_n; included = own.takes_n; sealed = own.sealed_n }, tt);
    };
    below = or_right (same x object_name) (same x x || false) (or_left (same x x) false (same_itself x));
    super_is = ap (λ c. cond c object_name x) kind_o;
    named_is = ap (λ c. cond c (x ∷ []) []) kind_o;
    part_old = interface_part O x k kind_o (bare_interfaces O object_name r.root r.old.there r.is_root.superclass r.is_root.interfaces);
    part_new = interface_part N x k (ap (some_and (λ (d : ClassFacts). interface_flag d.flags)) b.now.is_there ∙ b.kind_n) (bare_interfaces N object_name r.root r.new.there r.is_root.superclass r.is_root.interfaces);
  }
    where
      own : OwnName O N b.was.class b.now.class (own_name O N (letter w 89) x)
      own = own_is O N w r x b.was.class b.now.class b.was.is_there b.now.is_there b.opens b.leaves 89 refl

      kind_o : is_interface_of O x ≡ true
      kind_o = ap (some_and (λ (d : ClassFacts). interface_flag d.flags)) b.was.is_there ∙ b.kind_o

      root : IsBase O N object_name
      root = seat_base O N w r object_name (inl refl)

      rooted : (W : World) → Planned r.root w W → (u : IsUsable W object_name) → u.class.permits ≡ None
      rooted W p u = let z : Some u.class ≡ Some r.root = sym u.is_there ∙ p.there in let q : u.class ≡ r.root = cc in ap (λ (c : ClassFacts). c.permits) q ∙ r.is_root.permits

      open_root : (W : World) (u : IsUsable W object_name) → u.class.permits ≡ None → excludes W u.class OfClients ≡ false
      open_root W u e = shuts_none (same_module OfClients (module_of W u.class.name)) u.class.permits e

  stands_on : (x : Bytes) → is_base O N x ≡ true → StandsOn O N w x k
  stands_on x h = go (or_cases (is_base_class O N x) (is_base_interface O N x) h)
    where
      go : (is_base_class O N x ≡ true) ⊎ (is_base_interface O N x ≡ true) → StandsOn O N w x k
      go (inl p) = of_class x (base_parts O N x p)
      go (inr p) = of_interface x (base_interface O N x p)

-- ---- the laws

pub shown : WarningsAreShown
unfolding warning_at
shown O N can x stands h = go (or_cases (answered_below O a k) (not (due_below O a k) && due_below N a k) p.1)
  where
    a : Bytes
    a = x.«class»

    k : Key
    k = x.key

    w : Bytes
    w = fresh_package O N

    r : Ready O N (fresh_package O N)
    r = ready_of O N can

    p : (not (answered_below N a k) ≡ true) × ((answered_below O a k || (not (due_below O a k) && due_below N a k)) ≡ true)
    p = and_parts (not (answered_below N a k)) (answered_below O a k || (not (due_below O a k) && due_below N a k)) h

    warned : (is_key_of_method k && is_base O N a) ≡ true
    warned = by (is_key_of_method k && is_base O N a) refl stands
      where
        by : (c : Bool) → (is_key_of_method k && is_base O N a) ≡ c → cond c (warn_kind (chain_kind O a k) (chain_kind N a k) (not (parts_agree O N k (part O a k) (part N a k)))) None ≡ Some x.kind → (is_key_of_method k && is_base O N a) ≡ true
        by true e q = e
        by false e q = absurd (cc)

    mk : is_key_of_method k ≡ true
    mk = (and_parts (is_key_of_method k) (is_base O N a) warned).0

    st : StandsOn O N (fresh_package O N) x.«class» x.key
    st = stands_on O N (fresh_package O N) r k a (and_parts (is_key_of_method k) (is_base O N a) warned).1

    unanswered : answers (first_kind k (chain N st.super)) (are_one (choices_among N k (part_of N st.super st.interfaces))) ≡ false
    unanswered = sym st.part_new.answered ∙ not-true (answered_below N a k) p.0

    made : (t : Bool) → IsMethodText k → ((list_any (declares_abstract k) (chain O st.super ++ part_of O st.super st.interfaces) || t) ≡ true → answers (first_kind k (chain O st.super)) (are_one (choices_among O k (part_of O st.super st.interfaces))) ≡ true)
        → (list_any (declares_abstract k) (chain N st.super ++ part_of N st.super st.interfaces) || t) ≡ true → SomeClientStops O N a k
    made t text q d = stops O N w r st.super st.class st.interfaces st.name st.is_name st.other st.old st.new k mk text a t (wider (same a st.super) (is_name_among st.interfaces a) (is_name_among (st.interfaces ++ cond t (letter w 74 ∷ []) []) a) (any_left (λ n. same n a) st.interfaces (cond t (letter w 74 ∷ []) [])) st.below) q d unanswered
      where
        wider : (c e g : Bool) → (e ≡ true → g ≡ true) → (c || e) ≡ true → (c || g) ≡ true
        wider true e g i u = refl
        wider false e g i u = i u

    go : (answered_below O a k ≡ true) ⊎ ((not (due_below O a k) && due_below N a k) ≡ true) → SomeClientStops O N a k
    go (inl e) =
        let q = sym st.part_old.answered ∙ e in
        made true (text_answered O r.old.valid k (chain O st.super) (part_of O st.super st.interfaces) (chain_of r.root r.is_root w O r.old st.super st.class.was st.interfaces st.name st.old)
        (are_of O (part_of O st.super st.interfaces) (goods_of r.root r.is_root w O r.old st.super st.class.was st.interfaces st.name st.old)) q) (λ d. q)
        (or_right (list_any (declares_abstract k) (chain N st.super ++ part_of N st.super st.interfaces)) true refl)
    go (inr e) =
        let q = and_parts (not (due_below O a k)) (due_below N a k) e in
        let d = sym st.part_new.due ∙ q.1 in
        made false (text_due N r.new.valid k (chain N st.super) (part_of N st.super st.interfaces) (chain_of r.root r.is_root w N r.new st.super st.class.now st.interfaces st.name st.new)
        (are_of N (part_of N st.super st.interfaces) (goods_of r.root r.is_root w N r.new st.super st.class.now st.interfaces st.name st.new)) mk d)
        (λ u. absurd (contradicts (due_below O a k) (st.part_old.due ∙ last (list_any (declares_abstract k) (chain O st.super ++ part_of O st.super st.interfaces)) u) (not-true (due_below O a k) q.0)))
        (or_left (list_any (declares_abstract k) (chain N st.super ++ part_of N st.super st.interfaces)) false d)

-- ---- kind by kind

lost_is : (p q : ChainKind) (d : Bool) → warn_kind p q d ≡ Some warn.Lost → p ≡ Concrete
lost_is Concrete q d h = refl
lost_is Nothing Nothing true h = absurd (let clash : Some warn.Defaults ≡ Some warn.Lost = h in cc)
lost_is Nothing Nothing false h = absurd (cc)
lost_is Nothing Abstract d h = absurd (let clash : Some warn.Abstract ≡ Some warn.Lost = h in cc)
lost_is Nothing Concrete d h = absurd (cc)
lost_is Abstract Nothing d h = absurd (cc)
lost_is Abstract Abstract d h = absurd (cc)
lost_is Abstract Concrete d h = absurd (cc)

lost_not : (p q : ChainKind) (d : Bool) → warn_kind p q d ≡ Some warn.Lost → q ≡ Concrete → ⊥
lost_not Concrete Concrete d h e = cc
lost_not Nothing Concrete d h e = cc
lost_not Abstract Concrete d h e = cc
lost_not p Nothing d h e = cc
lost_not p Abstract d h e = cc

abstract_is : (p q : ChainKind) (d : Bool) → warn_kind p q d ≡ Some warn.Abstract → q ≡ Abstract
abstract_is Nothing Abstract d h = refl
abstract_is Concrete Concrete d h = absurd (cc)
abstract_is Concrete Nothing d h = absurd (let clash : Some warn.Lost ≡ Some warn.Abstract = h in cc)
abstract_is Concrete Abstract d h = absurd (let clash : Some warn.Lost ≡ Some warn.Abstract = h in cc)
abstract_is Nothing Nothing true h = absurd (let clash : Some warn.Defaults ≡ Some warn.Abstract = h in cc)
abstract_is Nothing Nothing false h = absurd (cc)
abstract_is Nothing Concrete d h = absurd (cc)
abstract_is Abstract Nothing d h = absurd (cc)
abstract_is Abstract Abstract d h = absurd (cc)
abstract_is Abstract Concrete d h = absurd (cc)

defaults_is : (p q : ChainKind) (d : Bool) → warn_kind p q d ≡ Some warn.Defaults → (p ≡ Nothing) × (q ≡ Nothing)
defaults_is Nothing Nothing d h = (refl, refl)
defaults_is Concrete Concrete d h = absurd (cc)
defaults_is Concrete Nothing d h = absurd (let clash : Some warn.Lost ≡ Some warn.Defaults = h in cc)
defaults_is Concrete Abstract d h = absurd (let clash : Some warn.Lost ≡ Some warn.Defaults = h in cc)
defaults_is Nothing Abstract d h = absurd (let clash : Some warn.Abstract ≡ Some warn.Defaults = h in cc)
defaults_is Nothing Concrete d h = absurd (cc)
defaults_is Abstract Nothing d h = absurd (cc)
defaults_is Abstract Abstract d h = absurd (cc)
defaults_is Abstract Concrete d h = absurd (cc)

-- a base whose chain has anything is a class, and the chain of a class below has it too
chain_below_is : (W : World) (a : Bytes) (k : Key) (t : ChainKind) → (Nothing ≡ t → ⊥) → chain_kind W a k ≡ t → (is_interface_of W a ≡ false) × (kind_below W a k ≡ t)
unfolding chain_kind
chain_below_is W a k t apart e = go (is_interface_of W a) refl e
  where
    go : (b : Bool) → is_interface_of W a ≡ b → cond b Nothing (first_kind k (chain W a)) ≡ t → (b ≡ false) × (first_kind k (chain W (cond b object_name a)) ≡ t)
    go true q h = absurd (apart h)
    go false q h = (refl, h)

-- a chain that has an abstract method makes the key due
abstract_due : (W : World) (a : Bytes) (k : Key) → kind_below W a k ≡ Abstract → due_below W a k ≡ true
unfolding due_below
abstract_due W a k h = any_left (declares_abstract k) (chain W (super_below W a)) (interfaces_from W a) (kind-abstract k (chain W (super_below W a)) h)

answered_by : (W : World) (a : Bytes) (k : Key) (t : ChainKind) → kind_below W a k ≡ t → answered_below W a k ≡ answers t (are_one (choices_among W k (interfaces_from W a)))
unfolding answered_below
answered_by W a k t e = ap (λ t. answers t (are_one (choices_among W k (interfaces_from W a)))) e

stops_by : (n o d m : Bool) → n ≡ false → o ≡ true → (not n && (o || (not d && m))) ≡ true
stops_by false true d m e f = refl
stops_by true o d m e f = absurd (cc)
stops_by false false d m e f = absurd (cc)

starts_by : (n o d m : Bool) → n ≡ false → m ≡ true → (d ≡ true → o ≡ true) → (not n && (o || (not d && m))) ≡ true
starts_by true o d m e f h = absurd (cc)
starts_by false true d m e f h = refl
starts_by false false false m e f h = f
starts_by false false true m e f h = absurd (let z : false ≡ true = h refl in cc)

pub kinds_stop : KindsStop
unfolding warning_at
kinds_stop O N x stands = record {
  was_answered = was_answered;
  is_lost = λ e. lost_not (chain_kind O a k) (chain_kind N a k) differ (kind e);
  lost = λ e n. stops_by (answered_below N a k) (answered_below O a k) (due_below O a k) (due_below N a k) n (was_answered e);
  lost_to_abstract = λ e n. stops_by (answered_below N a k) (answered_below O a k) (due_below O a k) (due_below N a k) (answered_by N a k Abstract n) (was_answered e);
  is_due = λ e. abstract_due N a k (now_abstract e);
  is_unanswered = λ e. answered_by N a k Abstract (now_abstract e);
  abstract = λ e h. starts_by (answered_below N a k) (answered_below O a k) (due_below O a k) (due_below N a k) (answered_by N a k Abstract (now_abstract e)) (abstract_due N a k (now_abstract e)) h;
  has_nothing = λ e. defaults_is (chain_kind O a k) (chain_kind N a k) differ (kind e);
  defaults = λ e o n p q. stops_by (answered_below N a k) (answered_below O a k) (due_below O a k) (due_below N a k) (answered_by N a k Nothing n ∙ q) (answered_by O a k Nothing o ∙ p);
}
  where
    a : Bytes
    a = x.«class»

    k : Key
    k = x.key

    differ : Bool
    differ = not (parts_agree O N k (part O a k) (part N a k))

    kind : {e : WarnKind} → x.kind ≡ e → warn_kind (chain_kind O a k) (chain_kind N a k) differ ≡ Some e
    kind q = by (is_key_of_method k && is_base O N a) stands ∙ ap Some q
      where
        by : (c : Bool) → cond c (warn_kind (chain_kind O a k) (chain_kind N a k) differ) None ≡ Some x.kind → warn_kind (chain_kind O a k) (chain_kind N a k) differ ≡ Some x.kind
        by true q = q
        by false q = absurd (cc)

    now_abstract : x.kind ≡ warn.Abstract → kind_below N a k ≡ Abstract
    now_abstract e = (chain_below_is N a k Abstract (λ c. cc) (abstract_is (chain_kind O a k) (chain_kind N a k) differ (kind e))).1

    was_answered : x.kind ≡ warn.Lost → answered_below O a k ≡ true
    was_answered e = answered_by O a k Concrete (chain_below_is O a k Concrete (λ c. cc) (lost_is (chain_kind O a k) (chain_kind N a k) differ (kind e))).1

-- ---- no other

-- a client in any world directly below the base that declares nothing of the key and names no other interface
module _ (W : World) (cs : List ClientClass) (f : Fits W (facts_of cs)) (root : ClassFacts) (is_root : Root root) (w : Bytes) (p : Planned root w W) (s : Bytes) (v : IsUsable W s) (bs : List Bytes) (z : Bytes) (m : MayStand W s v bs z)
    (y : ClientClass) (named : class_named (facts_of cs) y.facts.name ≡ Some y.facts) (super : y.facts.superclass ≡ Some s) (only : y.facts.interfaces ≡ bs) (no_interface : interface_flag y.facts.flags ≡ false)
    (k : Key) (declares : own_method_of y.facts k ≡ None) (l : load_fault (with_clients W (facts_of cs)) y.facts.name ≡ None) where
  abbrev VC : World
  VC = with_clients W (facts_of cs)

  named_each : each (with_interfaces VC) bs ≡ each (with_interfaces W) bs
  named_each = each_with W (facts_of cs) f bs (EachOf-map (λ i (u : MayImplement W z i). (let q : LibInterface W i = record { class = u.usable.class; is_there = u.usable.is_there; loaded = u.usable.loaded; interface = u.kind } in q)) bs m.bases)

  any_is : (q : ClassFacts → Bool) → list_any q (superinterfaces VC y.facts.name) ≡ (list_any q [] || list_any q (part_of W s bs))
  any_is q = ap (list_any q) (interfaces_below W (facts_of cs) f y.facts.name y.facts s v.class named super v.is_there v.loaded l ∙ ap (λ is. each (with_interfaces VC) is ++ superinterfaces W s) only ∙ ap (λ is. is ++ superinterfaces W s) named_each)

  chain_is : chain VC y.facts.name ≡ y.facts ∷ chain W s
  chain_is = chain_below W (facts_of cs) f y.facts.name y.facts s v.class named super v.is_there v.loaded l

  found_is : find_class VC y.facts.name ≡ Some y.facts
  found_is = find-client W (facts_of cs) f y.facts.name y.facts named

  client_answers : is_answered VC y.facts.name k ≡ answers (first_kind k (chain W s)) (are_one (choices_among W k (part_of W s bs)))
  client_answers = answered_is W (facts_of cs) f y.facts.name y.facts found_is no_interface k declares (chain W s) (part_of W s bs) [] (goods_of root is_root w W p s v bs z m) chain_is any_is (record { beside = λ z. refl; offered = λ z. refl })

  client_due : is_due VC y.facts.name k ≡ (list_any (declares_abstract k) (chain W s ++ part_of W s bs) || false)
  client_due = due_is W (facts_of cs) f y.facts.name y.facts found_is no_interface k declares (chain W s) (part_of W s bs) [] (goods_of root is_root w W p s v bs z m) chain_is any_is

pub no_others : NoOthersStop
no_others O N a k cs y can scope base above names declares s = decide (answered_below O a k) refl
  where
    r : Ready O N (fresh_package O N)
    r = ready_of O N can

    st : StandsOn O N (fresh_package O N) a k
    st = stands_on O N (fresh_package O N) r k a base

    super : y.facts.superclass ≡ Some st.super
    super = above ∙ ap Some st.super_is

    only : y.facts.interfaces ≡ st.interfaces
    only = names ∙ st.named_is

    fo : Fits O (facts_of cs)
    fo = fits_old O N (facts_of cs) r.old.bare (scope_names O N cs scope)

    fn : Fits N (facts_of cs)
    fn = fits_new O N (facts_of cs) r.new.bare (scope_names O N cs scope)

    named : class_named (facts_of cs) y.facts.name ≡ Some y.facts
    named = each_in (λ (c : ClientClass). class_named (facts_of cs) c.facts.name ≡ Some c.facts) cs y (named_clients cs scope.differ) s.is_in

    unanswered : answered_below N a k ≡ false
    unanswered = st.part_new.answered ∙ sym (client_answers N cs fn r.root r.is_root (fresh_package O N) r.new st.super st.class.now st.interfaces st.name st.new y named super only s.class k declares s.loads_new) ∙ s.unanswered

    due : due_below N a k ≡ true
    due = st.part_new.due ∙ last (list_any (declares_abstract k) (chain N st.super ++ part_of N st.super st.interfaces)) (sym (client_due N cs fn r.root r.is_root (fresh_package O N) r.new st.super st.class.now st.interfaces st.name st.new y named super only s.class k declares s.loads_new) ∙ s.due)

    was : due_below O a k ≡ true → answered_below O a k ≡ true
    was d =
        st.part_old.answered ∙ sym (client_answers O cs fo r.root r.is_root (fresh_package O N) r.old st.super st.class.was st.interfaces st.name st.old y named super only s.class k declares s.loads_old)
        ∙ s.answered (client_due O cs fo r.root r.is_root (fresh_package O N) r.old st.super st.class.was st.interfaces st.name st.old y named super only s.class k declares s.loads_old
        ∙ or_left (list_any (declares_abstract k) (chain O st.super ++ part_of O st.super st.interfaces)) false (sym st.part_old.due ∙ d))

    decide : (c : Bool) → answered_below O a k ≡ c → can_stop O N a k ≡ true
    decide true e = stops_by (answered_below N a k) (answered_below O a k) (due_below O a k) (due_below N a k) unanswered e
    decide false e = starts_by (answered_below N a k) (answered_below O a k) (due_below O a k) (due_below N a k) unanswered due was
