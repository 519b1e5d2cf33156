-- A planned client below a seat, in any world of clients. It has fields, takes acts that are open to the seat, and has further items.
use Rattle.std.proofs.Common.{◌≡◌, ◌≤◌, Bool, true, false, cond, List, [], ◌∷◌, ◌++◌, length, map, refl, sym, ◌∙◌, ap, subst, Some, None, not, ◌||◌, ◌⊎◌, inl, inr, Contains, is_none, codes, arith}
use Rattle.std.specs.List.{list_any, list_all, flat_map}
use Rattle.std.proofs.lemmas.Bool.{and_parts, and_from, or_left, or_right}
use Rattle.std.proofs.lemmas.List.Elements.{Contains-append_left, Contains-append_right}
use Rattle.std.proofs.lemmas.List.Folds.{list_all-append}
use Rattle.jc_desc.specs.Names.{spells_class_name}
use Rattle.jc_desc.specs.Utf8.{is_modified_utf8}
use Rattle.jc_desc.specs.Classes.{descriptor_names}
use Rattle.jc_facts.specs.declared.member_act.MemberAct.{MemberAct}
use Rattle.jc_facts.specs.declared.class_facts.ClassFacts.{ClassFacts}
use Rattle.jc_facts.specs.declared.class_facts.Member.{Member}
use Rattle.jc_facts.specs.declared.client.ClientClass.{ClientClass}
use Rattle.jc_facts.specs.declared.client.Item.{Item}
use Rattle.jc_facts.specs.declared.client.Item.TheVariants as item
use Rattle.jc_facts.specs.declared.link_error.LinkError.TheVariants.{IllegalAccessError}
use Rattle.jc_facts.specs.Names.{Bytes, same}
use Rattle.jc_facts.specs.Flags.{public_flag}
use Rattle.jc_facts.specs.Options.{some_and}
use Rattle.jc_facts.specs.world.Types.{is_array_text}
use Rattle.jc_facts.specs.world.World.{World, find_class, class_named, is_client, with_clients, DeclaredMember}
use Rattle.jc_facts.specs.world.Hierarchy.{chain, in_chain}
use Rattle.jc_facts.specs.world.Loading.{load_fault, fault_where}
use Rattle.jc_facts.specs.client.Acts.{form_of}
use Rattle.jc_facts.specs.client.Outcome.{outcome, may_find}
use Rattle.jc_promises.specs.client.Reach.{opens_members, is_opening, opens, type_in_reach}
use Rattle.jc_facts.specs.client.Valid.{is_item_of, IsValidClient}
use Rattle.jc_facts.specs.file.Valid.{is_valid_name, field_is_valid, keys_differ, keys_of}
use Rattle.jc_promises.specs.rule.Bases.{is_class_usable}
use Rattle.jc_facts.specs.world.Inheritance.{public_or_protected}
use Rattle.jc_promises.specs.rule.OpenActs.{had_init, calls_init}
use Rattle.jc_promises.specs.plan.PlannedNames.{constructor}
use Rattle.jc_promises.specs.plan.Planned.{init_method, use_method, turns_behind, found_by, is_new_object, is_init_super, takes_no_receiver, receiver_exposed, receivers_exposed, item_exposed, items_exposed, inits_exposed, more_inits, all_exposed, class_behind}
use Rattle.jc_facts.proofs.Mapped.{in_flat, in_map}
use Rattle.jc_facts.proofs.Same.{same_is, same_itself}
use Rattle.jc_lemmas.proofs.Listed.{here, there, cases, each_in, none, EachOf, EachOf-append}
use Rattle.jc_worlds.proofs.Clients.{Fits}
use Rattle.jc_worlds.proofs.ValidFacts.{no_array}
use Rattle.jc_sound.proofs.Reach.{declared_library}
use Rattle.jc_sound.proofs.Standing.{usable_parts, usable_accessible}
use Rattle.jc_complete.proofs.PlanGround.{Ready}
use Rattle.jc_complete.proofs.PlanValid.{IsUse, use_turns_behind, plain_valid}
use Rattle.jc_complete.proofs.PlanInits.{methods_behind, behind_overrides, behind_no_final, class_named_links, new_links, init_links}
use Rattle.jc_complete.proofs.PlanLoads.{lib_find, lib_fault, client_loads, may_extend}
use Rattle.jc_complete.specs.Completeness.{LinksWhole}
use Rattle.jc_complete.proofs.PlanItems.{ItemLinks, links_whole, calls_above, init_says}
use Rattle.jc_complete.proofs.PlanMeets.{final_parts, IsQuiet, seat_below, names_none, meets_no_capture, capture_parts, nothing_found}
use Rattle.jc_complete.proofs.PlanSeats.{side_name, side_plain, in_reach_if, in_reach_exposed, access_is}
use Rattle.jc_complete.proofs.PlanBase.{IsBase, OwnName, IsConstructor, constructor_is}
use Rattle.jc_complete.proofs.PlanBelow.{AreMethods, open_member}
use Rattle.jc_complete.proofs.PlanOpenActs.{IsBelow, open_links, open_reach}
use Rattle.jc_sound.specs.Scope.{CallsSuper}
use Rattle.jc_facts.specs.world.Lookup.{method_choices}
use Rattle.jc_facts.proofs.World.{find-name}
use Rattle.jc_worlds.proofs.Unrolled.{own_chain}
use Rattle.jc_complete.proofs.PlanUser.{not_root}
use Rattle.jc_complete.proofs.PlanParts.{IsTaken, of_member, of_new, of_init, taken_usable, AreOpen, IsReached}

-- fields that the client may have
pub record AreFields (fields : List Member) : Type 0 where
  pub valid : (c : ClassFacts) → c.flags ≡ 0x0021 → list_all (field_is_valid c) fields ≡ true
  pub differ : keys_differ (keys_of fields) ≡ true

-- what the client is made of: its `use` takes an s behind the receivers of the acts, and returns it as a t
pub record Behind (O N : World) : Type 0 where
  pub seat : Bytes
  pub base : IsBase O N seat
  pub name : Bytes
  pub own : OwnName O N base.was.class base.now.class name
  pub fields : List Member
  pub are_fields : AreFields fields
  pub acts : List MemberAct
  pub opened : AreOpen O seat acts
  pub few : length acts ≤ 2
  pub s : Bytes
  pub s_name : is_valid_name s ≡ true
  pub t : Bytes
  pub t_name : is_valid_name t ≡ true
  pub items : List Item

abbrev pub client_of : (O N : World) → Behind O N → ClientClass
client_of O N h = class_behind O h.name h.seat h.fields h.acts h.s h.t h.items

module _ (O N : World) (w : Bytes) (r : Ready O N w) (h : Behind O N) where
  abbrev a : Bytes
  a = h.seat

  abbrev y : Bytes
  y = h.name

  abbrev descriptor : Bytes
  descriptor = turns_behind (receivers_exposed O y h.acts) h.s h.t

  abbrev inits : List Bytes
  inits = inits_exposed h.acts

  abbrev ms : List Member
  ms = more_inits (codes "I") inits ++ use_method descriptor ∷ []

  abbrev Y : ClientClass
  Y = client_of O N h

  ctor : IsConstructor h.base.was.class (constructor O a)
  ctor = constructor_is O r.root r.is_root r.old.there a h.base.was.class h.base.was.is_there (r.old.valid a h.base.was.class h.base.was.is_there) h.base.has

  seat_plain : is_array_text a ≡ false
  seat_plain = side_plain r.root w O r.old a h.base.was.class h.base.was.is_there

  -- ---- the class

  receivers_named : (ss : List MemberAct) → AreOpen O a ss → list_all is_valid_name (receivers_exposed O y ss) ≡ true
  receivers_named [] o = refl
  receivers_named (m ∷ ms) o = go (takes_no_receiver m.act) (receivers_named ms o.1)
    where
      one : is_valid_name (receiver_exposed O y m) ≡ true
      one = pick (some_and (λ m. public_flag m.member.flags) (found_by O (form_of m.act) m.«class» m.key))
        where
          pick : (p : Bool) → is_valid_name (cond p m.«class» y) ≡ true
          pick true = let u = taken_usable O a m o.0 in side_name r.root w O r.old m.«class» u.class u.is_there
          pick false = h.own.old.named

      go : (p : Bool) → list_all is_valid_name (receivers_exposed O y ms) ≡ true → list_all is_valid_name (cond p (receivers_exposed O y ms) (receiver_exposed O y m ∷ receivers_exposed O y ms)) ≡ true
      go true k = k
      go false k = and_from (is_valid_name (receiver_exposed O y m)) (list_all is_valid_name (receivers_exposed O y ms)) one k

  receivers_few : (ss : List MemberAct) → length (receivers_exposed O y ss) ≤ length ss
  receivers_few [] = omega arith
  receivers_few (m ∷ ms) = go (takes_no_receiver m.act) (receivers_few ms)
    where
      go : (p : Bool) → length (receivers_exposed O y ms) ≤ length ms → length (cond p (receivers_exposed O y ms) (receiver_exposed O y m ∷ receivers_exposed O y ms)) ≤ length (m ∷ ms)
      go true l = omega (arith, l)
      go false l = omega (arith, l)

  inits_few : (ss : List MemberAct) → length (inits_exposed ss) ≤ length ss
  inits_few [] = omega arith
  inits_few (m ∷ ms) = go (is_init_super m.act) (inits_few ms)
    where
      go : (p : Bool) → length (inits_exposed ms) ≤ length ms → length (cond p (m.key.descriptor ∷ inits_exposed ms) (inits_exposed ms)) ≤ length (m ∷ ms)
      go true l = omega (arith, l)
      go false l = omega (arith, l)

  is_use : IsUse descriptor
  is_use = use_turns_behind (receivers_exposed O y h.acts) h.s h.t
      (list_all-append is_valid_name (receivers_exposed O y h.acts) (h.s ∷ []) ∙ and_from (list_all is_valid_name (receivers_exposed O y h.acts)) (list_all is_valid_name (h.s ∷ [])) (receivers_named h.acts h.opened) (and_from (is_valid_name h.s) true h.s_name refl))
      h.t_name (let l = receivers_few h.acts in omega (arith, l, h.few))

  methods : AreMethods 0x0021 ms
  methods = methods_behind inits (let l = inits_few h.acts in omega (arith, l, h.few)) descriptor is_use

  -- the items that stand in its initializers, and those of `use`
  calls_fine : (ds : List Bytes) → list_all (is_item_of Y.facts) (map (λ d. item.Init a d) ds) ≡ true
  calls_fine [] = refl
  calls_fine (d ∷ ds) = and_from (same a y || same a a) (list_all (is_item_of Y.facts) (map (λ d. item.Init a d) ds)) (or_right (same a y) (same a a) (same_itself a)) (calls_fine ds)

  act_fine : (m : MemberAct) → IsTaken O a m → list_all (is_item_of Y.facts) (items_exposed O y m) ≡ true
  act_fine m (of_member n i o) = rw (i, n) (and_from (is_item_of Y.facts (item_exposed O y m)) true o.item_ok refl)
  act_fine m (of_new e u q) = let i : is_init_super m.act ≡ false = ap is_init_super e in let n : is_new_object m.act ≡ true = ap is_new_object e in rw (i, n) refl
  act_fine m (of_init e u q) = let i : is_init_super m.act ≡ true = ap is_init_super e in rw i refl

  acts_fine : (ss : List MemberAct) → AreOpen O a ss → list_all (is_item_of Y.facts) (flat_map (items_exposed O y) ss) ≡ true
  acts_fine [] o = refl
  acts_fine (m ∷ ms) o =
      list_all-append (is_item_of Y.facts) (items_exposed O y m) (flat_map (items_exposed O y) ms)
      ∙ and_from (list_all (is_item_of Y.facts) (items_exposed O y m)) (list_all (is_item_of Y.facts) (flat_map (items_exposed O y) ms)) (act_fine m o.0) (acts_fine ms o.1)

  exposed_fine : list_all (is_item_of Y.facts) (all_exposed O a y h.acts) ≡ true
  exposed_fine =
      list_all-append (is_item_of Y.facts) (map (λ d. item.Init a d) inits) (flat_map (items_exposed O y) h.acts)
      ∙ and_from (list_all (is_item_of Y.facts) (map (λ d. item.Init a d) inits)) (list_all (is_item_of Y.facts) (flat_map (items_exposed O y) h.acts)) (calls_fine inits) (acts_fine h.acts h.opened)

  pub behind_valid : list_all (is_item_of Y.facts) h.items ≡ true → IsValidClient (client_of O N h)
  behind_valid fine = record {
    facts = plain_valid y 0x0021 a [] h.fields (init_method ∷ ms) (item.Init a (constructor O a) ∷ (all_exposed O a y h.acts ++ h.items)) (record {
      named = h.own.old.named;
      other = not_root O r.root y r.old.there h.own.old.allowed_o;
      good = refl;
      super = side_name r.root w O r.old a h.base.was.class h.base.was.is_there;
      of_interface = refl;
      names = refl;
      differ = h.are_fields.differ;
      distinct = methods.differ;
      field = h.are_fields.valid;
      method = methods.valid;
    });
    items = and_from (is_item_of Y.facts (item.Init a (constructor O a))) (list_all (is_item_of Y.facts) (all_exposed O a y h.acts ++ h.items)) (or_right (same a y) (same a a) (same_itself a))
        (list_all-append (is_item_of Y.facts) (all_exposed O a y h.acts) h.items ∙ and_from (list_all (is_item_of Y.facts) (all_exposed O a y h.acts)) (list_all (is_item_of Y.facts) h.items) exposed_fine fine);
  }

  pub behind_plain : is_array_text h.name ≡ false
  behind_plain = no_array y (and_parts (spells_class_name y) (is_modified_utf8 y) h.own.old.named).0

  -- ---- with the new side it loads

  pub loads_new : (cs : List ClassFacts) → Fits N cs → class_named cs h.name ≡ Some (client_of O N h).facts → load_fault (with_clients N cs) h.name ≡ None
  loads_new cs f named = client_loads N cs f y Y.facts a h.base.now.class named refl (lib_find N cs f a h.base.now.class h.base.now.is_there) (lib_fault N cs f a h.base.now.class h.base.now.is_there ∙ h.base.now.loaded)
      (may_extend N cs f y Y.facts named a h.base.now h.base.class_n h.base.not_final_n h.own.takes_n (h.own.sealed_n Y.facts refl refl)) tt (behind_overrides y inits descriptor (chain (with_clients N cs) a))

  -- ---- with the old one it links

  module _ (cs : List ClassFacts) (f : Fits O cs) (named : class_named cs h.name ≡ Some (client_of O N h).facts) where
    abbrev V : World
    V = with_clients O cs

    pub loads_old : load_fault (with_clients O cs) h.name ≡ None
    loads_old = client_loads O cs f y Y.facts a h.base.was.class named refl (lib_find O cs f a h.base.was.class h.base.was.is_there) (lib_fault O cs f a h.base.was.class h.base.was.is_there ∙ h.base.was.loaded)
        (may_extend O cs f y Y.facts named a h.base.was h.base.class_o h.base.not_final_o h.own.old.takes_o (h.own.old.sealed_o Y.facts refl refl)) tt (behind_overrides y inits descriptor (chain V a))

    is_below : IsBelow O a cs y
    is_below = record {
      fits = f;
      seat = h.base.was.class;
      seat_there = h.base.was.is_there;
      seat_loaded = h.base.was.loaded;
      client = Y.facts;
      named = named;
      super = refl;
      public = refl;
      loaded = loads_old;
      allowed = h.own.old.allowed_o;
      plain = behind_plain;
    }

    init_old : outcome V y (item.Init a (constructor O a)) ≡ None
    init_old =
        let c : ClassFacts = h.base.was.class in
        let m : DeclaredMember = record { owner = c.name; member = ctor.method } in
        let o : find_class O c.name ≡ Some c = ap (find_class O) (find-name O a c h.base.was.is_there) ∙ h.base.was.is_there in
        let i : in_chain O a c.name ≡ true = subst (λ z. in_chain O a z ≡ true) (sym (find-name O a c h.base.was.is_there)) (own_chain O a h.base.was.loaded) in
        init_says V y a (constructor O a) c ctor.method seat_plain (lib_find O cs f a c h.base.was.is_there) (lib_fault O cs f a c h.base.was.is_there ∙ h.base.was.loaded) (usable_accessible O a h.base.was y) h.base.class_o ctor.declares
        ∙ ap (λ b. fault_where (not b) IllegalAccessError)
        (access_is O cs f y Y.facts a c named refl h.base.was.is_there h.base.was.loaded loads_old h.own.old.allowed_o a c h.base.was.is_there h.base.was.loaded m c o ∙ open_member O a m ctor.open_to i (own_chain O a h.base.was.loaded))

    pub behind_calls : CallsSuper (with_clients O cs) (client_of O N h)
    behind_calls = calls_above V y 0x0021 a (constructor O a) [] h.fields ms (all_exposed O a y h.acts ++ h.items) loads_old init_old

    plain_of : (m : MemberAct) → IsTaken O a m → is_array_text m.«class» ≡ false
    plain_of m t = let u = taken_usable O a m t in side_plain r.root w O r.old m.«class» u.class u.is_there

    library_of : (m : MemberAct) → IsTaken O a m → is_client V m.«class» ≡ false
    unfolding is_client
    library_of m t = let u = taken_usable O a m t in rw (declared_library O cs f m.«class» u.class u.is_there) refl

    -- the call of an initializer of the seat
    call_old : (m : MemberAct) → calls_init O a m.«class» m.key ≡ true → outcome V y (item.Init a m.key.descriptor) ≡ None
    call_old m q =
        let p = and_parts (same a m.«class») (had_init O m.«class» m.key public_or_protected) q in
        init_links O a cs y is_below h.base.was h.base.class_o seat_plain m.key (subst (λ z. had_init O z m.key public_or_protected ≡ true) (sym (same_is a m.«class» p.0)) p.1)

    act_links : (all : List ClientClass) (m : MemberAct) → IsTaken O a m → EachOf (ItemLinks V y all) (items_exposed O y m)
    act_links all m (of_member n i o) = rw (i, n) (
      (
        open_reach O r.root r.old.there a cs y is_below m.«class» (plain_of m (of_member n i o)) m.key m.act o all,
        open_links O r.root r.old.there a cs y is_below m.«class» (plain_of m (of_member n i o)) m.key m.act o,
      ),
      tt,
    )
    act_links all m (of_new e u q) =
        let i : is_init_super m.act ≡ false = ap is_init_super e in
        let n : is_new_object m.act ≡ true = ap is_new_object e in
        rw (i, n) ((refl, class_named_links O r.old.valid cs f y m.«class» m.key u (plain_of m (of_new e u q)) q), ((refl, new_links O r.old.valid cs f y m.«class» m.key u (plain_of m (of_new e u q)) q), tt))
    act_links all m (of_init e u q) = let i : is_init_super m.act ≡ true = ap is_init_super e in rw i tt

    acts_link : (all : List ClientClass) (ss : List MemberAct) → AreOpen O a ss → EachOf (ItemLinks V y all) (flat_map (items_exposed O y) ss)
    acts_link all [] o = tt
    acts_link all (m ∷ ms) o = EachOf-append (ItemLinks V y all) (items_exposed O y m) (flat_map (items_exposed O y) ms) (act_links all m o.0) (acts_link all ms o.1)

    calls_link : (all : List ClientClass) (ss : List MemberAct) → AreOpen O a ss → EachOf (ItemLinks V y all) (map (λ d. item.Init a d) (inits_exposed ss))
    calls_link all [] o = tt
    calls_link all (m ∷ ms) o = go o.0 (calls_link all ms o.1)
      where
        go : IsTaken O a m → EachOf (ItemLinks V y all) (map (λ d. item.Init a d) (inits_exposed ms)) → EachOf (ItemLinks V y all) (map (λ d. item.Init a d) (cond (is_init_super m.act) (m.key.descriptor ∷ inits_exposed ms) (inits_exposed ms)))
        go (of_member n i o) k = rw i k
        go (of_new e u q) k = let i : is_init_super m.act ≡ false = ap is_init_super e in rw i k
        go (of_init e u q) k = let i : is_init_super m.act ≡ true = ap is_init_super e in rw i ((refl, call_old m q), k)

    -- where its further items link, it links whole
    pub behind_links : (all : List ClientClass) → EachOf (ItemLinks (with_clients O cs) h.name all) h.items → LinksWhole (with_clients O cs) all (client_of O N h)
    behind_links all k = links_whole V all Y loads_old (
      (refl, init_old),
      EachOf-append (ItemLinks V y all) (all_exposed O a y h.acts) h.items
          (EachOf-append (ItemLinks V y all) (map (λ d. item.Init a d) inits) (flat_map (items_exposed O y) h.acts) (calls_link all h.acts h.opened) (acts_link all h.acts h.opened)) k,
    )

    -- ---- what it opens

    -- one of its items opens the class
    record Opens (x : Bytes) : Type 0 where
      item : Item
      is_in : Contains Y.items item
      does : opens V y x item ≡ true

    in_use : (i : Item) → Contains (flat_map (items_exposed O y) h.acts) i → Contains Y.items i
    in_use i k = there i (item.Init a (constructor O a)) (all_exposed O a y h.acts ++ h.items)
        (Contains-append_left (all_exposed O a y h.acts) h.items i (Contains-append_right (map (λ d. item.Init a d) inits) (flat_map (items_exposed O y) h.acts) i k))

    in_inits : (i : Item) → Contains (map (λ d. item.Init a d) inits) i → Contains Y.items i
    in_inits i k = there i (item.Init a (constructor O a)) (all_exposed O a y h.acts ++ h.items)
        (Contains-append_left (all_exposed O a y h.acts) h.items i (Contains-append_left (map (λ d. item.Init a d) inits) (flat_map (items_exposed O y) h.acts) i k))

    init_listed : (ss : List MemberAct) (m : MemberAct) → Contains ss m → is_init_super m.act ≡ true → Contains (inits_exposed ss) m.key.descriptor
    init_listed [] m i e = absurd (none m i)
    init_listed (n ∷ ns) m i e = go (cases n ns m i) (init_listed ns m)
      where
        go : (n ≡ m) ⊎ Contains ns m → (Contains ns m → is_init_super m.act ≡ true → Contains (inits_exposed ns) m.key.descriptor) → Contains (inits_exposed (n ∷ ns)) m.key.descriptor
        go (inl q) k =
            let f : is_init_super n.act ≡ true = ap (λ (z : MemberAct). is_init_super z.act) q ∙ e in
            rw f (subst (λ (z : MemberAct). Contains (n.key.descriptor ∷ inits_exposed ns) z.key.descriptor) q (here n.key.descriptor (inits_exposed ns)))
        go (inr j) k = by (is_init_super n.act)
          where
            by : (p : Bool) → Contains (cond p (n.key.descriptor ∷ inits_exposed ns) (inits_exposed ns)) m.key.descriptor
            by true = there m.key.descriptor n.key.descriptor (inits_exposed ns) (k j e)
            by false = k j e

    act_opens : (m : MemberAct) (x : Bytes) → Contains h.acts m → descriptor_names m.key.descriptor x ≡ true → Opens x
    unfolding is_opening
    act_opens m x i n = go taken
      where
        taken : IsTaken O a m
        taken = each_in (IsTaken O a) h.acts m h.opened i

        library : not (is_client V m.«class») ≡ true
        library = ap not (library_of m taken)

        go : IsTaken O a m → Opens x
        go (of_member p q o) = record {
          item = item_exposed O y m;
          is_in = in_use (item_exposed O y m) (in_flat (items_exposed O y) h.acts m (item_exposed O y m) i (rw (q, p) (here (item_exposed O y m) [])));
          does = and_from (is_opening V y (item_exposed O y m)) (descriptor_names m.key.descriptor x) opening n;
        }
          where
            ok : outcome V y (item_exposed O y m) ≡ None
            ok = open_links O r.root r.old.there a cs y is_below m.«class» (plain_of m (of_member p q o)) m.key m.act o

            opening : is_opening V y (item_exposed O y m) ≡ true
            opening = and_from (is_none (outcome V y (item_exposed O y m))) (not (is_client V m.«class») || list_any (λ f. opens_members V y f.owner) (may_find V (form_of m.act) m.«class» m.key)) (ap is_none ok)
                (or_left (not (is_client V m.«class»)) (list_any (λ f. opens_members V y f.owner) (may_find V (form_of m.act) m.«class» m.key)) library)
        go (of_new e u q) = record {
          item = item.New m.«class» m.key.descriptor;
          is_in = in_use (item.New m.«class» m.key.descriptor) (in_flat (items_exposed O y) h.acts m (item.New m.«class» m.key.descriptor) i
              (let i : is_init_super m.act ≡ false = ap is_init_super e in let n : is_new_object m.act ≡ true = ap is_new_object e in
              rw (i, n) (there (item.New m.«class» m.key.descriptor) (item.Class m.«class») (item.New m.«class» m.key.descriptor ∷ []) (here (item.New m.«class» m.key.descriptor) []))));
          does = and_from (is_opening V y (item.New m.«class» m.key.descriptor)) (descriptor_names m.key.descriptor x)
              (and_from (is_none (outcome V y (item.New m.«class» m.key.descriptor))) (not (is_client V m.«class»)) (ap is_none (new_links O r.old.valid cs f y m.«class» m.key u (plain_of m (of_new e u q)) q)) library) n;
        }
        go (of_init e u q) = record {
          item = item.Init a m.key.descriptor;
          is_in = in_inits (item.Init a m.key.descriptor) (in_map (λ d. item.Init a d) inits m.key.descriptor (init_listed h.acts m i (ap is_init_super e)));
          does = and_from (is_opening V y (item.Init a m.key.descriptor)) (descriptor_names m.key.descriptor x)
              (and_from (is_none (outcome V y (item.Init a m.key.descriptor))) (not (is_client V a)) (ap is_none (call_old m q))
              (subst (λ z. not (is_client V z) ≡ true) (sym (same_is a m.«class» (and_parts (same a m.«class») (had_init O m.«class» m.key public_or_protected) q).0)) library)) n;
        }

    -- a class that its acts reach is in reach of each client beside it
    pub behind_reach : (all : List ClientClass) → Contains all (client_of O N h) → (x : Bytes) → IsReached O h.acts x → (z : Bytes) → type_in_reach (with_clients O cs) z all x ≡ true
    behind_reach all k x i z = go i.reached
      where
        plain : is_array_text x ≡ false
        plain = side_plain r.root w O r.old x i.class i.is_there

        up : load_fault V x ≡ None
        up = lib_fault O cs f x i.class i.is_there ∙ i.loaded

        go : (is_class_usable O x ≡ true) ⊎ ((m : MemberAct) × Contains h.acts m × (descriptor_names m.key.descriptor x ≡ true)) → type_in_reach V z all x ≡ true
        go (inl p) = let u = usable_parts O x p in in_reach_if V z all x u.class plain (lib_find O cs f x u.class u.is_there) up (usable_accessible O x u z)
        go (inr m) = let o = act_opens m.0 x m.1 m.2 in in_reach_exposed V z all x Y o.item plain up k loads_old o.is_in o.does

    -- ---- it meets no collision

    pub behind_quiet : IsQuiet O N (with_clients O cs) (client_of O N h)
    behind_quiet = record {
      below = a;
      seat_is = seat_below O cs f y Y.facts a h.base.was.class named refl h.base.was.is_there h.base.was.loaded loads_old;
      names = names_none O cs f y Y.facts a h.base.was.class named refl h.base.was.is_there h.base.was.loaded loads_old refl;
      captures = λ k m s. meets_no_capture O cs f y Y.facts a h.base.was.class named refl h.base.was.is_there h.base.was.loaded loads_old refl k m (nothing_found (method_choices O a k) (capture_parts O N a k s).unknown);
      finals = λ k m s. behind_no_final inits descriptor k m (final_parts O N a k s).key;
    }
