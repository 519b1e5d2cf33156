-- Who is refused where values of two classes met: a client below the seat that holds both, one as a parameter and one in a field of its own.
use Rattle.std.proofs.Common.{◌≡◌, ◌&&◌, ◌||◌, ◌⊎◌, inl, inr, Bool, true, false, not, List, [], ◌∷◌, ◌++◌, refl, ◌∙◌, ap, subst, Option, Some, None, is_some, Contains, arith}
use Rattle.std.specs.List.{All, list_any, list_all}
use Rattle.std.proofs.lemmas.Bool.{and_parts, and_from, or_left, or_right, not-true}
use Rattle.std.proofs.lemmas.List.{length-append}
use Rattle.std.proofs.lemmas.List.Elements.{All-contains, All-from_recursion, Contains-push, Contains-append_cases, Contains-append_left, Contains-append_right}
use Rattle.jc_desc.specs.Names.{spells_class_name}
use Rattle.jc_desc.specs.Utf8.{is_modified_utf8}
use Rattle.jc_desc.specs.Types.{type_text}
use Rattle.jc_desc.proofs.Again.{field_again}
use Rattle.jc_facts.specs.declared.act.Act.TheVariants.{GetStatic}
use Rattle.jc_facts.specs.declared.class_facts.ClassFacts.{ClassFacts}
use Rattle.jc_facts.specs.declared.client.ClientClass.{ClientClass}
use Rattle.jc_facts.specs.declared.client.Item.{Item}
use Rattle.jc_facts.specs.declared.client.Item.TheVariants as item
use Rattle.jc_facts.specs.declared.client.Place.TheVariants.{Other}
use Rattle.jc_facts.specs.declared.key.Key.{Key}
use Rattle.jc_facts.specs.declared.link_error.LinkError.TheVariants.{VerifyError, NoSuchFieldError}
use Rattle.jc_facts.specs.declared.member_act.MemberAct.{MemberAct}
use Rattle.jc_facts.specs.Names.{Bytes, same}
use Rattle.jc_facts.specs.Flags.{interface_flag}
use Rattle.jc_facts.specs.Options.{or_else}
use Rattle.jc_facts.specs.client.Outcome.{outcome, look_up, use_fault, assignment_ok, found_or}
use Rattle.jc_facts.specs.file.Valid.{is_valid_name, field_is_valid}
use Rattle.jc_facts.specs.world.Assignment.{is_class_assignable, is_interface_of}
use Rattle.jc_facts.specs.world.Hierarchy.{chain, in_chain}
use Rattle.jc_facts.specs.world.Loading.{load_fault, loads, fault_where}
use Rattle.jc_facts.specs.world.Lookup.{field_found, field_step}
use Rattle.jc_facts.specs.world.Types.{is_array_text}
use Rattle.jc_facts.specs.world.World.{World, DeclaredMember, find_class, class_named, classes, with_clients, found_in, differ_by_name}
use Rattle.jc_promises.specs.client.Reach.{is_in_reach, type_in_reach}
use Rattle.jc_promises.specs.plan.PlannedNames.{fresh_package, own_name, constructor}
use Rattle.jc_promises.specs.plan.Planned.{class_type, acts_exposing, all_exposed, field_of_hidden, static_field}
use Rattle.jc_promises.specs.rule.Bases.{allowed, is_class_usable}
use Rattle.jc_promises.specs.rule.Exposed.{is_hidden}
use Rattle.jc_promises.specs.rule.Findings.{takes_part}
use Rattle.jc_promises.specs.rule.OpenActs.{first_seat}
use Rattle.jc_facts.proofs.Same.{same_itself}
use Rattle.jc_lemmas.proofs.Listed.{EachOf, EachOf-append, Passes, any_passes, cases, each_from, each_in, here, there}
use Rattle.jc_lemmas.proofs.Options.{none_where}
use Rattle.jc_worlds.proofs.Choices.{is_member_accessible-public}
use Rattle.jc_worlds.proofs.Clients.{Fits, find-client, client_accessible}
use Rattle.jc_worlds.proofs.Loaded.{loads-found, unroll}
use Rattle.jc_worlds.proofs.Locality.{field_step-local}
use Rattle.jc_sound.proofs.Context.{named_class}
use Rattle.jc_sound.proofs.Reach.{declared_library}
use Rattle.jc_sound.proofs.Scope.{fits}
use Rattle.jc_complete.proofs.PlanActs.{seat_base, access_says}
use Rattle.jc_complete.proofs.PlanBase.{IsBase, own_is}
use Rattle.jc_complete.proofs.PlanBehind.{AreFields, Behind, client_of, behind_valid, behind_plain, loads_new, loads_old, behind_calls, behind_links, behind_reach, behind_quiet}
use Rattle.jc_complete.proofs.PlanGround.{Ready, letter}
use Rattle.jc_complete.proofs.PlanItems.{ItemLinks, ScopeOfPlan, scope_from}
use Rattle.jc_complete.proofs.PlanLoads.{lib_assigns, lib_chain, lib_in_chain}
use Rattle.jc_complete.proofs.PlanMeets.{quiet_meet}
use Rattle.jc_complete.proofs.PlanParts.{IsTaken, IsPart, IsReached, part_of, reached_left, reached_right}
use Rattle.jc_complete.proofs.PlanReady.{ready_of}
use Rattle.jc_complete.proofs.PlanRules.{first_seat-is}
use Rattle.jc_complete.proofs.PlanSeats.{side_name, side_plain, assign_is}
use Rattle.jc_complete.proofs.PlanTwoSeats.{item_reading}
use Rattle.jc_complete.proofs.PlanValid.{a_type, type_is_text}
use Rattle.jc_calls.specs.Joins.{is_join, joins_for, is_joined, is_found, join_lost}
use Rattle.jc_calls.specs.LostJoins.{holds, is_reached, SomeClientIsParted, EachJoinIsLost}

-- what is in reach is reached
reached_from : (V : World) (c : ClientClass) (t : Bytes) (i : Item) → is_in_reach V c.facts.name (c ∷ []) i ≡ true → is_reached V c t i ≡ true
reached_from V c t (item.Assign s u) h = or_left (is_in_reach V c.facts.name (c ∷ []) (item.Assign s u)) (same u t && holds V c s) h
reached_from V c t (item.Access what n k r place) h = h
reached_from V c t (item.Class n) h = h
reached_from V c t (item.New n d) h = h
reached_from V c t (item.Init n d) h = h

-- tests that agree on each
all_agree : (p q : ClassFacts → Bool) (xs : List ClassFacts) → ((c : ClassFacts) → p c ≡ q c) → list_all p xs ≡ list_all q xs
all_agree p q [] h = refl
all_agree p q (x ∷ xs) h = ap (λ b. b && list_all p xs) (h x) ∙ ap (λ b. q x && b) (all_agree p q xs h)

-- a static field of the class
one_field : (s : Bytes) → is_valid_name s ≡ true → AreFields (static_field (field_of_hidden s) ∷ [])
one_field s n = record { valid = λ c e. rw (field_valid c (ap interface_flag e)) refl; differ = refl }
  where
    field_valid : (c : ClassFacts) → interface_flag c.flags ≡ false → field_is_valid c (static_field (field_of_hidden s)) ≡ true
    field_valid c i =
        let p = and_parts (spells_class_name s) (is_modified_utf8 s) n in
        rw (field_again (type_text (class_type s)) (class_type s) (a_type s p.0, refl), type_is_text s p.1, i) refl

module _ (O N : World) (w : Bytes) (r : Ready O N w) (a : Bytes) (b : IsBase O N a) (x z t : Bytes) (px : IsPart O a x) (pz : IsPart O a z) (hidden : load_fault O t ≡ None)
    (join : is_join O x z t ≡ true) (now : is_class_assignable N x t ≡ false) where
  abbrev y : Bytes
  y = own_name O N (letter w 89) a

  abbrev acts : List MemberAct
  acts = acts_exposing O a x ++ acts_exposing O a z

  x_name : is_valid_name x ≡ true
  x_name = side_name r.root w O r.old x px.reached.class px.reached.is_there

  z_name : is_valid_name z ≡ true
  z_name = side_name r.root w O r.old z pz.reached.class pz.reached.is_there

  abbrev key : Key
  key = field_of_hidden z

  abbrev reading : Item
  reading = item_reading O y z

  -- it takes an x, reads its own field of z, and joins both at t
  abbrev more : List Item
  more = reading ∷ item.Assign x t ∷ item.Assign z t ∷ []

  abbrev behind : List Item → Behind O N
  behind items = record {
    seat = a;
    base = b;
    name = own_name O N (letter w 89) a;
    own = own_is O N w r a b.was.class b.now.class b.was.is_there b.now.is_there b.opens b.leaves 89 refl;
    fields = static_field (field_of_hidden z) ∷ [];
    are_fields = one_field z z_name;
    acts = acts_exposing O a x ++ acts_exposing O a z;
    opened = EachOf-append (IsTaken O a) (acts_exposing O a x) (acts_exposing O a z) px.opened pz.opened;
    few = let l = length-append (acts_exposing O a x) (acts_exposing O a z) in omega (arith, l, px.few, pz.few);
    s = x;
    s_name = x_name;
    t = x;
    t_name = x_name;
    items = items;
  }

  abbrev h : Behind O N
  h = behind more

  abbrev Y : ClientClass
  Y = client_of O N h

  abbrev cs : List ClassFacts
  cs = Y.facts ∷ []

  abbrev VO : World
  VO = with_clients O cs

  abbrev VN : World
  VN = with_clients N cs

  fo : Fits O cs
  fo = fits O (Y ∷ []) r.old.bare (h.own.old.allowed_o, tt)

  fn : Fits N cs
  fn = fits N (Y ∷ []) r.new.bare (h.own.old.allowed_n, tt)

  named : class_named cs y ≡ Some Y.facts
  unfolding class_named
  named = rw (same_itself y) refl

  -- ---- the classes

  ft : (c : ClassFacts) × (find_class O t ≡ Some c)
  ft = loads-found O t hidden

  x_plain : is_array_text x ≡ false
  x_plain = side_plain r.root w O r.old x px.reached.class px.reached.is_there

  z_plain : is_array_text z ≡ false
  z_plain = side_plain r.root w O r.old z pz.reached.class pz.reached.is_there

  t_plain : is_array_text t ≡ false
  t_plain = side_plain r.root w O r.old t ft.0 ft.1

  no_x : class_named cs x ≡ None
  no_x = declared_library O cs fo x px.reached.class px.reached.is_there

  no_z : class_named cs z ≡ None
  no_z = declared_library O cs fo z pz.reached.class pz.reached.is_there

  no_t : class_named cs t ≡ None
  no_t = declared_library O cs fo t ft.0 ft.1

  -- both have t above them
  chains : (in_chain O x t ≡ true) × (in_chain O z t ≡ true)
  chains = let p = and_parts (in_chain O x t && in_chain O z t) (list_all (λ c. not (in_chain O z c.name) || in_chain O t c.name) (chain O x)) join in and_parts (in_chain O x t) (in_chain O z t) p.0

  assigns_old : (s : Bytes) → is_array_text s ≡ false → class_named cs s ≡ None → in_chain O s t ≡ true → outcome VO y (item.Assign s t) ≡ None
  unfolding outcome
  assigns_old s p k i = ap (λ q. fault_where (not q) VerifyError) (assign_is VO s t p t_plain ∙ lib_assigns O cs fo s t k no_t ∙ or_right (same s t || is_interface_of O t) (in_chain O s t) i)

  refused : outcome VN y (item.Assign x t) ≡ Some VerifyError
  unfolding outcome
  refused = ap (λ q. fault_where (not q) VerifyError) (assign_is VN x t x_plain t_plain ∙ lib_assigns N cs fn x t no_x no_t ∙ now)

  -- the first class of both is t among clients too
  joined : is_join VO x z t ≡ true
  joined =
      ap (λ q. q && in_chain VO z t && list_all among (chain VO x)) (lib_in_chain O cs fo x t no_x)
      ∙ ap (λ q. in_chain O x t && q && list_all among (chain VO x)) (lib_in_chain O cs fo z t no_z)
      ∙ ap (λ q. in_chain O x t && in_chain O z t && list_all among q) (lib_chain O cs fo x px.reached.class px.reached.is_there px.reached.loaded)
      ∙ ap (λ q. in_chain O x t && in_chain O z t && q) (all_agree among (λ c. not (in_chain O z c.name) || in_chain O t c.name) (chain O x) agree)
      ∙ join
    where
      among : ClassFacts → Bool
      among c = not (in_chain VO z c.name) || in_chain VO t c.name

      agree : (c : ClassFacts) → among c ≡ (not (in_chain O z c.name) || in_chain O t c.name)
      agree c = ap (λ q. not q || in_chain VO t c.name) (lib_in_chain O cs fo z c.name no_z) ∙ ap (λ q. not (in_chain O z c.name) || q) (lib_in_chain O cs fo t c.name no_t)

  -- ---- what the client holds

  it_is : Contains (Y ∷ []) Y
  it_is = Contains-push [] Y

  holds_of : (s : Bytes) → is_array_text s ≡ false → IsReached O acts s → holds VO Y s ≡ true
  unfolding type_in_reach
  holds_of s p i = let q : type_in_reach VO y (Y ∷ []) s ≡ true = behind_reach O N w r h cs fo named (Y ∷ []) it_is s i y in rw (named_class s p) at q

  holds_x : holds VO Y x ≡ true
  holds_x = holds_of x x_plain (reached_left O (acts_exposing O a x) (acts_exposing O a z) x px.reached)

  holds_z : holds VO Y z ≡ true
  holds_z = holds_of z z_plain (reached_right O (acts_exposing O a x) (acts_exposing O a z) z pz.reached)

  -- ---- its items

  loaded_old : load_fault VO y ≡ None
  loaded_old = loads_old O N w r h cs fo named

  abbrev kept : DeclaredMember
  kept = record { owner = y; member = static_field key }

  found : field_found VO y key ≡ Some kept
  unfolding field_found field_step or_else found_in
  found =
      let q : field_found VO y key ≡ field_step key (λ x. field_found VO x key) Y.facts = unroll VO None None (field_step key) (field_step-local key) y Y.facts loaded_old (find-client O cs fo y Y.facts named) in
      q ∙ rw (same_itself key.descriptor) refl

  read_old : outcome VO y reading ≡ None
  unfolding look_up use_fault or_else assignment_ok
  read_old =
      access_says VO y GetStatic y key None Y.facts (behind_plain O N w r h) (find-client O cs fo y Y.facts named) loaded_old (client_accessible O cs fo y Y.facts named refl y)
      ∙ ap (λ o. found_or NoSuchFieldError o (use_fault VO y GetStatic y None Other)) found
      ∙ rw (is_member_accessible-public VO y y kept refl) refl

  abbrev Fine : Item → Type 0
  Fine i = (is_reached VO Y t i ≡ true) × (outcome VO y i ≡ None)

  assigned : (s : Bytes) → is_array_text s ≡ false → class_named cs s ≡ None → in_chain O s t ≡ true → holds VO Y s ≡ true → Fine (item.Assign s t)
  assigned s p k i q = (
    or_right (is_in_reach VO y (Y ∷ []) (item.Assign s t)) (same t t && holds VO Y s) (and_from (same t t) (holds VO Y s) (same_itself t) q),
    assigns_old s p k i,
  )

  more_fine : EachOf Fine more
  more_fine = ((refl, read_old), (assigned x x_plain no_x chains.0 holds_x, (assigned z z_plain no_z chains.1 holds_z, tt)))

  -- those before link in the client without the others
  first_fine : All (ItemLinks VO y (Y ∷ [])) (client_of O N (behind [])).items
  first_fine = (behind_links O N w r (behind []) cs fo named (Y ∷ []) tt).1

  in_first : (i : Item) → Contains (client_of O N (behind [])).items i → Fine i
  in_first i k = let p = All-contains (ItemLinks VO y (Y ∷ [])) (client_of O N (behind [])).items i first_fine k in (reached_from VO Y t i p.0, p.1)

  all_fine : EachOf Fine Y.items
  all_fine = each_from Fine Y.items one
    where
      exposed : List Item
      exposed = all_exposed O a y acts

      among : (i : Item) → Contains exposed i ⊎ Contains more i → Fine i
      among i (inl k) = in_first i (there i (item.Init a (constructor O a)) (exposed ++ []) (Contains-append_left exposed [] i k))
      among i (inr k) = each_in Fine more i more_fine k

      one : (i : Item) → Contains Y.items i → Fine i
      one i k = go (cases (item.Init a (constructor O a)) (exposed ++ more) i k)
        where
          go : (item.Init a (constructor O a) ≡ i) ⊎ Contains (exposed ++ more) i → Fine i
          go (inl q) = in_first i (subst (Contains (client_of O N (behind [])).items) q (here (item.Init a (constructor O a)) (exposed ++ [])))
          go (inr q) = among i (Contains-append_cases exposed more i q)

  has : (i : Item) → Contains more i → Contains Y.items i
  has i k = there i (item.Init a (constructor O a)) (all_exposed O a y acts ++ more) (Contains-append_right (all_exposed O a y acts) more i k)

  scope : ScopeOfPlan O N (Y ∷ [])
  unfolding differ_by_name class_named
  scope = scope_from O N (Y ∷ []) r.old.bare (behind_valid O N w r h refl, tt) refl (h.own.old.allowed_o, tt) (h.own.old.allowed_n, tt) (behind_calls O N w r h cs fo named, tt)

  pub is_parted : SomeClientIsParted O N x t
  is_parted = record {
    client = Y;
    in_scope = scope.0;
    allowed_name = All-contains (λ (c : ClientClass). allowed O N c.facts.name ≡ true) (Y ∷ []) Y scope.1 it_is;
    links = (loaded_old, All-from_recursion Fine Y.items all_fine);
    meets_nothing = quiet_meet O N (Y ∷ []) (behind_quiet O N w r h cs fo named, tt);
    other = z;
    holds_it = holds_x;
    holds_other = holds_z;
    join = joined;
    assigns_it = has (item.Assign x t) (there (item.Assign x t) reading (item.Assign x t ∷ item.Assign z t ∷ []) (here (item.Assign x t) (item.Assign z t ∷ [])));
    assigns_other = has (item.Assign z t) (there (item.Assign z t) reading (item.Assign x t ∷ item.Assign z t ∷ []) (there (item.Assign z t) (item.Assign x t) (item.Assign z t ∷ []) (here (item.Assign z t) [])));
    loads_new = loads_new O N w r h cs fn named;
    refused = refused;
  }

-- ---- from the definition

pub join_is_lost : EachJoinIsLost
unfolding join_lost is_hidden
join_is_lost O N can x t h = go (first_seat O N (joins_for O N x t)) refl p.1
  where
    w : Bytes
    w = fresh_package O N

    r : Ready O N w
    r = ready_of O N can

    first : ((is_hidden O t && is_joined O N x t && not (is_class_assignable N x t)) ≡ true) × (not (is_found O N x t) ≡ true)
    first = and_parts (is_hidden O t && is_joined O N x t && not (is_class_assignable N x t)) (not (is_found O N x t)) h

    q : ((is_hidden O t && is_joined O N x t) ≡ true) × (not (is_class_assignable N x t) ≡ true)
    q = and_parts (is_hidden O t && is_joined O N x t) (not (is_class_assignable N x t)) first.0

    p : (is_hidden O t ≡ true) × (is_joined O N x t ≡ true)
    p = and_parts (is_hidden O t) (is_joined O N x t) q.0

    loaded : load_fault O t ≡ None
    loaded = none_where (load_fault O t) (and_parts (loads O t) (not (is_class_usable O t)) p.0).0

    by : (a : Bytes) → first_seat O N (joins_for O N x t) ≡ Some a → SomeClientIsParted O N x t
    by a e =
        let s = first_seat-is O N (joins_for O N x t) a e in
        let k = and_parts (takes_part O N a x) (list_any (λ y. takes_part O N a y.name && is_join O x y.name t) (classes O)) s.1 in
        let m : Passes (λ (y : ClassFacts). takes_part O N a y.name && is_join O x y.name t) (classes O) = any_passes (λ (y : ClassFacts). takes_part O N a y.name && is_join O x y.name t) (classes O) k.1 in
        let n = and_parts (takes_part O N a m.one.name) (is_join O x m.one.name t) m.passes in
        is_parted O N w r a (seat_base O N w r a s.0) x m.one.name t (part_of O N r.old.valid a x k.0) (part_of O N r.old.valid a m.one.name n.0) loaded n.1 (not-true (is_class_assignable N x t) q.1)

    go : (o : Option Bytes) → first_seat O N (joins_for O N x t) ≡ o → is_some o ≡ true → SomeClientIsParted O N x t
    go (Some a) e i = by a e
    go None e i = absurd (cc)
