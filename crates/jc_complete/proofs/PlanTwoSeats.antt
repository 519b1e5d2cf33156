-- Rule 4 with two seats: the clients Z and Y, one below each, show the finding.
use Rattle.std.proofs.Common.{◌≡◌, ◌≤◌, ◌+◌, true, false, cond, List, [], ◌∷◌, ◌++◌, length, map, refl, sym, ◌∙◌, ap, subst, Some, None, not, codes, Contains, append_assoc, slice_get, arith}
use Rattle.std.specs.List.{flat_map}
use Rattle.std.proofs.lemmas.Bool.{and_parts}
use Rattle.std.proofs.lemmas.List.Elements.{All-from_recursion, Contains-push, Contains-append_left, Contains-append_right}
use Rattle.jc_desc.specs.Names.{spells_class_name}
use Rattle.jc_desc.specs.Utf8.{is_modified_utf8}
use Rattle.jc_desc.specs.Types.{type_text}
use Rattle.jc_desc.proofs.Again.{field_again}
use Rattle.jc_facts.specs.declared.member_act.MemberAct.{MemberAct}
use Rattle.jc_facts.specs.declared.act.Act.TheVariants.{GetStatic}
use Rattle.jc_facts.specs.declared.class_facts.ClassFacts.{ClassFacts}
use Rattle.jc_facts.specs.declared.class_facts.Member.{Member}
use Rattle.jc_facts.specs.declared.client.ClientClass.{ClientClass}
use Rattle.jc_facts.specs.declared.client.Item.{Item}
use Rattle.jc_facts.specs.declared.client.Item.TheVariants as item
use Rattle.jc_facts.specs.declared.client.Place.TheVariants.{Other}
use Rattle.jc_facts.specs.declared.key.Key.{Key}
use Rattle.jc_facts.specs.declared.verdict.Spot.TheVariants as spot
use Rattle.jc_facts.specs.declared.link_error.LinkError.TheVariants.{VerifyError, NoSuchFieldError}
use Rattle.jc_facts.specs.Names.{Bytes}
use Rattle.jc_facts.specs.Flags.{interface_flag}
use Rattle.jc_facts.specs.Options.{or_else}
use Rattle.jc_facts.specs.file.Valid.{is_valid_name, field_is_valid}
use Rattle.jc_facts.specs.client.Outcome.{outcome, look_up, use_fault, assignment_ok, found_or}
use Rattle.jc_facts.specs.world.Types.{is_array_text}
use Rattle.jc_facts.specs.world.World.{World, DeclaredMember, find_class, class_named, with_clients, found_in, differ_by_name}
use Rattle.jc_facts.specs.world.Assignment.{is_class_assignable}
use Rattle.jc_facts.specs.world.Loading.{load_fault, fault_where}
use Rattle.jc_facts.specs.world.Lookup.{field_found, field_step}
use Rattle.jc_promises.specs.rule.Apart.{are_apart}
use Rattle.jc_promises.specs.plan.PlannedNames.{first_name, second_name, constructor}
use Rattle.jc_promises.specs.plan.Planned.{Plan, class_type, class_behind, acts_exposing, all_exposed, receivers_exposed, items_exposed, inits_exposed, more_inits, use_method, turns_behind, a_class, is_init_super, takes_no_receiver, receiver_exposed, field_of_hidden, static_field, reads_hidden, hands_on}
use Rattle.jc_facts.proofs.Same.{same_itself}
use Rattle.jc_worlds.proofs.Clients.{Fits, find-client, client_accessible}
use Rattle.jc_worlds.proofs.Choices.{is_member_accessible-public}
use Rattle.jc_worlds.proofs.Loaded.{unroll}
use Rattle.jc_worlds.proofs.Locality.{field_step-local}
use Rattle.jc_sound.proofs.Scope.{fits}
use Rattle.jc_sound.proofs.Reach.{declared_library}
use Rattle.jc_complete.specs.Completeness.{LinksWhole}
use Rattle.jc_complete.proofs.PlanGround.{Ready, letter}
use Rattle.jc_complete.proofs.PlanLoads.{lib_assigns}
use Rattle.jc_complete.proofs.PlanItems.{ScopeOfPlan, scope_from}
use Rattle.jc_complete.proofs.PlanMeets.{quiet_meet}
use Rattle.jc_complete.proofs.PlanValid.{a_type, type_is_text}
use Rattle.jc_complete.proofs.PlanSeats.{side_name, side_plain, assign_is, assign_in_reach}
use Rattle.jc_complete.proofs.PlanActs.{access_says}
use Rattle.jc_complete.proofs.PlanUses.{ShowsAlone}
use Rattle.jc_complete.proofs.PlanBase.{IsBase}
use Rattle.jc_complete.proofs.PlanParts.{IsPart}
use Rattle.jc_complete.proofs.PlanExposed.{spot_at}
use Rattle.jc_complete.proofs.PlanInterfaceMethodLost.{same_back}
use Rattle.jc_complete.proofs.PlanTwoNames.{AreTwo, two_names}
use Rattle.jc_complete.proofs.PlanBehind.{Behind, AreFields, client_of, behind_valid, behind_plain, loads_new, loads_old, behind_calls, behind_links, behind_reach, behind_quiet}

-- ---- one more act, which reads the field of another client

-- what it adds
module _ (O : World) (z s : Bytes) where
  abbrev read : MemberAct
  read = reads_hidden z s

  abbrev pub item_reading : Item
  item_reading = item.Access GetStatic z (field_of_hidden s) None Other

  receivers_same : (y : Bytes) (ms : List MemberAct) → receivers_exposed O y (ms ++ read ∷ []) ≡ receivers_exposed O y ms
  receivers_same y [] = refl
  receivers_same y (m ∷ ms) = ap (λ (rs : List Bytes). cond (takes_no_receiver m.act) rs (receiver_exposed O y m ∷ rs)) (receivers_same y ms)

  inits_same : (ms : List MemberAct) → inits_exposed (ms ++ read ∷ []) ≡ inits_exposed ms
  inits_same [] = refl
  inits_same (m ∷ ms) = ap (λ (ds : List Bytes). cond (is_init_super m.act) (m.key.descriptor ∷ ds) ds) (inits_same ms)

  items_more : (y : Bytes) (ms : List MemberAct) → flat_map (items_exposed O y) (ms ++ read ∷ []) ≡ flat_map (items_exposed O y) ms ++ item_reading ∷ []
  items_more y [] = refl
  items_more y (m ∷ ms) = ap (λ (is : List Item). items_exposed O y m ++ is) (items_more y ms) ∙ sym (append_assoc (items_exposed O y m) (flat_map (items_exposed O y) ms) (item_reading ∷ []))

  pub all_more : (a y : Bytes) (ms : List MemberAct) → all_exposed O a y (ms ++ read ∷ []) ≡ all_exposed O a y ms ++ item_reading ∷ []
  all_more a y ms =
      ap (λ (ds : List Bytes). map (λ d. item.Init a d) ds ++ flat_map (items_exposed O y) (ms ++ read ∷ [])) (inits_same ms)
      ∙ ap (λ (is : List Item). map (λ d. item.Init a d) (inits_exposed ms) ++ is) (items_more y ms)
      ∙ sym (append_assoc (map (λ d. item.Init a d) (inits_exposed ms)) (flat_map (items_exposed O y) ms) (item_reading ∷ []))

  -- a class that takes it last
  pub reading_is : (y a : Bytes) (fields : List Member) (ms : List MemberAct) (t : Bytes) (items : List Item) → class_behind O y a fields (ms ++ read ∷ []) s t items ≡ class_behind O y a fields ms s t (item_reading ∷ items)
  reading_is y a fields ms t items =
      ap (λ (ds : List Bytes). a_class y 0x0021 a (constructor O a) [] fields (more_inits (codes "I") ds ++ use_method (turns_behind (receivers_exposed O y (ms ++ read ∷ [])) s t) ∷ []) (all_exposed O a y (ms ++ read ∷ []) ++ items)) (inits_same ms)
      ∙ ap (λ (rs : List Bytes). a_class y 0x0021 a (constructor O a) [] fields (more_inits (codes "I") (inits_exposed ms) ++ use_method (turns_behind rs s t) ∷ []) (all_exposed O a y (ms ++ read ∷ []) ++ items)) (receivers_same y ms)
      ∙ ap (λ (is : List Item). a_class y 0x0021 a (constructor O a) [] fields (more_inits (codes "I") (inits_exposed ms) ++ use_method (turns_behind (receivers_exposed O y ms) s t) ∷ []) is) (ap (λ (is : List Item). is ++ items) (all_more a y ms) ∙ append_assoc (all_exposed O a y ms) (item_reading ∷ []) items)

-- ---- the field

hidden_field : (s : Bytes) → is_valid_name s ≡ true → AreFields (static_field (field_of_hidden s) ∷ [])
hidden_field s n = record { valid = λ c e. rw (field_valid c (ap interface_flag e)) refl; differ = refl }
  where
    field_valid : (c : ClassFacts) → interface_flag c.flags ≡ false → field_is_valid c (static_field (field_of_hidden s)) ≡ true
    field_valid c i =
        let p = and_parts (spells_class_name s) (is_modified_utf8 s) n in
        rw (field_again (type_text (class_type s)) (class_type s) (a_type s p.0, refl), type_is_text s p.1, i) refl

module _ (O N : World) (w : Bytes) (r : Ready O N w) (a b : Bytes) (ba : IsBase O N a) (bb : IsBase O N b) (apart : are_apart O N a b ≡ true)
    (s t : Bytes) (ps : IsPart O a s) (pt : IsPart O b t) (was : is_class_assignable O s t ≡ true) (now : is_class_assignable N s t ≡ false) where
  abbrev z : Bytes
  z = first_name O N (letter w 90) a b

  abbrev y : Bytes
  y = second_name O N (letter w 89) (first_name O N (letter w 90) a b) b

  names : AreTwo O N w r a b ba bb apart (first_name O N (letter w 90) a b) (second_name O N (letter w 89) (first_name O N (letter w 90) a b) b)
  names = two_names O N w r a b ba bb apart

  s_name : is_valid_name s ≡ true
  s_name = side_name r.root w O r.old s ps.reached.class ps.reached.is_there

  t_name : is_valid_name t ≡ true
  t_name = side_name r.root w O r.old t pt.reached.class pt.reached.is_there

  few_z : length (acts_exposing O a s) ≤ 2
  few_z = let l = ps.few in omega (arith, l)

  few_y : length (acts_exposing O b t) ≤ 2
  few_y = let l = pt.few in omega (arith, l)

  abbrev key : Key
  key = field_of_hidden s

  abbrev reading : Item
  reading = item_reading O z s

  -- Z holds values of s, and has the field
  abbrev hz : Behind O N
  hz = record {
    seat = a;
    base = ba;
    name = z;
    own = names.first;
    fields = static_field key ∷ [];
    are_fields = hidden_field s s_name;
    acts = acts_exposing O a s;
    opened = ps.opened;
    few = few_z;
    s = s;
    s_name = s_name;
    t = s;
    t_name = s_name;
    items = [];
  }

  -- Y reads it, and returns it as a t
  abbrev hy : Behind O N
  hy = record {
    seat = b;
    base = bb;
    name = y;
    own = names.second;
    fields = [];
    are_fields = record { valid = λ c e. refl; differ = refl };
    acts = acts_exposing O b t;
    opened = pt.opened;
    few = few_y;
    s = s;
    s_name = s_name;
    t = t;
    t_name = t_name;
    items = reading ∷ item.Assign s t ∷ [];
  }

  abbrev Z : ClientClass
  Z = client_of O N hz

  abbrev Y : ClientClass
  Y = client_of O N hy

  abbrev cs : List ClassFacts
  cs = Z.facts ∷ Y.facts ∷ []

  abbrev VO : World
  VO = with_clients O cs

  abbrev VN : World
  VN = with_clients N cs

  fo : Fits O cs
  fo = fits O (Z ∷ Y ∷ []) r.old.bare (names.first.old.allowed_o, (names.second.old.allowed_o, tt))

  fn : Fits N cs
  fn = fits N (Z ∷ Y ∷ []) r.new.bare (names.first.old.allowed_n, (names.second.old.allowed_n, tt))

  named_z : class_named cs z ≡ Some Z.facts
  unfolding class_named
  named_z = rw (same_itself z) refl

  named_y : class_named cs y ≡ Some Y.facts
  unfolding class_named
  named_y = rw (names.differ, same_itself y) refl

  z_in : Contains (Z ∷ Y ∷ []) Z
  z_in = Contains-append_left (Z ∷ []) (Y ∷ []) Z (Contains-push [] Z)

  y_in : Contains (Z ∷ Y ∷ []) Y
  y_in = Contains-append_right (Z ∷ []) (Y ∷ []) Y (Contains-push [] Y)

  -- ---- the read of the field

  z_o : load_fault VO z ≡ None
  z_o = loads_old O N w r hz cs fo named_z

  find_z : find_class VO z ≡ Some Z.facts
  find_z = find-client O cs fo z Z.facts named_z

  abbrev held : DeclaredMember
  held = record { owner = z; member = static_field key }

  found : field_found VO z key ≡ Some held
  unfolding field_found field_step or_else found_in
  found =
      let q : field_found VO z key ≡ field_step key (λ x. field_found VO x key) Z.facts = unroll VO None None (field_step key) (field_step-local key) z Z.facts z_o find_z in
      q ∙ rw (same_itself key.descriptor) refl

  read_old : outcome VO y reading ≡ None
  unfolding look_up use_fault or_else assignment_ok
  read_old =
      access_says VO y GetStatic z key None Z.facts (behind_plain O N w r hz) find_z z_o (client_accessible O cs fo z Z.facts named_z refl y)
      ∙ ap (λ o. found_or NoSuchFieldError o (use_fault VO y GetStatic z None Other)) found
      ∙ rw (is_member_accessible-public VO y z held refl) refl

  -- ---- the assignment

  s_plain : is_array_text s ≡ false
  s_plain = side_plain r.root w O r.old s ps.reached.class ps.reached.is_there

  t_plain : is_array_text t ≡ false
  t_plain = side_plain r.root w O r.old t pt.reached.class pt.reached.is_there

  no_s : class_named cs s ≡ None
  no_s = declared_library O cs fo s ps.reached.class ps.reached.is_there

  no_t : class_named cs t ≡ None
  no_t = declared_library O cs fo t pt.reached.class pt.reached.is_there

  old : outcome VO y (item.Assign s t) ≡ None
  unfolding outcome
  old = ap (λ p. fault_where (not p) VerifyError) (assign_is VO s t s_plain t_plain ∙ lib_assigns O cs fo s t no_s no_t ∙ was)

  new : outcome VN y (item.Assign s t) ≡ Some VerifyError
  unfolding outcome
  new = ap (λ p. fault_where (not p) VerifyError) (assign_is VN s t s_plain t_plain ∙ lib_assigns N cs fn s t no_s no_t ∙ now)

  -- ---- both clients

  links_z : LinksWhole VO (Z ∷ Y ∷ []) Z
  links_z = behind_links O N w r hz cs fo named_z (Z ∷ Y ∷ []) tt

  links_y : LinksWhole VO (Z ∷ Y ∷ []) Y
  links_y = behind_links O N w r hy cs fo named_y (Z ∷ Y ∷ []) (
    (refl, read_old),
    (
      (
        assign_in_reach VO y (Z ∷ Y ∷ []) s t (behind_reach O N w r hz cs fo named_z (Z ∷ Y ∷ []) z_in s ps.reached y) (behind_reach O N w r hy cs fo named_y (Z ∷ Y ∷ []) y_in t pt.reached y),
        old,
      ),
      tt,
    ),
  )

  scope : ScopeOfPlan O N (Z ∷ Y ∷ [])
  unfolding differ_by_name class_named
  scope = scope_from O N (Z ∷ Y ∷ []) r.old.bare (behind_valid O N w r hz refl, (behind_valid O N w r hy refl, tt)) (rw (same_back z y names.differ) refl)
      (names.first.old.allowed_o, (names.second.old.allowed_o, tt)) (names.first.old.allowed_n, (names.second.old.allowed_n, tt)) (behind_calls O N w r hz cs fo named_z, (behind_calls O N w r hy cs fo named_y, tt))

  abbrev two_clients : Plan
  two_clients = record { clients = Z ∷ Y ∷ []; name = y; spot = spot.Item (length (all_exposed O b y (acts_exposing O b t) ++ reading ∷ []) + 1) }

  shown : ShowsAlone O N two_clients VerifyError
  shown = (
    record {
      in_scope = scope.0;
      allowed_names = scope.1;
      links = All-from_recursion (LinksWhole VO (Z ∷ Y ∷ [])) (Z ∷ Y ∷ []) (links_z, (links_y, tt));
      spot = Y;
      is_in = y_in;
      name = refl;
      fails = (
        loads_new O N w r hy cs fn named_y,
        (
          item.Assign s t,
          ap (λ (is : List Item). slice_get (item.Init b (constructor O b) ∷ is) (length (all_exposed O b y (acts_exposing O b t) ++ reading ∷ []) + 1)) (sym (append_assoc (all_exposed O b y (acts_exposing O b t)) (reading ∷ []) (item.Assign s t ∷ [])))
              ∙ spot_at (item.Init b (constructor O b)) (all_exposed O b y (acts_exposing O b t) ++ reading ∷ []) (item.Assign s t),
          new,
        ),
      );
    },
    quiet_meet O N (Z ∷ Y ∷ []) (behind_quiet O N w r hz cs fo named_z, (behind_quiet O N w r hy cs fo named_y, tt)),
  )

  -- they are those of the plan
  planned_is : hands_on O N w s t a b ≡ two_clients
  planned_is =
      let acts : List MemberAct = acts_exposing O b t ++ reads_hidden z s ∷ [] in
      ap (λ (c : ClientClass). let p : Plan = record { clients = Z ∷ c ∷ []; name = y; spot = spot.Item (length (all_exposed O b y acts) + 1) } in p) (reading_is O z s y b [] (acts_exposing O b t) t (item.Assign s t ∷ []))
      ∙ ap (λ (is : List Item). let p : Plan = record { clients = Z ∷ Y ∷ []; name = y; spot = spot.Item (length is + 1) } in p) (all_more O z s b y (acts_exposing O b t))

  pub hands_on_shows : ShowsAlone O N (hands_on O N w s t a b) VerifyError
  hands_on_shows = subst (λ p. ShowsAlone O N p VerifyError) (sym planned_is) shown
