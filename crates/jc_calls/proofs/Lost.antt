-- Who loses a method reference: a client of a seat that could do the act.
use Rattle.std.proofs.Common.{◌≡◌, ◌&&◌, ◌||◌, ◌⊎◌, inl, inr, Bool, true, false, cond, not, [], ◌∷◌, refl, sym, ◌∙◌, ap, Option, None, Some, is_none, is_some}
use Rattle.std.proofs.lemmas.Bool.{and_parts, and_from, not-true}
use Rattle.std.proofs.lemmas.List.Elements.{All-from_recursion, Contains-push}
use Rattle.std.specs.List.{Contains, list_any, list_all}
use Rattle.jc_desc.specs.Names.{spells_class_name}
use Rattle.jc_desc.specs.Utf8.{is_modified_utf8}
use Rattle.jc_facts.specs.declared.act.Act.{Act}
use Rattle.jc_facts.specs.declared.class_facts.ClassFacts.{ClassFacts}
use Rattle.jc_facts.specs.declared.client.ClientClass.{ClientClass}
use Rattle.jc_facts.specs.declared.client.Item.{Item}
use Rattle.jc_facts.specs.declared.client.Item.TheVariants as item
use Rattle.jc_facts.specs.declared.client.Place.TheVariants.{Other}
use Rattle.jc_facts.specs.declared.key.Key.{Key}
use Rattle.jc_facts.specs.declared.link_error.LinkError.{LinkError}
use Rattle.jc_facts.specs.Names.{Bytes, object_name}
use Rattle.jc_facts.specs.Flags.{interface_flag}
use Rattle.jc_facts.specs.world.World.{World, DeclaredMember, class_named, classes, with_clients}
use Rattle.jc_facts.specs.world.Hierarchy.{chain}
use Rattle.jc_facts.specs.world.Loading.{load_fault}
use Rattle.jc_facts.specs.world.Overriding.{overrides_some_final}
use Rattle.jc_facts.specs.world.Types.{is_array_text}
use Rattle.jc_facts.specs.ByName.{least}
use Rattle.jc_facts.specs.client.Acts.{FieldForm, form_of, is_act_on_static, is_special}
use Rattle.jc_facts.specs.client.Outcome.{outcome, use_fault, assignment_ok, is_direct_super, receiver_ok}
use Rattle.jc_facts.specs.client.Valid.{is_item_of}
use Rattle.jc_promises.specs.plan.PlannedNames.{fresh_package, own_name, constructor}
use Rattle.jc_promises.specs.plan.Planned.{a_class, init_method, use_method, takes_nothing}
use Rattle.jc_promises.specs.rule.Bases.{is_kept, is_steady, is_base_class, is_key_of_method, became_class}
use Rattle.jc_promises.specs.rule.Findings.{finding_at, method_closed}
use Rattle.jc_promises.specs.rule.OpenActs.{act_fault, closed_act, first_seat, method_acts}
use Rattle.jc_lemmas.proofs.Listed.{any_passes, each_in}
use Rattle.jc_lemmas.proofs.Options.{none_where, none_from}
use Rattle.jc_worlds.proofs.Clients.{Fits}
use Rattle.jc_worlds.proofs.ValidFacts.{no_array}
use Rattle.jc_sound.proofs.ClientNames.{free_name}
use Rattle.jc_sound.proofs.Context.{access-parts, access-from}
use Rattle.jc_sound.proofs.Looked.{look_up-takes, look_up-from, use-parts, use-from}
use Rattle.jc_sound.proofs.OpenActs.{IsSeat, first_seat-passes, least-passes, first_act-none, where_open-none, at_key}
use Rattle.jc_sound.proofs.Reach.{declared_library}
use Rattle.jc_sound.proofs.Standing.{IsUsable}
use Rattle.jc_complete.specs.Completeness.{CanPlan, LinksWhole}
use Rattle.jc_complete.proofs.PlanActs.{seat_base}
use Rattle.jc_complete.proofs.PlanBase.{IsBase, OwnName, own_is, IsConstructor, constructor_is}
use Rattle.jc_complete.proofs.PlanBelow.{AreMethods}
use Rattle.jc_complete.proofs.PlanBelow as below
use Rattle.jc_complete.proofs.PlanCalls.{plain_flags, now_loads}
use Rattle.jc_complete.proofs.PlanGround.{Ready, letter}
use Rattle.jc_complete.proofs.PlanItems.{links_whole, ScopeOfPlan}
use Rattle.jc_complete.proofs.PlanMeets.{declares_no_final, final_parts}
use Rattle.jc_complete.proofs.PlanOpenActs.{IsMethodAct, IsOpen, IsBelow, of_methods, open_links, open_on_method}
use Rattle.jc_complete.proofs.PlanReady.{ready_of}
use Rattle.jc_complete.proofs.PlanSeats.{side_plain}
use Rattle.jc_complete.proofs.PlanUser.{user_overrides}
use Rattle.jc_complete.proofs.PlanUses.{kept_usable}
use Rattle.jc_complete.proofs.PlanValid.{use_nothing, with_use}
use Rattle.jc_calls.specs.Handles.{handle_item, are_referable}
use Rattle.jc_calls.specs.References.{is_open_to_some, is_handle_lost, is_told, are_of_open, reference_lost}
use Rattle.jc_calls.specs.Lost.{SomeClientLosesHandle, EachReferenceIsLost}
use Rattle.jc_calls.proofs.Openly.{handle_is, referable_side}

-- what is Ok of some receiver is Ok where nothing is known of it
pub any_receiver : (V : World) (x : Bytes) (what : Act) (t : Bytes) (k : Key) (r : Option Bytes) → outcome V x (item.Access what t k r Other) ≡ None → outcome V x (handle_item what t k) ≡ None
unfolding assignment_ok receiver_ok
any_receiver V x what t k r o =
    let p = access-parts V x what t k r Other o in
    let f = look_up-takes V (form_of what) t k (use_fault V x what t r Other) p.found in
    let u = use-parts V x what t r Other f.found f.fine in
    access-from V x what t k None Other (record {
      step = p.step;
      plain = p.plain;
      found = look_up-from V (form_of what) t k (use_fault V x what t None Other) (record {
        found = f.found;
        taken = f.taken;
        fine = use-from V x what t None Other f.found (record { access = u.access; kind = u.kind; final = u.final; assignment = loose f.found u.assignment });
      });
    })
  where
    either : (d st w : Bool) → (d && (st || w)) ≡ true → (d && (st || true)) ≡ true
    either true true w e = refl
    either true false w e = refl
    either false st w e = absurd (cc)

    loose : (m : DeclaredMember) → assignment_ok V x what t m r ≡ true → assignment_ok V x what t m None ≡ true
    loose m e = either (not (is_special what) || is_direct_super V x t) (is_act_on_static what) _ e

module _ (O N : World) (w : Bytes) (r : Ready O N w) (a : Bytes) (b : IsBase O N a) (c : Bytes) (k : Key) (what : Act) (po : IsOpen O a c k what) (pn : IsOpen N a c k what) (is_method : form_of what ≡ FieldForm → ⊥)
    (is_plain : are_referable O what c k ≡ true) (was : are_of_open O what c k ≡ true) (now : are_of_open N what c k ≡ false) where
  abbrev y : Bytes
  y = own_name O N (letter w 89) a

  own : OwnName O N b.was.class b.now.class (own_name O N (letter w 89) a)
  own = own_is O N w r a b.was.class b.now.class b.was.is_there b.now.is_there b.opens b.leaves 89 refl

  abbrev i : Item
  i = handle_item what c k

  ctor : IsConstructor b.was.class (constructor O a)
  ctor = constructor_is O r.root r.is_root r.old.there a b.was.class b.was.is_there (r.old.valid a b.was.class b.was.is_there) b.has

  methods : AreMethods 0x0021 (use_method takes_nothing ∷ [])
  methods = record { valid = λ c e m. with_use c takes_nothing (ap interface_flag e) use_nothing; differ = refl }

  abbrev Y : ClientClass
  Y = a_class y 0x0021 a (constructor O a) [] [] (use_method takes_nothing ∷ []) (i ∷ [])

  abbrev Yf : ClassFacts
  Yf = Y.facts

  fine : list_all (is_item_of Yf) (i ∷ []) ≡ true
  fine = rw po.item_ok refl

  abbrev VO : World
  VO = with_clients O (Yf ∷ [])

  abbrev VN : World
  VN = with_clients N (Yf ∷ [])

  fo : Fits O (Yf ∷ [])
  fo = below.fo O N w r a b.was b.class_o b.not_final_o y own.old 0x0021 plain_flags (constructor O a) ctor (use_method takes_nothing ∷ []) methods (i ∷ []) fine

  fn : Fits N (Yf ∷ [])
  fn = below.fn O N w r a b.was b.class_o b.not_final_o y own.old 0x0021 plain_flags (constructor O a) ctor (use_method takes_nothing ∷ []) methods (i ∷ []) fine

  named : class_named (Yf ∷ []) y ≡ Some Yf
  named = below.named O N w r a b.was b.class_o b.not_final_o y own.old 0x0021 plain_flags (constructor O a) ctor (use_method takes_nothing ∷ []) methods (i ∷ []) fine

  over_o : overrides_some_final y (init_method ∷ use_method takes_nothing ∷ []) (chain VO a) ≡ false
  over_o = user_overrides y takes_nothing (chain VO a)

  loads_o : load_fault VO y ≡ None
  loads_o = below.loads_o O N w r a b.was b.class_o b.not_final_o y own.old 0x0021 plain_flags (constructor O a) ctor (use_method takes_nothing ∷ []) methods (i ∷ []) fine over_o

  loads_n : load_fault VN y ≡ None
  loads_n = now_loads O N w r a b y own 0x0021 plain_flags (constructor O a) ctor (use_method takes_nothing ∷ []) methods (i ∷ []) fine (user_overrides y takes_nothing (chain VN a))

  y_plain : is_array_text y ≡ false
  y_plain = no_array y (and_parts (spells_class_name y) (is_modified_utf8 y) own.old.named).0

  below_o : IsBelow O a (Yf ∷ []) y
  below_o = record { fits = fo; seat = b.was.class; seat_there = b.was.is_there; seat_loaded = b.was.loaded; client = Yf; named = named; super = refl; public = refl; loaded = loads_o; allowed = own.old.allowed_o; plain = y_plain }

  below_n : IsBelow N a (Yf ∷ []) y
  below_n = record { fits = fn; seat = b.now.class; seat_there = b.now.is_there; seat_loaded = b.now.loaded; client = Yf; named = named; super = refl; public = refl; loaded = loads_n; allowed = own.old.allowed_n; plain = y_plain }

  plain : is_array_text c ≡ false
  plain = side_plain r.root w O r.old c po.class.class po.class.is_there

  links_o : outcome VO y i ≡ None
  links_o = any_receiver VO y what c k _ (open_links O r.root r.old.there a (Yf ∷ []) y below_o c plain k what po)

  links_n : outcome VN y i ≡ None
  links_n = any_receiver VN y what c k _ (open_links N r.root r.new.there a (Yf ∷ []) y below_n c plain k what pn)

  planned : ScopeOfPlan O N (Y ∷ [])
  planned = below.scope O N w r a b.was b.class_o b.not_final_o y own.old 0x0021 plain_flags (constructor O a) ctor (use_method takes_nothing ∷ []) methods (i ∷ []) fine over_o

  pub loses_handle : SomeClientLosesHandle O N c k
  loses_handle = record {
    clients = Y ∷ [];
    in_scope = planned.0;
    allowed_names = planned.1;
    links = All-from_recursion (LinksWhole VO (Y ∷ [])) (Y ∷ []) (links_whole VO (Y ∷ []) Y loads_o ((refl, below.init_o O N w r a b.was b.class_o b.not_final_o y own.old 0x0021 plain_flags (constructor O a) ctor (use_method takes_nothing ∷ []) methods (i ∷ []) fine over_o), ((refl, links_o), tt)), tt);
    meets_nothing = below.below_meets_nothing O N w r a b.was b.class_o b.not_final_o y own.old 0x0021 plain_flags (constructor O a) ctor (use_method takes_nothing ∷ []) methods (i ∷ []) fine over_o (λ l n s f j. declares_no_final takes_nothing l n (final_parts O N a l s).key f j);
    client = Y;
    is_in = Contains-push [] Y;
    act = what;
    has = Contains-push (item.Init a (constructor O a) ∷ []) i;
    loads_new = loads_n;
    goes_on = links_n;
    referable = sym (referable_side O (Yf ∷ []) fo what c k is_method (declared_library O (Yf ∷ []) fo c po.class.class po.class.is_there) (declared_library O (Yf ∷ []) fo object_name r.root r.old.there) po.class.loaded) ∙ is_plain;
    was = handle_is O (Yf ∷ []) fo y Yf named (free_name O y own.old.allowed_o) what c k is_method (declared_library O (Yf ∷ []) fo c po.class.class po.class.is_there) (declared_library O (Yf ∷ []) fo object_name r.root r.old.there) po.class.loaded
        ∙ and_from (is_none (outcome VO y i)) (are_of_open O what c k) (ap (λ o. is_none {T = LinkError} o) links_o) was;
    lost = handle_is N (Yf ∷ []) fn y Yf named (free_name N y own.old.allowed_n) what c k is_method (declared_library N (Yf ∷ []) fn c pn.class.class pn.class.is_there) (declared_library N (Yf ∷ []) fn object_name r.root r.new.there) pn.class.loaded
        ∙ last_false (is_none (outcome VN y i)) (are_of_open N what c k) now;
  }
    where
      last_false : (p q : Bool) → q ≡ false → (p && q) ≡ false
      last_false true q e = e
      last_false false q e = refl

-- ---- from the definition

module _ (O N : World) (can : CanPlan O N) (c : Bytes) (k : Key) (h : reference_lost O N c k ≡ true) where
  abbrev w : Bytes
  w = fresh_package O N

  abbrev r : Ready O N w
  r = ready_of O N can

  record Parts : Type 0 where
    key : is_key_of_method k ≡ true
    steady : is_steady O N c ≡ true
    some : list_any (is_handle_lost O N c k) method_acts ≡ true
    untold : is_told O N c k ≡ false

  parts : Parts
  unfolding reference_lost
  parts =
      let p = and_parts (is_key_of_method k && is_steady O N c && list_any (is_handle_lost O N c k) method_acts) (not (is_told O N c k)) h in
      let q = and_parts (is_key_of_method k && is_steady O N c) (list_any (is_handle_lost O N c k) method_acts) p.0 in
      let s = and_parts (is_key_of_method k) (is_steady O N c) q.0 in
      record { key = s.0; steady = s.1; some = q.1; untold = not-true (is_told O N c k) p.1 }

  both : IsUsable O c × IsUsable N c
  unfolding is_steady
  both = kept_usable O N c (and_parts (is_kept O N c) (not (became_class O N c)) parts.steady).0

  -- where no finding is on the class and the key, what a seat could do it still can
  goes_on : (what : Act) → Contains method_acts what → (s : Bytes) → IsSeat O N s → act_fault O s c k what ≡ None → act_fault N s c k what ≡ None
  unfolding finding_at method_closed
  goes_on what i s seat o =
      let quiet : finding_at O N (at_key 8 c k) ≡ None = none_from (finding_at O N (at_key 8 c k)) parts.untold in
      where_open-none (act_fault O s c k what) (act_fault N s c k what) (each_in (λ z. (s : Bytes) → IsSeat O N s → closed_act O N c k z s ≡ None) method_acts what (first_act-none O N (at_key 8 c k) k method_acts (rw (parts.key, parts.steady) at quiet)) i s seat) o

  seat_of_first : (test : Bytes → Bool) (s : Bytes) → first_seat O N test ≡ Some s → (s ≡ object_name) ⊎ (is_base_class O N s ≡ true)
  seat_of_first test s e = go (test object_name) e
    where
      go : (b : Bool) → cond b (Some object_name) (least (λ a. is_base_class O N a && test a) (classes O)) ≡ Some s → (s ≡ object_name) ⊎ (is_base_class O N s ≡ true)
      go true q = let z : object_name ≡ s = cc in inl (sym z)
      go false q = inr (and_parts (is_base_class O N s) (test s) (least-passes (λ a. is_base_class O N a && test a) (classes O) s q)).0

  by_act : (what : Act) → Contains method_acts what → is_handle_lost O N c k what ≡ true → SomeClientLosesHandle O N c k
  by_act what i l =
      let p = and_parts (is_open_to_some O N c k what && are_referable O what c k && are_of_open O what c k) (not (are_of_open N what c k)) l in
      let q = and_parts (is_open_to_some O N c k what && are_referable O what c k) (are_of_open O what c k) p.0 in
      let s = and_parts (is_open_to_some O N c k what) (are_referable O what c k) q.0 in
      go (first_seat O N (λ a. is_none (act_fault O a c k what))) refl s.0 s.1 q.1 (not-true (are_of_open N what c k) p.1)
    where
      go : (o : Option Bytes) → first_seat O N (λ a. is_none (act_fault O a c k what)) ≡ o → is_some o ≡ true → are_referable O what c k ≡ true → are_of_open O what c k ≡ true → are_of_open N what c k ≡ false → SomeClientLosesHandle O N c k
      go None e s v u n = absurd (cc)
      go (Some a) e s v u n =
          let b : IsBase O N a = seat_base O N w r a (seat_of_first (λ a. is_none (act_fault O a c k what)) a e) in
          let o : act_fault O a c k what ≡ None = none_where (act_fault O a c k what) (first_seat-passes O N (λ a. is_none (act_fault O a c k what)) a e) in
          let po = open_on_method O r.old.valid a c k what both.0 o i parts.key in
          let pn = open_on_method N r.new.valid a c k what both.1 (goes_on what i a (is_seat a b (seat_of_first (λ a. is_none (act_fault O a c k what)) a e)) o) i parts.key in
          loses_handle O N w r a b c k what po pn (of_method what i) v u n
        where
          is_seat : (a : Bytes) → IsBase O N a → (a ≡ object_name) ⊎ (is_base_class O N a ≡ true) → IsSeat O N a
          is_seat a b (inl e) = inl e
          is_seat a b (inr e) = inr (e, (b.was.class, b.was.is_there))

          of_method : (what : Act) → Contains method_acts what → form_of what ≡ FieldForm → ⊥
          of_method what i = (each_in IsMethodAct method_acts what of_methods i).form

pub each_is_lost : EachReferenceIsLost
each_is_lost O N can c k h =
    let p = any_passes (is_handle_lost O N c k) method_acts (parts O N can c k h).some in
    by_act O N can c k h p.one p.is_in p.passes
