-- A client that holds values of a class and assigns them to an interface, below a seat with which both take part.
use Rattle.std.proofs.Common.{◌≡◌, ◌≤◌, true, false, List, [], ◌∷◌, ◌++◌, length, refl, ◌∙◌, ap, Some, None, not, Contains, arith}
use Rattle.std.proofs.lemmas.List.{length-append}
use Rattle.std.proofs.lemmas.List.Elements.{Contains-append_right, Contains-push}
use Rattle.jc_facts.specs.declared.member_act.MemberAct.{MemberAct}
use Rattle.jc_facts.specs.declared.class_facts.ClassFacts.{ClassFacts}
use Rattle.jc_facts.specs.declared.client.ClientClass.{ClientClass}
use Rattle.jc_facts.specs.declared.client.Item.TheVariants as item
use Rattle.jc_facts.specs.declared.link_error.LinkError.TheVariants.{VerifyError}
use Rattle.jc_facts.specs.Names.{Bytes}
use Rattle.jc_facts.specs.world.Types.{is_array_text}
use Rattle.jc_facts.specs.world.World.{World, class_named, with_clients, differ_by_name}
use Rattle.jc_facts.specs.world.Assignment.{is_class_assignable}
use Rattle.jc_facts.specs.world.Loading.{load_fault, fault_where}
use Rattle.jc_facts.specs.client.Outcome.{outcome}
use Rattle.jc_promises.specs.client.Reach.{type_in_reach}
use Rattle.jc_promises.specs.plan.PlannedNames.{own_name, constructor}
use Rattle.jc_promises.specs.plan.Planned.{acts_exposing, all_exposed}
use Rattle.jc_facts.proofs.Same.{same_itself}
use Rattle.jc_lemmas.proofs.Listed.{EachOf-append, here, there}
use Rattle.jc_worlds.proofs.Clients.{Fits}
use Rattle.jc_sound.proofs.Scope.{fits}
use Rattle.jc_sound.proofs.Reach.{declared_library}
use Rattle.jc_complete.specs.Completeness.{LinksWhole, MeetsNothing}
use Rattle.jc_complete.proofs.PlanGround.{Ready, letter}
use Rattle.jc_complete.proofs.PlanLoads.{lib_assigns}
use Rattle.jc_complete.proofs.PlanItems.{ScopeOfPlan, scope_from}
use Rattle.jc_complete.proofs.PlanMeets.{quiet_meet}
use Rattle.jc_complete.proofs.PlanSeats.{side_name, side_plain, assign_is, assign_in_reach}
use Rattle.jc_complete.proofs.PlanBase.{IsBase, own_is}
use Rattle.jc_complete.proofs.PlanParts.{IsTaken, AreOpen, IsReached, reached_left, reached_right, IsPart}
use Rattle.jc_complete.proofs.PlanBehind.{Behind, client_of, behind_valid, loads_new, behind_calls, behind_links, behind_reach, behind_quiet}

-- one client alone, which holds values of the class s with the old side and assigns them to t with both, links whole with the old one, loads with the
-- new one too and meets no collision
pub record Hands (O N : World) (s t : Bytes) : Type 0 where
  pub client : ClientClass
  pub scope : ScopeOfPlan O N (client ∷ [])
  pub fits_old : Fits O (client.facts ∷ [])
  pub fits_new : Fits N (client.facts ∷ [])
  pub links : LinksWhole (with_clients O (client.facts ∷ [])) (client ∷ []) client
  pub loads_new : load_fault (with_clients N (client.facts ∷ [])) client.facts.name ≡ None
  pub alone : MeetsNothing O N (client ∷ [])
  pub holds : type_in_reach (with_clients O (client.facts ∷ [])) client.facts.name (client ∷ []) s ≡ true
  pub takes : type_in_reach (with_clients O (client.facts ∷ [])) client.facts.name (client ∷ []) t ≡ true
  pub is_in : Contains client.items (item.Assign s t)
  pub old : outcome (with_clients O (client.facts ∷ [])) client.facts.name (item.Assign s t) ≡ None
  pub new : outcome (with_clients N (client.facts ∷ [])) client.facts.name (item.Assign s t) ≡ None

module _ (O N : World) (w : Bytes) (r : Ready O N w) (a : Bytes) (b : IsBase O N a) (acts : List MemberAct) (opened : AreOpen O a acts) (few : length acts ≤ 2)
    (s t : Bytes) (rs : IsReached O acts s) (rt : IsReached O acts t) (was : is_class_assignable O s t ≡ true) (now : is_class_assignable N s t ≡ true) where
  abbrev h : Behind O N
  h = record {
    seat = a;
    base = b;
    name = own_name O N (letter w 89) a;
    own = own_is O N w r a b.was.class b.now.class b.was.is_there b.now.is_there b.opens b.leaves 89 refl;
    fields = [];
    are_fields = record { valid = λ c e. refl; differ = refl };
    acts = acts;
    opened = opened;
    few = few;
    s = s;
    s_name = side_name r.root w O r.old s rs.class rs.is_there;
    t = t;
    t_name = side_name r.root w O r.old t rt.class rt.is_there;
    items = item.Assign s t ∷ [];
  }

  abbrev y : Bytes
  y = own_name O N (letter w 89) a

  abbrev Y : ClientClass
  Y = client_of O N h

  abbrev cs : List ClassFacts
  cs = Y.facts ∷ []

  abbrev VO : World
  VO = with_clients O cs

  abbrev VN : World
  VN = with_clients N cs

  fo : Fits O cs
  fo = fits O (Y ∷ []) r.old.bare (h.own.old.allowed_o, tt)

  fn : Fits N cs
  fn = fits N (Y ∷ []) r.new.bare (h.own.old.allowed_n, tt)

  named : class_named cs y ≡ Some Y.facts
  unfolding class_named
  named = rw (same_itself y) refl

  s_plain : is_array_text s ≡ false
  s_plain = side_plain r.root w O r.old s rs.class rs.is_there

  t_plain : is_array_text t ≡ false
  t_plain = side_plain r.root w O r.old t rt.class rt.is_there

  no_s : class_named cs s ≡ None
  no_s = declared_library O cs fo s rs.class rs.is_there

  no_t : class_named cs t ≡ None
  no_t = declared_library O cs fo t rt.class rt.is_there

  reach_of : (x : Bytes) → IsReached O acts x → type_in_reach VO y (Y ∷ []) x ≡ true
  reach_of x i = behind_reach O N w r h cs fo named (Y ∷ []) (Contains-push [] Y) x i y

  old : outcome VO y (item.Assign s t) ≡ None
  unfolding outcome
  old = ap (λ p. fault_where (not p) VerifyError) (assign_is VO s t s_plain t_plain ∙ lib_assigns O cs fo s t no_s no_t ∙ was)

  new : outcome VN y (item.Assign s t) ≡ None
  unfolding outcome
  new = ap (λ p. fault_where (not p) VerifyError) (assign_is VN s t s_plain t_plain ∙ lib_assigns N cs fn s t no_s no_t ∙ now)

  pub behind_hands : Hands O N s t
  unfolding differ_by_name class_named
  behind_hands = record {
    client = Y;
    scope = scope_from O N (Y ∷ []) r.old.bare (behind_valid O N w r h refl, tt) refl (h.own.old.allowed_o, tt) (h.own.old.allowed_n, tt) (behind_calls O N w r h cs fo named, tt);
    fits_old = fo;
    fits_new = fn;
    links = behind_links O N w r h cs fo named (Y ∷ []) ((assign_in_reach VO y (Y ∷ []) s t (reach_of s rs) (reach_of t rt), old), tt);
    loads_new = loads_new O N w r h cs fn named;
    alone = quiet_meet O N (Y ∷ []) (behind_quiet O N w r h cs fo named, tt);
    holds = reach_of s rs;
    takes = reach_of t rt;
    is_in = there (item.Assign s t) (item.Init a (constructor O a)) (all_exposed O a y acts ++ item.Assign s t ∷ []) (Contains-append_right (all_exposed O a y acts) (item.Assign s t ∷ []) (item.Assign s t) (here (item.Assign s t) []));
    old = old;
    new = new;
  }

-- a client of such an assignment
pub part_hands : (O N : World) (w : Bytes) (r : Ready O N w) (a : Bytes) → IsBase O N a → (s t : Bytes) → IsPart O a s → IsPart O a t → is_class_assignable O s t ≡ true → is_class_assignable N s t ≡ true → Hands O N s t
part_hands O N w r a b s t p q was now =
    behind_hands O N w r a b (acts_exposing O a s ++ acts_exposing O a t) (EachOf-append (IsTaken O a) (acts_exposing O a s) (acts_exposing O a t) p.opened q.opened)
    (let l = length-append (acts_exposing O a s) (acts_exposing O a t) in omega (arith, l, p.few, q.few)) s t (reached_left O (acts_exposing O a s) (acts_exposing O a t) s p.reached) (reached_right O (acts_exposing O a s) (acts_exposing O a t) t q.reached) was now
