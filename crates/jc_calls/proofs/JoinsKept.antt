-- That values still meet where they met, where no join is lost.
use Rattle.std.proofs.Common.{◌≡◌, ◌&&◌, ◌||◌, ◌⊎◌, inl, inr, ℕ, zero, suc, Bool, true, false, not, List, [], ◌∷◌, ◌++◌, refl, sym, ◌∙◌, ap, subst, Option, None, Some, is_some}
use Rattle.std.proofs.lemmas.Bool.{and_parts, and_from, or_cases, or_left, or_right, not-true}
use Rattle.std.proofs.lemmas.List.Elements.{All-contains}
use Rattle.std.proofs.lemmas.List.Folds.{list_all-append}
use Rattle.std.specs.List.{list_any, list_all}
use Rattle.jc_facts.specs.declared.act.Act.TheVariants.{Override}
use Rattle.jc_facts.specs.declared.class_facts.ClassFacts.{ClassFacts}
use Rattle.jc_facts.specs.declared.client.Item.TheVariants as item
use Rattle.jc_facts.specs.declared.finding.Finding.{Finding}
use Rattle.jc_facts.specs.declared.key.Key.{Key}
use Rattle.jc_facts.specs.declared.link_error.LinkError.TheVariants.{IncompatibleClassChangeError, VerifyError}
use Rattle.jc_facts.specs.declared.rule_numbers.TheConstants.{SUPERCLASS_LOST}
use Rattle.jc_facts.specs.declared.verdict.Collision.{Collision}
use Rattle.jc_facts.specs.Names.{Bytes, same}
use Rattle.jc_facts.specs.client.Outcome.{outcome}
use Rattle.jc_facts.specs.client.Valid.{facts_of}
use Rattle.jc_facts.specs.Flags.{interface_flag}
use Rattle.jc_facts.specs.Options.{some_and}
use Rattle.jc_facts.specs.world.Assignment.{is_class_assignable, is_interface_of, assign_to, assign_types, is_assignable}
use Rattle.jc_facts.specs.world.Hierarchy.{chain, in_chain, names_in}
use Rattle.jc_facts.specs.world.Loading.{load_fault, loads, fault_where}
use Rattle.jc_facts.specs.world.Types.{Class, type_read}
use Rattle.jc_facts.specs.world.World.{World, find_class, class_named, classes, with_clients, is_client}
use Rattle.jc_promises.specs.client.Meets.{Meets, MeetsFinal}
use Rattle.jc_promises.specs.rule.Bases.{is_class_usable, is_kept}
use Rattle.jc_promises.specs.rule.Collisions.{made_collision, final_added}
use Rattle.jc_promises.specs.rule.Exposed.{is_exposed, is_hidden}
use Rattle.jc_promises.specs.rule.Findings.{Subject, finding_at, takes_part}
use Rattle.jc_promises.specs.rule.OpenActs.{first_seat}
use Rattle.jc_facts.proofs.Same.{same_is}
use Rattle.jc_facts.proofs.World.{find-name}
use Rattle.jc_lemmas.proofs.Bools.{contradicts}
use Rattle.jc_lemmas.proofs.Listed.{EachOf, Passes, any_passes}
use Rattle.jc_lemmas.proofs.Options.{none_where}
use Rattle.jc_promises.proofs.Exposed.{any-found}
use Rattle.jc_worlds.proofs.Above.{chain-each}
use Rattle.jc_worlds.proofs.Loaded.{loads-found}
use Rattle.jc_worlds.proofs.Sides.{find-library, chain-side}
use Rattle.jc_sound.proofs.Assigned.{in_chain-same}
use Rattle.jc_sound.proofs.FindingLaws.{empty_means_none}
use Rattle.jc_sound.proofs.Ground.{Ground, root_usable, seat_at}
use Rattle.jc_sound.proofs.OpenActs.{IsSeat, first_seat-none}
use Rattle.jc_sound.proofs.Reach.{declared_library, seat_x}
use Rattle.jc_sound.proofs.Seats.{SeatOf}
use Rattle.jc_sound.proofs.Sight.{seat_is}
use Rattle.jc_sound.proofs.Sound.{ground, loads_kept, named_client}
use Rattle.jc_sound.proofs.SoundnessLaws.{final_is}
use Rattle.jc_sound.proofs.Standing.{all_quiet, stays_kept, usable_parts}
use Rattle.jc_calls.specs.Joins.{is_join, joins_for, is_joined, is_found, join_lost}
use Rattle.jc_calls.specs.JoinsKept.{JoinsStay, LoseNoJoin, is_held, meet_at, IsArrayOf}

-- ---- on the sides

-- where a line isn't due though values met, x is assignable still
module _ (O N : World) (nothing : (s : Subject) → finding_at O N s ≡ None) (none : LoseNoJoin O N) (a : Bytes) (is_seat : IsSeat O N a) where
  stays_assignable : (x y t : Bytes) (d : ClassFacts) → takes_part O N a x ≡ true → find_class O y ≡ Some d → takes_part O N a y ≡ true → is_join O x y t ≡ true → is_hidden O t ≡ true → is_class_assignable N x t ≡ true
  unfolding join_lost
  stays_assignable x y t d px f py j hidden = go (is_class_assignable N x t) refl
    where
      joins : joins_for O N x t a ≡ true
      joins = and_from (takes_part O N a x) (list_any (λ y. takes_part O N a y.name && is_join O x y.name t) (classes O)) px
          (any-found O (λ y. takes_part O N a y.name && is_join O x y.name t) y d f
          (subst (λ z. (takes_part O N a z && is_join O x z t) ≡ true) (sym (find-name O y d f)) (and_from (takes_part O N a y) (is_join O x y t) py j)))

      joined : is_joined O N x t ≡ true
      joined = by (first_seat O N (joins_for O N x t)) refl
        where
          by : (o : Option Bytes) → first_seat O N (joins_for O N x t) ≡ o → is_some o ≡ true
          by (Some b) e = refl
          by None e = absurd (contradicts (joins_for O N x t a) joins (first_seat-none O N (joins_for O N x t) e a is_seat))

      untold : is_found O N x t ≡ false
      untold = ap (λ o. is_some {T = Finding} o) (nothing (record { rule = SUPERCLASS_LOST; «class» = x; key = None; target = Some t }))

      go : (b : Bool) → is_class_assignable N x t ≡ b → b ≡ true
      go true e = refl
      go false e = absurd (
          let all : (is_hidden O t && is_joined O N x t && not (is_class_assignable N x t) && not (is_found O N x t)) ≡ true = rw (hidden, joined, e, untold) refl in
          contradicts (is_hidden O t && is_joined O N x t && not (is_class_assignable N x t) && not (is_found O N x t)) all (none x t))

-- ---- what clients hold

-- tests that agree on each
all_same : (p q : ClassFacts → Bool) (xs : List ClassFacts) → EachOf (λ c. p c ≡ q c) xs → list_all p xs ≡ list_all q xs
all_same p q [] h = refl
all_same p q (x ∷ xs) h = ap (λ b. b && list_all p xs) h.0 ∙ ap (λ b. q x && b) (all_same p q xs h.1)

module _ (O N : World) (cs : List ClassFacts) (g : Ground O N cs) (a : Bytes) where
  abbrev VO : World
  VO = with_clients O cs

  abbrev VN : World
  VN = with_clients N cs

  -- the library's classes in the chain of s begin with one that takes part: s itself, or the seat of a client
  record Rooted (s : Bytes) : Type 0 where
    base : Bytes
    facts : ClassFacts
    is_there : find_class O base ≡ Some facts
    loaded : load_fault O base ≡ None
    part : takes_part O N a base ≡ true
    itself : (z : Bytes) → is_class_usable O z ≡ false → same base z ≡ true → same s z ≡ true
    was : (z : Bytes) → class_named cs z ≡ None → in_chain VO s z ≡ in_chain O base z
    now : (z : Bytes) → class_named cs z ≡ None → in_chain VN s z ≡ in_chain N base z
    below : List ClassFacts
    whole : chain VO s ≡ below ++ chain O base

  kept_part : (s : Bytes) → is_class_usable O s ≡ true → takes_part O N a s ≡ true
  kept_part s u = or_left (is_kept O N s) (is_exposed O a s) (stays_kept O N g.quiet s u)

  of_client : (s : Bytes) (d : ClassFacts) → class_named cs s ≡ Some d → load_fault VO s ≡ None → Rooted s
  of_client s d k l =
      let st : SeatOf O N cs g.fo g.fn g.quiet g.client_names g.open_supers g.rooted g.interface_root (root_usable O N cs g) s = seat_at O N cs g s d k l in
      let u = usable_parts O st.seat st.is_usable in
      record {
        base = st.seat;
        facts = u.class;
        is_there = u.is_there;
        loaded = u.loaded;
        part = kept_part st.seat st.is_usable;
        itself = λ z n e. absurd (contradicts (is_class_usable O z) (subst (λ z. is_class_usable O z ≡ true) (same_is st.seat z e) st.is_usable) n);
        was = st.old_chain;
        now = st.new_chain;
        below = st.below;
        whole = st.old_classes;
      }

  of_library : (s : Bytes) → class_named cs s ≡ None → load_fault O s ≡ None → takes_part O N a s ≡ true → Rooted s
  of_library s k l p =
      let f = loads-found O s l in
      let c : chain O s ≡ chain VO s = chain-side O cs g.fo.bare g.fo.unused s k l in
      record {
        base = s;
        facts = f.0;
        is_there = f.1;
        loaded = l;
        part = p;
        itself = λ z n e. e;
        was = λ z kz. ap (λ cs. names_in cs z) (sym c);
        now = λ z kz. sym (in_chain-same N cs g.fn.bare g.fn.unused s z k);
        below = [];
        whole = sym c;
      }

  -- of a class of the side
  hidden_loads : (z : Bytes) → is_hidden O z ≡ true → load_fault O z ≡ None
  unfolding is_hidden
  hidden_loads z h = none_where (load_fault O z) (and_parts (loads O z) (not (is_class_usable O z)) h).0

  exposed_loads : (z : Bytes) → is_exposed O a z ≡ true → load_fault O z ≡ None
  unfolding is_exposed
  exposed_loads z h = hidden_loads z (and_parts (is_hidden O z) _ h).0

  side_loads : (z : Bytes) → (is_class_usable O z ≡ true) ⊎ (is_exposed O a z ≡ true) → load_fault O z ≡ None
  side_loads z (inl u) = (usable_parts O z u).loaded
  side_loads z (inr e) = exposed_loads z e

  side_part : (z : Bytes) → (is_class_usable O z ≡ true) ⊎ (is_exposed O a z ≡ true) → takes_part O N a z ≡ true
  side_part z (inl u) = kept_part z u
  side_part z (inr e) = or_right (is_kept O N z) (is_exposed O a z) e

  of_side : (s : Bytes) → (is_class_usable O s ≡ true) ⊎ (is_exposed O a s ≡ true) → Rooted s
  of_side s h =
      let l = side_loads s h in
      let f = loads-found O s l in
      of_library s (declared_library O cs g.fo s f.0 f.1) l (side_part s h)

  rooted : (s : Bytes) → is_held VO O a s ≡ true → Rooted s
  unfolding is_client
  rooted s h = go (or_cases ((is_client VO s && loads VO s) || is_class_usable O s) (is_exposed O a s) h)
    where
      named : (o : Option ClassFacts) → class_named cs s ≡ o → is_some o ≡ true → loads VO s ≡ true → Rooted s
      named None e q l = absurd (cc)
      named (Some d) e q l = of_client s d e (none_where (load_fault VO s) l)

      first : ((is_client VO s && loads VO s) ≡ true) ⊎ (is_class_usable O s ≡ true) → Rooted s
      first (inl q) = let p = and_parts (is_client VO s) (loads VO s) q in named (class_named cs s) refl p.0 p.1
      first (inr q) = of_side s (inl q)

      go : (((is_client VO s && loads VO s) || is_class_usable O s) ≡ true) ⊎ (is_exposed O a s ≡ true) → Rooted s
      go (inl q) = first (or_cases (is_client VO s && loads VO s) (is_class_usable O s) q)
      go (inr q) = of_side s (inr q)

  -- they join there on the side alone
  join_of : (s y t : Bytes) → class_named cs t ≡ None → load_fault O t ≡ None → (rs : Rooted s) (ry : Rooted y) → is_join VO s y t ≡ true → is_join O rs.base ry.base t ≡ true
  join_of s y t kt lt rs ry h =
      and_from (in_chain O rs.base t && in_chain O ry.base t) (list_all after (chain O rs.base))
      (and_from (in_chain O rs.base t) (in_chain O ry.base t) (sym (rs.was t kt) ∙ p.0) (sym (ry.was t kt) ∙ p.1))
      (sym (all_same before after (chain O rs.base) agree) ∙ both.1)
    where
      before : ClassFacts → Bool
      before c = not (in_chain VO y c.name) || in_chain VO t c.name

      after : ClassFacts → Bool
      after c = not (in_chain O ry.base c.name) || in_chain O t c.name

      q : ((in_chain VO s t && in_chain VO y t) ≡ true) × (list_all before (chain VO s) ≡ true)
      q = and_parts (in_chain VO s t && in_chain VO y t) (list_all before (chain VO s)) h

      p : (in_chain VO s t ≡ true) × (in_chain VO y t ≡ true)
      p = and_parts (in_chain VO s t) (in_chain VO y t) q.0

      both : (list_all before rs.below ≡ true) × (list_all before (chain O rs.base) ≡ true)
      both = and_parts (list_all before rs.below) (list_all before (chain O rs.base)) (sym (ap (list_all before) rs.whole ∙ list_all-append before rs.below (chain O rs.base)) ∙ q.1)

      agree : EachOf (λ c. before c ≡ after c) (chain O rs.base)
      agree = chain-each O (λ c. before c ≡ after c) one rs.base rs.loaded
        where
          one : (z : Bytes) (c : ClassFacts) → find_class O z ≡ Some c → load_fault O z ≡ None → before c ≡ after c
          one z c f l =
              let k : class_named cs c.name ≡ None = declared_library O cs g.fo c.name c (ap (find_class O) (find-name O z c f) ∙ f) in
              ap (λ b. not b || in_chain VO t c.name) (ry.was c.name k) ∙ ap (λ b. not (in_chain O ry.base c.name) || b) (ap (λ cs. names_in cs c.name) (sym (chain-side O cs g.fo.bare g.fo.unused t kt lt)))

  module _ (nothing : (s : Subject) → finding_at O N s ≡ None) (none : LoseNoJoin O N) (is_seat : IsSeat O N a) (x t : Bytes) (hidden : is_hidden O t ≡ true) (meet : meet_at VO O a x t ≡ true) where
    loaded : load_fault O t ≡ None
    loaded = hidden_loads t hidden

    kt : class_named cs t ≡ None
    kt = let f = loads-found O t loaded in declared_library O cs g.fo t f.0 f.1

    unusable : is_class_usable O t ≡ false
    unfolding is_hidden
    unusable = not-true (is_class_usable O t) (and_parts (loads O t) (not (is_class_usable O t)) hidden).1

    held : (is_held VO O a x ≡ true) × (list_any (λ y. is_held VO O a y.name && is_join VO x y.name t) (classes VO) ≡ true)
    held = and_parts (is_held VO O a x) (list_any (λ y. is_held VO O a y.name && is_join VO x y.name t) (classes VO)) meet

    w : Passes (λ (y : ClassFacts). is_held VO O a y.name && is_join VO x y.name t) (classes VO)
    w = any_passes (λ (y : ClassFacts). is_held VO O a y.name && is_join VO x y.name t) (classes VO) held.1

    other : (is_held VO O a w.one.name ≡ true) × (is_join VO x w.one.name t ≡ true)
    other = and_parts (is_held VO O a w.one.name) (is_join VO x w.one.name t) w.passes

    rx : Rooted x
    rx = rooted x held.0

    ry : Rooted w.one.name
    ry = rooted w.one.name other.0

    of_base : is_class_assignable N rx.base t ≡ true
    of_base = stays_assignable O N nothing none a is_seat rx.base ry.base t ry.facts rx.part ry.is_there ry.part (join_of x w.one.name t kt loaded rx ry other.1) hidden

    pub class_stays : is_class_assignable VN x t ≡ true
    class_stays = go (or_cases (same rx.base t || is_interface_of N t) (in_chain N rx.base t) of_base)
      where
        first : (same rx.base t ≡ true) ⊎ (is_interface_of N t ≡ true) → (same x t || is_interface_of VN t) ≡ true
        first (inl q) = or_left (same x t) (is_interface_of VN t) (rx.itself t unusable q)
        first (inr q) = or_right (same x t) (is_interface_of VN t) (ap (some_and (λ (c : ClassFacts). interface_flag c.flags)) (sym (find-library N cs g.fn.bare t kt)) ∙ q)

        go : ((same rx.base t || is_interface_of N t) ≡ true) ⊎ (in_chain N rx.base t ≡ true) → is_class_assignable VN x t ≡ true
        go (inl q) = or_left (same x t || is_interface_of VN t) (in_chain VN x t) (first (or_cases (same rx.base t) (is_interface_of N t) q))
        go (inr q) = or_right (same x t || is_interface_of VN t) (in_chain VN x t) (rx.now t kt ∙ q)

-- ---- the law

-- arrays go by their elements
array_stays : (V : World) (x t : Bytes) (dims : ℕ) → is_class_assignable V x t ≡ true → assign_to V dims (Class x) dims (Class t) ≡ true
unfolding assign_to
array_stays V x t zero h = h
array_stays V x t (suc n) h = array_stays V x t n h

type_stays : (V : World) (c x t s u : Bytes) (dims : ℕ) → IsArrayOf dims x s → IsArrayOf dims t u → is_class_assignable V x t ≡ true → outcome V c (item.Assign s u) ≡ None
unfolding outcome is_assignable
type_stays V c x t s u dims p q h = ap (λ b. fault_where (not b) VerifyError) (ap (λ o. assign_types V o (type_read u)) p ∙ ap (assign_types V (Some (record { dims = dims; element = Class x }))) q ∙ array_stays V x t dims h)

pub joins_stay : JoinsStay
joins_stay O N v pair verdict empty none cs scope met X b x t dims s u h l by_seat hidden meet p q =
    let W = with_clients O (facts_of cs) in
    let F = facts_of cs in
    let nothing = empty_means_none O N v verdict empty in
    let quiet = all_quiet O N nothing in
    let final : (a : Bytes) (k : Key) → final_added O N a k ≡ true → MeetsFinal W cs a k → ⊥ = λ a k e m.
    All-contains (λ (c : Collision). Meets W cs c → ⊥) v.collisions (made_collision 12 a k Override IncompatibleClassChangeError) met
    (verdict.collisions.complete (made_collision 12 a k Override IncompatibleClassChangeError) (final_is O N a k e)) (inr (inr (refl, m))) in
    let stay = loads_kept O N cs pair quiet scope refl final in
    let g = ground O N cs pair quiet scope stay in
    let kx = named_client O N cs pair quiet scope X h in
    let st = seat_x O N F g X.facts.name X.facts kx l in
    let e : st.seat ≡ b = let z : Some st.seat ≡ Some b = sym (seat_is O N cs pair quiet scope stay X h l) ∙ by_seat in cc in
    type_stays (with_clients N F) X.facts.name x t s u dims p q (class_stays O N F g b nothing none (subst (IsSeat O N) e st.is_seat) x t hidden meet)
