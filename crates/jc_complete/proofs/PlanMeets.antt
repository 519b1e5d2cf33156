-- What planned clients meet of collisions.
use Rattle.std.proofs.Common.{◌≡◌, ℕ, Bool, true, false, cond, List, [], ◌∷◌, ◌++◌, refl, sym, ◌∙◌, ap, subst, Option, Some, None, is_some, not, ◌&&◌, ◌||◌, inl, inr, ◌⊎◌, Contains, codes}
use Rattle.std.proofs.lemmas.Bool.{and_parts, both_ways, not-true, and_right}
use Rattle.std.specs.List.{list_any, find as first_where}
use Rattle.jc_desc.specs.Names.{is_init_name, is_clinit_name}
use Rattle.jc_facts.specs.declared.class_facts.ClassFacts.{ClassFacts}
use Rattle.jc_facts.specs.declared.class_facts.Member.{Member}
use Rattle.jc_facts.specs.declared.client.ClientClass.{ClientClass}
use Rattle.jc_facts.specs.declared.key.Key.{Key}
use Rattle.jc_facts.specs.declared.verdict.Collision.{Collision}
use Rattle.jc_facts.specs.Names.{Bytes, same, is_name_among, is_key, object_name}
use Rattle.jc_facts.specs.Flags.{public_flag, no_static_flag}
use Rattle.jc_facts.specs.Options.{or_else, some_and, some_where}
use Rattle.jc_facts.specs.world.World.{World, DeclaredMember, find_class, class_named, with_clients, is_client, own_method_of, found_in}
use Rattle.jc_facts.specs.world.Hierarchy.{chain, superinterfaces, is_superinterface, names_in, each, with_interfaces}
use Rattle.jc_facts.specs.world.Loading.{load_fault}
use Rattle.jc_facts.specs.world.Lookup.{first_declared, or_choices, superinterface_choices, method_choices, MethodFound, are_none}
use Rattle.jc_facts.specs.client.Valid.{facts_of}
use Rattle.jc_facts.specs.client.Seats.{seat, first_library}
use Rattle.jc_promises.specs.client.Meets.{MeetsConstant, MeetsCapture, MeetsFinal, may_name}
use Rattle.jc_facts.specs.world.Inheritance.{is_final_in_chain, declares_as_final}
use Rattle.jc_promises.specs.rule.Bases.{is_base_class, is_key_of_method}
use Rattle.jc_promises.specs.rule.Findings.{finds_overridable}
use Rattle.jc_promises.specs.rule.Collisions.{collision_at, constant_added, capture_added, final_added, captures, leaves_room}
use Rattle.jc_promises.specs.plan.Planned.{init_method, use_method}
use Rattle.jc_lemmas.proofs.Listed.{none, cases, each_in, EachOf, EachOf-map, EachOf-append, any_none}
use Rattle.jc_complete.specs.Completeness.{MeetsNothing}
use Rattle.jc_facts.proofs.World.{find-name, class_named-name}
use Rattle.jc_facts.proofs.Same.{same_is}
use Rattle.jc_worlds.proofs.Above.{chain-each, superinterfaces-each}
use Rattle.jc_worlds.proofs.Sides.{superinterface_choices-side}
use Rattle.jc_worlds.proofs.Clients.{Fits}
use Rattle.jc_sound.proofs.Reach.{declared_library}
use Rattle.jc_worlds.proofs.Bare.{bare_chain}
use Rattle.jc_worlds.proofs.Unrolled.{chain-unroll}
use Rattle.jc_complete.proofs.PlanGround.{Root}
use Rattle.jc_complete.proofs.PlanLoads.{lib_find, lib_fault, lib_chain, lib_interfaces, chain_of_client, interfaces_of_client}

-- ---- from a collision that stands to its test

where_some : {A : Type 0} (b : Bool) (x : A) (y : A) → some_where b x ≡ Some y → b ≡ true
where_some true x y e = refl
where_some false x y e = absurd (cc)

constant_of : (O N : World) (n : ℕ) (x : Bytes) (k : Key) (c : Collision) → n ≡ 10 → collision_at O N n x k ≡ Some c → constant_added O N x k ≡ true
unfolding collision_at
constant_of O N n x k c e h = where_some (constant_added O N x k) _ c (subst (λ n. collision_at O N n x k ≡ Some c) e h)

capture_of : (O N : World) (n : ℕ) (x : Bytes) (k : Key) (c : Collision) → n ≡ 11 → collision_at O N n x k ≡ Some c → capture_added O N x k ≡ true
unfolding collision_at
capture_of O N n x k c e h = where_some (capture_added O N x k) _ c (subst (λ n. collision_at O N n x k ≡ Some c) e h)

final_of : (O N : World) (n : ℕ) (x : Bytes) (k : Key) (c : Collision) → n ≡ 12 → collision_at O N n x k ≡ Some c → final_added O N x k ≡ true
unfolding collision_at
final_of O N n x k c e h = where_some (final_added O N x k) _ c (subst (λ n. collision_at O N n x k ≡ Some c) e h)

-- clients that meet none of each kind
pub meets_nothing_by : (O N : World) (cs : List ClientClass)
    → ((i : Bytes) (k : Key) → constant_added O N i k ≡ true → MeetsConstant (with_clients O (facts_of cs)) cs i k → ⊥)
    → ((a : Bytes) (k : Key) → capture_added O N a k ≡ true → MeetsCapture (with_clients O (facts_of cs)) cs a k → ⊥)
    → ((a : Bytes) (k : Key) → final_added O N a k ≡ true → MeetsFinal (with_clients O (facts_of cs)) cs a k → ⊥)
    → MeetsNothing O N cs
meets_nothing_by O N cs f g h c stands (inl m) = f c.«class» c.key (constant_of O N c.rule c.«class» c.key c m.0 stands) m.1
meets_nothing_by O N cs f g h c stands (inr (inl m)) = g c.«class» c.key (capture_of O N c.rule c.«class» c.key c m.0 stands) m.1
meets_nothing_by O N cs f g h c stands (inr (inr m)) = h c.«class» c.key (final_of O N c.rule c.«class» c.key c m.0 stands) m.1

-- a client of a seat that meets no collision
pub record IsQuiet (O N V : World) (c : ClientClass) : Type 0 where
  pub below : Bytes
  pub seat_is : seat V c.facts.name ≡ Some below
  pub names : (i : Bytes) → may_name V c.facts.name i ≡ false
  pub captures : (k : Key) (m : DeclaredMember) → capture_added O N below k ≡ true → MethodFound V c.facts.name k m → is_superinterface V c.facts.name m.owner ≡ true → ⊥
  pub finals : (k : Key) (m : Member) → final_added O N below k ≡ true → own_method_of c.facts k ≡ Some m → no_static_flag m.flags ≡ true → ⊥

pub quiet_meet : (O N : World) (cs : List ClientClass) → EachOf (IsQuiet O N (with_clients O (facts_of cs))) cs → MeetsNothing O N cs
quiet_meet O N cs h = meets_nothing_by O N cs constant capture final
  where
    at : (c : ClientClass) → Contains cs c → IsQuiet O N (with_clients O (facts_of cs)) c
    at c i = each_in (IsQuiet O N (with_clients O (facts_of cs))) cs c h i

    of_seat : (c : ClientClass) (q : IsQuiet O N (with_clients O (facts_of cs)) c) (a : Bytes) → seat (with_clients O (facts_of cs)) c.facts.name ≡ Some a → a ≡ q.below
    of_seat c q a e = let z : Some a ≡ Some q.below = sym e ∙ q.seat_is in cc

    constant : (i : Bytes) (k : Key) → constant_added O N i k ≡ true → MeetsConstant (with_clients O (facts_of cs)) cs i k → ⊥
    constant i k s m = both_ways (may_name (with_clients O (facts_of cs)) m.0.facts.name i) ((at m.0 m.1).names i) m.3

    capture : (a : Bytes) (k : Key) → capture_added O N a k ≡ true → MeetsCapture (with_clients O (facts_of cs)) cs a k → ⊥
    capture a k s m = let q = at m.0 m.1 in let f = m.5 in q.captures k f.0 (subst (λ z. capture_added O N z k ≡ true) (of_seat m.0 q a m.4) s) f.1 f.2

    final : (a : Bytes) (k : Key) → final_added O N a k ≡ true → MeetsFinal (with_clients O (facts_of cs)) cs a k → ⊥
    final a k s m = let q = at m.0 m.1 in let f = m.5 in q.finals k f.0 (subst (λ z. final_added O N z k ≡ true) (of_seat m.0 q a m.4) s) f.1 f.2

-- ---- what stands

pub record StandsCapture (O N : World) (a : Bytes) (k : Key) : Type 0 where
  pub key : is_key_of_method k ≡ true
  pub base : is_base_class O N a ≡ true
  pub unknown : are_none (method_choices O a k) ≡ true
  pub captured : captures N a k ≡ true
  pub room : leaves_room k ≡ true

pub capture_parts : (O N : World) (a : Bytes) (k : Key) → capture_added O N a k ≡ true → StandsCapture O N a k
unfolding capture_added
capture_parts O N a k h =
    let p = and_parts (is_key_of_method k && is_base_class O N a && are_none (method_choices O a k) && captures N a k) (leaves_room k) h in
    let q = and_parts (is_key_of_method k && is_base_class O N a && are_none (method_choices O a k)) (captures N a k) p.0 in
    let r = and_parts (is_key_of_method k && is_base_class O N a) (are_none (method_choices O a k)) q.0 in
    let s = and_parts (is_key_of_method k) (is_base_class O N a) r.0 in
    record { key = s.0; base = s.1; unknown = r.1; captured = q.1; room = p.1 }

pub record StandsFinal (O N : World) (a : Bytes) (k : Key) : Type 0 where
  pub key : is_key_of_method k ≡ true
  pub base : is_base_class O N a ≡ true
  pub now : is_final_in_chain N a k ≡ true
  pub was : is_final_in_chain O a k ≡ false
  pub found : finds_overridable O a k ≡ false

pub final_parts : (O N : World) (a : Bytes) (k : Key) → final_added O N a k ≡ true → StandsFinal O N a k
unfolding final_added
final_parts O N a k h =
    let p = and_parts (is_key_of_method k && is_base_class O N a && is_final_in_chain N a k && not (is_final_in_chain O a k)) (not (finds_overridable O a k)) h in
    let q = and_parts (is_key_of_method k && is_base_class O N a && is_final_in_chain N a k) (not (is_final_in_chain O a k)) p.0 in
    let r = and_parts (is_key_of_method k && is_base_class O N a) (is_final_in_chain N a k) q.0 in
    let s = and_parts (is_key_of_method k) (is_base_class O N a) r.0 in
    record { key = s.0; base = s.1; now = r.1; was = not-true (is_final_in_chain O a k) q.1; found = not-true (finds_overridable O a k) p.1 }

pub nothing_found : (ms : List DeclaredMember) → are_none ms ≡ true → ms ≡ []
nothing_found [] h = refl
nothing_found (m ∷ ms) h = absurd (cc)

-- ---- java/lang/Object is no collision's class

module _ (O N : World) (root : ClassFacts) (r : Root root) (o : find_class O object_name ≡ Some root) (n : find_class N object_name ≡ Some root) where
  root_chains : chain N object_name ≡ chain O object_name
  root_chains = bare_chain N object_name root n r.superclass r.interfaces ∙ sym (bare_chain O object_name root o r.superclass r.interfaces)

  pub no_capture_root : (k : Key) → capture_added O N object_name k ≡ true → ⊥
  unfolding captures method_choices or_choices
  no_capture_root k h = go (first_declared k (chain O object_name)) s.unknown (subst (λ cs. some_and (λ m. not (public_flag m.member.flags && no_static_flag m.member.flags)) (first_declared k cs) ≡ true) root_chains s.captured)
    where
      s : StandsCapture O N object_name k
      s = capture_parts O N object_name k h

      go : (m : Option DeclaredMember) → are_none (or_choices m (superinterface_choices O object_name k)) ≡ true → some_and (λ m. not (public_flag m.member.flags && no_static_flag m.member.flags)) m ≡ true → ⊥
      go None p q = cc
      go (Some m) p q = cc

  pub no_final_root : (k : Key) → final_added O N object_name k ≡ true → ⊥
  unfolding is_final_in_chain
  no_final_root k h =
      let s = final_parts O N object_name k h in
      both_ways (is_final_in_chain O object_name k) s.was (subst (λ cs. list_any (declares_as_final k) cs ≡ true) root_chains s.now)

-- ---- a client below a class of the side

module _ (W : World) (cs : List ClassFacts) (f : Fits W cs) where
  abbrev V : World
  V = with_clients W cs

  -- a class of the side is no client
  pub no_client : (y : Bytes) (c : ClassFacts) → find_class W y ≡ Some c → is_client V c.name ≡ false
  unfolding is_client
  no_client y c e = ap is_some (declared_library W cs f c.name c (ap (find_class W) (find-name W y c e) ∙ e))

  pub chain_apart : (s : Bytes) → load_fault W s ≡ None → EachOf (λ c. is_client V c.name ≡ false) (chain W s)
  chain_apart s h = chain-each W (λ c. is_client V c.name ≡ false) (λ y c e l. no_client y c e) s h

  pub interfaces_apart : (s : Bytes) → load_fault W s ≡ None → EachOf (λ c. is_client V c.name ≡ false) (superinterfaces W s)
  interfaces_apart s h = superinterfaces-each W (λ c. is_client V c.name ≡ false) (λ y c e l i. no_client y c e) s h

  module _ (x : Bytes) (c : ClassFacts) (s : Bytes) (d : ClassFacts) (k : class_named cs x ≡ Some c) (q : c.superclass ≡ Some s) (t : find_class W s ≡ Some d) (h : load_fault W s ≡ None) (l : load_fault V x ≡ None) where
    here : find_class V s ≡ Some d
    here = lib_find W cs f s d t

    up : load_fault V s ≡ None
    up = lib_fault W cs f s d t ∙ h

    -- its chain
    pub chain_below : chain V x ≡ c ∷ chain W s
    chain_below = chain_of_client W cs f x c s d k q here up l ∙ ap (λ cs. c ∷ cs) (lib_chain W cs f s d t h)

    pub interfaces_below : superinterfaces V x ≡ each (with_interfaces V) c.interfaces ++ superinterfaces W s
    interfaces_below = interfaces_of_client W cs f x c s d k q here up l ∙ ap (λ cs. each (with_interfaces V) c.interfaces ++ cs) (lib_interfaces W cs f s d t h)

    client_name : is_client V c.name ≡ true
    unfolding is_client
    client_name = ap (λ z. is_some (class_named cs z)) (class_named-name cs x c k) ∙ rw k refl

    -- its seat
    pub seat_below : seat V x ≡ Some s
    unfolding first_library
    seat_below =
        let a : chain W s ≡ d ∷ _ = chain-unroll W s d t h in
        ap (first_library V) (chain_below ∙ ap (λ cs. c ∷ cs) a) ∙ rw (client_name, no_client s d t) (ap Some (find-name W s d t))

    module _ (is : c.interfaces ≡ []) where
      bare_above : superinterfaces V x ≡ superinterfaces W s
      unfolding each
      bare_above = interfaces_below ∙ ap (λ is. each (with_interfaces V) is ++ superinterfaces W s) is

      -- no client above it names an interface
      pub names_none : (i : Bytes) → may_name V x i ≡ false
      names_none i = any_none (λ c. is_client V c.name && is_name_among c.interfaces i) (chain V x ++ superinterfaces V x)
          (subst (EachOf Quiet) (sym (ap (λ cs. cs ++ superinterfaces V x) chain_below ∙ ap (λ is. (c ∷ chain W s) ++ is) bare_above))
          (own, EachOf-append Quiet (chain W s) (superinterfaces W s) (EachOf-map apart (chain W s) (chain_apart s h)) (EachOf-map apart (superinterfaces W s) (interfaces_apart s h))))
        where
          Quiet : ClassFacts → Type 0
          Quiet c = (is_client V c.name && is_name_among c.interfaces i) ≡ false

          apart : (c : ClassFacts) → is_client V c.name ≡ false → (is_client V c.name && is_name_among c.interfaces i) ≡ false
          apart c e = rw e refl

          own : (is_client V c.name && is_name_among c.interfaces i) ≡ false
          own = and_right (is_client V c.name) (is_name_among c.interfaces i) (ap (λ is. is_name_among is i) is)

      -- where it doesn't declare the key, its lookup is that of the class above it
      pub choices_below : (k : Key) → own_method_of c k ≡ None → method_choices V x k ≡ method_choices W s k
      unfolding method_choices first_declared found_in or_else superinterface_choices
      choices_below k e =
          let a : superinterface_choices V x k ≡ superinterface_choices V s k = rw (bare_above, lib_interfaces W cs f s d t h) refl in
          let b = superinterface_choices-side W cs f.bare f.unused s k (declared_library W cs f s d t) h in
          ap (λ cs. or_choices (first_declared k cs) (superinterface_choices V x k)) chain_below ∙ rw (e, a ∙ sym b) refl

      -- what it declares itself is of no superinterface
      own_apart : (o : Bytes) → is_superinterface V x o ≡ true → o ≡ c.name → ⊥
      own_apart o e q = both_ways (is_superinterface V x c.name) (ap (λ cs. names_in cs c.name) bare_above ∙ any_none (λ b. same b.name c.name) (superinterfaces W s) (EachOf-map by (superinterfaces W s) (interfaces_apart s h))) (subst (λ z. is_superinterface V x z ≡ true) q e)
        where
          by : (b : ClassFacts) → is_client V b.name ≡ false → same b.name c.name ≡ false
          by b n = go (same b.name c.name) refl
            where
              go : (t : Bool) → same b.name c.name ≡ t → t ≡ false
              go false p = refl
              go true p = absurd (both_ways (is_client V b.name) n (ap (is_client V) (same_is b.name c.name p) ∙ client_name))

      -- it meets no capture of a key that the class above doesn't know
      pub meets_no_capture : (k : Key) (m : DeclaredMember) → method_choices W s k ≡ [] → MethodFound V x k m → is_superinterface V x m.owner ≡ true → ⊥
      unfolding method_choices first_declared found_in or_else or_choices
      meets_no_capture k m e found above = go (own_method_of c k) refl
        where
          go : (o : Option Member) → own_method_of c k ≡ o → ⊥
          go None p = none m (subst (λ ms. Contains ms m) (choices_below k p ∙ e) found)
          go (Some n) p = own_apart m.owner above (ap (λ (z : DeclaredMember). z.owner) (only (record { owner = c.name; member = n }) m (subst (λ ms. Contains ms m) (ap (λ cs. or_choices (first_declared k cs) (superinterface_choices V x k)) chain_below ∙ at n p) found)))
            where
              at : (n : Member) → own_method_of c k ≡ Some n → or_choices (first_declared k (c ∷ chain W s)) (superinterface_choices V x k) ≡ record { owner = c.name; member = n } ∷ []
              at n p = rw p refl

              only : (a b : DeclaredMember) → Contains (a ∷ []) b → b ≡ a
              only a b h = by (cases a [] b h)
                where
                  by : (a ≡ b) ⊎ Contains [] b → b ≡ a
                  by (inl e) = sym e
                  by (inr e) = absurd (none b e)

-- ---- methods that no rule speaks of

-- neither an initializer nor the static `use` is an instance method of a method key
pub declares_no_final : (d : Bytes) (k : Key) (m : Member) → is_key_of_method k ≡ true → first_where (is_key k) (init_method ∷ use_method d ∷ []) ≡ Some m → no_static_flag m.flags ≡ true → ⊥
declares_no_final d k m key e i = go (same (codes "<init>") k.name && same (codes "()V") k.descriptor) refl e
  where
    named : same (codes "<init>") k.name ≡ true → ⊥
    named p = let z : not (is_init_name (codes "<init>") || is_clinit_name (codes "<init>")) ≡ true = subst (λ n. not (is_init_name n || is_clinit_name n) ≡ true) (sym (same_is (codes "<init>") k.name p)) key in cc

    last : (b : Bool) → cond b (Some (use_method d)) None ≡ Some m → ⊥
    last true q = let u : use_method d ≡ m = cc in let z : no_static_flag (use_method d).flags ≡ true = subst (λ (n : Member). no_static_flag n.flags ≡ true) (sym u) i in cc
    last false q = cc

    go : (b : Bool) → (same (codes "<init>") k.name && same (codes "()V") k.descriptor) ≡ b → cond b (Some init_method) (cond (is_key k (use_method d)) (Some (use_method d)) None) ≡ Some m → ⊥
    go true p q = named (and_parts (same (codes "<init>") k.name) (same (codes "()V") k.descriptor) p).0
    go false p q = last (is_key k (use_method d)) q
