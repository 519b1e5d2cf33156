-- That a client's method refuses no call which it didn't refuse, where no line on access is due and the key wasn't public above it.
use Rattle.std.proofs.Common.{◌≡◌, ◌&&◌, ◌||◌, ◌⊎◌, inl, inr, Bool, true, false, cond, not, List, [], ◌∷◌, ◌++◌, refl, sym, ◌∙◌, ap, subst, Option, None, Some, is_some}
use Rattle.std.proofs.lemmas.Bool.{and_parts, not-true, or_cases}
use Rattle.std.proofs.lemmas.List.{append_assoc}
use Rattle.std.proofs.lemmas.List.Elements.{All-contains}
use Rattle.std.specs.List.{Contains, list_any, find as first_where}
use Rattle.jc_desc.specs.Names.{is_init_name, is_clinit_name}
use Rattle.jc_facts.specs.declared.act.Act.TheVariants.{Override}
use Rattle.jc_facts.specs.declared.class_facts.ClassFacts.{ClassFacts}
use Rattle.jc_facts.specs.declared.class_facts.Member.{Member}
use Rattle.jc_facts.specs.declared.key.Key.{Key}
use Rattle.jc_facts.specs.declared.link_error.LinkError.TheVariants.{IncompatibleClassChangeError}
use Rattle.jc_facts.specs.declared.verdict.Collision.{Collision}
use Rattle.jc_facts.specs.Names.{Bytes, is_key, key_of, object_name}
use Rattle.jc_facts.specs.Flags.{private_flag, public_flag, protected_flag, static_flag, no_static_flag, final_flag, interface_flag}
use Rattle.jc_facts.specs.Options.{or_else, some_and, some_where, and_then, first_some}
use Rattle.jc_facts.specs.world.World.{World, DeclaredMember, find_class, class_named, with_clients, is_client, own_method_of, found_in, declared_method}
use Rattle.jc_facts.specs.world.Assignment.{is_interface_of}
use Rattle.jc_facts.specs.world.Hierarchy.{chain, of_super, superinterfaces}
use Rattle.jc_facts.specs.world.Inheritance.{offers, is_inheritable, is_open_final, declares_as_final, is_final_in_chain, public_or_protected}
use Rattle.jc_facts.specs.world.Loading.{load_fault, fault_of_itself, fault_of_superclass, error_of_superclass, fault_of_interface, fault_where}
use Rattle.jc_facts.specs.world.Overriding.{directly, directly_overrides, overrides_some_final, OverridesFinal}
use Rattle.jc_facts.specs.world.Search.{supers_of}
use Rattle.jc_facts.specs.client.Valid.{facts_of}
use Rattle.jc_promises.specs.client.Meets.{Meets, MeetsFinal}
use Rattle.jc_promises.specs.rule.Bases.{is_base_class, is_key_of_method}
use Rattle.jc_promises.specs.rule.Collisions.{made_collision, final_added}
use Rattle.jc_facts.proofs.KeySets.{key-same}
use Rattle.jc_facts.proofs.Options.{or_else-none}
use Rattle.jc_facts.proofs.World.{find-name, IsOf}
use Rattle.jc_lemmas.proofs.Bools.{contradicts}
use Rattle.jc_lemmas.proofs.Listed.{EachOf, any_has, each_in, here, there}
use Rattle.jc_lemmas.proofs.Lists.{found_passes}
use Rattle.jc_worlds.proofs.Above.{chain-each, fault_where-none}
use Rattle.jc_worlds.proofs.Bare.{bare_interfaces}
use Rattle.jc_worlds.proofs.Clients.{find-client}
use Rattle.jc_worlds.proofs.Loaded.{loads-parts, loads-found, loads-induction}
use Rattle.jc_worlds.proofs.OverridingLaw.{finals_refuse}
use Rattle.jc_worlds.proofs.Unrolled.{chain-unroll}
use Rattle.jc_sound.proofs.ClientLoads.{taken_superclass}
use Rattle.jc_sound.proofs.FindingLaws.{empty_means_none}
use Rattle.jc_sound.proofs.Ground.{Ground, root_usable}
use Rattle.jc_sound.proofs.MethodSets.{valid_side_o}
use Rattle.jc_sound.proofs.OpenActs.{IsSeat}
use Rattle.jc_sound.proofs.Reach.{declared_library, seat_x}
use Rattle.jc_sound.proofs.Seats.{SeatOf}
use Rattle.jc_sound.proofs.Sight.{seat_is}
use Rattle.jc_sound.proofs.Sound.{ground, loads_kept, named_client}
use Rattle.jc_sound.proofs.SoundnessLaws.{final_is}
use Rattle.jc_sound.proofs.Standing.{all_quiet, stays_usable, usable_parts}
use Rattle.jc_calls.specs.Access.{access_added, is_called_above, is_public_in_chain}
use Rattle.jc_calls.specs.AccessKept.{AccessStays}
use Rattle.jc_calls.specs.Selected.{IsCalled, called_method, if_overrides, selected, IsRefused}
use Rattle.jc_calls.proofs.LostAccess.{offered}

-- ---- what is selected

-- the class that declares it
record IsChosen (k : Key) (r : DeclaredMember) (cs : List ClassFacts) (m : DeclaredMember) : Type 0 where
  class : ClassFacts
  is_in : Contains cs class
  declares : declared_method k class ≡ Some m
  overrides : directly_overrides m r ≡ true

chosen : (k : Key) (r : DeclaredMember) (cs : List ClassFacts) (m : DeclaredMember) → selected k r cs ≡ Some m → IsChosen k r cs m
unfolding selected or_else
chosen k r [] m e = absurd (cc)
chosen k r (c ∷ cs) m e = go (declared_method k c) refl e (chosen k r cs m)
  where
    further : IsChosen k r cs m → IsChosen k r (c ∷ cs) m
    further w = record { class = w.class; is_in = there w.class c cs w.is_in; declares = w.declares; overrides = w.overrides }

    go : (o : Option DeclaredMember) → declared_method k c ≡ o → or_else (if_overrides r o) (selected k r cs) ≡ Some m → (selected k r cs ≡ Some m → IsChosen k r cs m) → IsChosen k r (c ∷ cs) m
    go None p q f = further (f q)
    go (Some n) p q f = by (directly_overrides n r) refl q
      where
        by : (b : Bool) → directly_overrides n r ≡ b → or_else (some_where b n) (selected k r cs) ≡ Some m → IsChosen k r (c ∷ cs) m
        by false d z = further (f z)
        by true d z = let i : n ≡ m = cc in subst (IsChosen k r (c ∷ cs)) i (record { class = c; is_in = here c cs; declares = p; overrides = d })

selected-append : (k : Key) (r : DeclaredMember) (cs ds : List ClassFacts) → selected k r (cs ++ ds) ≡ or_else (selected k r cs) (selected k r ds)
unfolding selected or_else
selected-append k r [] ds = refl
selected-append k r (c ∷ cs) ds = go (if_overrides r (declared_method k c)) (selected-append k r cs ds)
  where
    go : (o : Option DeclaredMember) → selected k r (cs ++ ds) ≡ or_else (selected k r cs) (selected k r ds) → or_else o (selected k r (cs ++ ds)) ≡ or_else (or_else o (selected k r cs)) (selected k r ds)
    go None e = e
    go (Some m) e = refl

-- of public instance methods the same is selected
abbrev IsShared : DeclaredMember → Type 0
IsShared r = (static_flag r.member.flags ≡ false) × (public_flag r.member.flags ≡ true)

overrides-same : (m r s : DeclaredMember) → IsShared r → IsShared s → directly_overrides m r ≡ directly_overrides m s
overrides-same m r s h i = rw (h.0, h.1, i.0, i.1) refl

selected-same : (k : Key) (r s : DeclaredMember) → IsShared r → IsShared s → (cs : List ClassFacts) → selected k r cs ≡ selected k s cs
unfolding selected
selected-same k r s h i [] = refl
selected-same k r s h i (c ∷ cs) = go (declared_method k c) (selected-same k r s h i cs)
  where
    go : (o : Option DeclaredMember) → selected k r cs ≡ selected k s cs → or_else (if_overrides r o) (selected k r cs) ≡ or_else (if_overrides s o) (selected k s cs)
    go None e = ap (or_else None) e
    go (Some m) e = ap (λ b. or_else (some_where b m) (selected k r cs)) (overrides-same m r s h i) ∙ ap (or_else (some_where (directly_overrides m s) m)) e

shared : {W : World} {y : Bytes} {k : Key} (c : IsCalled W y k) → IsShared (called_method c)
shared c = (not-true (static_flag c.method.flags) (and_parts (no_static_flag c.method.flags) (not (private_flag c.method.flags)) c.inheritable).0, c.public)

-- the name of the class that declares a method is its owner's
owner_is : (k : Key) (c : ClassFacts) (m : DeclaredMember) → declared_method k c ≡ Some m → (m.owner ≡ c.name) × (own_method_of c k ≡ Some m.member)
unfolding found_in
owner_is k c m e = go (own_method_of c k) refl e
  where
    go : (o : Option Member) → own_method_of c k ≡ o → found_in c o ≡ Some m → (m.owner ≡ c.name) × (own_method_of c k ≡ Some m.member)
    go None p q = absurd (cc)
    go (Some n) p q =
        let i : record { owner = c.name; member = n } ≡ m = let z : Some (record { owner = c.name; member = n }) ≡ Some m = q in cc in
        (sym (ap (λ (d : DeclaredMember). d.owner) i), p ∙ ap (λ (d : DeclaredMember). Some d.member) i)

-- a method that overrides is an instance method that isn't private
overriding_offers : (k : Key) (c : ClassFacts) (m r : DeclaredMember) → declared_method k c ≡ Some m → directly_overrides m r ≡ true → offers k c ≡ true
overriding_offers k c m r e d = ap (some_and is_inheritable) (owner_is k c m e).1 ∙ go (no_static_flag m.member.flags) (no_static_flag r.member.flags) (private_flag m.member.flags) _ d
  where
    go : (i j p z : Bool) → (i && j && not p && z) ≡ true → (i && not p) ≡ true
    go true true false z h = refl
    go true true true z h = absurd (cc)
    go true false p z h = absurd (cc)
    go false j p z h = absurd (cc)

-- ---- a class that loads declares no key that is final above

found_there : {A : Type 0} (test : A → Bool) (xs : List A) (x : A) → first_where test xs ≡ Some x → Contains xs x
found_there test [] x e = absurd (cc)
found_there test (y ∷ xs) x e = go (test y) e (found_there test xs x)
  where
    go : (b : Bool) → cond b (Some y) (first_where test xs) ≡ Some x → (first_where test xs ≡ Some x → Contains xs x) → Contains (y ∷ xs) x
    go true q f = let i : y ≡ x = cc in subst (Contains (y ∷ xs)) i (here y xs)
    go false q f = there x y xs (f q)

record Split (p : ClassFacts → Bool) (cs : List ClassFacts) : Type 0 where
  before : List ClassFacts
  class : ClassFacts
  rest : List ClassFacts
  is : cs ≡ before ++ class ∷ rest
  passes : p class ≡ true

split : (p : ClassFacts → Bool) (cs : List ClassFacts) → list_any p cs ≡ true → Split p cs
split p [] h = absurd (let z : false ≡ true = h in cc)
split p (c ∷ cs) h = go (p c) refl h (split p cs)
  where
    go : (b : Bool) → p c ≡ b → (b || list_any p cs) ≡ true → (list_any p cs ≡ true → Split p cs) → Split p (c ∷ cs)
    go true e q f = record { before = []; class = c; rest = cs; is = refl; passes = e }
    go false e q f = let w = f q in record { before = c ∷ w.before; class = w.class; rest = w.rest; is = ap (λ ds. c ∷ ds) w.is; passes = w.passes }

-- what the class itself overrides
own_finals : (W : World) (c : ClassFacts) → fault_of_itself W c ≡ None → interface_flag c.flags ≡ false → overrides_some_final c.name c.methods (of_super (chain W) c.superclass) ≡ false
unfolding fault_of_itself
own_finals W c o i =
    let a = or_else-none (and_then (fault_of_superclass W c) c.superclass) _ o in
    let b = or_else-none (first_some (fault_of_interface W c) c.interfaces) (fault_where (not (interface_flag c.flags) && overrides_some_final c.name c.methods (of_super (chain W) c.superclass)) IncompatibleClassChangeError) a.1 in
    let f = fault_where-none (not (interface_flag c.flags) && overrides_some_final c.name c.methods (of_super (chain W) c.superclass)) IncompatibleClassChangeError b.1 in
    subst (λ b. (not b && overrides_some_final c.name c.methods (of_super (chain W) c.superclass)) ≡ false) i f

-- a method that may override, and a final one above that is public or protected
overrides_final : (k : Key) → is_key_of_method k ≡ true → (c : ClassFacts) (ds rest : List ClassFacts) → offers k c ≡ true → list_any (declares_as_final k) rest ≡ true → overrides_some_final c.name c.methods (ds ++ rest) ≡ true
unfolding found_in
overrides_final k mk c ds rest o h = own (own_method_of c k) refl o
  where
    s : Split (declares_as_final k) rest
    s = split (declares_as_final k) rest h

    one : (i p j u t z : Bool) → (i && not p) ≡ true → j ≡ true → (u || t) ≡ true → (i && j && not p && (u || t || z)) ≡ true
    one true false true true t z e f g = refl
    one true false true false true z e f g = refl
    one true false true false false z e f g = absurd (cc)
    one true false false u t z e f g = absurd (cc)
    one true true j u t z e f g = absurd (cc)
    one false p j u t z e f g = absurd (cc)

    final : (m f : Member) → own_method_of s.class k ≡ Some f → is_open_final f ≡ true → is_inheritable m ≡ true → OverridesFinal k (record { owner = c.name; member = m }) (ds ++ rest)
    final m f e q i =
        let x = and_parts (final_flag f.flags && no_static_flag f.flags) (public_or_protected f) q in
        let y = and_parts (final_flag f.flags) (no_static_flag f.flags) x.0 in
        let b : DeclaredMember = record { owner = c.name; member = m } in
        let a : DeclaredMember = record { owner = s.class.name; member = f } in
        record {
          between = ds ++ s.before;
          class = s.class;
          rest = s.rest;
          split = ap (λ cs. ds ++ cs) s.is ∙ sym (append_assoc ds s.before (s.class ∷ s.rest));
          method = a;
          declared = ap (found_in s.class) e;
          final = y.0;
          overrides = directly (ds ++ s.before) (one (no_static_flag m.flags) (private_flag m.flags) (no_static_flag f.flags) (public_flag f.flags) (protected_flag f.flags) _ i y.1 x.1);
        }

    made : (m : Member) → own_method_of c k ≡ Some m → OverridesFinal k (record { owner = c.name; member = m }) (ds ++ rest) → overrides_some_final c.name c.methods (ds ++ rest) ≡ true
    made m e w =
        let n : key_of m ≡ k = key-same k m (found_passes (is_key k) c.methods m e) in
        (finals_refuse c.name c.methods (ds ++ rest)).1 (record {
          method = m;
          is_in = found_there (is_key k) c.methods m e;
          is_plain = ap (λ (l : Key). is_init_name l.name || is_clinit_name l.name) n ∙ not-true (is_init_name k.name || is_clinit_name k.name) mk;
          overrides = subst (λ (l : Key). OverridesFinal l (record { owner = c.name; member = m }) (ds ++ rest)) (sym n) w;
        })

    with_final : (m : Member) → own_method_of c k ≡ Some m → is_inheritable m ≡ true → (p : Option Member) → own_method_of s.class k ≡ p → some_and is_open_final p ≡ true → overrides_some_final c.name c.methods (ds ++ rest) ≡ true
    with_final m e i None z q = absurd (cc)
    with_final m e i (Some f) z q = made m e (final m f z q i)

    own : (p : Option Member) → own_method_of c k ≡ p → some_and is_inheritable p ≡ true → overrides_some_final c.name c.methods (ds ++ rest) ≡ true
    own None e i = absurd (cc)
    own (Some m) e i = with_final m e i (own_method_of s.class k) refl s.passes

-- the classes `below` begin the chain of a class that loads, and one of them offers the key: none behind them has it as a final method
module _ (W : World) (k : Key) (mk : is_key_of_method k ≡ true) where
  abbrev IsFree : Bytes → Type 0
  IsFree x = is_interface_of W x ≡ false → (below rest : List ClassFacts) → chain W x ≡ below ++ rest → list_any (offers k) below ≡ true → list_any (declares_as_final k) rest ≡ false

  -- the same of these classes
  abbrev Behind : List ClassFacts → Type 0
  Behind cs = (ds rest : List ClassFacts) → cs ≡ ds ++ rest → list_any (offers k) ds ≡ true → list_any (declares_as_final k) rest ≡ false

  no_final_above : (x : Bytes) → load_fault W x ≡ None → IsFree x
  unfolding fault_of_superclass and_then or_else fault_of_itself
  no_final_above = loads-induction W IsFree (λ x c f h r i below rest e o.
      let p = loads-parts W x c f h in
      let j : interface_flag c.flags ≡ false = rw f at i in
      at c (own_finals W c p.1 j) (further c c.superclass c.interfaces r p.0 (or_else-none (and_then (fault_of_superclass W c) c.superclass) _ p.1).0) below rest (sym (chain-unroll W x c f h) ∙ e) o)
    where
      empty : (ds rest : List ClassFacts) → [] ≡ ds ++ rest → list_any (offers k) ds ≡ true → list_any (declares_as_final k) rest ≡ false
      empty [] rest e o = absurd (let z : false ≡ true = o in cc)
      empty (d ∷ ds) rest e o = absurd (let z : [] ≡ d ∷ (ds ++ rest) = e in cc)

      further : (c : ClassFacts) (o : Option Bytes) (is : List Bytes) → EachOf IsFree (supers_of o is) → EachOf (λ s. load_fault W s ≡ None) (supers_of o is) → and_then (fault_of_superclass W c) o ≡ None → Behind (of_super (chain W) o)
      further c None is r l g = empty
      further c (Some s) is r l g =
          let t = loads-found W s l.0 in
          let e : error_of_superclass W c t.0 ≡ None = rw t.1 at g in
          let q : interface_flag t.0.flags ≡ false = (taken_superclass W c t.0 e).class in
          r.0 (rw t.1 q)

      at : (c : ClassFacts) → overrides_some_final c.name c.methods (of_super (chain W) c.superclass) ≡ false → Behind (of_super (chain W) c.superclass) → (below rest : List ClassFacts) → c ∷ of_super (chain W) c.superclass ≡ below ++ rest → list_any (offers k) below ≡ true
          → list_any (declares_as_final k) rest ≡ false
      at c n b [] rest e o = absurd (let z : false ≡ true = o in cc)
      at c n b (d ∷ ds) rest e o = go (or_cases (offers k d) (list_any (offers k) ds) o)
        where
          both : (c ≡ d) × (of_super (chain W) c.superclass ≡ ds ++ rest)
          both = let z : c ∷ of_super (chain W) c.superclass ≡ d ∷ (ds ++ rest) = e in (cc, cc)

          mine : (t : Bool) → list_any (declares_as_final k) rest ≡ t → offers k c ≡ true → t ≡ false
          mine false p q = refl
          mine true p q = absurd (contradicts (overrides_some_final c.name c.methods (ds ++ rest)) (overrides_final k mk c ds rest q p) (subst (λ cs. overrides_some_final c.name c.methods cs ≡ false) both.1 n))

          go : (offers k d ≡ true) ⊎ (list_any (offers k) ds ≡ true) → list_any (declares_as_final k) rest ≡ false
          go (inl q) = mine (list_any (declares_as_final k) rest) refl (subst (λ z. offers k z ≡ true) (sym both.0) q)
          go (inr q) = b ds rest both.1 q

-- ---- a client

-- where a line isn't due, and nothing is final, it was called before or public
not_due : (m b e u o c f : Bool) → (m && b && not (e || u || o) && c && not f) ≡ false → m ≡ true → b ≡ true → o ≡ false → c ≡ true → f ≡ false → (e || u) ≡ true
not_due true true false false false true false h p q r s t = absurd (cc)
not_due true true true u o c f h p q r s t = refl
not_due true true false true o c f h p q r s t = refl
not_due true true false false true c f h p q r s t = absurd (cc)
not_due true true false false false false f h p q r s t = absurd (cc)
not_due true true false false false true true h p q r s t = absurd (cc)
not_due true false e u o c f h p q r s t = absurd (cc)
not_due false b e u o c f h p q r s t = absurd (cc)

module _ (O N : World) (cs : List ClassFacts) (g : Ground O N cs) (none : (a : Bytes) (k : Key) → access_added O N a k ≡ false) (x : Bytes) (c : ClassFacts) (kx : class_named cs x ≡ Some c) (class : interface_flag c.flags ≡ false)
    (lx : load_fault (with_clients O cs) x ≡ None) (k : Key) (mk : is_key_of_method k ≡ true) where
  abbrev VO : World
  VO = with_clients O cs

  abbrev VN : World
  VN = with_clients N cs

  abbrev st : SeatOf O N cs g.fo g.fn g.quiet g.client_names g.open_supers g.rooted g.interface_root (root_usable O N cs g) x
  st = seat_x O N cs g x c kx lx

  abbrev a : Bytes
  a = st.seat

  seat_loads_o : load_fault O a ≡ None
  seat_loads_o = (usable_parts O a st.is_usable).loaded

  seat_loads_n : load_fault N a ≡ None
  seat_loads_n = (usable_parts N a (stays_usable O N g.quiet a st.is_usable)).loaded

  x_loads : load_fault VN x ≡ None
  x_loads = g.clients_load x c kx lx

  x_was_class : is_interface_of VO x ≡ false
  x_was_class = ap (some_and (λ (d : ClassFacts). interface_flag d.flags)) (find-client O cs g.fo x c kx) ∙ class

  x_class : is_interface_of VN x ≡ false
  x_class = ap (some_and (λ (d : ClassFacts). interface_flag d.flags)) (find-client N cs g.fn x c kx) ∙ class

  module _ (now : IsRefused VN N x a k) where
    called_now : is_called_above N a k ≡ true
    called_now = any_has (offers k) (superinterfaces N a) now.called.class now.called.is_above (ap (some_and is_inheritable) now.called.declares ∙ now.called.inheritable)

    -- the method is of a client that stands below the seat
    of_below : selected k (called_method now.called) st.below ≡ Some now.method
    unfolding is_client or_else
    of_below = go (selected k (called_method now.called) st.below) refl (sym (selected-append k (called_method now.called) st.below (chain N a)) ∙ sym (ap (selected k (called_method now.called)) st.new_classes) ∙ now.runs)
      where
        go : (o : Option DeclaredMember) → selected k (called_method now.called) st.below ≡ o → or_else o (selected k (called_method now.called) (chain N a)) ≡ Some now.method → o ≡ Some now.method
        go (Some m) e q = q
        go None e q =
            let w = chosen k (called_method now.called) (chain N a) now.method q in
            let d : IsOf N w.class = each_in (IsOf N) (chain N a) w.class (chain-each N (IsOf N) (λ y e f l. ap (find_class N) (find-name N y e f) ∙ f) a seat_loads_n) w.is_in in
            let z : is_some (class_named cs now.method.owner) ≡ false = ap (λ y. is_some (class_named cs y)) (owner_is k w.class now.method w.declares).0 ∙ ap is_some (declared_library N cs g.fn w.class.name w.class d) in
            absurd (contradicts (is_some (class_named cs now.method.owner)) now.of_client z)

    below_offers : list_any (offers k) st.below ≡ true
    below_offers =
        let w = chosen k (called_method now.called) st.below now.method of_below in
        any_has (offers k) st.below w.class w.is_in (overriding_offers k w.class now.method (called_method now.called) w.declares w.overrides)

    no_final_now : is_final_in_chain N a k ≡ false
    unfolding is_final_in_chain
    no_final_now = no_final_above VN k mk x x_loads x_class st.below (chain N a) st.new_classes below_offers

    no_final_before : is_final_in_chain O a k ≡ false
    unfolding is_final_in_chain
    no_final_before = no_final_above VO k mk x lx x_was_class st.below (chain O a) st.old_classes below_offers

    called_before : (is_called_above O a k || is_public_in_chain O a k) ≡ true
    unfolding access_added
    called_before = go st.is_seat
      where
        go : IsSeat O N a → (is_called_above O a k || is_public_in_chain O a k) ≡ true
        go (inl e) =
            let n : superinterfaces N object_name ≡ [] = bare_interfaces N object_name g.root g.root_n g.root_super g.root_interfaces in
            absurd (contradicts (is_called_above N a k) called_now (ap (λ y. is_called_above N y k) e ∙ ap (list_any (offers k)) n))
        go (inr b) =
            not_due (is_key_of_method k) (is_base_class O N a) (is_called_above O a k) (is_public_in_chain O a k) (is_final_in_chain O a k) (is_called_above N a k) (is_final_in_chain N a k) (none a k) mk b.0 no_final_before called_now no_final_now

    was_called : is_called_above O a k ≡ true → IsRefused VO O x a k
    unfolding or_else is_client
    was_called h =
        let w : IsCalled O a k = (offered O (valid_side_o O N cs g k mk) a seat_loads_o k mk h).called in
        record {
          called = w;
          method = now.method;
          runs = ap (selected k (called_method w)) st.old_classes ∙ selected-append k (called_method w) st.below (chain O a)
              ∙ ap (λ o. or_else o (selected k (called_method w) (chain O a))) (selected-same k (called_method w) (called_method now.called) (shared w) (shared now.called) st.below ∙ of_below);
          of_client = now.of_client;
          not_public = now.not_public;
        }

    pub was_refused : IsRefused VO O x a k ⊎ (is_public_in_chain O a k ≡ true)
    was_refused = go (or_cases (is_called_above O a k) (is_public_in_chain O a k) called_before)
      where
        go : (is_called_above O a k ≡ true) ⊎ (is_public_in_chain O a k ≡ true) → IsRefused VO O x a k ⊎ (is_public_in_chain O a k ≡ true)
        go (inl e) = inl (was_called e)
        go (inr e) = inr e

-- ---- the law

pub access_stays : AccessStays
access_stays O N v pair verdict empty none cs scope met X b k h class l by_seat mk now =
    let W = with_clients O (facts_of cs) in
    let F = facts_of cs in
    let nothing = empty_means_none O N v verdict empty in
    let q = all_quiet O N nothing in
    let final : (a : Bytes) (k : Key) → final_added O N a k ≡ true → MeetsFinal W cs a k → ⊥ = λ a k e m.
    All-contains (λ (c : Collision). Meets W cs c → ⊥) v.collisions (made_collision 12 a k Override IncompatibleClassChangeError) met
    (verdict.collisions.complete (made_collision 12 a k Override IncompatibleClassChangeError) (final_is O N a k e)) (inr (inr (refl, m))) in
    let stay = loads_kept O N cs pair q scope refl final in
    let g = ground O N cs pair q scope stay in
    let x : Bytes = X.facts.name in
    let kx = named_client O N cs pair q scope X h in
    let s : Bytes = (seat_x O N F g x X.facts kx l).seat in
    let e : s ≡ b = let z : Some s ≡ Some b = sym (seat_is O N cs pair q scope stay X h l) ∙ by_seat in cc in
    subst (λ z. IsRefused (with_clients N F) N x z k → IsRefused W O x z k ⊎ (is_public_in_chain O z k ≡ true)) e (was_refused O N F g none x X.facts kx class l k mk) now
