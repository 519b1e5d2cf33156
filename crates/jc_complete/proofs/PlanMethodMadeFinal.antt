-- Rule 6 and Final: the abstract client Y, which declares the key, shows them.
use Rattle.std.proofs.Common.{◌≡◌, Bool, true, false, cond, List, [], ◌∷◌, refl, sym, ◌∙◌, ap, subst, Option, Some, None, not, ◌&&◌, ◌||◌, ◌⊎◌, inl, inr, codes}
use Rattle.std.proofs.lemmas.Bool.{and_parts, both_ways, not-true, or_cases, or_left, or_right}
use Rattle.std.proofs.lemmas.List.Elements.{Contains-push}
use Rattle.std.specs.List.{list_any}
use Rattle.std.proofs.Math.Bool.{or-false}
use Rattle.jc_desc.specs.Names.{is_init_name, is_clinit_name, spells_member_name}
use Rattle.jc_desc.specs.Utf8.{is_modified_utf8}
use Rattle.jc_desc.specs.Reading.{slots_of_method}
use Rattle.jc_facts.specs.declared.class_facts.ClassFacts.{ClassFacts}
use Rattle.jc_facts.specs.declared.class_facts.Member.{Member}
use Rattle.jc_facts.specs.declared.key.Key.{Key}
use Rattle.jc_facts.specs.declared.link_error.LinkError.TheVariants.{IncompatibleClassChangeError}
use Rattle.jc_facts.specs.Names.{Bytes, same, is_key, in_same_package}
use Rattle.jc_facts.specs.Flags.{public_flag, private_flag, protected_flag, package_private, static_flag, no_static_flag, final_flag, interface_flag}
use Rattle.jc_facts.specs.Options.{some_and}
use Rattle.jc_facts.specs.world.World.{World, DeclaredMember, find_class, with_clients, own_method_of, found_in}
use Rattle.jc_facts.specs.world.Hierarchy.{chain}
use Rattle.jc_facts.specs.world.Overriding.{directly_overrides, is_overridden_by_any, linked, overrides_this_final, reaches_final, overrides_some_final}
use Rattle.jc_facts.specs.world.Loading.{load_fault}
use Rattle.jc_facts.specs.file.Rules.{method_descriptor_fits, slots_fit_in, method_flags_fit}
use Rattle.jc_facts.specs.file.Valid.{IsValidClass, method_is_valid}
use Rattle.jc_promises.specs.client.Meets.{MeetsFinal}
use Rattle.jc_promises.specs.rule.Collisions.{final_added}
use Rattle.jc_promises.specs.rule.Bases.{is_key_of_method}
use Rattle.jc_facts.specs.world.Inheritance.{is_open_final, declares_as_final, is_final_in_chain, public_or_protected}
use Rattle.jc_promises.specs.rule.Findings.{finds_overridable}
use Rattle.jc_promises.specs.plan.PlannedNames.{own_name, constructor}
use Rattle.jc_promises.specs.plan.Planned.{a_class, init_method, abstract_method, overrides_method}
use Rattle.jc_complete.specs.Completeness.{Shows}
use Rattle.jc_lemmas.proofs.Listed.{EachOf}
use Rattle.jc_facts.proofs.Same.{same_is, same_itself}
use Rattle.jc_facts.proofs.World.{find-name, IsOf}
use Rattle.jc_worlds.proofs.Above.{chain-each}
use Rattle.jc_lemmas.proofs.Bools.{neither_first, neither_last}
use Rattle.jc_worlds.proofs.Clients.{Fits}
use Rattle.jc_sound.proofs.FinalsKept.{direct-meets, none-direct, IsApart}
use Rattle.jc_facts.proofs.KeySets.{key-same}
use Rattle.jc_worlds.proofs.Inherited.{found_all}
use Rattle.jc_lemmas.proofs.Lists.{found_passes}
use Rattle.jc_worlds.proofs.Packages.{allowed_parts, same_package_apart}
use Rattle.jc_complete.proofs.PlanGround.{Ready, letter}
use Rattle.jc_complete.proofs.PlanValid.{init_valid}
use Rattle.jc_complete.proofs.PlanLoads.{lib_chain, method_refuses}
use Rattle.jc_complete.proofs.PlanMeets.{StandsFinal, final_parts}
use Rattle.jc_complete.proofs.PlanUses.{ShowsAlone}
use Rattle.jc_complete.proofs.PlanBase.{IsBase, OwnName, own_is, IsConstructor, constructor_is}
use Rattle.jc_complete.proofs.PlanBelow.{IsFlags, AreMethods}
use Rattle.jc_complete.proofs.PlanBelow as below
use Rattle.jc_complete.proofs.PlanCalls as calls

-- ---- a method of the key

-- an element that passes
pub some_passes : {A : Type 0} (p : A → Bool) (P : A → Type 0) (xs : List A) → EachOf P xs → list_any p xs ≡ true → (x : A) × P x × (p x ≡ true)
some_passes p P [] h e = absurd (let z : false ≡ true = e in cc)
some_passes p P (x ∷ xs) h e = go (p x) refl e (some_passes p P xs h.1)
  where
    go : (b : Bool) → p x ≡ b → (b || list_any p xs) ≡ true → (list_any p xs ≡ true → (x : _) × P x × (p x ≡ true)) → (x : _) × P x × (p x ≡ true)
    go true q z r = (x, h.0, q)
    go false q z r = r z

pub plain_key : (k : Key) → is_key_of_method k ≡ true → (is_init_name k.name ≡ false) × (is_clinit_name k.name ≡ false)
plain_key k h = let z = not-true (is_init_name k.name || is_clinit_name k.name) h in (neither_first (is_init_name k.name) (is_clinit_name k.name) z, neither_last (is_init_name k.name) (is_clinit_name k.name) z)

-- what a valid class declares as an instance method, another may declare as an abstract one
pub record IsMethodText (k : Key) : Type 0 where
  pub name : spells_member_name k.name true ≡ true
  pub name_text : is_modified_utf8 k.name ≡ true
  pub slots : slots_fit_in true (slots_of_method k.descriptor) ≡ true
  pub descriptor_text : is_modified_utf8 k.descriptor ≡ true

pub method_text-is : (c : ClassFacts) (k : Key) (m : Member) → IsValidClass c → own_method_of c k ≡ Some m → static_flag m.flags ≡ false → IsMethodText k
method_text-is c k m v o s =
    let h = found_all (is_key k) (method_is_valid c) c.methods m o v.methods in
    let e = found_passes (is_key k) c.methods m o in
    let p = and_parts (same m.name k.name) (same m.descriptor k.descriptor) e in
    let n : m.name ≡ k.name = same_is m.name k.name p.0 in
    let d : m.descriptor ≡ k.descriptor = same_is m.descriptor k.descriptor p.1 in
    let h1 = and_parts (spells_member_name m.name true && is_modified_utf8 m.name && method_descriptor_fits m.name m.flags m.descriptor && is_modified_utf8 m.descriptor) (method_flags_fit c.major c.flags m.name m.flags) h in
    let h2 = and_parts (spells_member_name m.name true && is_modified_utf8 m.name && method_descriptor_fits m.name m.flags m.descriptor) (is_modified_utf8 m.descriptor) h1.0 in
    let h3 = and_parts (spells_member_name m.name true && is_modified_utf8 m.name) (method_descriptor_fits m.name m.flags m.descriptor) h2.0 in
    let h4 = and_parts (spells_member_name m.name true) (is_modified_utf8 m.name) h3.0 in
    let h5 = and_parts (slots_fit_in (not (static_flag m.flags)) (slots_of_method m.descriptor)) _ h3.1 in
    record {
      name = subst (λ z. spells_member_name z true ≡ true) n h4.0;
      name_text = subst (λ z. is_modified_utf8 z ≡ true) n h4.1;
      slots = subst (λ z. slots_fit_in true (slots_of_method z) ≡ true) d (subst (λ b. slots_fit_in (not b) (slots_of_method m.descriptor) ≡ true) s h5.0);
      descriptor_text = subst (λ z. is_modified_utf8 z ≡ true) d h2.1;
    }

-- it is valid in a class of this kind of flags
pub abstract_valid : (c : ClassFacts) (k : Key) → c.major ≡ 52 → is_key_of_method k ≡ true → IsMethodText k → method_is_valid c (abstract_method k) ≡ true
abstract_valid c k j h t =
    let p = plain_key k h in
    rw (t.name, t.name_text, t.slots, t.descriptor_text, p.0, p.1, j) (go (interface_flag c.flags))
  where
    go : (b : Bool) → (not b || true) ≡ true
    go true = refl
    go false = refl

-- a method key isn't that of the initializer
pub init_apart : (k : Key) → is_init_name k.name ≡ false → same (codes "<init>") k.name ≡ false
init_apart k h = go (same (codes "<init>") k.name) refl
  where
    go : (b : Bool) → same (codes "<init>") k.name ≡ b → b ≡ false
    go false e = refl
    go true e = absurd (both_ways (is_init_name k.name) h (ap is_init_name (sym (same_is (codes "<init>") k.name e))))

-- ---- final methods above

-- methods of which one is an instance method that isn't private
abbrev Binds : List DeclaredMember → Bool
Binds below = list_any (λ b. no_static_flag b.member.flags && not (private_flag b.member.flags)) below

-- meet a final method that is declared above
binds_meets : (k : Key) (below : List DeclaredMember) (cs : List ClassFacts) → Binds below ≡ true → list_any (declares_as_final k) cs ≡ true → reaches_final k below cs ≡ true
unfolding reaches_final found_in
binds_meets k below [] b h = absurd (let z : false ≡ true = h in cc)
binds_meets k below (c ∷ cs) b h = go (own_method_of c k) (or_cases (declares_as_final k c) (list_any (declares_as_final k) cs) h) (λ below b h. binds_meets k below cs b h)
  where
    one : (i p j u t z f : Bool) → (i && not p) ≡ true → (f && j && (u || t)) ≡ true → (i && j && not p && (u || t || z)) ≡ true
    one true false true true t z true e q = refl
    one true false true false true z true e q = refl
    one true false true false false z true e q = absurd (cc)
    one true false false u t z true e q = absurd (cc)
    one true false j u t z false e q = absurd (cc)
    one true true j u t z f e q = absurd (cc)
    one false p j u t z f e q = absurd (cc)

    overrides : (m : Member) → is_open_final m ≡ true → (below : List DeclaredMember) → Binds below ≡ true → is_overridden_by_any below (record { owner = c.name; member = m }) ≡ true
    overrides m f [] h = absurd (let z : false ≡ true = h in cc)
    overrides m f (b ∷ bs) h = by (or_cases (no_static_flag b.member.flags && not (private_flag b.member.flags)) (Binds bs) h) (overrides m f bs)
      where
        by : ((no_static_flag b.member.flags && not (private_flag b.member.flags)) ≡ true) ⊎ (Binds bs ≡ true) → (Binds bs ≡ true → is_overridden_by_any bs (record { owner = c.name; member = m }) ≡ true) → is_overridden_by_any (b ∷ bs) (record { owner = c.name; member = m }) ≡ true
        by (inl e) r = or_left (directly_overrides b (record { owner = c.name; member = m })) (is_overridden_by_any bs (record { owner = c.name; member = m }))
            (one (no_static_flag b.member.flags) (private_flag b.member.flags) (no_static_flag m.flags) (public_flag m.flags) (protected_flag m.flags) (package_private m.flags && in_same_package b.owner c.name) (final_flag m.flags) e f)
        by (inr e) r = or_right (directly_overrides b (record { owner = c.name; member = m })) (is_overridden_by_any bs (record { owner = c.name; member = m })) (r e)

    keeps : (a : DeclaredMember) (t : Bool) → Binds (cond t (a ∷ below) below) ≡ true
    keeps a true = or_right (no_static_flag a.member.flags && not (private_flag a.member.flags)) (Binds below) b
    keeps a false = b

    go : (o : Option Member) → (some_and is_open_final o ≡ true) ⊎ (list_any (declares_as_final k) cs ≡ true) → ((below : List DeclaredMember) → Binds below ≡ true → list_any (declares_as_final k) cs ≡ true → reaches_final k below cs ≡ true)
        → (overrides_this_final below (found_in c o) || reaches_final k (linked below (found_in c o)) cs) ≡ true
    go None (inl e) r = absurd (cc)
    go None (inr e) r = r below b e
    go (Some m) (inl e) r =
        let a = overrides m e below b in
        let f : final_flag m.flags ≡ true = (and_parts (final_flag m.flags) (no_static_flag m.flags) (and_parts (final_flag m.flags && no_static_flag m.flags) (public_or_protected m) e).0).0 in
        or_left (is_overridden_by_any below (record { owner = c.name; member = m }) && final_flag m.flags) _ (rw a f)
    go (Some m) (inr e) r = or_right (is_overridden_by_any below (record { owner = c.name; member = m }) && final_flag m.flags) _ (r (cond (is_overridden_by_any below (record { owner = c.name; member = m })) (record { owner = c.name; member = m } ∷ below) below) (keeps (record { owner = c.name; member = m }) (is_overridden_by_any below (record { owner = c.name; member = m }))) e)

-- flags of an abstract Y
abstract_flags : IsFlags 0x0421
abstract_flags = record { good = refl; public = refl; class = refl }

module _ (O N : World) (w : Bytes) (r : Ready O N w) (a : Bytes) (b : IsBase O N a) (k : Key) (key : is_key_of_method k ≡ true) (now : is_final_in_chain N a k ≡ true) (was : is_final_in_chain O a k ≡ false) where
  abbrev y : Bytes
  y = own_name O N (letter w 89) a

  own : OwnName O N b.was.class b.now.class (own_name O N (letter w 89) a)
  own = own_is O N w r a b.was.class b.now.class b.was.is_there b.now.is_there b.opens b.leaves 89 refl

  ctor : IsConstructor b.was.class (constructor O a)
  ctor = constructor_is O r.root r.is_root r.old.there a b.was.class b.was.is_there (r.old.valid a b.was.class b.was.is_there) b.has

  text : IsMethodText k
  unfolding is_final_in_chain
  text = let c = some_passes (declares_as_final k) (IsOf N) (chain N a) (chain-each N (IsOf N) (λ x c e l. ap (find_class N) (find-name N x c e) ∙ e) a b.now.loaded) now in go c.0 c.1 (own_method_of c.0 k) refl c.2
    where
      go : (c : ClassFacts) → find_class N c.name ≡ Some c → (o : Option Member) → own_method_of c k ≡ o → some_and is_open_final o ≡ true → IsMethodText k
      go c e None q h = absurd (cc)
      go c e (Some m) q h = method_text-is c k m (r.new.valid c.name c e) q (not-true (static_flag m.flags) (and_parts (final_flag m.flags) (no_static_flag m.flags) (and_parts (final_flag m.flags && no_static_flag m.flags) (public_or_protected m) h).0).1)

  apart : same (codes "<init>") k.name ≡ false
  apart = init_apart k (plain_key k key).0

  methods : AreMethods 0x0421 (abstract_method k ∷ [])
  methods = record {
    valid = λ c e m. rw (init_valid c (ap interface_flag e), abstract_valid c k m key text) refl;
    differ = rw apart refl;
  }

  abbrev Yf : ClassFacts
  Yf = (a_class y 0x0421 a (constructor O a) [] [] (abstract_method k ∷ []) []).facts

  abbrev VO : World
  VO = with_clients O (Yf ∷ [])

  abbrev VN : World
  VN = with_clients N (Yf ∷ [])

  fo : Fits O (Yf ∷ [])
  fo = below.fo O N w r a b.was b.class_o b.not_final_o y own.old 0x0421 abstract_flags (constructor O a) ctor (abstract_method k ∷ []) methods [] refl

  fn : Fits N (Yf ∷ [])
  fn = below.fn O N w r a b.was b.class_o b.not_final_o y own.old 0x0421 abstract_flags (constructor O a) ctor (abstract_method k ∷ []) methods [] refl

  abbrev mine : DeclaredMember
  mine = record { owner = y; member = abstract_method k }

  over_is : (above : List ClassFacts) → overrides_some_final y (init_method ∷ abstract_method k ∷ []) above ≡ reaches_final k (mine ∷ []) above
  unfolding overrides_some_final
  over_is above = let p = plain_key k key in rw (p.0, p.1) (or-false (reaches_final k (mine ∷ []) above))

  over_o : overrides_some_final y (init_method ∷ abstract_method k ∷ []) (chain VO a) ≡ false
  unfolding is_final_in_chain
  over_o = over_is (chain VO a) ∙ ap (reaches_final k (mine ∷ [])) (lib_chain O (Yf ∷ []) fo a b.was.class b.was.is_there b.was.loaded)
      ∙ direct-meets O k (mine ∷ []) key a b.was.loaded (rw b.was.is_there b.class_o) (none-direct k (mine ∷ []) (chain O a) (other, tt) was)
    where
      other : IsApart (chain O a) mine
      other = chain-each O (λ c. in_same_package y c.name ≡ false) (λ x c e l. same_package_apart O y x c (allowed_parts O y own.old.allowed_o).apart e) a b.was.loaded

  over_n : overrides_some_final y (init_method ∷ abstract_method k ∷ []) (chain VN a) ≡ true
  unfolding is_final_in_chain
  over_n = over_is (chain VN a) ∙ ap (reaches_final k (mine ∷ [])) (lib_chain N (Yf ∷ []) fn a b.now.class b.now.is_there b.now.loaded) ∙ binds_meets k (mine ∷ []) (chain N a) refl now

  fails : load_fault VN y ≡ Some IncompatibleClassChangeError
  fails = method_refuses N (Yf ∷ []) fn y Yf a b.now.class (calls.named_n O N w r a b y own 0x0421 abstract_flags (constructor O a) ctor (abstract_method k ∷ []) methods [] refl) refl
      (calls.up_find O N w r a b y own 0x0421 abstract_flags (constructor O a) ctor (abstract_method k ∷ []) methods [] refl) (calls.up_loads O N w r a b y own 0x0421 abstract_flags (constructor O a) ctor (abstract_method k ∷ []) methods [] refl)
      (calls.taken_n O N w r a b y own 0x0421 abstract_flags (constructor O a) ctor (abstract_method k ∷ []) methods [] refl) refl refl over_n

  pub override_shows : Shows O N (overrides_method O N w a k) IncompatibleClassChangeError
  override_shows = below.load_shows O N w r a b.was b.class_o b.not_final_o y own.old 0x0421 abstract_flags (constructor O a) ctor (abstract_method k ∷ []) methods [] refl over_o tt IncompatibleClassChangeError fails

  -- H6, where the lookup found a method that could be overridden
  pub override_is_shown : finds_overridable O a k ≡ true → ShowsAlone O N (overrides_method O N w a k) IncompatibleClassChangeError
  override_is_shown found = (override_shows, below.below_meets_nothing O N w r a b.was b.class_o b.not_final_o y own.old 0x0421 abstract_flags (constructor O a) ctor (abstract_method k ∷ []) methods [] refl over_o no_final)
    where
      no_final : (l : Key) (m : Member) → final_added O N a l ≡ true → own_method_of Yf l ≡ Some m → no_static_flag m.flags ≡ true → ⊥
      no_final l m s o i = go (same (codes "<init>") l.name && same (codes "()V") l.descriptor) refl (is_key l (abstract_method k)) refl o
        where
          p : StandsFinal O N a l
          p = final_parts O N a l s

          go : (t : Bool) → (same (codes "<init>") l.name && same (codes "()V") l.descriptor) ≡ t → (u : Bool) → is_key l (abstract_method k) ≡ u → cond t (Some init_method) (cond u (Some (abstract_method k)) None) ≡ Some m → ⊥
          go true e u f q = both_ways (same (codes "<init>") l.name) (init_apart l (plain_key l p.key).0) (and_parts (same (codes "<init>") l.name) (same (codes "()V") l.descriptor) e).0
          go false e true f q = both_ways (finds_overridable O a l) p.found (subst (λ (l : Key). finds_overridable O a l ≡ true) (key-same l (abstract_method k) f) found)
          go false e false f q = cc

  -- Final: the client meets the collision
  pub meets_it : MeetsFinal VO (a_class y 0x0421 a (constructor O a) [] [] (abstract_method k ∷ []) [] ∷ []) a k
  meets_it = (
    a_class y 0x0421 a (constructor O a) [] [] (abstract_method k ∷ []) [],
    Contains-push [] (a_class y 0x0421 a (constructor O a) [] [] (abstract_method k ∷ []) []),
    below.loads_o O N w r a b.was b.class_o b.not_final_o y own.old 0x0421 abstract_flags (constructor O a) ctor (abstract_method k ∷ []) methods [] refl over_o,
    refl,
    below.seat_is O N w r a b.was b.class_o b.not_final_o y own.old 0x0421 abstract_flags (constructor O a) ctor (abstract_method k ∷ []) methods [] refl over_o,
    (abstract_method k, rw (apart, same_itself k.name, same_itself k.descriptor) refl, refl, refl),
  )
