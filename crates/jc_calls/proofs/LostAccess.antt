-- Who is refused a call by an interface: a client below the base class that declares the key as a protected method.
use Rattle.std.proofs.Common.{◌≡◌, ◌&&◌, ◌||◌, Bool, true, false, cond, not, List, [], ◌∷◌, refl, sym, ◌∙◌, ap, subst, Option, None, Some, codes}
use Rattle.std.proofs.lemmas.Bool.{and_parts, both_ways, not-true}
use Rattle.std.proofs.lemmas.List.Elements.{All-from_recursion, Contains-push}
use Rattle.std.proofs.Math.Bool.{or-false}
use Rattle.std.specs.List.{Contains, list_any}
use Rattle.jc_facts.specs.declared.class_facts.ClassFacts.{ClassFacts}
use Rattle.jc_facts.specs.declared.class_facts.Member.{Member}
use Rattle.jc_facts.specs.declared.client.ClientClass.{ClientClass}
use Rattle.jc_facts.specs.declared.key.Key.{Key}
use Rattle.jc_facts.specs.Names.{Bytes, same, is_key, in_same_package}
use Rattle.jc_desc.specs.Names.{is_clinit_name}
use Rattle.jc_facts.specs.Flags.{private_flag, static_flag, no_static_flag, interface_flag}
use Rattle.jc_facts.specs.Options.{or_else, some_and}
use Rattle.jc_facts.specs.world.World.{World, DeclaredMember, find_class, class_named, with_clients, own_method_of, found_in}
use Rattle.jc_facts.specs.world.Hierarchy.{chain, superinterfaces, each}
use Rattle.jc_facts.specs.world.Inheritance.{offers, is_inheritable, is_final_in_chain}
use Rattle.jc_facts.specs.world.Loading.{load_fault}
use Rattle.jc_facts.specs.world.Overriding.{reaches_final, overrides_some_final}
use Rattle.jc_facts.specs.file.Valid.{IsValidClass, method_is_valid}
use Rattle.jc_promises.specs.plan.PlannedNames.{fresh_package, own_name, constructor}
use Rattle.jc_promises.specs.plan.Planned.{a_class, init_method}
use Rattle.jc_promises.specs.rule.Bases.{is_base_class, is_key_of_method}
use Rattle.jc_promises.specs.rule.Collisions.{final_added}
use Rattle.jc_facts.proofs.KeySets.{key-same}
use Rattle.jc_facts.proofs.Same.{same_is, same_itself}
use Rattle.jc_facts.proofs.World.{find-name, IsOf}
use Rattle.jc_lemmas.proofs.Bools.{neither_first, neither_last}
use Rattle.jc_lemmas.proofs.Listed.{Passes, any_passes, each_in}
use Rattle.jc_lemmas.proofs.Lists.{found_passes}
use Rattle.jc_worlds.proofs.Above.{chain-each, superinterfaces-each}
use Rattle.jc_worlds.proofs.Clients.{Fits}
use Rattle.jc_worlds.proofs.Inherited.{method_public, found_all}
use Rattle.jc_worlds.proofs.Packages.{allowed_parts, same_package_apart}
use Rattle.jc_worlds.proofs.ValidFacts.{fit_of, method_fits}
use Rattle.jc_sound.proofs.FinalsKept.{direct-meets, none-direct, IsApart}
use Rattle.jc_complete.specs.Completeness.{LinksWhole}
use Rattle.jc_complete.proofs.PlanBase.{IsBase, base_parts, OwnName, own_is, IsConstructor, constructor_is}
use Rattle.jc_complete.proofs.PlanBelow.{AreMethods}
use Rattle.jc_complete.proofs.PlanBelow as below
use Rattle.jc_complete.proofs.PlanCalls.{plain_flags, now_loads}
use Rattle.jc_complete.proofs.PlanGround.{Ready, letter}
use Rattle.jc_complete.proofs.PlanItems.{links_whole, ScopeOfPlan}
use Rattle.jc_complete.proofs.PlanLoads.{lib_chain}
use Rattle.jc_complete.proofs.PlanMeets.{StandsFinal, final_parts, chain_below, interfaces_below}
use Rattle.jc_complete.proofs.PlanMethodMadeFinal.{IsMethodText, method_text-is, init_apart, plain_key}
use Rattle.jc_complete.proofs.PlanReady.{ready_of}
use Rattle.jc_complete.proofs.PlanValid.{init_valid}
use Rattle.jc_calls.specs.Access.{access_added, is_called_above, is_public_in_chain}
use Rattle.jc_calls.specs.LostAccess.{SomeClientIsRefused, EachAccessIsLost}
use Rattle.jc_calls.specs.Selected.{IsCalled, called_method, selected}

-- a protected method of the key
abbrev pub protected_method : Key → Member
protected_method k = record { name = k.name; descriptor = k.descriptor; flags = 0x0004 }

-- it is valid in a class
protected_valid : (c : ClassFacts) (k : Key) → interface_flag c.flags ≡ false → is_key_of_method k ≡ true → IsMethodText k → method_is_valid c (protected_method k) ≡ true
protected_valid c k i h t = let p = plain_key k h in rw (t.name, t.name_text, t.slots, t.descriptor_text, p.0, p.1, i) refl

-- ---- what is called

-- a class above that offers the key is an interface that is called by it
module _ (W : World) (valid : (x : Bytes) (c : ClassFacts) → find_class W x ≡ Some c → IsValidClass c) (y : Bytes) (loaded : load_fault W y ≡ None) (k : Key) (key : is_key_of_method k ≡ true) (some : is_called_above W y k ≡ true) where
  abbrev IsAbove : ClassFacts → Type 0
  IsAbove c = IsOf W c × (interface_flag c.flags ≡ true)

  p : Passes (offers k) (superinterfaces W y)
  p = any_passes (offers k) (superinterfaces W y) some

  above : IsAbove p.one
  above = each_in IsAbove (superinterfaces W y) p.one (superinterfaces-each W IsAbove (λ x c e l i. (ap (find_class W) (find-name W x c e) ∙ e, i)) y loaded) p.is_in

  pub record Offered : Type 0 where
    pub called : IsCalled W y k
    pub text : IsMethodText k

  pub offered : Offered
  offered = go (own_method_of p.one k) refl p.passes
    where
      go : (o : Option Member) → own_method_of p.one k ≡ o → some_and is_inheritable o ≡ true → Offered
      go None e h = absurd (cc)
      go (Some m) e h =
          let w = and_parts (no_static_flag m.flags) (not (private_flag m.flags)) h in
          let s : static_flag m.flags ≡ false = not-true (static_flag m.flags) w.0 in
          let v : IsValidClass p.one = valid p.one.name p.one above.0 in
          let n : m.name ≡ k.name = same_is m.name k.name (and_parts (same m.name k.name) (same m.descriptor k.descriptor) (found_passes (is_key k) p.one.methods m e)).0 in
          record {
            called = record {
              class = p.one;
              is_above = p.is_in;
              kind = above.1;
              method = m;
              declares = e;
              inheritable = h;
              public = method_public p.one m above.1 (plain_name m.name n) (found_all (is_key k) (method_fits p.one) p.one.methods m e (fit_of p.one v).methods) (not-true (private_flag m.flags) w.1);
            };
            text = method_text-is p.one k m v e s;
          }
        where
          plain_name : (x : Bytes) → x ≡ k.name → is_clinit_name x ≡ false
          plain_name x n = ap is_clinit_name n ∙ (plain_key k key).1

-- ---- the client

module _ (O N : World) (w : Bytes) (r : Ready O N w) (a : Bytes) (b : IsBase O N a) (k : Key) (key : is_key_of_method k ≡ true) (none : is_called_above O a k ≡ false) (some : is_called_above N a k ≡ true)
    (was : is_final_in_chain O a k ≡ false) (now : is_final_in_chain N a k ≡ false) where
  abbrev y : Bytes
  y = own_name O N (letter w 89) a

  own : OwnName O N b.was.class b.now.class (own_name O N (letter w 89) a)
  own = own_is O N w r a b.was.class b.now.class b.was.is_there b.now.is_there b.opens b.leaves 89 refl

  ctor : IsConstructor b.was.class (constructor O a)
  ctor = constructor_is O r.root r.is_root r.old.there a b.was.class b.was.is_there (r.old.valid a b.was.class b.was.is_there) b.has

  text : IsMethodText k
  text = (offered N r.new.valid a b.now.loaded k key some).text

  apart : same (codes "<init>") k.name ≡ false
  apart = init_apart k (plain_key k key).0

  methods : AreMethods 0x0021 (protected_method k ∷ [])
  methods = record {
    valid = λ c e m. rw (init_valid c (ap interface_flag e), protected_valid c k (ap interface_flag e) key text) refl;
    differ = rw apart refl;
  }

  abbrev Y : ClientClass
  Y = a_class y 0x0021 a (constructor O a) [] [] (protected_method k ∷ []) []

  abbrev Yf : ClassFacts
  Yf = Y.facts

  abbrev VO : World
  VO = with_clients O (Yf ∷ [])

  abbrev VN : World
  VN = with_clients N (Yf ∷ [])

  fo : Fits O (Yf ∷ [])
  fo = below.fo O N w r a b.was b.class_o b.not_final_o y own.old 0x0021 plain_flags (constructor O a) ctor (protected_method k ∷ []) methods [] refl

  fn : Fits N (Yf ∷ [])
  fn = below.fn O N w r a b.was b.class_o b.not_final_o y own.old 0x0021 plain_flags (constructor O a) ctor (protected_method k ∷ []) methods [] refl

  named : class_named (Yf ∷ []) y ≡ Some Yf
  named = below.named O N w r a b.was b.class_o b.not_final_o y own.old 0x0021 plain_flags (constructor O a) ctor (protected_method k ∷ []) methods [] refl

  -- it overrides no final method, with either release
  abbrev mine : DeclaredMember
  mine = record { owner = y; member = protected_method k }

  over_is : (above : List ClassFacts) → overrides_some_final y (init_method ∷ protected_method k ∷ []) above ≡ reaches_final k (mine ∷ []) above
  unfolding overrides_some_final
  over_is above = let p = plain_key k key in rw (p.0, p.1) (or-false (reaches_final k (mine ∷ []) above))

  over_o : overrides_some_final y (init_method ∷ protected_method k ∷ []) (chain VO a) ≡ false
  unfolding is_final_in_chain
  over_o = over_is (chain VO a) ∙ ap (reaches_final k (mine ∷ [])) (lib_chain O (Yf ∷ []) fo a b.was.class b.was.is_there b.was.loaded)
      ∙ direct-meets O k (mine ∷ []) key a b.was.loaded (rw b.was.is_there b.class_o) (none-direct k (mine ∷ []) (chain O a) (other, tt) was)
    where
      other : IsApart (chain O a) mine
      other = chain-each O (λ c. in_same_package y c.name ≡ false) (λ x c e l. same_package_apart O y x c (allowed_parts O y own.old.allowed_o).apart e) a b.was.loaded

  over_n : overrides_some_final y (init_method ∷ protected_method k ∷ []) (chain VN a) ≡ false
  unfolding is_final_in_chain
  over_n = over_is (chain VN a) ∙ ap (reaches_final k (mine ∷ [])) (lib_chain N (Yf ∷ []) fn a b.now.class b.now.is_there b.now.loaded)
      ∙ direct-meets N k (mine ∷ []) key a b.now.loaded (rw b.now.is_there b.class_n) (none-direct k (mine ∷ []) (chain N a) (other, tt) now)
    where
      other : IsApart (chain N a) mine
      other = chain-each N (λ c. in_same_package y c.name ≡ false) (λ x c e l. same_package_apart N y x c (allowed_parts N y own.old.allowed_n).apart e) a b.now.loaded

  loads_o : load_fault VO y ≡ None
  loads_o = below.loads_o O N w r a b.was b.class_o b.not_final_o y own.old 0x0021 plain_flags (constructor O a) ctor (protected_method k ∷ []) methods [] refl over_o

  loads_n : load_fault VN y ≡ None
  loads_n = now_loads O N w r a b y own 0x0021 plain_flags (constructor O a) ctor (protected_method k ∷ []) methods [] refl over_n

  planned : ScopeOfPlan O N (Y ∷ [])
  planned = below.scope O N w r a b.was b.class_o b.not_final_o y own.old 0x0021 plain_flags (constructor O a) ctor (protected_method k ∷ []) methods [] refl over_o

  -- what it declares of another key is no instance method of a method key
  no_final : (l : Key) (m : Member) → final_added O N a l ≡ true → own_method_of Yf l ≡ Some m → no_static_flag m.flags ≡ true → ⊥
  no_final l m s o i = go (same (codes "<init>") l.name && same (codes "()V") l.descriptor) refl (is_key l (protected_method k)) refl o
    where
      p : StandsFinal O N a l
      p = final_parts O N a l s

      go : (t : Bool) → (same (codes "<init>") l.name && same (codes "()V") l.descriptor) ≡ t → (u : Bool) → is_key l (protected_method k) ≡ u → cond t (Some init_method) (cond u (Some (protected_method k)) None) ≡ Some m → ⊥
      go true e u f q = both_ways (same (codes "<init>") l.name) (init_apart l (plain_key l p.key).0) (and_parts (same (codes "<init>") l.name) (same (codes "()V") l.descriptor) e).0
      go false e true f q = both_ways (is_final_in_chain N a l) (subst (λ (l : Key). is_final_in_chain N a l ≡ false) (key-same l (protected_method k) f) now) p.now
      go false e false f q = cc

  declares_it : own_method_of Yf k ≡ Some (protected_method k)
  declares_it = rw (apart, same_itself k.name, same_itself k.descriptor) refl

  above_o : superinterfaces VO y ≡ superinterfaces O a
  unfolding each
  above_o = interfaces_below O (Yf ∷ []) fo y Yf a b.was.class named refl b.was.is_there b.was.loaded loads_o

  above_n : superinterfaces VN y ≡ superinterfaces N a
  unfolding each
  above_n = interfaces_below N (Yf ∷ []) fn y Yf a b.now.class named refl b.now.is_there b.now.loaded loads_n

  -- by what it is called
  called : IsCalled VN y k
  called = let c = (offered N r.new.valid a b.now.loaded k key some).called in record {
    class = c.class;
    is_above = subst (λ cs. Contains cs c.class) (sym above_n) c.is_above;
    kind = c.kind;
    method = c.method;
    declares = c.declares;
    inheritable = c.inheritable;
    public = c.public;
  }

  -- and what that selects
  runs : selected k (called_method called) (chain VN y) ≡ Some mine
  unfolding selected found_in or_else
  runs = ap (selected k (called_method called)) (chain_below N (Yf ∷ []) fn y Yf a b.now.class named refl b.now.is_there b.now.loaded loads_n) ∙ rw (declares_it, static_of, called.public) refl
    where
      static_of : static_flag called.method.flags ≡ false
      static_of = not-true (static_flag called.method.flags) (and_parts (no_static_flag called.method.flags) (not (private_flag called.method.flags)) called.inheritable).0

  pub is_refused : SomeClientIsRefused O N a k
  is_refused = record {
    clients = Y ∷ [];
    in_scope = planned.0;
    allowed_names = planned.1;
    links = All-from_recursion (LinksWhole VO (Y ∷ [])) (Y ∷ []) (links_whole VO (Y ∷ []) Y loads_o ((refl, below.init_o O N w r a b.was b.class_o b.not_final_o y own.old 0x0021 plain_flags (constructor O a) ctor (protected_method k ∷ []) methods [] refl over_o), tt), tt);
    meets_nothing = below.below_meets_nothing O N w r a b.was b.class_o b.not_final_o y own.old 0x0021 plain_flags (constructor O a) ctor (protected_method k ∷ []) methods [] refl over_o no_final;
    client = Y;
    is_in = Contains-push [] Y;
    below = refl;
    class = refl;
    not_abstract = refl;
    makes_objects = refl;
    method = protected_method k;
    declares = declares_it;
    instance = refl;
    has_body = refl;
    not_public = refl;
    not_private = refl;
    loads_new = loads_n;
    was_none = ap (list_any (offers k)) above_o ∙ none;
    called = called;
    runs = runs;
  }

-- ---- from the definition

pub access_is_lost : EachAccessIsLost
unfolding access_added
access_is_lost O N can a k h =
    let p = and_parts (is_key_of_method k && is_base_class O N a && not (is_called_above O a k || is_public_in_chain O a k || is_final_in_chain O a k) && is_called_above N a k) (not (is_final_in_chain N a k)) h in
    let q = and_parts (is_key_of_method k && is_base_class O N a && not (is_called_above O a k || is_public_in_chain O a k || is_final_in_chain O a k)) (is_called_above N a k) p.0 in
    let s = and_parts (is_key_of_method k && is_base_class O N a) (not (is_called_above O a k || is_public_in_chain O a k || is_final_in_chain O a k)) q.0 in
    let t = and_parts (is_key_of_method k) (is_base_class O N a) s.0 in
    let n = not-true (is_called_above O a k || is_public_in_chain O a k || is_final_in_chain O a k) s.1 in
    is_refused O N (fresh_package O N) (ready_of O N can) a (base_parts O N a t.1) k t.0
    (neither_first (is_called_above O a k) (is_public_in_chain O a k) (neither_first (is_called_above O a k || is_public_in_chain O a k) (is_final_in_chain O a k) n)) q.1
    (neither_last (is_called_above O a k || is_public_in_chain O a k) (is_final_in_chain O a k) n) (not-true (is_final_in_chain N a k) p.1)
