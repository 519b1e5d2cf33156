-- What all rows above a class agree on is picked for it.
use Rattle.std.proofs.Common.{◌≡◌, ◌<◌, ℕ, Bool, true, false, not, ◌||◌, ◌==◌, List, [], ◌∷◌, ◌++◌, refl, sym, ◌∙◌, ap, subst, Option, Some, None, ◌⊎◌, inl, inr}
use Rattle.std.specs.Prelude.{slice_get}
use Rattle.std.specs.List.{list_any, Contains}
use Rattle.std.proofs.lemmas.Bool.{and_parts, and_from, eqb-true, not-true}
use Rattle.std.proofs.lemmas.List.Elements.{Contains-append_left, Contains-append_right, Contains-append_cases}
use Rattle.jc_facts.specs.declared.class_facts.ClassFacts.{ClassFacts}
use Rattle.jc_facts.specs.declared.key.Key.{Key}
use Rattle.jc_facts.specs.Names.{Bytes, same, object_name}
use Rattle.jc_facts.specs.Flags.{interface_flag, private_flag, static_flag, abstract_flag}
use Rattle.jc_facts.specs.Options.{or_else, first_some, and_then, some_and}
use Rattle.jc_facts.specs.world.Assignment.{is_interface_of}
use Rattle.jc_facts.specs.world.Search.{supers, supers_of}
use Rattle.jc_facts.specs.world.World.{World, size, find_class, own_method_of, declared_method, DeclaredMember, found_in}
use Rattle.jc_facts.specs.world.Hierarchy.{chain, of_super, each, with_interfaces, interfaces_of, superinterfaces, is_superinterface}
use Rattle.jc_facts.specs.world.Loading.{load_fault}
use Rattle.jc_facts.specs.world.Lookup.{declared_by, if_inheritable, is_maximal, first_declared, superinterface_choices, public_method_of_object, or_choices}
use Rattle.jc_facts.proofs.Options.{or_else-cases}
use Rattle.jc_facts.proofs.Same.{same_is, same_itself}
use Rattle.jc_facts.proofs.World.{find-name}
use Rattle.jc_lemmas.proofs.Bools.{contradicts}
use Rattle.jc_lemmas.proofs.Listed.{EachOf, each_in, any_has, any_passes, list_all-each, here, there, none}
use Rattle.jc_worlds.proofs.Bare.{bare_chain}
use Rattle.jc_worlds.proofs.Loaded.{loads-parts, loads-found}
use Rattle.jc_worlds.proofs.Locality.{of_interfaces}
use Rattle.jc_worlds.proofs.Unrolled.{chain-unroll, superinterfaces-unroll}
use Rattle.jc_index.specs.Ids.{name_at}
use Rattle.jc_index.specs.Lookups.{IsFound, IsChoice}
use Rattle.jc_index.specs.Picks.{methods_above, IsPick, Picks}
use Rattle.jc_index.specs.Sides.{IsSide}
use Rattle.jc_index.specs.declared.ids.Found.{Found}
use Rattle.jc_index.proofs.Choices.{IsOne, one_of, only_one}
use Rattle.jc_index.proofs.Sides.{root_at}
use Rattle.jc_index.proofs.Strictly.{IsGood, named_good, is_under, transitive, no_circle, super_of_interface, interface_leads}
use Rattle.jc_rows.specs.declared.row.RowItem.{RowItem}
use Rattle.jc_rows.specs.Keys.{numbered_keys}
use Rattle.jc_rows.specs.Rows.{entry, IsMethodRow, lookup_choices}
use Rattle.jc_rows.specs.steps.Agreeing.{agrees, IsAgreed}
use Rattle.jc_rows.specs.steps.Fronts.{front_by, front_method}
use Rattle.jc_rows.specs.steps.Gathering.{row_named, first_entry, super_entry}
use Rattle.jc_rows.proofs.MethodsAbove.{owner_of, the_one, inheritable, inherits, IsLed, led, led_in, no_super, super_is_class, of_object, root_declares, none_further}
use Rattle.jc_rows.proofs.Settling.{by_front}
use Rattle.jc_rows.proofs.Unfound.{declared-append, own_none, none_declared, parts, none_below}

-- ---- entries that are the same

same_entry : (f : Found) (o : Option Found) → agrees f o ≡ true → (o ≡ None) ⊎ (o ≡ Some f)
same_entry f None a = inl refl
same_entry f (Some g) a =
    let p = and_parts (g.owner == f.owner) (g.flags == f.flags) a in
    let o : g.owner ≡ f.owner = eqb-true g.owner f.owner p.0 in
    let l : g.flags ≡ f.flags = eqb-true g.flags f.flags p.1 in
    inr (let q : record { owner = g.owner; flags = g.flags } ≡ f = rw (o, l) refl in ap Some q)

-- ---- whose row has it

module _ (W : World) (rows : List (List RowItem)) (n : ℕ) (f : Found) where
  -- one of the interfaces
  first_has : (is : List Bytes) → first_entry W rows is n ≡ Some f → (i : Bytes) × Contains is i × (entry (row_named W rows i) n ≡ Some f)
  unfolding first_some
  first_has [] e = absurd (let clash : None ≡ Some f = e in cc)
  first_has (i ∷ is) e = go (or_else-cases (entry (row_named W rows i) n) (first_entry W rows is n) f e) (first_has is)
    where
      go : (entry (row_named W rows i) n ≡ Some f) ⊎ (first_entry W rows is n ≡ Some f) → (first_entry W rows is n ≡ Some f → (j : Bytes) × Contains is j × (entry (row_named W rows j) n ≡ Some f)) → (j : Bytes) × Contains (i ∷ is) j × (entry (row_named W rows j) n ≡ Some f)
      go (inl h) more = (i, here i is, h)
      go (inr h) more = let r = more h in (r.0, there r.0 i is r.1, r.2)

  -- the superclass
  super_has : (o : Option Bytes) → super_entry W rows o n ≡ Some f → (s : Bytes) × (o ≡ Some s) × (entry (row_named W rows s) n ≡ Some f)
  unfolding and_then
  super_has None e = absurd (let clash : None ≡ Some f = e in cc)
  super_has (Some s) e = (s, refl, e)

  -- it is of one of the world's classes
  pub given_below : (c : ClassFacts) (k : Key) → slice_get (numbered_keys W) n ≡ Some k → EachOf (λ s. IsMethodRow W s (row_named W rows s)) (supers c)
      → or_else (first_entry W rows c.interfaces n) (super_entry W rows c.superclass n) ≡ Some f → f.owner < size W
  given_below c k e there h = go (or_else-cases (first_entry W rows c.interfaces n) (super_entry W rows c.superclass n) f h)
    where
      by : (s : Bytes) → IsMethodRow W s (row_named W rows s) → entry (row_named W rows s) n ≡ Some f → f.owner < size W
      by s t q = (subst (λ (o : Option Found). IsChoice W o (lookup_choices W s k)) q (t.found n k e)).2.below

      first : (s : Bytes) (is : List Bytes) → EachOf (λ z. IsMethodRow W z (row_named W rows z)) (supers_of (Some s) is) → IsMethodRow W s (row_named W rows s)
      first s is t = t.0

      go : (first_entry W rows c.interfaces n ≡ Some f) ⊎ (super_entry W rows c.superclass n ≡ Some f) → f.owner < size W
      go (inl q) =
          let t = first_has c.interfaces q in
          by t.0 (each_in (λ s. IsMethodRow W s (row_named W rows s)) c.interfaces t.0 (of_interfaces (λ s. IsMethodRow W s (row_named W rows s)) c.superclass c.interfaces there) t.1) t.2
      go (inr q) =
          let t = super_has c.superclass q in
          by t.0 (first t.0 c.interfaces (subst (λ (o : Option Bytes). EachOf (λ z. IsMethodRow W z (row_named W rows z)) (supers_of o c.interfaces)) t.1 there)) t.2

-- ---- what a row gives

module _ (W : World) (side : IsSide W) (rows : List (List RowItem)) (n : ℕ) (k : Key) (numbered : slice_get (numbered_keys W) n ≡ Some k) (f : Found) (counts : (private_flag f.flags || static_flag f.flags) ≡ false) (kind : is_interface_of W (name_at W f.owner) ≡ true) where
  -- the interface s itself declares it
  record IsOwn (s : Bytes) : Type 0 where
    facts : ClassFacts
    there : find_class W s ≡ Some facts
    good : IsGood W s
    method : DeclaredMember
    own : found_in facts (own_method_of facts k) ≡ Some method
    found : IsFound W f method

  -- it is picked of what superinterfaces of s declare
  record IsPicked (s : Bytes) : Type 0 where
    front : front_method W s k ≡ None
    pick : IsPick W s k f

  -- the row of s has it
  abbrev HasIt : Bytes → Type 0
  HasIt s = entry (row_named W rows s) n ≡ Some f

  abbrev IsRowThere : Bytes → Type 0
  IsRowThere s = IsMethodRow W s (row_named W rows s)

  not_of_root : (m : DeclaredMember) → IsFound W f m → m.owner ≡ object_name → ⊥
  not_of_root m i e =
      let r : is_interface_of W object_name ≡ false = ap (some_and (λ c. interface_flag c.flags)) (root_at W side) ∙ side.root.«class» in
      contradicts (is_interface_of W object_name) (subst (λ z. is_interface_of W z ≡ true) (i.owner ∙ e) kind) r

  found_first : (s : Bytes) → IsRowThere s → HasIt s → (m : DeclaredMember) → front_method W s k ≡ Some m → IsFound W f m
  found_first s t h m q =
      the_one W f m (superinterface_choices W s k)
      (subst (λ (o : Option DeclaredMember). IsChoice W (Some f) (or_choices o (superinterface_choices W s k))) q (subst (IsChoice W (Some f)) (by_front W s k) (subst (λ (o : Option Found). IsChoice W o (lookup_choices W s k)) h (t.found n k numbered))))

  picked_there : (s : Bytes) → IsRowThere s → HasIt s → front_method W s k ≡ None → IsPicked s
  picked_there s t h q = record { front = q; pick = subst (Picks W s k) h (t.picked n k numbered q) }

  of_interface : (s : Bytes) → IsGood W s → IsRowThere s → HasIt s → IsOwn s ⊎ IsPicked s
  unfolding and_then
  of_interface s g t h = go (front_method W s k) refl
    where
      d : (c : ClassFacts) × (find_class W s ≡ Some c)
      d = loads-found W s g.0

      go : (o : Option DeclaredMember) → front_method W s k ≡ o → IsOwn s ⊎ IsPicked s
      go None q = inr (picked_there s t h q)
      go (Some m) q = by (or_else-cases (found_in d.0 (own_method_of d.0 k)) (public_method_of_object W k) m (ap (λ (o : Option ClassFacts). or_else (and_then (declared_method k) o) (public_method_of_object W k)) (sym d.1) ∙ ap (λ b. front_by b W s k) (sym g.1) ∙ q))
        where
          by : (found_in d.0 (own_method_of d.0 k) ≡ Some m) ⊎ (public_method_of_object W k ≡ Some m) → IsOwn s ⊎ IsPicked s
          by (inl o) = inl (record { facts = d.0; there = d.1; good = g; method = m; own = o; found = found_first s t h m q })
          by (inr o) = absurd (not_of_root m (found_first s t h m q) (of_object W k m o))

  -- ---- a class, and the rows above it

  module _ (x : Bytes) (c : ClassFacts) (known : find_class W x ≡ Some c) (loads : load_fault W x ≡ None) (right : EachOf IsRowThere (supers c)) (nothing : front_method W x k ≡ None) (agreed : IsAgreed W rows c n f) where
    named : EachOf (IsGood W) c.interfaces
    named = named_good W x c known loads

    interface_rows : EachOf IsRowThere c.interfaces
    interface_rows = of_interfaces IsRowThere c.superclass c.interfaces right

    super_there : (s : Bytes) (is : List Bytes) → EachOf IsRowThere (supers_of (Some s) is) → IsRowThere s
    super_there s is h = h.0

    super_row : (s : Bytes) → c.superclass ≡ Some s → IsRowThere s
    super_row s e = super_there s c.interfaces (subst (λ (o : Option Bytes). EachOf IsRowThere (supers_of o c.interfaces)) e right)

    super_loads : (s : Bytes) → c.superclass ≡ Some s → load_fault W s ≡ None
    super_loads s e = first s c.interfaces (subst (λ (o : Option Bytes). EachOf (λ z. load_fault W z ≡ None) (supers_of o c.interfaces)) e (loads-parts W x c known loads).0)
      where
        first : (s : Bytes) (is : List Bytes) → EachOf (λ z. load_fault W z ≡ None) (supers_of (Some s) is) → load_fault W s ≡ None
        first s is h = h.0

    of_superclass : (s : Bytes) → c.superclass ≡ Some s → HasIt s → IsPicked s
    of_superclass s e h = go (front_method W s k) refl
      where
        kept : is_interface_of W s ≡ false
        kept = super_is_class W x s c known loads e (super_loads s e)

        chained : (m : DeclaredMember) → front_method W s k ≡ Some m → first_declared k (chain W s) ≡ Some m
        chained m q = ap (λ b. front_by b W s k) (sym kept) ∙ q

        below : (m : DeclaredMember) → front_method W s k ≡ Some m → (b : Bool) → is_interface_of W x ≡ b → ⊥
        below m q false i =
            let p : first_declared k (c ∷ of_super (chain W) c.superclass) ≡ None = ap (first_declared k) (sym (chain-unroll W x c known loads)) ∙ ap (λ b. front_by b W x k) (sym i) ∙ nothing in
            let r : first_declared k (chain W s) ≡ None = ap (λ (o : Option Bytes). first_declared k (of_super (chain W) o)) (sym e) ∙ none_further k c (of_super (chain W) c.superclass) p in
            let clash : None ≡ Some m = sym r ∙ chained m q in cc
        below m q true i =
            let z : s ≡ object_name = let w : Some s ≡ Some object_name = sym e ∙ super_of_interface W side x c known (sym (ap (some_and (λ d. interface_flag d.flags)) known) ∙ i) in cc in
            let o : first_declared k (side.root.root ∷ []) ≡ Some m = ap (first_declared k) (sym (ap (chain W) z ∙ bare_chain W object_name side.root.root (root_at W side) side.root.superclass side.root.interfaces)) ∙ chained m q in
            not_of_root m (found_first s (super_row s e) h m q) (root_declares side.root.root k m o ∙ find-name W object_name side.root.root (root_at W side))

        go : (o : Option DeclaredMember) → front_method W s k ≡ o → IsPicked s
        go None q = picked_there s (super_row s e) h q
        go (Some m) q = absurd (below m q (is_interface_of W x) refl)

    -- ---- the methods above the class, by what it names

    abbrev by_interfaces : List DeclaredMember
    by_interfaces = declared_by k (each (with_interfaces W) c.interfaces)

    abbrev by_superclass : List DeclaredMember
    by_superclass = declared_by k (interfaces_of W (of_super (chain W) c.superclass))

    whole : methods_above W x k ≡ by_interfaces ++ by_superclass
    whole = ap (declared_by k) (superinterfaces-unroll W x c known loads) ∙ declared-append k (each (with_interfaces W) c.interfaces) (interfaces_of W (of_super (chain W) c.superclass))

    interface_up : (i : Bytes) → Contains c.interfaces i → (m : DeclaredMember) → Contains (declared_by k (with_interfaces W i)) m → Contains (methods_above W x k) m
    interface_up i h m d = subst (λ (ms : List DeclaredMember). Contains ms m) (sym whole) (Contains-append_left by_interfaces by_superclass m (led_in W k c.interfaces i m h d))

    superclass_is : (s : Bytes) → c.superclass ≡ Some s → by_superclass ≡ methods_above W s k
    unfolding superinterfaces
    superclass_is s e = ap (λ (o : Option Bytes). declared_by k (interfaces_of W (of_super (chain W) o))) e

    superclass_up : (s : Bytes) → c.superclass ≡ Some s → (m : DeclaredMember) → Contains (methods_above W s k) m → Contains (methods_above W x k) m
    superclass_up s e m d = subst (λ (ms : List DeclaredMember). Contains ms m) (sym whole) (Contains-append_right by_interfaces by_superclass m (subst (λ (ms : List DeclaredMember). Contains ms m) (sym (superclass_is s e)) d))

    -- what an interface leads to it declares itself, or it is above it
    leads_is : (i : Bytes) (d : ClassFacts) → find_class W i ≡ Some d → IsGood W i → declared_by k (with_interfaces W i) ≡ if_inheritable (found_in d (own_method_of d k)) ++ methods_above W i k
    unfolding declared_by
    leads_is i d e g = ap (declared_by k) (interface_leads W side i d e g.0 (sym (ap (some_and (λ v. interface_flag v.flags)) e) ∙ g.1))

    above_up : (i : Bytes) → Contains c.interfaces i → (m : DeclaredMember) → Contains (methods_above W i k) m → Contains (methods_above W x k) m
    above_up i h m d =
        let g : IsGood W i = each_in (IsGood W) c.interfaces i named h in
        let t = loads-found W i g.0 in
        interface_up i h m (subst (λ (ms : List DeclaredMember). Contains ms m) (sym (leads_is i t.0 t.1 g)) (Contains-append_right (if_inheritable (found_in t.0 (own_method_of t.0 k))) (methods_above W i k) m d))

    own_up : (i : Bytes) → Contains c.interfaces i → (o : IsOwn i) → Contains (methods_above W x k) o.method
    own_up i h o =
        interface_up i h o.method (subst (λ (ms : List DeclaredMember). Contains ms o.method) (sym (leads_is i o.facts o.there o.good))
        (Contains-append_left (if_inheritable (found_in o.facts (own_method_of o.facts k))) (methods_above W i k) o.method (inheritable (found_in o.facts (own_method_of o.facts k)) o.method o.own (ap (λ v. private_flag v || static_flag v) (sym o.found.flags) ∙ counts))))

    -- a class that x names, whose row has it
    record IsVia (s : Bytes) : Type 0 where
      gives : IsOwn s ⊎ IsPicked s
      up : (m : DeclaredMember) → Contains (methods_above W s k) m → Contains (methods_above W x k) m

    via_interface : (i : Bytes) → Contains c.interfaces i → HasIt i → IsVia i
    via_interface i h e = record { gives = of_interface i (each_in (IsGood W) c.interfaces i named h) (each_in IsRowThere c.interfaces i interface_rows h) e; up = above_up i h }

    via_superclass : (s : Bytes) → c.superclass ≡ Some s → HasIt s → IsVia s
    via_superclass s q e = record { gives = inr (of_superclass s q e); up = superclass_up s q }

    interface_agrees : (i : Bytes) → Contains c.interfaces i → (entry (row_named W rows i) n ≡ None) ⊎ HasIt i
    interface_agrees i h = same_entry f (entry (row_named W rows i) n) (each_in (λ z. agrees f (entry (row_named W rows z) n) ≡ true) c.interfaces i (list_all-each (λ z. agrees f (entry (row_named W rows z) n)) c.interfaces agreed.interfaces) h)

    superclass_agrees : (s : Bytes) → c.superclass ≡ Some s → (entry (row_named W rows s) n ≡ None) ⊎ HasIt s
    unfolding and_then
    superclass_agrees s e = same_entry f (entry (row_named W rows s) n) (ap (λ (o : Option Bytes). agrees f (super_entry W rows o n)) (sym e) ∙ agreed.superclass)

    -- the interface itself declares the method
    record IsOwnMethod (s : Bytes) (m : DeclaredMember) : Type 0 where
      facts : ClassFacts
      there : find_class W s ≡ Some facts
      good : IsGood W s
      own : found_in facts (own_method_of facts k) ≡ Some m

    -- by which of them the method is above x
    record IsWay (m : DeclaredMember) : Type 0 where
      name : Bytes
      via : IsVia name
      from : IsOwnMethod name m ⊎ Contains (methods_above W name k) m

    unfound : (s : Bytes) → IsRowThere s → entry (row_named W rows s) n ≡ None → lookup_choices W s k ≡ []
    unfound s t e = subst (λ (o : Option Found). IsChoice W o (lookup_choices W s k)) e (t.found n k numbered)

    way : (m : DeclaredMember) → Contains (methods_above W x k) m → IsWay m
    way m h = go (Contains-append_cases by_interfaces by_superclass m (subst (λ (ms : List DeclaredMember). Contains ms m) whole h))
      where
        interface : IsLed W k c.interfaces m → IsWay m
        interface l = by (interface_agrees l.name l.is_in)
          where
            g : IsGood W l.name
            g = each_in (IsGood W) c.interfaces l.name named l.is_in

            d : (b : ClassFacts) × (find_class W l.name ≡ Some b)
            d = loads-found W l.name g.0

            split : HasIt l.name → Contains (if_inheritable (found_in d.0 (own_method_of d.0 k))) m ⊎ Contains (methods_above W l.name k) m → IsWay m
            split e (inl o) = record { name = l.name; via = via_interface l.name l.is_in e; from = inl (record { facts = d.0; there = d.1; good = g; own = inherits (found_in d.0 (own_method_of d.0 k)) m o }) }
            split e (inr o) = record { name = l.name; via = via_interface l.name l.is_in e; from = inr o }

            by : (entry (row_named W rows l.name) n ≡ None) ⊎ HasIt l.name → IsWay m
            by (inl e) = absurd (none m (subst (λ (ms : List DeclaredMember). Contains ms m) (none_below W k l.name g.0 g.1 (unfound l.name (each_in IsRowThere c.interfaces l.name interface_rows l.is_in) e)) l.leads))
            by (inr e) = split e (Contains-append_cases (if_inheritable (found_in d.0 (own_method_of d.0 k))) (methods_above W l.name k) m (subst (λ (ms : List DeclaredMember). Contains ms m) (leads_is l.name d.0 d.1 g) l.leads))

        superclass : (o : Option Bytes) → c.superclass ≡ o → Contains (declared_by k (interfaces_of W (of_super (chain W) o))) m → IsWay m
        superclass None q d = absurd (none m (subst (λ (ms : List DeclaredMember). Contains ms m) (no_super W k) d))
        superclass (Some s) q d = by (superclass_agrees s q)
          where
            up : Contains (methods_above W s k) m
            up = subst (λ (ms : List DeclaredMember). Contains ms m) (ap (λ (o : Option Bytes). declared_by k (interfaces_of W (of_super (chain W) o))) (sym q) ∙ superclass_is s q) d

            by : (entry (row_named W rows s) n ≡ None) ⊎ HasIt s → IsWay m
            by (inl e) = absurd (none m (subst (λ (ms : List DeclaredMember). Contains ms m) (none_declared W k s (parts W k s (unfound s (super_row s q) e)).1) up))
            by (inr e) = record { name = s; via = via_superclass s q e; from = inr up }

        go : Contains by_interfaces m ⊎ Contains by_superclass m → IsWay m
        go (inl d) = interface (led W k c.interfaces m d)
        go (inr d) = superclass c.superclass refl d

    -- ---- what they agree on

    -- it is a method above x
    record IsOrigin : Type 0 where
      method : DeclaredMember
      is_in : Contains (methods_above W x k) method
      found : IsFound W f method

    origin : IsOrigin
    origin = go (or_else-cases (first_entry W rows c.interfaces n) (super_entry W rows c.superclass n) f agreed.given)
      where
        picked : (s : Bytes) → IsVia s → IsPicked s → IsOrigin
        picked s v p = record { method = p.pick.method; is_in = v.up p.pick.method p.pick.is_in; found = p.pick.found }

        by : (i : Bytes) → Contains c.interfaces i → IsVia i → IsOwn i ⊎ IsPicked i → IsOrigin
        by i h v (inl o) = record { method = o.method; is_in = own_up i h o; found = o.found }
        by i h v (inr p) = picked i v p

        go : (first_entry W rows c.interfaces n ≡ Some f) ⊎ (super_entry W rows c.superclass n ≡ Some f) → IsOrigin
        go (inl e) = let t = first_has W rows n f c.interfaces e in let v = via_interface t.0 t.1 t.2 in by t.0 t.1 v v.gives
        go (inr e) = let t = super_has W rows n f c.superclass e in let v = via_superclass t.0 t.1 t.2 in picked t.0 v (of_superclass t.0 t.1 t.2)

    same_owner : (m : DeclaredMember) → IsFound W f m → m.owner ≡ origin.method.owner
    same_owner m i = sym i.owner ∙ origin.found.owner

    same_flags : (m : DeclaredMember) → IsFound W f m → m.member.flags ≡ origin.method.member.flags
    same_flags m i = sym i.flags ∙ origin.found.flags

    -- an interface that declares it is its owner
    own_owner : (s : Bytes) → (o : IsOwn s) → origin.method.owner ≡ s
    own_owner s o = sym (same_owner o.method o.found) ∙ owner_of o.facts (own_method_of o.facts k) o.method o.own ∙ find-name W s o.facts o.there

    -- an interface declares one method of the key
    own_same : (s : Bytes) (m : DeclaredMember) → (o : IsOwn s) → IsOwnMethod s m → m ≡ o.method
    own_same s m o w =
        let d : Some w.facts ≡ Some o.facts = sym w.there ∙ o.there in
        let q : w.facts ≡ o.facts = cc in
        let e : Some m ≡ Some o.method = sym w.own ∙ ap (λ (b : ClassFacts). found_in b (own_method_of b k)) q ∙ o.own in cc

    -- of which nothing is picked where it declares one
    own_picked : (s : Bytes) (m : DeclaredMember) → IsPicked s → IsOwnMethod s m → ⊥
    own_picked s m p w =
        let e : found_in w.facts (own_method_of w.facts k) ≡ None = own_none W k s w.facts w.there (ap (λ b. front_by b W s k) (sym w.good.1) ∙ p.front) in
        let clash : None ≡ Some m = sym e ∙ w.own in cc

    above_is : (s : Bytes) → load_fault W s ≡ None → (m : DeclaredMember) → Contains (methods_above W s k) m → is_superinterface W s m.owner ≡ true
    above_is s l m c = let i : IsOne W s l k m = one_of W s l k m c in ap (is_superinterface W s) (sym i.name) ∙ i.above

    -- none stands below it
    no_rival : (r : DeclaredMember) → IsWay r → is_under W side r.owner origin.method.owner ≡ true → ⊥
    no_rival r w u = go w.via.gives w.from
      where
        p : (not (same r.owner origin.method.owner) ≡ true) × (is_superinterface W r.owner origin.method.owner ≡ true)
        p = and_parts (not (same r.owner origin.method.owner)) (is_superinterface W r.owner origin.method.owner) u

        go : IsOwn w.name ⊎ IsPicked w.name → IsOwnMethod w.name r ⊎ Contains (methods_above W w.name k) r → ⊥
        go (inl o) (inl d) =
            let e : r.owner ≡ origin.method.owner = ap (λ (m : DeclaredMember). m.owner) (own_same w.name r o d) ∙ same_owner o.method o.found in
            contradicts (same r.owner origin.method.owner) (ap (same r.owner) (sym e) ∙ same_itself r.owner) (not-true (same r.owner origin.method.owner) p.0)
        go (inl o) (inr d) =
            let a : is_superinterface W w.name r.owner ≡ true = above_is w.name o.good.0 r d in
            let b : is_superinterface W r.owner w.name ≡ true = ap (is_superinterface W r.owner) (sym (own_owner w.name o)) ∙ p.1 in
            no_circle W side w.name o.good.0 o.good.1 (transitive W side w.name r.owner w.name o.good.0 a b)
        go (inr q) (inl d) = own_picked w.name r q d
        go (inr q) (inr d) =
            let t : is_under W side r.owner q.pick.method.owner ≡ true = ap (is_under W side r.owner) (same_owner q.pick.method q.pick.found) ∙ u in
            contradicts (list_any (λ (o : DeclaredMember). is_under W side o.owner q.pick.method.owner) (methods_above W w.name k))
            (any_has (λ (o : DeclaredMember). is_under W side o.owner q.pick.method.owner) (methods_above W w.name k) r d t) (not-true (list_any (λ (o : DeclaredMember). is_under W side o.owner q.pick.method.owner) (methods_above W w.name k)) q.pick.maximal)

    maximal : is_maximal W (methods_above W x k) origin.method ≡ true
    maximal = ap not (go (list_any (λ (o : DeclaredMember). is_under W side o.owner origin.method.owner) (methods_above W x k)) refl)
      where
        go : (b : Bool) → list_any (λ (o : DeclaredMember). is_under W side o.owner origin.method.owner) (methods_above W x k) ≡ b → b ≡ false
        go false e = refl
        go true e =
            let r = any_passes (λ (o : DeclaredMember). is_under W side o.owner origin.method.owner) (methods_above W x k) e in
            absurd (no_rival r.one (way r.one r.is_in) r.passes)

    -- what is maximally specific of all is so of what stands above one of them
    maximal_there : (s : Bytes) → IsVia s → (m : DeclaredMember) → is_maximal W (methods_above W x k) m ≡ true → is_maximal W (methods_above W s k) m ≡ true
    maximal_there s v m t = ap not (go (list_any (λ (o : DeclaredMember). is_under W side o.owner m.owner) (methods_above W s k)) refl)
      where
        go : (b : Bool) → list_any (λ (o : DeclaredMember). is_under W side o.owner m.owner) (methods_above W s k) ≡ b → b ≡ false
        go false e = refl
        go true e =
            let r = any_passes (λ (o : DeclaredMember). is_under W side o.owner m.owner) (methods_above W s k) e in
            absurd (contradicts (list_any (λ (o : DeclaredMember). is_under W side o.owner m.owner) (methods_above W x k))
            (any_has (λ (o : DeclaredMember). is_under W side o.owner m.owner) (methods_above W x k) r.one (v.up r.one r.is_in) r.passes) (not-true (list_any (λ (o : DeclaredMember). is_under W side o.owner m.owner) (methods_above W x k)) t))

    -- where it is abstract, so is each other
    others_abstract : abstract_flag origin.method.member.flags ≡ true → (m : DeclaredMember) → Contains (methods_above W x k) m → is_maximal W (methods_above W x k) m ≡ true → IsWay m → abstract_flag m.member.flags ≡ true
    others_abstract a m h t w = go w.via.gives w.from
      where
        alike : m ≡ origin.method → abstract_flag m.member.flags ≡ true
        alike e = ap (λ (d : DeclaredMember). abstract_flag d.member.flags) e ∙ a

        further : (o : IsOwn w.name) → Contains (methods_above W w.name k) m → (b : Bool) → same origin.method.owner m.owner ≡ b → abstract_flag m.member.flags ≡ true
        further o d true e = alike (only_one W x loads k m origin.method h origin.is_in (sym (same_is origin.method.owner m.owner e)))
        further o d false e =
            let u : is_superinterface W origin.method.owner m.owner ≡ true = ap (λ z. is_superinterface W z m.owner) (own_owner w.name o) ∙ above_is w.name o.good.0 m d in
            absurd (contradicts (list_any (λ (o : DeclaredMember). is_under W side o.owner m.owner) (methods_above W x k))
            (any_has (λ (o : DeclaredMember). is_under W side o.owner m.owner) (methods_above W x k) origin.method origin.is_in (and_from (not (same origin.method.owner m.owner)) (is_superinterface W origin.method.owner m.owner) (ap not e) u))
            (not-true (list_any (λ (o : DeclaredMember). is_under W side o.owner m.owner) (methods_above W x k)) t))

        go : IsOwn w.name ⊎ IsPicked w.name → IsOwnMethod w.name m ⊎ Contains (methods_above W w.name k) m → abstract_flag m.member.flags ≡ true
        go (inl o) (inl d) = ap (λ (e : DeclaredMember). abstract_flag e.member.flags) (own_same w.name m o d) ∙ ap abstract_flag (same_flags o.method o.found) ∙ a
        go (inl o) (inr d) = further o d (same origin.method.owner m.owner) refl
        go (inr q) (inl d) = absurd (own_picked w.name m q d)
        go (inr q) (inr d) = q.pick.first (ap abstract_flag (same_flags q.pick.method q.pick.found) ∙ a) m d (maximal_there w.name w.via m t)

    pub agreed_pick : IsPick W x k f
    agreed_pick = record {
      method = origin.method;
      is_in = origin.is_in;
      found = origin.found;
      maximal = maximal;
      first = λ a m h t. others_abstract a m h t (way m h);
    }
