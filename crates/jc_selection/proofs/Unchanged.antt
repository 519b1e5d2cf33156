-- Where nothing above a base changed, nothing is warned of on it.
use Rattle.std.proofs.Common.{◌≡◌, Bool, true, false, not, cond, List, [], ◌∷◌, refl, sym, ◌∙◌, ap, subst, Option, Some, None, ◌&&◌, ◌⊎◌, inl, inr}
use Rattle.std.specs.Bool.{beq}
use Rattle.std.specs.List.{list_all, filter, Contains}
use Rattle.std.proofs.lemmas.Bool.{and_parts, and_from, or_cases}
use Rattle.std.proofs.lemmas.List.Elements.{recursion_from_All}
use Rattle.jc_facts.specs.declared.class_facts.ClassFacts.{ClassFacts}
use Rattle.jc_facts.specs.declared.key.Key.{Key}
use Rattle.jc_facts.specs.declared.warning.ChainKind.{ChainKind}
use Rattle.jc_facts.specs.declared.warning.ChainKind.TheVariants.{Nothing}
use Rattle.jc_facts.specs.Flags.{interface_flag}
use Rattle.jc_facts.specs.Names.{Bytes, same}
use Rattle.jc_facts.specs.Options.{some_and}
use Rattle.jc_facts.specs.world.World.{World, find_class, class_named}
use Rattle.jc_facts.specs.world.Hierarchy.{chain, with_interfaces, superinterfaces, names_in}
use Rattle.jc_facts.specs.world.Loading.{load_fault}
use Rattle.jc_facts.specs.world.Assignment.{is_interface_of}
use Rattle.jc_facts.specs.world.Inheritance.{offers}
use Rattle.jc_promises.specs.rule.Bases.{is_class_usable, is_steady, is_base_class, is_base_interface, is_extendable, is_implementable, is_class_closed, is_key_of_method}
use Rattle.jc_promises.specs.rule.Selection.{chain_kind, first_kind, declares_abstract}
use Rattle.jc_promises.specs.rule.Warnings.{is_base, interfaces_from, part, is_below_other, stays_in, parts_agree, warn_kind, warning_at}
use Rattle.jc_facts.proofs.Same.{same_itself}
use Rattle.jc_facts.proofs.World.{class_named-name, class_named-each, find-name, IsOf}
use Rattle.jc_lemmas.proofs.Bools.{contradicts}
use Rattle.jc_lemmas.proofs.Listed.{EachOf, none, cases, each_in, each_from, any_has, filter-each}
use Rattle.jc_worlds.proofs.Above.{with_interfaces-each, superinterfaces-each}
use Rattle.jc_worlds.proofs.Loaded.{loads-found}
use Rattle.jc_sound.proofs.Standing.{usable_parts}
use Rattle.jc_selection.specs.Shown.{UnchangedIsUnwarned}
use Rattle.jc_selection.proofs.Selected.{no_change}

beq_itself : (b : Bool) → beq b b ≡ true
beq_itself true = refl
beq_itself false = refl

all_from : {A : Type 0} (p : A → Bool) (xs : List A) → EachOf (λ x. p x ≡ true) xs → list_all p xs ≡ true
all_from p [] h = refl
all_from p (x ∷ xs) h = and_from (p x) (list_all p xs) h.0 (all_from p xs h.1)

-- a class that stands in a list is found there
is_named : (cs : List ClassFacts) (c : ClassFacts) → Contains cs c → class_named cs c.name ≡ None → ⊥
unfolding class_named
is_named [] c h e = none c h
is_named (d ∷ ds) c h e = go (cases d ds c h) (same d.name c.name) refl e (is_named ds c)
  where
    go : (d ≡ c) ⊎ Contains ds c → (b : Bool) → same d.name c.name ≡ b → cond b (Some d) (class_named ds c.name) ≡ None → (Contains ds c → class_named ds c.name ≡ None → ⊥) → ⊥
    go w true q f r = let clash : Some d ≡ None = f in cc
    go (inl w) false q f r = contradicts (same d.name c.name) (ap (λ (z : ClassFacts). same z.name c.name) w ∙ same_itself c.name) q
    go (inr w) false q f r = r w f

-- a part agrees with itself, where its interfaces stand below the same others
part_agrees : (O N : World) (k : Key) (cs : List ClassFacts) → EachOf (IsOf O) cs → EachOf (λ (c : ClassFacts). superinterfaces O c.name ≡ superinterfaces N c.name) cs → parts_agree O N k cs cs ≡ true
unfolding parts_agree
part_agrees O N k cs h s = and_from (list_all (stays_in O N k cs cs) cs) (list_all (λ d. names_in cs d.name) cs)
    (all_from (stays_in O N k cs cs) cs (each_from (λ c. stays_in O N k cs cs c ≡ true) cs stays))
    (all_from (λ d. names_in cs d.name) cs (each_from (λ (d : ClassFacts). names_in cs d.name ≡ true) cs (λ d i. any_has (λ (c : ClassFacts). same c.name d.name) cs d i (same_itself d.name))))
  where
    found : (c : ClassFacts) → Contains cs c → class_named cs c.name ≡ Some c
    found c i = go (class_named cs c.name) refl
      where
        go : (o : Option ClassFacts) → class_named cs c.name ≡ o → o ≡ Some c
        go None e = absurd (is_named cs c i e)
        go (Some d) e = sym (class_named-each (IsOf O) cs c.name d h e) ∙ ap (find_class O) (class_named-name cs c.name d e) ∙ each_in (IsOf O) cs c h i

    stays : (c : ClassFacts) → Contains cs c → stays_in O N k cs cs c ≡ true
    stays c i = and_from (some_and (λ d. beq (declares_abstract k c) (declares_abstract k d)) (class_named cs c.name)) (list_all (λ j. beq (is_below_other O c.name j.name) (is_below_other N c.name j.name)) cs)
        (ap (some_and (λ d. beq (declares_abstract k c) (declares_abstract k d))) (found c i) ∙ beq_itself (declares_abstract k c))
        (all_from (λ (j : ClassFacts). beq (is_below_other O c.name j.name) (is_below_other N c.name j.name)) cs (each_from (λ (j : ClassFacts). beq (is_below_other O c.name j.name) (is_below_other N c.name j.name) ≡ true) cs (λ j m. below j)))
      where
        below : (j : ClassFacts) → beq (is_below_other O c.name j.name) (is_below_other N c.name j.name) ≡ true
        below j =
            subst (λ b. beq (is_below_other O c.name j.name) b ≡ true) (ap (λ ds. not (same c.name j.name) && names_in ds j.name) (each_in (λ (c : ClassFacts). superinterfaces O c.name ≡ superinterfaces N c.name) cs c s i))
            (beq_itself (is_below_other O c.name j.name))

pub base_loads : (O N : World) (b : Bytes) → is_base O N b ≡ true → load_fault O b ≡ None
unfolding is_base_class is_base_interface is_extendable is_implementable
base_loads O N b h = go (or_cases (is_base_class O N b) (is_base_interface O N b) h)
  where
    go : (is_base_class O N b ≡ true) ⊎ (is_base_interface O N b ≡ true) → load_fault O b ≡ None
    go (inl p) = (usable_parts O b (and_parts (is_class_usable O b) _ (and_parts (is_extendable O N b) (is_steady O N b) (and_parts (is_extendable O N b && is_steady O N b) (not (is_class_closed O N b)) p).0).0).0).loaded
    go (inr p) = (usable_parts O b (and_parts (is_class_usable O b) _ (and_parts (is_implementable O N b) (is_steady O N b) (and_parts (is_implementable O N b && is_steady O N b) (not (is_class_closed O N b)) p).0).0).0).loaded

-- what holds of each interface that loads holds of those of a base
part_each : (W : World) (P : ClassFacts → Type 0) → ((x : Bytes) (c : ClassFacts) → find_class W x ≡ Some c → load_fault W x ≡ None → interface_flag c.flags ≡ true → P c) → (b : Bytes) → load_fault W b ≡ None → EachOf P (interfaces_from W b)
unfolding interfaces_from
part_each W P each_one b l = of_kind (is_interface_of W b) refl
  where
    of_kind : (i : Bool) → is_interface_of W b ≡ i → EachOf P (cond i (with_interfaces W b) (superinterfaces W b))
    of_kind true j = let c = loads-found W b l in with_interfaces-each W P each_one b l c.0 c.1 (sym (ap (some_and (λ (d : ClassFacts). interface_flag d.flags)) c.1) ∙ j)
    of_kind false j = superinterfaces-each W P each_one b l

pub part_loads : (W : World) (b : Bytes) → load_fault W b ≡ None → EachOf (λ (c : ClassFacts). load_fault W c.name ≡ None) (interfaces_from W b)
part_loads W b l = part_each W (λ (c : ClassFacts). load_fault W c.name ≡ None) (λ x c f h i. ap (load_fault W) (find-name W x c f) ∙ h) b l

unwarned : (a : ChainKind) (agree : Bool) → agree ≡ true → warn_kind a a (not agree) ≡ None
unwarned a true e = no_change a
unwarned a false e = absurd (cc)

pub unchanged : UnchangedIsUnwarned
unfolding warning_at chain_kind part
unchanged O N b k alike = go (is_key_of_method k && is_base O N b) refl
  where
    kinds : chain_kind O b k ≡ chain_kind N b k
    kinds = ap (λ i. cond i Nothing (first_kind k (chain O b))) alike.kind ∙ ap (λ cs. cond (is_interface_of N b) Nothing (first_kind k cs)) alike.chain

    parts : part O b k ≡ part N b k
    parts = ap (filter (offers k)) alike.interfaces

    go : (t : Bool) → (is_key_of_method k && is_base O N b) ≡ t → cond t (warn_kind (chain_kind O b k) (chain_kind N b k) (not (parts_agree O N k (part O b k) (part N b k)))) None ≡ None
    go false e = refl
    go true e = subst (λ c. warn_kind (chain_kind O b k) c (not (parts_agree O N k (part O b k) (part N b k))) ≡ None) kinds
        (subst (λ p. warn_kind (chain_kind O b k) (chain_kind O b k) (not (parts_agree O N k (part O b k) p)) ≡ None) parts
        (unwarned (chain_kind O b k) (parts_agree O N k (part O b k) (part O b k)) (part_agrees O N k (part O b k)
        (filter-each (IsOf O) (offers k) (interfaces_from O b) (part_each O (IsOf O) (λ x c f l i. ap (find_class O) (find-name O x c f) ∙ f) b (base_loads O N b (and_parts (is_key_of_method k) (is_base O N b) e).1)))
        (filter-each (λ (c : ClassFacts). superinterfaces O c.name ≡ superinterfaces N c.name) (offers k) (interfaces_from O b) (recursion_from_All (λ (c : ClassFacts). superinterfaces O c.name ≡ superinterfaces N c.name) (interfaces_from O b) alike.above)))))
