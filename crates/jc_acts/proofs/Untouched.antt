-- Where no class above x changed or left a chain, and x loads on both sides, lookups from x find the same on both, and no act on its members is
-- closed. That x loads on the new side doesn't follow: the records are the same, but what they name may no longer be visible.
use Rattle.std.proofs.Common.{◌≡◌, Bool, true, false, not, cond, List, [], ◌∷◌, ◌++◌, refl, sym, ◌∙◌, ap, subst, Option, Some, None, is_some, is_none, ◌||◌, ◌&&◌, ◌⊎◌, inl, inr}
use Rattle.std.specs.List.{list_any, filter, Contains}
use Rattle.std.proofs.lemmas.Bool.{and_parts, and_from, or_cases, not-true, or_from}
use Rattle.std.proofs.lemmas.List.Elements.{All-from_recursion, filter-append}
use Rattle.std.proofs.lemmas.List.Folds.{list_any-append}
use Rattle.jc_facts.specs.declared.act.Act.{Act}
use Rattle.jc_facts.specs.declared.class_facts.ClassFacts.{ClassFacts}
use Rattle.jc_facts.specs.declared.key.Key.{Key}
use Rattle.jc_facts.specs.declared.link_error.LinkError.{LinkError}
use Rattle.jc_facts.specs.Names.{Bytes, same, object_name, package_name}
use Rattle.jc_facts.specs.Flags.{interface_flag}
use Rattle.jc_facts.specs.Options.{some_and}
use Rattle.jc_facts.specs.world.World.{World, classes, find_class, class_named, DeclaredMember}
use Rattle.jc_facts.specs.world.Modules.{module_by, module_of, same_module, in_same_module, is_exported, visible_by, is_visible}
use Rattle.jc_facts.specs.world.Search.{supers, supers_of}
use Rattle.jc_facts.specs.world.Hierarchy.{chain, each, in_chain, interfaces_of, of_super, superinterfaces, with_interfaces, is_superinterface, names_in}
use Rattle.jc_facts.specs.world.Loading.{load_fault, loads}
use Rattle.jc_facts.specs.world.Lookup.{method_choices, interface_choices}
use Rattle.jc_facts.specs.world.Assignment.{is_interface_of}
use Rattle.jc_facts.specs.client.Acts.{Form, FieldForm, MethodForm, InterfaceForm, form_of}
use Rattle.jc_promises.specs.rule.OpenActs.{act_fault, where_open}
use Rattle.jc_promises.specs.rule.Bases.{is_steady}
use Rattle.jc_facts.proofs.Hierarchy.{any_each}
use Rattle.jc_facts.proofs.Same.{same_is, same_itself}
use Rattle.jc_facts.proofs.World.{find-name}
use Rattle.jc_lemmas.proofs.Bools.{and_not, imply, neither_first, neither_last}
use Rattle.jc_lemmas.proofs.Options.{none_from}
use Rattle.jc_lemmas.proofs.Listed.{EachOf, EachOf-both, any_has, any_none, any_passes, each_from, each_of, not_any}
use Rattle.jc_worlds.specs.Agreement.{AgreeOn, LooksTheSame, ModulesAgreeOn}
use Rattle.jc_worlds.specs.Hierarchy.{above}
use Rattle.jc_worlds.proofs.AgreementLaw.{worlds_agree}
use Rattle.jc_worlds.proofs.Bare.{bare_loads, bare_chain, bare_interfaces, has_root}
use Rattle.jc_worlds.proofs.FieldActs.{field_found-declared}
use Rattle.jc_worlds.proofs.Leads.{passes_on}
use Rattle.jc_worlds.proofs.Loaded.{loads-parts, loads-found}
use Rattle.jc_worlds.proofs.Locality.{of_interfaces}
use Rattle.jc_worlds.proofs.Unrolled.{with_interfaces-unroll}
use Rattle.jc_worlds.proofs.ValidFacts.{superclass_fits, fit_of}
use Rattle.jc_sound.proofs.MethodLooked.{looked-declared}
use Rattle.jc_sound.proofs.Looked.{looked, head_of, look_up-takes, look_up-from}
use Rattle.jc_index.specs.Sides.{IsSide}
use Rattle.jc_index.proofs.Strictly.{above_good}
use Rattle.jc_field.proofs.Declared.{kinds}
use Rattle.jc_index.proofs.Sides.{root_at, side_valid}
use Rattle.jc_index.proofs.Numbers.{is_none-None}
use Rattle.jc_sides.specs.SidesOf.{SidesOf, AreSides}
use Rattle.jc_sides.proofs.BaseParts.{steady_parts}
use Rattle.jc_acts.specs.ClosedActs.{HasNoneClosed}
use Rattle.jc_acts.specs.Seats.{all_seats, may_be_closed}
use Rattle.jc_acts.specs.steps.Firsts.{first_at, closed_on}
use Rattle.jc_acts.specs.steps.LookedUp.{use_at}
use Rattle.jc_acts.specs.Touched.{is_changed, is_touched, left_chain_of}
use Rattle.jc_acts.proofs.Changed.{platform_same, same_found}
use Rattle.jc_acts.proofs.Firsts.{first_none, first_closed}
use Rattle.jc_acts.proofs.Narrowed.{use_further}
use Rattle.jc_acts.proofs.SetAbove.{above_is}

supers_each : (P : Bytes → Type 0) (o : Option Bytes) (is : List Bytes) → ((s : Bytes) → o ≡ Some s → P s) → EachOf P is → EachOf P (supers_of o is)
supers_each P None is f h = h
supers_each P (Some s) is f h = (f s refl, h)

-- ---- a part of a world

-- its classes of these names
kept : (Bytes → Bool) → List ClassFacts → List ClassFacts
kept t cs = filter (λ c. t c.name) cs

either : (b : Bool) (o : Option ClassFacts) → o ≡ cond b o o
either true o = refl
either false o = refl

named_kept : (t : Bytes → Bool) (y : Bytes) (cs : List ClassFacts) → class_named (kept t cs) y ≡ cond (t y) (class_named cs y) None
unfolding kept class_named
named_kept t y [] = either (t y) None
named_kept t y (c ∷ cs) = go (t c.name) refl (same c.name y) refl (named_kept t y cs)
  where
    go : (b : Bool) → t c.name ≡ b → (d : Bool) → same c.name y ≡ d → class_named (kept t cs) y ≡ cond (t y) (class_named cs y) None → class_named (cond b (c ∷ kept t cs) (kept t cs)) y ≡ cond (t y) (cond d (Some c) (class_named cs y)) None
    go true e true k r = ap (λ z. cond z (Some c) (class_named (kept t cs) y)) k ∙ sym (ap (λ z. cond z (Some c) None) (ap t (sym (same_is c.name y k)) ∙ e))
    go true e false k r = ap (λ z. cond z (Some c) (class_named (kept t cs) y)) k ∙ r
    go false e true k r =
        let n : t y ≡ false = ap t (sym (same_is c.name y k)) ∙ e in
        r ∙ ap (λ z. cond z (class_named cs y) None) n ∙ sym (ap (λ z. cond z (Some c) None) n)
    go false e false k r = r

kept-append : (t : Bytes → Bool) (cs ds : List ClassFacts) → kept t (cs ++ ds) ≡ kept t cs ++ kept t ds
unfolding kept
kept-append t cs ds = filter-append (λ c. t c.name) cs ds

-- in each of its lists those of these names
abbrev part : World → (Bytes → Bool) → World
part W t = record { platform = kept t W.platform; release = kept t W.release; clients = kept t W.clients; modules = W.modules }

classes_part : (W : World) (t : Bytes → Bool) → kept t (classes W) ≡ classes (part W t)
classes_part W t = kept-append t (W.platform ++ W.release) W.clients ∙ ap (λ cs. cs ++ kept t W.clients) (kept-append t W.platform W.release)

find_part : (W : World) (t : Bytes → Bool) (y : Bytes) → find_class (part W t) y ≡ cond (t y) (find_class W y) None
unfolding find_class
find_part W t y = ap (λ cs. class_named cs y) (sym (classes_part W t)) ∙ named_kept t y (classes W)

module_part : (W : World) (t : Bytes → Bool) (y : Bytes) → t y ≡ true → module_of W y ≡ module_of (part W t) y
module_part W t y h = ap (λ o. module_by W.modules (is_some o) (is_some (class_named W.release y))) (stays W.platform) ∙ ap (λ o. module_by W.modules (is_some (class_named (kept t W.platform) y)) (is_some o)) (stays W.release)
  where
    stays : (cs : List ClassFacts) → class_named cs y ≡ class_named (kept t cs) y
    stays cs = sym (named_kept t y cs ∙ ap (λ b. cond b (class_named cs y) None) h)

modules_part : (W : World) (t : Bytes → Bool) → ModulesAgreeOn W (part W t) t
modules_part W t x y h k =
    let e = module_part W t x h in
    let f = module_part W t y k in
    let g = ap (λ m. same_module m (module_of W y)) e ∙ ap (same_module (module_of (part W t) x)) f in
    record {
      seen = ap (λ b. b || is_visible W y) g ∙ ap (λ m. in_same_module (part W t) x y || visible_by m (is_exported W.modules (package_name y))) f;
      together = g;
    }

-- ---- lookups of each form

IsField : Form → Type 0
IsField FieldForm = Unit {0}
IsField MethodForm = ⊥
IsField InterfaceForm = ⊥

apart_forms : MethodForm ≡ FieldForm → ⊥
unfolding IsField
apart_forms q = subst IsField (sym q) tt

other_forms : InterfaceForm ≡ FieldForm → ⊥
unfolding IsField
other_forms q = subst IsField (sym q) tt

-- what is looked up in worlds that agree
looked_alike : (V W : World) (test : Bytes → Bool) (agree : AgreeOn V W test) (x : Bytes) → test x ≡ true → test object_name ≡ true → load_fault V x ≡ None → load_fault W x ≡ None → (k : Key) (form : Form) → looked V form x k ≡ looked W form x k
unfolding looked
looked_alike V W test agree x i r l n k FieldForm = ((worlds_agree V W test agree x i).2 l n).field k
looked_alike V W test agree x i r l n k MethodForm =
    ap (λ o. cond (some_and (λ (c : ClassFacts). interface_flag c.flags) o) None (head_of (method_choices V x k))) (agree.same x i)
    ∙ ap (λ ms. cond (is_interface_of W x) None (head_of ms)) (((worlds_agree V W test agree x i).2 l n).method k)
looked_alike V W test agree x i r l n k InterfaceForm =
    ap (λ o. cond (some_and (λ (c : ClassFacts). interface_flag c.flags) o) (head_of (interface_choices V x k)) None) (agree.same x i)
    ∙ ap (λ ms. cond (is_interface_of W x) (head_of ms) None) (((worlds_agree V W test agree x i).2 l n).interface k (agree.same object_name r))

-- what is found is declared by a class of the world
found_owner : (W : World) (form : Form) (x : Bytes) (k : Key) (m : DeclaredMember) → load_fault W x ≡ None → looked W form x k ≡ Some m → is_some (find_class W m.owner) ≡ true
unfolding looked
found_owner W FieldForm x k m l e = ap is_some (field_found-declared W k m x l e).is_there
found_owner W MethodForm x k m l e = ap is_some (looked-declared W MethodForm x k m apart_forms l e).is_there
found_owner W InterfaceForm x k m l e = ap is_some (looked-declared W InterfaceForm x k m other_forms l e).is_there

-- ---- classes above which no name passes the test

module _ (W : World) (so : IsSide W) (p : Bytes → Bool) (root : p object_name ≡ false) where
  abbrev q : ClassFacts → Bool
  q c = p c.name

  abbrev none_above : Bytes → Bool
  none_above y = loads W y && not (list_any q (above W y))

  record IsClear (y : Bytes) : Type 0 where
    loaded : load_fault W y ≡ None
    clear : list_any q (above W y) ≡ false

  clear_parts : (y : Bytes) → none_above y ≡ true → IsClear y
  clear_parts y h = let r = and_parts (loads W y) (not (list_any q (above W y))) h in record { loaded = is_none-None (load_fault W y) r.0; clear = not-true (list_any q (above W y)) r.1 }

  clear_from : (y : Bytes) → load_fault W y ≡ None → list_any q (above W y) ≡ false → none_above y ≡ true
  clear_from y l c = and_from (loads W y) (not (list_any q (above W y))) (ap is_none l) (ap not c)

  record AreClear (c : ClassFacts) : Type 0 where
    own : q c ≡ false
    supers : list_any q (of_super (chain W) c.superclass) ≡ false
    led : list_any q (each (with_interfaces W) c.interfaces) ≡ false
    beyond : list_any q (interfaces_of W (of_super (chain W) c.superclass)) ≡ false

  parts : (y : Bytes) (c : ClassFacts) → find_class W y ≡ Some c → IsClear y → AreClear c
  parts y c f k =
      let s = list_any q (of_super (chain W) c.superclass) in
      let e = list_any q (each (with_interfaces W) c.interfaces) in
      let b = list_any q (interfaces_of W (of_super (chain W) c.superclass)) in
      let h : ((q c || s) || (e || b)) ≡ false = sym (above_is W q y c f k.loaded) ∙ k.clear in
      record {
        own = neither_first (q c) s (neither_first (q c || s) (e || b) h);
        supers = neither_last (q c) s (neither_first (q c || s) (e || b) h);
        led = neither_first e b (neither_last (q c || s) (e || b) h);
        beyond = neither_last e b (neither_last (q c || s) (e || b) h);
      }

  own_clear : (y : Bytes) → IsClear y → p y ≡ false
  own_clear y k = let t = loads-found W y k.loaded in ap p (sym (find-name W y t.0 t.1)) ∙ (parts y t.0 t.1 k).own

  -- nothing is above the root
  root_chain : list_any q (chain W object_name) ≡ false
  root_chain =
      ap (list_any q) (bare_chain W object_name so.root.root (root_at W so) so.root.superclass so.root.interfaces)
      ∙ or_from (q so.root.root) false (ap p (find-name W object_name so.root.root (root_at W so)) ∙ root) refl

  root_interfaces : list_any q (superinterfaces W object_name) ≡ false
  root_interfaces = ap (list_any q) (bare_interfaces W object_name so.root.root (root_at W so) so.root.superclass so.root.interfaces)

  root_clear : none_above object_name ≡ true
  root_clear =
      clear_from object_name (bare_loads W object_name so.root.root (root_at W so) so.root.superclass so.root.interfaces)
      (list_any-append q (chain W object_name) (superinterfaces W object_name) ∙ or_from (list_any q (chain W object_name)) (list_any q (superinterfaces W object_name)) root_chain root_interfaces)

  -- the superclass of an interface is the root
  above_interface : (d : ClassFacts) → interface_flag d.flags ≡ true → (o : Option Bytes) → superclass_fits d o ≡ true → (list_any q (of_super (chain W) o) ≡ false) × (list_any q (interfaces_of W (of_super (chain W) o)) ≡ false)
  unfolding interfaces_of superinterfaces
  above_interface d i None v = (refl, refl)
  above_interface d i (Some s) v =
      let r = and_parts (not (same d.name object_name)) (not (interface_flag d.flags) || same s object_name) v in
      let e : s ≡ object_name = same_is s object_name (imply (interface_flag d.flags) (same s object_name) r.1 i) in
      (ap (λ (z : Bytes). list_any q (chain W z)) e ∙ root_chain, ap (λ (z : Bytes). list_any q (superinterfaces W z)) e ∙ root_interfaces)

  interface_clear : (i : Bytes) → load_fault W i ≡ None → is_interface_of W i ≡ true → list_any q (with_interfaces W i) ≡ false → none_above i ≡ true
  interface_clear i l it h =
      let t = loads-found W i l in
      let j : interface_flag t.0.flags ≡ true = sym (ap (some_and (λ (c : ClassFacts). interface_flag c.flags)) t.1) ∙ it in
      let e : (q t.0 || list_any q (each (with_interfaces W) t.0.interfaces)) ≡ false = sym (ap (list_any q) (with_interfaces-unroll W i t.0 t.1 l)) ∙ h in
      let u = above_interface t.0 j t.0.superclass (fit_of t.0 (side_valid W so i t.0 t.1)).superclass in
      clear_from i l
      (above_is W q i t.0 t.1 l
      ∙ or_from (q t.0 || list_any q (of_super (chain W) t.0.superclass)) (list_any q (each (with_interfaces W) t.0.interfaces) || list_any q (interfaces_of W (of_super (chain W) t.0.superclass)))
      (or_from (q t.0) (list_any q (of_super (chain W) t.0.superclass)) (neither_first (q t.0) (list_any q (each (with_interfaces W) t.0.interfaces)) e) u.0)
      (or_from (list_any q (each (with_interfaces W) t.0.interfaces)) (list_any q (interfaces_of W (of_super (chain W) t.0.superclass))) (neither_last (q t.0) (list_any q (each (with_interfaces W) t.0.interfaces)) e) u.1))

  -- what such a class names is such a class
  supers_clear : (y : Bytes) (c : ClassFacts) → IsClear y → find_class W y ≡ Some c → EachOf (λ s. none_above s ≡ true) (supers c)
  unfolding superinterfaces
  supers_clear y c k f = supers_each (λ s. none_above s ≡ true) c.superclass c.interfaces by_super by_interfaces
    where
      any_key : Key
      any_key = record { name = []; descriptor = [] }

      all_load : EachOf (λ s. load_fault W s ≡ None) (supers c)
      all_load = (loads-parts W y c f k.loaded).0

      a : AreClear c
      a = parts y c f k

      first_loads : (o : Option Bytes) (is : List Bytes) → EachOf (λ s. load_fault W s ≡ None) (supers_of o is) → (s : Bytes) → o ≡ Some s → load_fault W s ≡ None
      first_loads None is h s e = absurd (cc)
      first_loads (Some z) is h s e = let n : z ≡ s = cc in subst (λ (t : Bytes). load_fault W t ≡ None) n h.0

      by_super : (s : Bytes) → c.superclass ≡ Some s → none_above s ≡ true
      by_super s e =
          clear_from s (first_loads c.superclass c.interfaces all_load s e)
          (list_any-append q (chain W s) (superinterfaces W s)
          ∙ or_from (list_any q (chain W s)) (list_any q (superinterfaces W s)) (sym (ap (λ o. list_any q (of_super (chain W) o)) e) ∙ a.supers) (sym (ap (λ o. list_any q (interfaces_of W (of_super (chain W) o))) e) ∙ a.beyond))

      led : EachOf (λ i. list_any q (with_interfaces W i) ≡ false) c.interfaces
      led = each_from (λ i. list_any q (with_interfaces W i) ≡ false) c.interfaces (λ i. not_any (λ z. list_any q (with_interfaces W z)) c.interfaces i (sym (any_each q (with_interfaces W) c.interfaces) ∙ a.led))

      by_interfaces : EachOf (λ i. none_above i ≡ true) c.interfaces
      by_interfaces =
          EachOf-both (λ i (t : (load_fault W i ≡ None) × (is_interface_of W i ≡ true)) h. interface_clear i t.0 t.1 h) c.interfaces
          (EachOf-both (λ i l t. (l, t)) c.interfaces (of_interfaces (λ s. load_fault W s ≡ None) c.superclass c.interfaces all_load) (kinds W so any_key y c f k.loaded)) led

  agree : AgreeOn W (part W none_above) none_above
  agree = record {
    same = λ x h. sym (find_part W none_above x ∙ ap (λ b. cond b (find_class W x) None) h);
    closed = λ x c h e. All-from_recursion (λ s. none_above s ≡ true) (supers c) (supers_clear x c (clear_parts x h) e);
  }

  -- what is found from such a class is declared by such a class
  owner_clear : (x : Bytes) → none_above x ≡ true → (form : Form) (k : Key) (m : DeclaredMember) → looked W form x k ≡ Some m → none_above m.owner ≡ true
  owner_clear x h form k m e =
      let l = (clear_parts x h).loaded in
      let n : load_fault (part W none_above) x ≡ None = sym ((worlds_agree W (part W none_above) none_above agree x h).0 (modules_part W none_above)) ∙ l in
      there (none_above m.owner) (sym (ap is_some (find_part W none_above m.owner)) ∙ found_owner (part W none_above) form x k m n (sym (looked_alike W (part W none_above) none_above agree x h root_clear l n k form) ∙ e))
    where
      there : (b : Bool) → is_some (cond b (find_class W m.owner) None) ≡ true → b ≡ true
      there true h = refl
      there false h = absurd (cc)

-- ---- both sides

-- the root is above each class
root_free : (W : World) → IsSide W → (p : Bytes → Bool) (x : Bytes) → load_fault W x ≡ None → list_any (λ (c : ClassFacts). p c.name) (above W x) ≡ false → p object_name ≡ false
root_free W so p x l h =
    let r = any_passes (λ (c : ClassFacts). same c.name object_name) (chain W x) (has_root W (side_valid W so) x l) in
    ap p (sym (same_is r.one.name object_name r.passes))
    ∙ not_any (λ (c : ClassFacts). p c.name) (chain W x) r.one (neither_first (list_any (λ (c : ClassFacts). p c.name) (chain W x)) (list_any (λ (c : ClassFacts). p c.name) (superinterfaces W x)) (sym (list_any-append (λ (c : ClassFacts). p c.name) (chain W x) (superinterfaces W x)) ∙ h)) r.is_in

module _ (s : SidesOf) (are : AreSides s) (x : Bytes) (free : may_be_closed s x ≡ false) where
  so : IsSide s.old
  so = are.old_side

  abbrev touched : Bytes → Bool
  touched = is_touched s (all_seats s)

  loads_before : load_fault s.old x ≡ None
  loads_before = none_from (load_fault s.old x) (neither_first (is_some (load_fault s.old x)) (list_any (λ (c : ClassFacts). touched c.name) (above s.old x)) free)

  none_touched : list_any (λ (c : ClassFacts). touched c.name) (above s.old x) ≡ false
  none_touched = neither_last (is_some (load_fault s.old x)) (list_any (λ (c : ClassFacts). touched c.name) (above s.old x)) free

  root : touched object_name ≡ false
  root = root_free s.old so touched x loads_before none_touched

  abbrev test : Bytes → Bool
  test = none_above s.old so touched root

  it_is : test x ≡ true
  it_is = clear_from s.old so touched root x loads_before none_touched

  untouched : (y : Bytes) → test y ≡ true → touched y ≡ false
  untouched y h = own_clear s.old so touched root y (clear_parts s.old so touched root y h)

  both : AgreeOn s.old s.new test
  both = record {
    same = λ y h. same_found s y (neither_first (is_changed s y) (list_any (left_chain_of s y) (all_seats s)) (untouched y h));
    closed = (agree s.old so touched root).closed;
  }

  -- an interface above it has no class above itself that changed or left a chain
  interface_above : (y : Bytes) → is_superinterface s.old x y ≡ true → test y ≡ true
  interface_above y h =
      let g = above_good s.old x y loads_before h in
      interface_clear s.old so touched root y g.0 g.1 (any_none (λ (c : ClassFacts). touched c.name) (with_interfaces s.old y) (each_from (λ (c : ClassFacts). touched c.name ≡ false) (with_interfaces s.old y) (λ d k.
      let led : names_in (with_interfaces s.old y) d.name ≡ true = any_has (λ (c : ClassFacts). same c.name d.name) (with_interfaces s.old y) d k (same_itself d.name) in
      let p = any_passes (λ (c : ClassFacts). same c.name d.name) (superinterfaces s.old x) (passes_on s.old x loads_before y d.name h led) in
      ap touched (sym (same_is p.one.name d.name p.passes))
      ∙ not_any (λ (c : ClassFacts). touched c.name) (superinterfaces s.old x) p.one (neither_last (list_any (λ (c : ClassFacts). touched c.name) (chain s.old x)) (list_any (λ (c : ClassFacts). touched c.name) (superinterfaces s.old x))
      (sym (list_any-append (λ (c : ClassFacts). touched c.name) (chain s.old x) (superinterfaces s.old x)) ∙ none_touched)) p.is_in)))

  above_same : (y : Bytes) → test y ≡ true → load_fault s.new y ≡ None → superinterfaces s.old y ≡ superinterfaces s.new y
  above_same y h l = ((worlds_agree s.old s.new test both y h).2 (clear_parts s.old so touched root y h).loaded l).superinterfaces

  module _ (still : load_fault s.new x ≡ None) where
    looks_same : LooksTheSame s.old s.new x
    looks_same = (worlds_agree s.old s.new test both x it_is).2 loads_before still

    looked_both : (form : Form) (k : Key) → looked s.old form x k ≡ looked s.new form x k
    looked_both form k = looked_alike s.old s.new test both x it_is (root_clear s.old so touched root) loads_before still k form

    -- such a class stays above a seat
    stays_above : (a : Bytes) → Contains (all_seats s) a → (y : Bytes) → test y ≡ true → in_chain s.old a y ≡ true → in_chain s.new a y ≡ true
    stays_above a seat y h =
        and_not (in_chain s.old a y) (in_chain s.new a y) (not_any (left_chain_of s y) (all_seats s) a (neither_last (is_changed s y) (list_any (left_chain_of s y) (all_seats s)) (untouched y h)) seat)

    -- an act that was open to the seat is open still
    stays_open : (a : Bytes) → Contains (all_seats s) a → (k : Key) (what : Act) → act_fault s.old a x k what ≡ None → act_fault s.new a x k what ≡ None
    unfolding act_fault
    stays_open a seat k what e =
        let t = look_up-takes s.old (form_of what) x k (use_at s.old a x what) e in
        let owner = owner_clear s.old so touched root x it_is (form_of what) k t.found t.taken in
        look_up-from s.new (form_of what) x k (use_at s.new a x what) (record {
          found = t.found;
          taken = sym (looked_both (form_of what) k) ∙ t.taken;
          fine = use_further s.old s.new a a x what t.found (stays_above a seat t.found.owner owner) (stays_above a seat x it_is) t.fine;
        })

    not_closed : (a : Bytes) → Contains (all_seats s) a → (k : Key) (what : Act) → closed_on s x k what a ≡ None
    not_closed a seat k what = go (act_fault s.old a x k what) refl
      where
        go : (o : Option LinkError) → act_fault s.old a x k what ≡ o → where_open o (act_fault s.new a x k what) ≡ None
        go None e = stays_open a seat k what e
        go (Some f) e = refl

    has_none : HasNoneClosed s x
    has_none k acts = first_closed s so.differ x k acts None (sym (first_none (λ what. first_at (closed_on s x k what) (all_seats s)) acts (each_of (λ what. first_at (closed_on s x k what) (all_seats s) ≡ None) no_seat acts)))
      where
        no_seat : (what : Act) → first_at (closed_on s x k what) (all_seats s) ≡ None
        no_seat what = first_none (closed_on s x k what) (all_seats s) (each_from (λ a. closed_on s x k what a ≡ None) (all_seats s) (λ a c. not_closed a c k what))

pub none_closed : (s : SidesOf) → AreSides s → (x : Bytes) → may_be_closed s x ≡ false → is_steady s.old s.new x ≡ true → HasNoneClosed s x
none_closed s are x free steady = has_none s are x free (steady_parts s x steady).both.loads_now

pub looks_alike : (s : SidesOf) → AreSides s → (x : Bytes) → may_be_closed s x ≡ false → load_fault s.new x ≡ None → LooksTheSame s.old s.new x
looks_alike s are x free still = looks_same s are x free still

pub one_record : (s : SidesOf) → AreSides s → (x : Bytes) → may_be_closed s x ≡ false → find_class s.old x ≡ find_class s.new x
one_record s are x free = (both s are x free).same x (it_is s are x free)

-- a class of the platform is the same, whatever is above it
pub platform_record : (s : SidesOf) → AreSides s → (x : Bytes) → is_some (class_named s.old.platform x) ≡ true → find_class s.old x ≡ find_class s.new x
platform_record s are x h = same_found s x (sym (platform_same s are.run.platform x h))

-- the class and each interface above it have the same superinterfaces on both sides
pub above_alike : (s : SidesOf) → AreSides s → (x : Bytes) → may_be_closed s x ≡ false → load_fault s.new x ≡ None → (y : Bytes) → (same x y || is_superinterface s.old x y) ≡ true → superinterfaces s.old y ≡ superinterfaces s.new y
above_alike s are x free still y h = go (or_cases (same x y) (is_superinterface s.old x y) h)
  where
    looks : superinterfaces s.old x ≡ superinterfaces s.new x
    looks = (looks_same s are x free still).superinterfaces

    go : (same x y ≡ true) ⊎ (is_superinterface s.old x y ≡ true) → superinterfaces s.old y ≡ superinterfaces s.new y
    go (inl e) = subst (λ z. superinterfaces s.old z ≡ superinterfaces s.new z) (same_is x y e) looks
    go (inr e) = above_same s are x free y (interface_above s are x free y e) (above_good s.new x y still (sym (ap (λ cs. names_in cs y) looks) ∙ e)).0
