-- The interfaces above a class that loads.
use Rattle.std.proofs.Common.{◌≡◌, Bool, true, false, List, [], refl, sym, ◌∙◌, ap, subst, Some, None, ◌&&◌}
use Rattle.std.specs.List.{list_any}
use Rattle.std.proofs.lemmas.Bool.{or_right}
use Rattle.jc_facts.specs.declared.class_facts.ClassFacts.{ClassFacts}
use Rattle.jc_facts.specs.declared.key.Key.{Key}
use Rattle.jc_facts.specs.Names.{Bytes, same, object_name}
use Rattle.jc_facts.specs.Flags.{interface_flag}
use Rattle.jc_facts.specs.world.World.{World, find_class}
use Rattle.jc_facts.specs.world.Hierarchy.{each, with_interfaces, superinterfaces, is_superinterface, names_in}
use Rattle.jc_facts.specs.world.Loading.{load_fault}
use Rattle.jc_facts.specs.file.Valid.{IsValidClass}
use Rattle.jc_facts.specs.world.Inheritance.{offers}
use Rattle.jc_facts.proofs.Same.{same_is}
use Rattle.jc_facts.proofs.World.{find-name, IsOf}
use Rattle.jc_lemmas.proofs.Listed.{EachOf, EachOf-map, each_in, any_passes, list_any-same}
use Rattle.jc_worlds.proofs.Above.{with_interfaces-each, superinterfaces-each}
use Rattle.jc_worlds.proofs.Offers.{superinterfaces-interface}
use Rattle.jc_worlds.proofs.Unrolled.{with_interfaces-unroll}
use Rattle.jc_sound.proofs.MethodSets.{interface_super}
use Rattle.jc_worlds.proofs.Leads.{leads_further, passes_on}
use Rattle.jc_selection.proofs.Parts.{is_offered}

-- an interface of the world that loads
pub record IsGood (W : World) (c : ClassFacts) : Type 0 where
  pub found : find_class W c.name ≡ Some c
  pub loaded : load_fault W c.name ≡ None
  pub kind : interface_flag c.flags ≡ true

pub are_of : (W : World) (cs : List ClassFacts) → EachOf (IsGood W) cs → EachOf (IsOf W) cs
are_of W cs h = EachOf-map (λ (c : ClassFacts) (g : IsGood W c). g.found) cs h

good : (W : World) (x : Bytes) (c : ClassFacts) → find_class W x ≡ Some c → load_fault W x ≡ None → interface_flag c.flags ≡ true → IsGood W c
good W x c f h i =
    let n : c.name ≡ x = find-name W x c f in
    record { found = ap (find_class W) n ∙ f; loaded = ap (load_fault W) n ∙ h; kind = i }

-- where the class of a name offers the key, who is of the name offers it
pub named_offered : (W : World) (k : Key) (z : Bytes) (cs : List ClassFacts) → EachOf (IsOf W) cs → ((e : ClassFacts) → find_class W z ≡ Some e → offers k e ≡ true) → names_in cs z ≡ list_any (is_offered (λ b. true) k z) cs
named_offered W k z cs g o = list_any-same (λ (c : ClassFacts). same c.name z) (is_offered (λ b. true) k z) cs (EachOf-map step cs g)
  where
    step : (c : ClassFacts) → IsOf W c → same c.name z ≡ (offers k c && same c.name z && true)
    step c f = go (same c.name z) refl (offers k c) refl
      where
        go : (b : Bool) → same c.name z ≡ b → (a : Bool) → offers k c ≡ a → b ≡ (a && b && true)
        go true e true q = refl
        go true e false q = absurd (
            let w : offers k c ≡ true = o c (ap (find_class W) (sym (same_is c.name z e)) ∙ f) in
            let clash : true ≡ false = sym w ∙ q in cc)
        go false e true q = refl
        go false e false q = refl

module _ (W : World) (root : ClassFacts) (fr : find_class W object_name ≡ Some root) (rs : root.superclass ≡ None) (ri : root.interfaces ≡ []) (rc : interface_flag root.flags ≡ false)
    (valid : (y : Bytes) (c : ClassFacts) → find_class W y ≡ Some c → IsValidClass c) where
  pub of_interface : (y : Bytes) (c : ClassFacts) → find_class W y ≡ Some c → load_fault W y ≡ None → interface_flag c.flags ≡ true → superinterfaces W y ≡ each (with_interfaces W) c.interfaces
  of_interface y c f l i = superinterfaces-interface W root fr rs ri y c f l (interface_super W root fr rc y c f (valid y c f) i)

  with_super : (y : Bytes) (c : ClassFacts) → find_class W y ≡ Some c → load_fault W y ≡ None → interface_flag c.flags ≡ true → (z : Bytes) → is_superinterface W y z ≡ true → names_in (with_interfaces W y) z ≡ true
  with_super y c f l i z h =
      ap (λ cs. names_in cs z) (with_interfaces-unroll W y c f l)
      ∙ or_right (same c.name z) (names_in (each (with_interfaces W) c.interfaces) z) (sym (ap (λ cs. names_in cs z) (of_interface y c f l i)) ∙ h)

  -- the interface of a name among such
  named_good : (cs : List ClassFacts) → EachOf (IsGood W) cs → (y : Bytes) → names_in cs y ≡ true → (z : Bytes) → is_superinterface W y z ≡ true → names_in (with_interfaces W y) z ≡ true
  named_good cs g y h z s =
      let p = any_passes (λ (c : ClassFacts). same c.name y) cs h in
      let n : p.one.name ≡ y = same_is p.one.name y p.passes in
      let d : IsGood W p.one = each_in (IsGood W) cs p.one g p.is_in in
      subst (λ w. is_superinterface W w z ≡ true → names_in (with_interfaces W w) z ≡ true) n (λ t. with_super p.one.name p.one d.found d.loaded d.kind z t) s

  pub goods_with : (x : Bytes) (c : ClassFacts) → find_class W x ≡ Some c → load_fault W x ≡ None → interface_flag c.flags ≡ true → EachOf (IsGood W) (with_interfaces W x)
  goods_with x c f l i = with_interfaces-each W (IsGood W) (good W) x l c f i

  pub goods_super : (x : Bytes) → load_fault W x ≡ None → EachOf (IsGood W) (superinterfaces W x)
  goods_super x l = superinterfaces-each W (IsGood W) (good W) x l

  pub closed_with : (x : Bytes) (c : ClassFacts) → find_class W x ≡ Some c → load_fault W x ≡ None → interface_flag c.flags ≡ true → (y z : Bytes) → names_in (with_interfaces W x) y ≡ true → is_superinterface W y z ≡ true → names_in (with_interfaces W x) z ≡ true
  closed_with x c f l i y z a b = leads_further W x l y z a (named_good (with_interfaces W x) (goods_with x c f l i) y a z b)

  pub closed_super : (x : Bytes) → load_fault W x ≡ None → (y z : Bytes) → names_in (superinterfaces W x) y ≡ true → is_superinterface W y z ≡ true → names_in (superinterfaces W x) z ≡ true
  closed_super x l y z a b = passes_on W x l y z a (named_good (superinterfaces W x) (goods_super x l) y a z b)
