-- A class that names nothing above itself, as the root is.
use Rattle.std.proofs.Common.{◌≡◌, Bool, true, false, List, [], ◌∷◌, refl, not, ◌||◌, ◌&&◌, Option, Some, None, ◌∙◌, ap}
use Rattle.jc_facts.specs.declared.class_facts.Member.{Member}
use Rattle.jc_facts.specs.Names.{Bytes, same, object_name}
use Rattle.jc_desc.specs.Names.{is_init_name, is_clinit_name}
use Rattle.jc_facts.specs.world.Overriding.{overrides_some_final, reaches_final}
use Rattle.jc_facts.specs.declared.class_facts.ClassFacts.{ClassFacts}
use Rattle.jc_facts.specs.declared.link_error.LinkError.TheVariants.{IncompatibleClassChangeError}
use Rattle.jc_facts.specs.Flags.{interface_flag}
use Rattle.jc_facts.specs.world.World.{World, find_class, found_in}
use Rattle.jc_facts.specs.world.Search.{supers_of}
use Rattle.jc_facts.specs.Options.{and_then, or_else, first_some}
use Rattle.jc_facts.specs.world.Loading.{load_fault, fault_of_itself, fault_where}
use Rattle.jc_lemmas.proofs.Listed.{EachOf}
use Rattle.jc_worlds.proofs.Loaded.{loads_from_parts, unroll, loads-induction}
use Rattle.jc_facts.specs.world.Hierarchy.{chain, chain_step, of_super, in_chain, each, interfaces_of, superinterfaces}
use Rattle.jc_worlds.proofs.Locality.{chain_step-local, field_step-local}
use Rattle.jc_facts.specs.file.Valid.{IsValidClass}
use Rattle.jc_worlds.proofs.ValidFacts.{superclass_fits, fit_of}
use Rattle.std.proofs.lemmas.Bool.{or_left, or_right}
use Rattle.jc_worlds.proofs.Unrolled.{above, in_chain-step}
use Rattle.jc_facts.specs.declared.key.Key.{Key}
use Rattle.jc_facts.specs.world.Lookup.{field_found, field_step, declared_by, only_or, superinterface_choices}

pub overrides_final-none : (x : Bytes) (ms : List Member) → overrides_some_final x ms [] ≡ false
unfolding overrides_some_final reaches_final
overrides_final-none x [] = refl
overrides_final-none x (m ∷ ms) = rw (overrides_final-none x ms) (go (not (is_init_name m.name || is_clinit_name m.name)))
  where
    go : (b : Bool) → (b && false || false) ≡ false
    go true = refl
    go false = refl

-- a class that names nothing loads
pub bare_loads : (W : World) (x : Bytes) (c : ClassFacts) → find_class W x ≡ Some c → c.superclass ≡ None → c.interfaces ≡ [] → load_fault W x ≡ None
unfolding fault_of_itself and_then first_some or_else
bare_loads W x c e s i = loads_from_parts W x c e (go c.superclass c.interfaces s i) (rw (s, i, overrides_final-none c.name c.methods) (never (not (interface_flag c.flags))))
  where
    go : (o : Option Bytes) (is : List Bytes) → o ≡ None → is ≡ [] → EachOf (λ s. load_fault W s ≡ None) (supers_of o is)
    go None [] p q = tt
    go (Some y) is p q = absurd (cc)
    go None (y ∷ is) p q = absurd (cc)

    never : (b : Bool) → fault_where (b && false) IncompatibleClassChangeError ≡ None
    never true = refl
    never false = refl

pub bare_chain : (W : World) (x : Bytes) (c : ClassFacts) → find_class W x ≡ Some c → c.superclass ≡ None → c.interfaces ≡ [] → chain W x ≡ c ∷ []
unfolding chain chain_step
bare_chain W x c e s i =
    let u : chain W x ≡ c ∷ of_super (chain W) c.superclass = unroll W [] [] chain_step chain_step-local x c (bare_loads W x c e s i) e in
    u ∙ ap (λ o. c ∷ of_super (chain W) o) s

-- each class that loads has java/lang/Object in its chain
pub has_root : (W : World) → ((x : Bytes) (c : ClassFacts) → find_class W x ≡ Some c → IsValidClass c) → (x : Bytes) → load_fault W x ≡ None → in_chain W x object_name ≡ true
has_root W valid = loads-induction W (λ x. in_chain W x object_name ≡ true) (λ x c f h r.
    in_chain-step W x object_name c h f ∙ go c c.superclass c.interfaces (fit_of c (valid x c f)).superclass r)
  where
    go : (c : ClassFacts) (o : Option Bytes) (is : List Bytes) → superclass_fits c o ≡ true → EachOf (λ y. in_chain W y object_name ≡ true) (supers_of o is) → (same c.name object_name || above (λ s. in_chain W s object_name) o) ≡ true
    go c None is v r = or_left (same c.name object_name) false v
    go c (Some s) is v r = or_right (same c.name object_name) (in_chain W s object_name) r.0

-- a class that names nothing and has no fields
pub bare_field : (W : World) (x : Bytes) (c : ClassFacts) (k : Key) → find_class W x ≡ Some c → c.superclass ≡ None → c.interfaces ≡ [] → c.fields ≡ [] → field_found W x k ≡ None
unfolding field_found field_step or_else first_some and_then found_in
bare_field W x c k e s i f =
    let u : field_found W x k ≡ field_step k (λ y. field_found W y k) c = unroll W None None (field_step k) (field_step-local k) x c (bare_loads W x c e s i) e in
    u ∙ rw (s, i, f) refl

pub bare_interfaces : (W : World) (x : Bytes) (c : ClassFacts) → find_class W x ≡ Some c → c.superclass ≡ None → c.interfaces ≡ [] → superinterfaces W x ≡ []
unfolding superinterfaces interfaces_of each
bare_interfaces W x c e s i = ap (interfaces_of W) (bare_chain W x c e s i) ∙ rw i refl

pub bare_choices : (W : World) (x : Bytes) (c : ClassFacts) (k : Key) → find_class W x ≡ Some c → c.superclass ≡ None → c.interfaces ≡ [] → superinterface_choices W x k ≡ []
unfolding superinterface_choices declared_by only_or
bare_choices W x c k e s i = rw (bare_interfaces W x c e s i) refl
