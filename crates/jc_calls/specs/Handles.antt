-- Method handles of acts, as a method reference of a client has them (JVMS 4.4.8, 5.4.3.5).
--     handle_ok W x what t k      the handle of the act on the key k, named through t, is Ok from the class x
--     are_referable W what t k      each method that the act may find is public, and none that a compiler made (JVMS 4.6)
-- A handle is resolved as the act itself is. LambdaMetafactory then takes it apart by MethodHandles.Lookup.revealDirect of the client's own lookup,
-- which asks that the class that declares the method found be accessible from the client, and not only the one that the client names: where it
-- isn't, the call site ends with BootstrapMethodError. What invokevirtual finds in an interface HotSpot says to be declared by the class named, which
-- is accessible: such a handle goes on. What invokespecial and invokeinterface find it leaves to the interface. A virtual machine that may find several
-- methods may find any, so it is asked of each.
use Rattle.std.specs.Prelude.{Bool, true, false, not, None, is_none, ◌&&◌, ◌||◌}
use Rattle.std.specs.List.{list_all}
use Rattle.jc_facts.specs.declared.act.Act.{Act}
use Rattle.jc_facts.specs.declared.act.Act.TheVariants.{InvokeVirtual, InvokeStatic}
use Rattle.jc_facts.specs.declared.class_facts.ClassFacts.{ClassFacts}
use Rattle.jc_facts.specs.declared.client.Item.{Item}
use Rattle.jc_facts.specs.declared.client.Item.TheVariants as item
use Rattle.jc_facts.specs.declared.client.Place.TheVariants.{Other}
use Rattle.jc_facts.specs.declared.key.Key.{Key}
use Rattle.jc_facts.specs.Flags.{public_flag, synthetic_flag, interface_flag}
use Rattle.jc_facts.specs.Names.{Bytes}
use Rattle.jc_facts.specs.world.World.{World, class_is, DeclaredMember}
use Rattle.jc_facts.specs.world.Access.{is_class_accessible}
use Rattle.jc_facts.specs.client.Acts.{form_of}
use Rattle.jc_facts.specs.client.Outcome.{outcome, may_find}

-- the act on the key k, named through t, with nothing known of its receiver
abbrev pub handle_item : Act → Bytes → Key → Item
handle_item what t k = item.Access what t k None Other

-- the act calls through the class that it names. By invokestatic no interface's method is found so (JVMS 5.4.3.3)
abbrev pub is_through_class : Act → Bool
is_through_class InvokeVirtual = true
is_through_class InvokeStatic = true
is_through_class _ = false

-- of what the act finds in d the class named is said to be the one that declares it
abbrev pub is_said_of_named : Act → ClassFacts → Bool
is_said_of_named what d = is_through_class what && interface_flag d.flags

-- the class that is said to declare the method is accessible from x (JVMS 5.4.4): its own, those of its package, and public ones that are visible
abbrev pub declares_openly : World → Bytes → Act → DeclaredMember → Bool
declares_openly W x what m = class_is W (λ d. is_said_of_named what d || is_class_accessible W x d) m.owner

-- the act is Ok, and each method that it may find is said to be declared by a class that is accessible too
unfoldable pub handle_ok : World → Bytes → Act → Bytes → Key → Bool
handle_ok W x what t k = is_none (outcome W x (handle_item what t k)) && list_all (declares_openly W x what) (may_find W (form_of what) t k)

-- the method is public, and no bridge or other that a compiler made, ACC_SYNTHETIC (JVMS 4.6): of a protected one of another package, and of a bridge,
-- javac makes a lambda and no handle
abbrev pub is_referable : DeclaredMember → Bool
is_referable m = public_flag m.member.flags && not (synthetic_flag m.member.flags)

-- so is each that the act on the key k may find, named through t
abbrev pub are_referable : World → Act → Bytes → Key → Bool
are_referable W what t k = list_all is_referable (may_find W (form_of what) t k)
