-- Warnings: a change of what a base gives its clients to run, over the old side O and the new side N alone.
--     warning_at O N b k      the kind of the warning on the class b and the key, none where none stands
--     WarningStands O N w      w is the warning on its class and key
use Rattle.std.specs.Prelude.{Bool, not, cond, List, Option, None, Some, ◌||◌, ◌&&◌, ◌≡◌}
use Rattle.std.specs.Bool.{beq}
use Rattle.std.specs.List.{list_all, filter}
use Rattle.std.specs.Ordering.{on, then_cmp}
use Rattle.std.specs.declared.cmp.Ordering.{Ordering}
use Rattle.jc_facts.specs.declared.class_facts.ClassFacts.{ClassFacts}
use Rattle.jc_facts.specs.declared.key.Key.{Key}
use Rattle.jc_facts.specs.Exactly.{name_order, HasExactly}
use Rattle.jc_facts.specs.KeyOrder.{key_cmp}
use Rattle.jc_facts.specs.Names.{Bytes, same}
use Rattle.jc_facts.specs.Options.{some_and, some_where}
use Rattle.jc_facts.specs.world.World.{World, class_named}
use Rattle.jc_facts.specs.world.Hierarchy.{names_in, with_interfaces, superinterfaces, is_superinterface}
use Rattle.jc_facts.specs.world.Assignment.{is_interface_of}
use Rattle.jc_facts.specs.world.Inheritance.{offers}
use Rattle.jc_promises.specs.rule.Bases.{is_key_of_method, is_base_class, is_base_interface}
use Rattle.jc_facts.specs.declared.warning.ChainKind.{ChainKind}
use Rattle.jc_facts.specs.declared.warning.ChainKind.TheVariants.{Nothing, Abstract, Concrete}
use Rattle.jc_promises.specs.rule.Selection.{chain_kind, declares_abstract}
use Rattle.jc_facts.specs.declared.warning.Warning.{Warning}
use Rattle.jc_facts.specs.declared.warning.WarnKind.{WarnKind}
use Rattle.jc_facts.specs.declared.warning.WarnKind.TheVariants as warn

-- clients could extend or implement it, and still can
abbrev pub is_base : World → World → Bytes → Bool
is_base O N b = is_base_class O N b || is_base_interface O N b

-- ---- the part of a base

-- the interface b and those above it, or the superinterfaces of the class b
unfoldable pub interfaces_from : World → Bytes → List ClassFacts
interfaces_from W b = cond (is_interface_of W b) (with_interfaces W b) (superinterfaces W b)

-- those of them that declare the key neither private nor static: what b has part in where a method is selected below it
unfoldable pub part : World → Bytes → Key → List ClassFacts
part W b k = filter (offers k) (interfaces_from W b)

-- y is another interface than x, and a superinterface of it
abbrev pub is_below_other : World → Bytes → Bytes → Bool
is_below_other W x y = not (same x y) && is_superinterface W x y

-- the interface c of the old part is in the new one, its method is abstract in both or in neither, and it is below the same others of the
-- part on both sides
abbrev pub stays_in : World → World → Key → List ClassFacts → List ClassFacts → ClassFacts → Bool
stays_in O N k before after c =
    some_and (λ d. beq (declares_abstract k c) (declares_abstract k d)) (class_named after c.name)
    && list_all (λ i. beq (is_below_other O c.name i.name) (is_below_other N c.name i.name)) before

-- the two parts have the same interfaces, and these are alike
unfoldable pub parts_agree : World → World → Key → List ClassFacts → List ClassFacts → Bool
parts_agree O N k before after = list_all (stays_in O N k before after) before && list_all (λ d. names_in before d.name) after

-- ---- the warnings

-- by what the chain has of the key, before and now, and by whether the parts differ
abbrev pub warn_kind : ChainKind → ChainKind → Bool → Option WarnKind
warn_kind Concrete Concrete differ = None
warn_kind Concrete _ differ = Some warn.Lost
warn_kind Nothing Abstract differ = Some warn.Abstract
warn_kind Nothing Nothing differ = some_where differ warn.Defaults
warn_kind _ _ differ = None

-- the kind of the warning on the base b and the key: a method of the chain is lost, the chain has an abstract one now, or the chain has
-- nothing and the superinterfaces give the key otherwise
unfoldable pub warning_at : World → World → Bytes → Key → Option WarnKind
warning_at O N b k = cond (is_key_of_method k && is_base O N b) (warn_kind (chain_kind O b k) (chain_kind N b k) (not (parts_agree O N k (part O b k) (part N b k)))) None

-- the warning is the one on its class and key
abbrev pub WarningStands : World → World → Warning → Type 0
WarningStands O N w = warning_at O N w.«class» w.key ≡ Some w.kind

-- by class, then key
abbrev pub warning_order : Warning → Warning → Ordering
warning_order = then_cmp (on (λ w. w.«class») name_order) (on (λ w. w.key) key_cmp)

-- the list has each warning that stands once, in order, and no other
abbrev pub AreWarnings : World → World → List Warning → Type 0
AreWarnings O N ws = HasExactly warning_order (WarningStands O N) ws
