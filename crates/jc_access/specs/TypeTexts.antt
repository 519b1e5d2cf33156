-- Type texts without where their names lie in memory.
use Rattle.std.specs.Prelude.{Option, option_map}
use Rattle.jc_facts.specs.world.Types.{Element, Primitive, Class, TypeText}
use Rattle.jc_access.specs.declared.assigning.Element.{Element as ElementOf}
use Rattle.jc_access.specs.declared.assigning.Element.TheVariants as elements
use Rattle.jc_access.specs.declared.assigning.TypeText.{TypeText as TextOf}

-- an array's element
abbrev pub element_view : ElementOf → Element
element_view (elements.Primitive letter) = Primitive letter
element_view (elements.Class name) = Class name.now

-- a type, where there is one
abbrev pub text_view : Option TextOf → Option TypeText
text_view o = option_map (λ t. record { dims = t.dims; element = element_view t.element }) o
