-- What a lookup of a planned act finds.
use Rattle.std.specs.Prelude.{Option}
use Rattle.jc_facts.specs.declared.key.Key.{Key}
use Rattle.jc_facts.specs.Names.{Bytes}
use Rattle.jc_facts.specs.client.Acts.{Form, FieldForm, MethodForm, InterfaceForm}
use Rattle.jc_facts.specs.world.World.{World}
use Rattle.jc_facts.specs.world.Lookup.{field_found, method_choices, interface_choices}
use Rattle.jc_index.specs.Lookups.{IsAnswer, IsChoice}
use Rattle.jc_index.specs.declared.ids.Found.{Found}

-- the lookup by this form of reference to the class c finds it, or nothing
abbrev pub IsFoundBy : World → Form → Bytes → Key → Option Found → Type 0
IsFoundBy W FieldForm c k found = IsAnswer W found (field_found W c k)
IsFoundBy W MethodForm c k found = IsChoice W found (method_choices W c k)
IsFoundBy W InterfaceForm c k found = IsChoice W found (interface_choices W c k)
