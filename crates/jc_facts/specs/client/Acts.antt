-- What each act asks of a lookup (JVMS 5.4.3, 6.5).
use Rattle.std.specs.Prelude.{Bool, true, false}
use Rattle.jc_facts.specs.declared.act.Act.{Act}
use Rattle.jc_facts.specs.declared.act.Act.TheVariants.{GetStatic, PutStatic, GetField, PutField, InvokeStatic, InvokeInterface, InvokeStaticInterface, InvokeSpecial, InvokeSpecialInterface}

-- the form of a reference: to a field, to a method of a class, to a method of an interface (JVMS 4.4.2)
pub data Form : Type 0 where
  FieldForm MethodForm InterfaceForm : Form

-- the form of the reference that an act names
abbrev pub form_of : Act → Form
form_of GetStatic = FieldForm
form_of PutStatic = FieldForm
form_of GetField = FieldForm
form_of PutField = FieldForm
form_of InvokeInterface = InterfaceForm
form_of InvokeStaticInterface = InterfaceForm
form_of InvokeSpecialInterface = InterfaceForm
form_of _ = MethodForm

-- the act is on a static member: getstatic, putstatic, invokestatic
abbrev pub is_act_on_static : Act → Bool
is_act_on_static GetStatic = true
is_act_on_static PutStatic = true
is_act_on_static InvokeStatic = true
is_act_on_static InvokeStaticInterface = true
is_act_on_static _ = false

-- the act is putstatic or putfield
abbrev pub is_put_act : Act → Bool
is_put_act PutStatic = true
is_put_act PutField = true
is_put_act _ = false

-- the act is invokespecial
abbrev pub is_special : Act → Bool
is_special InvokeSpecial = true
is_special InvokeSpecialInterface = true
is_special _ = false

-- the form is that of a field
abbrev pub is_field_form : Form → Bool
is_field_form FieldForm = true
is_field_form _ = false

-- the act is one of the four on fields
abbrev pub is_act_on_field : Act → Bool
is_act_on_field a = is_field_form (form_of a)
