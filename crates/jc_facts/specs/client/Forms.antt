-- The forms of references, as the code has them.
use Rattle.jc_facts.specs.declared.act.Form.{Form as FormOf}
use Rattle.jc_facts.specs.declared.act.Form.TheVariants as forms
use Rattle.jc_facts.specs.client.Acts.{Form, FieldForm, MethodForm, InterfaceForm}

-- the form (JVMS 4.4.2)
abbrev pub form_view : FormOf → Form
form_view forms.Field = FieldForm
form_view forms.Method = MethodForm
form_view forms.Interface = InterfaceForm
