-- References to members, by their form.
use Rattle.std.specs.Prelude.{List, [], ◌∷◌, IsTrue}
use Rattle.jc_facts.specs.declared.act.Act.{Act}
use Rattle.jc_facts.specs.declared.act.Act.TheVariants as act
use Rattle.jc_facts.specs.declared.key.Key.{Key}
use Rattle.jc_facts.specs.client.Acts.{Form, FieldForm, MethodForm, InterfaceForm}
use Rattle.jc_promises.specs.rule.OpenActs.{field_acts}
use Rattle.jc_promises.specs.rule.Bases.{is_key_of_method}
use Rattle.jc_facts.specs.declared.act.Form.{Form as FormOf}
use Rattle.jc_facts.specs.declared.act.Form.TheVariants as forms

-- the acts by references of the form that a rule looks at, in this order
abbrev pub acts_of : FormOf → List Act
acts_of forms.Field = field_acts
acts_of forms.Method = act.InvokeVirtual ∷ act.InvokeStatic ∷ []
acts_of forms.Interface = act.InvokeInterface ∷ act.InvokeStaticInterface ∷ []

-- the key is one that references of the form name: no initializer's, where they are to methods
abbrev pub MayName : Form → Key → Type 0
MayName FieldForm k = Unit {0}
MayName MethodForm k = IsTrue (is_key_of_method k)
MayName InterfaceForm k = IsTrue (is_key_of_method k)
