-- What a text is, by what the entries of a pool ask of one.
use Rattle.std.specs.Prelude.{◌≡◌, List, ℕ, get_or, Option, Some, None, true, false, not, ◌&&◌, ◌||◌}
use Rattle.jc_desc.specs.Names.{spells_member_name, is_init_name, is_clinit_name}
use Rattle.jc_desc.specs.Pool as pool
use Rattle.jc_desc.specs.Pool.{slot_of_index, names_class, describes_field, describes_method, no_result}
use Rattle.jc_desc.specs.Reading.{method_of}
use Rattle.jc_pool.specs.declared.forms.ClassForm.{ClassForm}
use Rattle.jc_pool.specs.declared.forms.NameForms.{NameForms}
use Rattle.jc_pool.specs.declared.forms.DescriptorForms.{DescriptorForms}
use Rattle.jc_pool.specs.declared.forms.ResultForm.{ResultForm}
use Rattle.jc_pool.specs.declared.forms.Forms.{Forms}

-- of the text of a Class
abbrev pub class_form_in : List ℕ → ClassForm
class_form_in text = record { class = names_class text }

-- of a name
abbrev pub name_forms_in : List ℕ → NameForms
name_forms_in text = record {
  member = spells_member_name text false || spells_member_name text true;
  method = spells_member_name text true && not (is_clinit_name text);
  init = is_init_name text;
}

-- of a descriptor
abbrev pub descriptor_forms_in : List ℕ → DescriptorForms
descriptor_forms_in text = record {
  field = describes_field text;
  method = describes_method text;
}

-- of the descriptor of a constructor
abbrev pub result_form_in : List ℕ → ResultForm
result_form_in text = record { void = no_result (method_of text) }

-- each that is known is that of what its index holds
abbrev pub AreOf : {F : Type 0} → (List ℕ → F) → List pool.Slot → List (Option F) → Type 0
AreOf {F} form_in slots known = (i : ℕ) (form : F) → get_or known i None ≡ Some form → form ≡ form_in (slot_of_index slots i).body

-- and so in each role
abbrev pub AreForms : List pool.Slot → Forms → Type 0
AreForms slots known = AreOf class_form_in slots known.classes.items × AreOf name_forms_in slots known.names.items × AreOf descriptor_forms_in slots known.descriptors.items × AreOf result_form_in slots known.results.items
