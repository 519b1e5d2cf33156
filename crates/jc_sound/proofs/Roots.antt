-- java/lang/Object gives the same members with both releases.
use Rattle.std.proofs.Common.{◌≡◌, false, List, [], refl, sym, ◌∙◌, subst, None}
use Rattle.jc_facts.specs.declared.class_facts.ClassFacts.{ClassFacts}
use Rattle.jc_facts.specs.declared.key.Key.{Key}
use Rattle.jc_facts.specs.Names.{Bytes, object_name}
use Rattle.jc_facts.specs.world.World.{World}
use Rattle.jc_facts.specs.world.Lookup.{field_found, superinterface_choices, method_choices, public_method_of_object}
use Rattle.jc_facts.specs.world.Assignment.{is_interface_of}
use Rattle.jc_facts.specs.client.Acts.{Form, FieldForm, MethodForm, InterfaceForm}
use Rattle.jc_sound.proofs.Ground.{Ground, chain_root}
use Rattle.jc_worlds.proofs.Bare.{bare_choices, bare_field}
use Rattle.jc_sound.proofs.Looked.{looked}

module _ (O N : World) (cs : List ClassFacts) (g : Ground O N cs) where
  pub field_root_o : (k : Key) → field_found O object_name k ≡ None
  field_root_o k = bare_field O object_name g.root k g.root_o g.root_super g.root_interfaces g.root_fields

  pub field_root_n : (k : Key) → field_found N object_name k ≡ None
  field_root_n k = bare_field N object_name g.root k g.root_n g.root_super g.root_interfaces g.root_fields

  pub choices_root_o : (k : Key) → superinterface_choices O object_name k ≡ []
  choices_root_o k = bare_choices O object_name g.root k g.root_o g.root_super g.root_interfaces

  pub choices_root_n : (k : Key) → superinterface_choices N object_name k ≡ []
  choices_root_n k = bare_choices N object_name g.root k g.root_n g.root_super g.root_interfaces

  pub method_root : (k : Key) → method_choices O object_name k ≡ method_choices N object_name k
  unfolding method_choices
  method_root k = rw (chain_root O N cs g, choices_root_o k, choices_root_n k) refl

  kind_o : is_interface_of O object_name ≡ false
  kind_o = rw g.root_o g.root_class

  kind_n : is_interface_of N object_name ≡ false
  kind_n = rw g.root_n g.root_class

  pub looked_root : (f : Form) (s : Bytes) (k : Key) → s ≡ object_name → looked O f s k ≡ looked N f s k
  unfolding looked
  looked_root f s k e = subst (λ z. looked O f z k ≡ looked N f z k) (sym e) (go f)
    where
      go : (f : Form) → looked O f object_name k ≡ looked N f object_name k
      go FieldForm = field_root_o k ∙ sym (field_root_n k)
      go MethodForm = rw (kind_o, kind_n, method_root k) refl
      go InterfaceForm = rw (kind_o, kind_n) refl

  pub object_method-same : (k : Key) → public_method_of_object O k ≡ public_method_of_object N k
  unfolding public_method_of_object
  object_method-same k = rw (g.root_o, g.root_n) refl
