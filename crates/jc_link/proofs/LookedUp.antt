-- What the lookup of a table finds is what the act's lookup finds.
use Rattle.std.proofs.Common.{◌≡◌, true, false, refl, sym, ◌∙◌, ap, Option, Some, None}
use Rattle.std.specs.Prelude.{Ok, Err}
use Rattle.std.specs.List.{All}
use Rattle.std.proofs.lemmas.List.Elements.{recursion_from_All}
use Rattle.jc_desc.specs.Names.{is_clinit_name}
use Rattle.jc_facts.specs.declared.act.Act.{Act}
use Rattle.jc_facts.specs.declared.act.Act.TheVariants as acts
use Rattle.jc_facts.specs.declared.key.Key.{Key}
use Rattle.jc_facts.specs.declared.link_error.LinkError.{LinkError}
use Rattle.jc_facts.specs.declared.link_error.LinkError.TheVariants.{IncompatibleClassChangeError, NoSuchFieldError, NoSuchMethodError}
use Rattle.jc_facts.specs.Names.{Bytes}
use Rattle.jc_facts.specs.world.World.{World, classes, DeclaredMember}
use Rattle.jc_facts.specs.world.Loading.{load_fault}
use Rattle.jc_facts.specs.world.Lookup.{field_found, method_choices, interface_choices}
use Rattle.jc_facts.specs.world.Assignment.{is_interface_of}
use Rattle.jc_facts.specs.client.Acts.{Form, FieldForm, MethodForm, InterfaceForm, form_of, is_put_act}
use Rattle.jc_facts.specs.client.Outcome.{look_up, found_or, first_of, use_fault}
use Rattle.jc_facts.specs.file.Valid.{IsValidClass}
use Rattle.jc_lemmas.proofs.Listed.{each_in}
use Rattle.jc_worlds.proofs.ChoiceLaws.{each_choice_gives_the_same}
use Rattle.jc_index.specs.Lookups.{IsAnswer, IsChoice}
use Rattle.jc_index.specs.declared.ids.Found.{Found}
use Rattle.jc_link.specs.steps.ItemSteps.{LooksUp}
use Rattle.jc_link.proofs.Members.{use_alike}

method_put : (act : Act) → form_of act ≡ MethodForm → is_put_act act ≡ false
method_put acts.PutStatic e = absurd (cc)
method_put acts.PutField e = absurd (cc)
method_put _ e = refl

interface_put : (act : Act) → form_of act ≡ InterfaceForm → is_put_act act ≡ false
interface_put acts.PutStatic e = absurd (cc)
interface_put acts.PutField e = absurd (cc)
interface_put _ e = refl

module _ (W : World) (act : Act) (c : Bytes) (k : Key) where
  -- the lookup of another form of the act
  by_form : (form : Form) → form_of act ≡ form → (f : DeclaredMember → Option LinkError) → look_up W (form_of act) c k f ≡ look_up W form c k f
  by_form form e f = ap (λ z. look_up W z c k f) e

  -- ---- fields

  pub field_member : form_of act ≡ FieldForm → (f : Found) → IsAnswer W (Some f) (field_found W c k) → LooksUp W act c k (Ok f)
  unfolding look_up
  field_member e f h = go (field_found W c k) refl h
    where
      go : (o : Option DeclaredMember) → field_found W c k ≡ o → IsAnswer W (Some f) o → LooksUp W act c k (Ok f)
      go None p g = absurd g
      go (Some m) p g = (g.below, λ x r place. by_form FieldForm e (use_fault W x act c r place) ∙ ap (λ o. found_or NoSuchFieldError o (use_fault W x act c r place)) p ∙ use_alike W f m g x act c r place)

  pub field_none : form_of act ≡ FieldForm → IsAnswer W None (field_found W c k) → LooksUp W act c k (Err NoSuchFieldError)
  unfolding look_up
  field_none e h = go (field_found W c k) refl h
    where
      go : (o : Option DeclaredMember) → field_found W c k ≡ o → IsAnswer W None o → LooksUp W act c k (Err NoSuchFieldError)
      go None p g = λ f. by_form FieldForm e f ∙ ap (λ o. found_or NoSuchFieldError o f) p
      go (Some m) p g = absurd g

  -- ---- methods

  pub class_kind : form_of act ≡ MethodForm → is_interface_of W c ≡ true → LooksUp W act c k (Err IncompatibleClassChangeError)
  unfolding look_up
  class_kind e i = λ f. by_form MethodForm e f ∙ rw i refl

  pub class_none : form_of act ≡ MethodForm → is_interface_of W c ≡ false → IsChoice W None (method_choices W c k) → LooksUp W act c k (Err NoSuchMethodError)
  unfolding look_up first_of
  class_none e i h = λ f. by_form MethodForm e f ∙ rw (i, h) refl

  pub interface_kind : form_of act ≡ InterfaceForm → is_interface_of W c ≡ false → LooksUp W act c k (Err IncompatibleClassChangeError)
  unfolding look_up
  interface_kind e i = λ f. by_form InterfaceForm e f ∙ rw i refl

  pub interface_none : form_of act ≡ InterfaceForm → is_interface_of W c ≡ true → IsChoice W None (interface_choices W c k) → LooksUp W act c k (Err NoSuchMethodError)
  unfolding look_up first_of
  interface_none e i h = λ f. by_form InterfaceForm e f ∙ rw (i, h) refl

  module _ (valid : All IsValidClass (classes W)) (loaded : load_fault W c ≡ None) (plain : is_clinit_name k.name ≡ false) where
    pub class_member : form_of act ≡ MethodForm → is_interface_of W c ≡ false → (f : Found) → IsChoice W (Some f) (method_choices W c k) → LooksUp W act c k (Ok f)
    class_member e i f h = (
      h.2.below,
      λ x r place.
          by_form MethodForm e (use_fault W x act c r place)
          ∙ sym (each_in (λ m. use_fault W x act c r place m ≡ look_up W MethodForm c k (use_fault W x act c r place)) (method_choices W c k) h.0
          (recursion_from_All (λ m. use_fault W x act c r place m ≡ look_up W MethodForm c k (use_fault W x act c r place)) (method_choices W c k) ((each_choice_gives_the_same W valid c k loaded plain x act r place (method_put act e)).0 i)) h.1)
          ∙ use_alike W f h.0 h.2 x act c r place,
    )

    pub interface_member : form_of act ≡ InterfaceForm → is_interface_of W c ≡ true → (f : Found) → IsChoice W (Some f) (interface_choices W c k) → LooksUp W act c k (Ok f)
    interface_member e i f h = (
      h.2.below,
      λ x r place.
          by_form InterfaceForm e (use_fault W x act c r place)
          ∙ sym (each_in (λ m. use_fault W x act c r place m ≡ look_up W InterfaceForm c k (use_fault W x act c r place)) (interface_choices W c k) h.0
          (recursion_from_All (λ m. use_fault W x act c r place m ≡ look_up W InterfaceForm c k (use_fault W x act c r place)) (interface_choices W c k) ((each_choice_gives_the_same W valid c k loaded plain x act r place (interface_put act e)).1 i)) h.1)
          ∙ use_alike W f h.0 h.2 x act c r place,
    )
