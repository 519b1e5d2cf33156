-- What acts find is what the lookup of their form finds.
use Rattle.std.proofs.Common.{◌≡◌, ℕ, true, false, cond, List, [], ◌∷◌, refl, sym, ◌∙◌, ap, Option, Some, None, Ok, Err, ◌||◌}
use Rattle.std.proofs.lemmas.Bool.{not-true}
use Rattle.jc_facts.specs.declared.act.Act.{Act}
use Rattle.jc_facts.specs.declared.act.Act.TheVariants as act
use Rattle.jc_facts.specs.declared.class_facts.ClassFacts.{ClassFacts}
use Rattle.jc_facts.specs.declared.key.Key.{Key}
use Rattle.jc_facts.specs.declared.link_error.LinkError.{LinkError}
use Rattle.jc_facts.specs.declared.link_error.LinkError.TheVariants.{IncompatibleClassChangeError, NoSuchFieldError, NoSuchMethodError}
use Rattle.jc_facts.specs.Names.{Bytes}
use Rattle.jc_desc.specs.Names.{is_init_name, is_clinit_name}
use Rattle.jc_facts.specs.Options.{or_else, and_then}
use Rattle.jc_facts.specs.world.World.{World, find_class, DeclaredMember, declared_method}
use Rattle.jc_facts.specs.world.Hierarchy.{chain}
use Rattle.jc_facts.specs.world.Loading.{load_fault}
use Rattle.jc_facts.specs.world.Lookup.{field_found, first_declared, superinterface_choices, or_choices, method_choices, interface_choices, public_method_of_object}
use Rattle.jc_facts.specs.world.Assignment.{is_interface_of}
use Rattle.jc_facts.specs.client.Acts.{FieldForm, MethodForm, InterfaceForm, form_of, is_put_act, is_field_form}
use Rattle.jc_facts.specs.client.Outcome.{look_up, found_or, first_of}
use Rattle.jc_promises.specs.rule.OpenActs.{act_fault}
use Rattle.jc_facts.specs.file.Valid.{IsValidClass}
use Rattle.jc_promises.specs.rule.Bases.{is_key_of_method}
use Rattle.jc_lemmas.proofs.Listed.{EachOf, each_in, EachOf-map}
use Rattle.jc_lemmas.proofs.Bools.{neither_last}
use Rattle.jc_worlds.specs.Choices.{IsPublicInstance}
use Rattle.jc_worlds.proofs.Inherited.{superinterface_choices-public}
use Rattle.jc_index.specs.Ids.{name_at}
use Rattle.jc_index.specs.Lookups.{IsFound, IsAnswer, IsChoice}
use Rattle.jc_index.specs.declared.ids.Found.{Found}
use Rattle.jc_acts.specs.steps.LookedUp.{member_of, use_at, LooksUp}

-- only the owner and the flags count
member_use : (W : World) (a c : Bytes) (what : Act) (f : Found) (m : DeclaredMember) → IsFound W f m → use_at W a c what m ≡ use_at W a c what (member_of W f)
member_use W a c what f m i = ap (λ o. by o m.member.flags) (sym i.owner) ∙ ap (by (name_at W f.owner)) (sym i.flags)
  where
    by : Bytes → ℕ → Option LinkError
    by o flags = use_at W a c what (record { owner = o; member = record { name = []; descriptor = []; flags = flags } })

-- ---- fields

module _ (W : World) (x : Bytes) (k : Key) where
  field_by : (what : Act) → form_of what ≡ FieldForm → (a : Bytes) → act_fault W a x k what ≡ found_or NoSuchFieldError (field_found W x k) (use_at W a x what)
  unfolding act_fault look_up
  field_by what e a = ap (λ form. look_up W form x k (use_at W a x what)) e

  pub field_member : (f : Found) → IsAnswer W (Some f) (field_found W x k) → LooksUp W x k FieldForm (Ok f)
  field_member f h = λ what e a. field_by what e a ∙ at (field_found W x k) h what a
    where
      at : (o : Option DeclaredMember) → IsAnswer W (Some f) o → (what : Act) (a : Bytes) → found_or NoSuchFieldError o (use_at W a x what) ≡ use_at W a x what (member_of W f)
      at None h what a = absurd h
      at (Some m) h what a = member_use W a x what f m h

  pub field_fault : IsAnswer W None (field_found W x k) → LooksUp W x k FieldForm (Err NoSuchFieldError)
  field_fault h = λ what e a. field_by what e a ∙ at (field_found W x k) h what a
    where
      at : (o : Option DeclaredMember) → IsAnswer W None o → (what : Act) (a : Bytes) → found_or NoSuchFieldError o (use_at W a x what) ≡ Some NoSuchFieldError
      at None h what a = refl
      at (Some m) h what a = absurd h

-- ---- methods

-- no act by references to methods writes a field
no_put : (what : Act) → is_field_form (form_of what) ≡ false → is_put_act what ≡ false
no_put act.PutStatic h = absurd (cc)
no_put act.PutField h = absurd (cc)
no_put what h = refl

-- public instance methods are used alike
use_alike : (W : World) (a c : Bytes) (what : Act) (m n : DeclaredMember) → is_put_act what ≡ false → IsPublicInstance m → IsPublicInstance n → use_at W a c what m ≡ use_at W a c what n
use_alike W a c what m n put p q = rw (p.0, p.1, q.0, q.1, put) refl

-- where any two give the same, each gives what the first does
each_first : (P : DeclaredMember → Type 0) (f : DeclaredMember → Option LinkError) → ((m n : DeclaredMember) → P m → P n → f m ≡ f n) → (e : LinkError) (o : Option DeclaredMember) (ms : List DeclaredMember) → EachOf P ms
    → EachOf (λ m. first_of e (or_choices o ms) f ≡ f m) (or_choices o ms)
unfolding or_choices first_of
each_first P f two e (Some m) ms h = (refl, tt)
each_first P f two e None [] h = tt
each_first P f two e None (n ∷ ns) h = (refl, EachOf-map (λ m p. two n m h.0 p) ns h.1)

module _ (W : World) (valid : (x : Bytes) (c : ClassFacts) → find_class W x ≡ Some c → IsValidClass c) (x : Bytes) (k : Key) (loaded : load_fault W x ≡ None) (method : is_key_of_method k ≡ true) where
  -- a choice after this method, where there is one, is used as the first is
  choice_use : (o : Option DeclaredMember) (what : Act) → is_put_act what ≡ false → (f : Found) → IsChoice W (Some f) (or_choices o (superinterface_choices W x k)) → (a : Bytes)
      → first_of NoSuchMethodError (or_choices o (superinterface_choices W x k)) (use_at W a x what) ≡ use_at W a x what (member_of W f)
  choice_use o what put f h a =
      each_in (λ m. first_of NoSuchMethodError (or_choices o (superinterface_choices W x k)) (use_at W a x what) ≡ use_at W a x what m) (or_choices o (superinterface_choices W x k)) h.0
      (each_first IsPublicInstance (use_at W a x what) (λ m n p q. use_alike W a x what m n put p q) NoSuchMethodError o (superinterface_choices W x k) (superinterface_choices-public W valid x k loaded (neither_last (is_init_name k.name) (is_clinit_name k.name) (not-true (is_init_name k.name || is_clinit_name k.name) method)))) h.1
      ∙ member_use W a x what f h.0 h.2

  no_choice : (ms : List DeclaredMember) → ms ≡ [] → (g : DeclaredMember → Option LinkError) → first_of NoSuchMethodError ms g ≡ Some NoSuchMethodError
  unfolding first_of
  no_choice ms e g = ap (λ ns. first_of NoSuchMethodError ns g) e

  -- ---- of a class

  class_by : (what : Act) → form_of what ≡ MethodForm → (a : Bytes)
      → act_fault W a x k what ≡ cond (is_interface_of W x) (Some IncompatibleClassChangeError) (first_of NoSuchMethodError (method_choices W x k) (use_at W a x what))
  unfolding act_fault look_up
  class_by what e a = ap (λ form. look_up W form x k (use_at W a x what)) e

  pub class_member : is_interface_of W x ≡ false → (f : Found) → IsChoice W (Some f) (method_choices W x k) → LooksUp W x k MethodForm (Ok f)
  unfolding method_choices
  class_member i f h = λ what e a. class_by what e a ∙ rw i (choice_use (first_declared k (chain W x)) what (no_put what (ap is_field_form e)) f h a)

  pub class_fault : is_interface_of W x ≡ false → IsChoice W None (method_choices W x k) → LooksUp W x k MethodForm (Err NoSuchMethodError)
  class_fault i h = λ what e a. class_by what e a ∙ rw i (no_choice (method_choices W x k) h (use_at W a x what))

  pub class_kind : is_interface_of W x ≡ true → LooksUp W x k MethodForm (Err IncompatibleClassChangeError)
  class_kind i = λ what e a. class_by what e a ∙ rw i refl

  -- ---- of an interface

  interface_by : (what : Act) → form_of what ≡ InterfaceForm → (a : Bytes)
      → act_fault W a x k what ≡ cond (is_interface_of W x) (first_of NoSuchMethodError (interface_choices W x k) (use_at W a x what)) (Some IncompatibleClassChangeError)
  unfolding act_fault look_up
  interface_by what e a = ap (λ form. look_up W form x k (use_at W a x what)) e

  pub interface_member : is_interface_of W x ≡ true → (f : Found) → IsChoice W (Some f) (interface_choices W x k) → LooksUp W x k InterfaceForm (Ok f)
  unfolding interface_choices
  interface_member i f h = λ what e a. interface_by what e a ∙ rw i (choice_use (or_else (and_then (declared_method k) (find_class W x)) (public_method_of_object W k)) what (no_put what (ap is_field_form e)) f h a)

  pub interface_fault : is_interface_of W x ≡ true → IsChoice W None (interface_choices W x k) → LooksUp W x k InterfaceForm (Err NoSuchMethodError)
  interface_fault i h = λ what e a. interface_by what e a ∙ rw i (no_choice (interface_choices W x k) h (use_at W a x what))

  pub interface_kind : is_interface_of W x ≡ false → LooksUp W x k InterfaceForm (Err IncompatibleClassChangeError)
  interface_kind i = λ what e a. interface_by what e a ∙ rw i refl
