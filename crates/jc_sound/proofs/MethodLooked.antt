-- The methods that lookups take, with two releases.
use Rattle.std.proofs.Common.{◌≡◌, Bool, true, false, cond, List, [], ◌∷◌, refl, sym, ◌∙◌, ap, subst, Option, Some, None, ◌&&◌}
use Rattle.std.proofs.lemmas.Bool.{and_parts}
use Rattle.jc_facts.specs.declared.class_facts.ClassFacts.{ClassFacts}
use Rattle.jc_facts.specs.declared.key.Key.{Key}
use Rattle.jc_facts.specs.declared.act.Act.{Act}
use Rattle.jc_facts.specs.declared.act.Act.TheVariants as act
use Rattle.jc_facts.specs.Names.{Bytes, same, object_name, is_key}
use Rattle.jc_desc.specs.Names.{is_clinit_name}
use Rattle.jc_facts.specs.Flags.{public_flag, protected_flag, interface_flag, no_static_flag}
use Rattle.jc_facts.specs.world.World.{World, find_class, DeclaredMember, own_method_of, class_named, with_clients, declared_method}
use Rattle.jc_facts.specs.Options.{or_else, and_then, some_and}
use Rattle.jc_facts.specs.world.Search.{supers}
use Rattle.jc_facts.specs.world.Loading.{load_fault}
use Rattle.jc_facts.specs.world.Lookup.{method_choices, interface_choices, superinterface_choices, or_choices, public_method_of_object, if_public_instance}
use Rattle.jc_facts.specs.world.Assignment.{is_interface_of}
use Rattle.jc_facts.specs.client.Acts.{Form, FieldForm, MethodForm, InterfaceForm, form_of, is_put_act}
use Rattle.jc_facts.specs.file.Valid.{IsValidClass}
use Rattle.jc_worlds.proofs.ValidFacts.{method_fits, fit_of}
use Rattle.jc_promises.specs.rule.Findings.{finding_at, method_closed}
use Rattle.jc_promises.specs.rule.Bases.{is_key_of_method, is_class_usable}
use Rattle.jc_promises.specs.rule.OpenActs.{method_acts, act_fault, closed_act}
use Rattle.jc_lemmas.proofs.Listed.{EachOf, EachOf-map}
use Rattle.jc_facts.proofs.World.{find-name}
use Rattle.jc_facts.proofs.Same.{same_is}
use Rattle.jc_worlds.proofs.Inherited.{found_all, method_one_access}
use Rattle.jc_lemmas.proofs.Lists.{found_passes}
use Rattle.jc_worlds.proofs.Declared.{IsDeclared, own-declared, method_choices-declared, superinterface_choices-declared}
use Rattle.jc_worlds.proofs.Sides.{find-library, method_choices-side, interface_choices-side, field_found-side}
use Rattle.jc_sound.proofs.Standing.{Quiet, stays_steady}
use Rattle.jc_sound.proofs.OpenActs.{IsSeat, first_act-none, where_open-none, at_key}
use Rattle.jc_sound.proofs.Looked.{looked, head_of}
use Rattle.jc_sound.proofs.Uses.{GoesBy}

-- the listed act by which an act on a method goes
abbrev pub what_of : Act → Act
what_of act.InvokeStatic = act.InvokeStatic
what_of act.InvokeInterface = act.InvokeInterface
what_of act.InvokeStaticInterface = act.InvokeStaticInterface
what_of act.InvokeSpecialInterface = act.InvokeInterface
what_of _ = act.InvokeVirtual

pub goes_by : (a : Act) → (form_of a ≡ FieldForm → ⊥) → GoesBy a (what_of a)
goes_by act.GetStatic h = absurd (h refl)
goes_by act.PutStatic h = absurd (h refl)
goes_by act.GetField h = absurd (h refl)
goes_by act.PutField h = absurd (h refl)
goes_by act.InvokeVirtual h = record { form = refl; kind = refl; put = refl }
goes_by act.InvokeStatic h = record { form = refl; kind = refl; put = refl }
goes_by act.InvokeInterface h = record { form = refl; kind = refl; put = refl }
goes_by act.InvokeStaticInterface h = record { form = refl; kind = refl; put = refl }
goes_by act.InvokeSpecial h = record { form = refl; kind = refl; put = refl }
goes_by act.InvokeSpecialInterface h = record { form = refl; kind = refl; put = refl }
goes_by _ h = record { form = refl; kind = refl; put = refl }

pub no_put : (a : Act) → (form_of a ≡ FieldForm → ⊥) → is_put_act a ≡ false
no_put act.PutStatic h = absurd (h refl)
no_put act.PutField h = absurd (h refl)
no_put _ h = refl

pub of_method_acts : (P : Act → Type 0) → EachOf P method_acts → (a : Act) → P (what_of a)
of_method_acts P h act.InvokeStatic = h.1.0
of_method_acts P h act.InvokeInterface = h.1.1.0
of_method_acts P h act.InvokeStaticInterface = h.1.1.1.0
of_method_acts P h act.InvokeSpecialInterface = h.1.1.0
of_method_acts P h _ = h.0

pub method_act_stays : (O N : World) → (quiet : Quiet O N) → quiet.rules 8 ≡ true → (c : Bytes) (k : Key) → is_key_of_method k ≡ true → is_class_usable O c ≡ true → EachOf (λ a. (s : Bytes) → IsSeat O N s → act_fault O s c k a ≡ None → act_fault N s c k a ≡ None) method_acts
unfolding finding_at method_closed
method_act_stays O N quiet q8 c k mk u =
    EachOf-map stays method_acts
    (first_act-none O N (at_key 8 c k) k method_acts (rw (mk, stays_steady O N quiet c u) at (quiet.none (at_key 8 c k) q8)))
  where
    stays : (a : Act) → ((s : Bytes) → IsSeat O N s → closed_act O N c k a s ≡ None) → (s : Bytes) → IsSeat O N s → act_fault O s c k a ≡ None → act_fault N s c k a ≡ None
    stays a h s i o = where_open-none (act_fault O s c k a) (act_fault N s c k a) (h s i) o

-- the steps of a lookup from an interface
pub interface_choices-declared : (W : World) (x : Bytes) (k : Key) → load_fault W x ≡ None → EachOf (IsDeclared W k) (interface_choices W x k)
unfolding interface_choices or_choices or_else and_then public_method_of_object if_public_instance
interface_choices-declared W x k h = go (and_then (declared_method k) (find_class W x)) refl
  where
    of_class : (y : Bytes) (o : Option ClassFacts) → find_class W y ≡ o → (m : DeclaredMember) → and_then (declared_method k) o ≡ Some m → IsDeclared W k m
    of_class y None e m q = absurd (cc)
    of_class y (Some c) e m q = own-declared W k c m (ap (find_class W) (find-name W y c e) ∙ e) (own_method_of c k) refl q

    of_root : (o : Option DeclaredMember) → and_then (declared_method k) (find_class W object_name) ≡ o → (m : DeclaredMember) → and_then if_public_instance o ≡ Some m → IsDeclared W k m
    of_root None e m q = absurd (cc)
    of_root (Some w) e m q = by (public_flag w.member.flags && no_static_flag w.member.flags) q
      where
        by : (b : Bool) → cond b (Some w) None ≡ Some m → IsDeclared W k m
        by true z = let j : w ≡ m = cc in of_class object_name (find_class W object_name) refl m (e ∙ ap Some j)
        by false z = absurd (cc)

    root : (o : Option DeclaredMember) → and_then if_public_instance (and_then (declared_method k) (find_class W object_name)) ≡ o → EachOf (IsDeclared W k) (or_choices o (superinterface_choices W x k))
    root None e = superinterface_choices-declared W x k h
    root (Some m) e = (of_root (and_then (declared_method k) (find_class W object_name)) refl m e, tt)

    go : (o : Option DeclaredMember) → and_then (declared_method k) (find_class W x) ≡ o → EachOf (IsDeclared W k) (or_choices (or_else o (and_then if_public_instance (and_then (declared_method k) (find_class W object_name)))) (superinterface_choices W x k))
    go None e = root (and_then if_public_instance (and_then (declared_method k) (find_class W object_name))) refl
    go (Some m) e = (of_class x (find_class W x) refl m e, tt)

pub head-each : (P : DeclaredMember → Type 0) (ms : List DeclaredMember) (m : DeclaredMember) → EachOf P ms → head_of ms ≡ Some m → P m
unfolding head_of
head-each P [] m h e = absurd (cc)
head-each P (w ∷ ws) m h e = let j : w ≡ m = cc in subst P j h.0

pub looked-declared : (W : World) (f : Form) (s : Bytes) (k : Key) (m : DeclaredMember) → (f ≡ FieldForm → ⊥) → load_fault W s ≡ None → looked W f s k ≡ Some m → IsDeclared W k m
unfolding looked
looked-declared W FieldForm s k m n h e = absurd (n refl)
looked-declared W MethodForm s k m n h e = go (is_interface_of W s) e
  where
    go : (b : Bool) → cond b None (head_of (method_choices W s k)) ≡ Some m → IsDeclared W k m
    go true q = absurd (cc)
    go false q = head-each (IsDeclared W k) (method_choices W s k) m (method_choices-declared W s k h) q
looked-declared W InterfaceForm s k m n h e = go (is_interface_of W s) e
  where
    go : (b : Bool) → cond b (head_of (interface_choices W s k)) None ≡ Some m → IsDeclared W k m
    go false q = absurd (cc)
    go true q = head-each (IsDeclared W k) (interface_choices W s k) m (interface_choices-declared W s k h) q

pub declared_one_access : (W : World) → ((x : Bytes) (c : ClassFacts) → find_class W x ≡ Some c → IsValidClass c) → (k : Key) (m : DeclaredMember) → is_clinit_name k.name ≡ false → IsDeclared W k m → public_flag m.member.flags ≡ true → protected_flag m.member.flags ≡ false
declared_one_access W valid k m n d p =
    let v : method_fits d.class m.member ≡ true = found_all (is_key k) (method_fits d.class) d.class.methods m.member d.declares (fit_of d.class (valid m.owner d.class d.is_there)).methods in
    let q = and_parts (same m.member.name k.name) (same m.member.descriptor k.descriptor) (found_passes (is_key k) d.class.methods m.member d.declares) in
    method_one_access d.class m.member (subst (λ z. is_clinit_name z ≡ false) (sym (same_is m.member.name k.name q.0)) n) v p

-- a library class gives the same in a world of clients
pub looked-side : (W : World) (cs : List ClassFacts) (bare : W.clients ≡ []) (unused : (x : Bytes) (c : ClassFacts) → find_class W x ≡ Some c → EachOf (λ s. class_named cs s ≡ None) (supers c))
    → (f : Form) (s : Bytes) (k : Key) → class_named cs s ≡ None → class_named cs object_name ≡ None → load_fault W s ≡ None → looked W f s k ≡ looked (with_clients W cs) f s k
unfolding looked
looked-side W cs bare unused FieldForm s k l r h = field_found-side W cs bare unused s k l h
looked-side W cs bare unused MethodForm s k l r h = ap (λ o. cond (some_and (λ c. interface_flag c.flags) o) None (head_of (method_choices W s k))) (find-library W cs bare s l) ∙ ap (λ ms. cond (is_interface_of (with_clients W cs) s) None (head_of ms)) (method_choices-side W cs bare unused s k l h)
looked-side W cs bare unused InterfaceForm s k l r h = ap (λ o. cond (some_and (λ c. interface_flag c.flags) o) (head_of (interface_choices W s k)) None) (find-library W cs bare s l) ∙ ap (λ ms. cond (is_interface_of (with_clients W cs) s) (head_of ms) None) (interface_choices-side W cs bare unused s k l r h)
