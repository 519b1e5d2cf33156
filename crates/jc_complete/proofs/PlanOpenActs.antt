-- A client directly below a seat may take the acts that are open to the seat.
use Rattle.std.proofs.Common.{◌≡◌, Bool, true, false, cond, List, [], refl, sym, ◌∙◌, ap, subst, Option, Some, None, not, ◌&&◌, ◌||◌, Contains, ◌⊎◌, inl, inr}
use Rattle.std.proofs.lemmas.Bool.{and_parts, and_from, not-true, or_left, or_right}
use Rattle.std.proofs.lemmas.List.Elements.{Contains-append_cases}
use Rattle.jc_desc.specs.Names.{is_init_name, is_clinit_name}
use Rattle.jc_facts.specs.declared.class_facts.ClassFacts.{ClassFacts}
use Rattle.jc_facts.specs.declared.client.ClientClass.{ClientClass}
use Rattle.jc_facts.specs.declared.client.Place.TheVariants.{Other}
use Rattle.jc_facts.specs.declared.key.Key.{Key}
use Rattle.jc_facts.specs.declared.act.Act.{Act}
use Rattle.jc_facts.specs.declared.link_error.LinkError.TheVariants.{IllegalAccessError, IncompatibleClassChangeError}
use Rattle.jc_facts.specs.Names.{Bytes, same, in_same_package, object_name}
use Rattle.jc_facts.specs.Flags.{public_flag, protected_flag, static_flag, no_static_flag, final_flag}
use Rattle.jc_facts.specs.world.Types.{is_array_text}
use Rattle.jc_facts.specs.Options.{or_else, some_and}
use Rattle.jc_facts.specs.world.World.{World, DeclaredMember, find_class, class_named, with_clients}
use Rattle.jc_facts.specs.world.Hierarchy.{in_chain}
use Rattle.jc_facts.specs.world.Access.{is_class_accessible, is_member_accessible, is_member_open}
use Rattle.jc_facts.specs.client.Acts.{Form, FieldForm, form_of, is_act_on_static, is_put_act, is_special, is_act_on_field}
use Rattle.jc_facts.specs.world.Assignment.{is_interface_of, is_assignable, passes_protected_check}
use Rattle.jc_facts.specs.world.Loading.{load_fault, fault_where}
use Rattle.jc_facts.specs.client.Outcome.{outcome, use_fault, kind_fault, assignment_ok, receiver_ok}
use Rattle.jc_promises.specs.client.Reach.{receiver_in_reach, type_in_reach, is_in_reach}
use Rattle.jc_facts.specs.client.Allowed.{is_allowed_name}
use Rattle.jc_facts.specs.file.Valid.{IsValidClass}
use Rattle.jc_promises.specs.rule.Bases.{is_key_of_method}
use Rattle.jc_promises.specs.rule.OpenActs.{act_fault, field_acts, method_acts}
use Rattle.jc_promises.specs.rule.Exposed.{acts_on}
use Rattle.jc_promises.specs.plan.Planned.{act_item, receiver_for, found_by}
use Rattle.jc_facts.proofs.Same.{same_itself}
use Rattle.jc_lemmas.proofs.Bools.{neither_last}
use Rattle.jc_lemmas.proofs.Listed.{each_in, none, EachOf}
use Rattle.jc_worlds.proofs.Clients.{Fits, find-client, client_accessible}
use Rattle.jc_worlds.proofs.Choices.{passes_protected_check-public}
use Rattle.jc_worlds.proofs.FieldActs.{IsField, field_found-declared}
use Rattle.jc_sound.proofs.FieldUse.{field_one_access, field_is_valid}
use Rattle.jc_sound.proofs.Looked.{looked, Takes, look_up-takes, look_up-from}
use Rattle.jc_sound.proofs.MethodLooked.{looked-declared, declared_one_access}
use Rattle.jc_sound.proofs.Reach.{declared_library}
use Rattle.jc_sound.proofs.Standing.{IsUsable, usable_accessible}
use Rattle.jc_complete.proofs.PlanLoads.{lib_find, lib_fault}
use Rattle.jc_complete.proofs.PlanSeats.{assign_is, in_reach_if, act_in_reach, seat_chain, access_is}
use Rattle.jc_complete.proofs.PlanActs.{look_up-side, found-taken, steps, use-allowed, access_says}

-- an act on a usable class and a key that is open to the seat a
pub record IsOpen (O : World) (a c : Bytes) (k : Key) (what : Act) : Type 0 where
  pub class : IsUsable O c
  pub not_special : is_special what ≡ false
  pub item_ok : (is_act_on_field what || not (is_init_name k.name || is_clinit_name k.name)) ≡ true
  pub one_access : (m : DeclaredMember) → looked O (form_of what) c k ≡ Some m → public_flag m.member.flags ≡ true → protected_flag m.member.flags ≡ false
  pub declared : (m : DeclaredMember) → looked O (form_of what) c k ≡ Some m → (o : ClassFacts) × (find_class O m.owner ≡ Some o)
  pub was : act_fault O a c k what ≡ None

-- ---- the acts of the rules

-- what the acts of a rule are
pub record IsFieldAct (what : Act) : Type 0 where
  pub plain : is_special what ≡ false
  pub form : form_of what ≡ FieldForm

pub record IsMethodAct (what : Act) : Type 0 where
  pub plain : is_special what ≡ false
  pub form : form_of what ≡ FieldForm → ⊥

pub of_fields : EachOf IsFieldAct field_acts
of_fields = (record { plain = refl; form = refl }, (record { plain = refl; form = refl }, (record { plain = refl; form = refl }, (record { plain = refl; form = refl }, tt))))

pub of_methods : EachOf IsMethodAct method_acts
of_methods = (record { plain = refl; form = λ e. cc }, (record { plain = refl; form = λ e. cc }, (record { plain = refl; form = λ e. cc }, (record { plain = refl; form = λ e. cc }, tt))))

module _ (W : World) (valid : (x : Bytes) (c : ClassFacts) → find_class W x ≡ Some c → IsValidClass c) (a c : Bytes) (k : Key) (what : Act) (u : IsUsable W c) (was : act_fault W a c k what ≡ None) where
  -- of a field
  pub open_on_field : Contains field_acts what → IsOpen W a c k what
  unfolding looked
  open_on_field i = record {
    class = u;
    not_special = is.plain;
    item_ok = ap (λ z. is_it z || not (is_init_name k.name || is_clinit_name k.name)) is.form;
    one_access = λ m e p. let d = found m e in field_one_access d.class m.member (field_is_valid W valid k m d) p;
    declared = λ m e. let d = found m e in (d.class, d.is_there);
    was = was;
  }
    where
      is : IsFieldAct what
      is = each_in IsFieldAct field_acts what of_fields i

      is_it : Form → Bool
      is_it FieldForm = true
      is_it _ = false

      found : (m : DeclaredMember) → looked W (form_of what) c k ≡ Some m → IsField W k m
      found m e = field_found-declared W k m c u.loaded (subst (λ z. looked W z c k ≡ Some m) is.form e)

  -- of a method
  pub open_on_method : Contains method_acts what → is_key_of_method k ≡ true → IsOpen W a c k what
  open_on_method i h = record {
    class = u;
    not_special = is.plain;
    item_ok = or_right (is_act_on_field what) (is_key_of_method k) h;
    one_access = λ m e. declared_one_access W valid k m (neither_last (is_init_name k.name) (is_clinit_name k.name) (not-true (is_init_name k.name || is_clinit_name k.name) h)) (looked-declared W (form_of what) c k m is.form u.loaded e);
    declared = λ m e. let d = looked-declared W (form_of what) c k m is.form u.loaded e in (d.class, d.is_there);
    was = was;
  }
    where
      is : IsMethodAct what
      is = each_in IsMethodAct method_acts what of_methods i

  -- of one of both
  pub open_on : Contains (acts_on k) what → IsOpen W a c k what
  open_on i = either (Contains-append_cases field_acts (cond (is_key_of_method k) method_acts []) what i)
    where
      of_method : (b : Bool) → is_key_of_method k ≡ b → Contains (cond b method_acts []) what → IsOpen W a c k what
      of_method true e j = open_on_method j e
      of_method false e j = absurd (none what j)

      either : Contains field_acts what ⊎ Contains (cond (is_key_of_method k) method_acts []) what → IsOpen W a c k what
      either (inl j) = open_on_field j
      either (inr j) = of_method (is_key_of_method k) refl j

-- ---- a client

-- a public client y directly below the class a of the side, which loads
pub record IsBelow (O : World) (a : Bytes) (cs : List ClassFacts) (y : Bytes) : Type 0 where
  pub fits : Fits O cs
  pub seat : ClassFacts
  pub seat_there : find_class O a ≡ Some seat
  pub seat_loaded : load_fault O a ≡ None
  pub client : ClassFacts
  pub named : class_named cs y ≡ Some client
  pub super : client.superclass ≡ Some a
  pub public : public_flag client.flags ≡ true
  pub loaded : load_fault (with_clients O cs) y ≡ None
  pub allowed : is_allowed_name O y ≡ true
  pub plain : is_array_text y ≡ false

module _ (O : World) (root : ClassFacts) (has_root : find_class O object_name ≡ Some root) (a : Bytes) (cs : List ClassFacts) (y : Bytes) (b : IsBelow O a cs y) (c : Bytes) (plain : is_array_text c ≡ false) (k : Key) (what : Act) (p : IsOpen O a c k what) where
  abbrev V : World
  V = with_clients O cs

  abbrev pub rcv : Bytes
  rcv = receiver_for O what c k y

  abbrev pub rec : Option Bytes
  rec = cond (is_act_on_static what) None (Some rcv)

  find_c : find_class V c ≡ Some p.class.class
  find_c = lib_find O cs b.fits c p.class.class p.class.is_there

  up_c : load_fault V c ≡ None
  up_c = lib_fault O cs b.fits c p.class.class p.class.is_there ∙ p.class.loaded

  no_client : class_named cs c ≡ None
  no_client = declared_library O cs b.fits c p.class.class p.class.is_there

  taken : Takes O (form_of what) c k (steps O a c what)
  unfolding act_fault
  taken = look_up-takes O (form_of what) c k (steps O a c what) p.was

  of_m : (o : ClassFacts) × (find_class O taken.found.owner ≡ Some o)
  of_m = p.declared taken.found taken.taken

  same_access : is_member_accessible V y c taken.found ≡ is_member_open O a c taken.found
  same_access = access_is O cs b.fits y b.client a b.seat b.named b.super b.seat_there b.seat_loaded b.loaded b.allowed c p.class.class p.class.is_there p.class.loaded taken.found of_m.0 of_m.1

  rcv_is : rcv ≡ cond (public_flag taken.found.member.flags) c y
  rcv_is = ap (λ o. cond (some_and (λ m. public_flag m.member.flags) o) c y) (found-taken O (form_of what) c k taken.found taken.taken)

  is_opened : is_member_open O a c taken.found ≡ true
  unfolding or_else
  is_opened = go (is_member_open O a c taken.found) taken.fine
    where
      go : (t : Bool) → or_else (fault_where (not t) IllegalAccessError) (or_else (kind_fault what taken.found) (fault_where (is_put_act what && final_flag taken.found.member.flags) IllegalAccessError)) ≡ None → t ≡ true
      go true q = refl
      go false q = absurd (cc)

  kind_is : is_act_on_static what ≡ false → static_flag taken.found.member.flags ≡ false
  unfolding or_else
  kind_is s = go (static_flag taken.found.member.flags) (subst (λ t. or_else (fault_where (cond t (no_static_flag taken.found.member.flags) (static_flag taken.found.member.flags)) IncompatibleClassChangeError) (fault_where (is_put_act what && final_flag taken.found.member.flags) IllegalAccessError) ≡ None) s rest)
    where
      rest : or_else (kind_fault what taken.found) (fault_where (is_put_act what && final_flag taken.found.member.flags) IllegalAccessError) ≡ None
      rest = subst (λ t. or_else (fault_where (not t) IllegalAccessError) (or_else (kind_fault what taken.found) (fault_where (is_put_act what && final_flag taken.found.member.flags) IllegalAccessError)) ≡ None) is_opened taken.fine

      go : (t : Bool) → or_else (fault_where t IncompatibleClassChangeError) (fault_where (is_put_act what && final_flag taken.found.member.flags) IllegalAccessError) ≡ None → t ≡ false
      go true q = absurd (cc)
      go false q = refl

  -- an instance member that isn't public is open to the seat's own classes alone
  in_line : public_flag taken.found.member.flags ≡ false → static_flag taken.found.member.flags ≡ false → in_chain O a c ≡ true
  in_line f s =
      let q : (false || (protected_flag taken.found.member.flags && in_chain O a taken.found.owner && (false || in_chain O a c))) ≡ true =
      subst (λ t. (false || (protected_flag taken.found.member.flags && in_chain O a taken.found.owner && (t || in_chain O a c))) ≡ true) s (subst (λ t. (t || (protected_flag taken.found.member.flags && in_chain O a taken.found.owner && (static_flag taken.found.member.flags || in_chain O a c))) ≡ true) f is_opened) in
      (and_parts (protected_flag taken.found.member.flags && in_chain O a taken.found.owner) (in_chain O a c) q).1

  itself : (z : Bytes) → is_array_text z ≡ false → is_assignable V z z ≡ true
  itself z f = assign_is V z z f f ∙ or_left (same z z || is_interface_of V z) (in_chain V z z) (or_left (same z z) (is_interface_of V z) (same_itself z))

  fits_receiver : static_flag taken.found.member.flags ≡ false → (is_assignable V rcv c && passes_protected_check V y c taken.found rcv) ≡ true
  unfolding passes_protected_check
  fits_receiver s = subst (λ z. (is_assignable V z c && passes_protected_check V y c taken.found z) ≡ true) (sym rcv_is) (go (public_flag taken.found.member.flags) refl)
    where
      go : (t : Bool) → public_flag taken.found.member.flags ≡ t → (is_assignable V (cond t c y) c && passes_protected_check V y c taken.found (cond t c y)) ≡ true
      go true f = and_from (is_assignable V c c) (passes_protected_check V y c taken.found c) (itself c plain) (passes_protected_check-public V y c taken.found c (p.one_access taken.found taken.taken f))
      go false f = and_from (is_assignable V y c) (passes_protected_check V y c taken.found y)
          (assign_is V y c b.plain plain ∙ or_right (same y c || is_interface_of V c) (in_chain V y c) (seat_chain O cs b.fits y b.client a b.seat b.named b.super b.seat_there b.seat_loaded b.loaded c no_client ∙ in_line f s))
          (or_right (not (in_chain V y c && protected_flag taken.found.member.flags && not (in_same_package taken.found.owner y))) (is_assignable V y y) (itself y b.plain))

  assigned : assignment_ok V y what c taken.found rec ≡ true
  unfolding assignment_ok receiver_ok
  assigned = rw p.not_special (go (is_act_on_static what) refl)
    where
      go : (s : Bool) → is_act_on_static what ≡ s → (s || receiver_ok V y what c taken.found (cond s None (Some rcv))) ≡ true
      go true f = refl
      go false f = rw p.not_special (and_from (is_assignable V rcv c && passes_protected_check V y c taken.found rcv) true (fits_receiver (kind_is f)) refl)

  -- the client may take it
  pub open_links : outcome V y (act_item what c k rec) ≡ None
  open_links =
      access_says V y what c k rec p.class.class plain find_c up_c (usable_accessible O c p.class y)
      ∙ look_up-side O cs b.fits (declared_library O cs b.fits object_name root has_root) (form_of what) c k no_client p.class.loaded (use_fault V y what c rec Other)
      ∙ look_up-from O (form_of what) c k (use_fault V y what c rec Other) (record { found = taken.found; taken = taken.taken; fine = use-allowed V O y a c what rec taken.found same_access assigned taken.fine })

  reach_of : (all : List ClientClass) (z : Bytes) (d : ClassFacts) → is_array_text z ≡ false → find_class V z ≡ Some d → load_fault V z ≡ None → is_class_accessible O y d ≡ true → type_in_reach V y all z ≡ true
  reach_of all z d f g l q = in_reach_if V y all z d f g l q

  -- its receiver is accessible
  pub open_reach : (all : List ClientClass) → is_in_reach V y all (act_item what c k rec) ≡ true
  open_reach all = act_in_reach V y all what c k rec (go (is_act_on_static what) (some_and (λ m. public_flag m.member.flags) (found_by O (form_of what) c k)))
    where
      go : (s t : Bool) → receiver_in_reach V y all (cond s None (Some (cond t c y))) ≡ true
      go true t = refl
      go false true = reach_of all c p.class.class plain find_c up_c (usable_accessible O c p.class y)
      go false false = reach_of all y b.client b.plain (find-client O cs b.fits y b.client b.named) b.loaded (client_accessible O cs b.fits y b.client b.named b.public y)
