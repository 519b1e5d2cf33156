-- Which member a lookup takes, by the form, and what a use asks of it.
use Rattle.std.proofs.Common.{◌≡◌, Bool, true, false, cond, List, [], ◌∷◌, refl, ◌∙◌, ap, Option, Some, None, not, ◌&&◌}
use Rattle.jc_facts.specs.declared.act.Act.{Act}
use Rattle.jc_facts.specs.declared.key.Key.{Key}
use Rattle.jc_facts.specs.declared.client.Place.{Place}
use Rattle.jc_facts.specs.declared.link_error.LinkError.{LinkError}
use Rattle.jc_facts.specs.declared.link_error.LinkError.TheVariants.{IllegalAccessError, IncompatibleClassChangeError, NoSuchFieldError, NoSuchMethodError, VerifyError}
use Rattle.jc_facts.specs.Names.{Bytes, same}
use Rattle.jc_facts.specs.Flags.{static_flag, no_static_flag, final_flag}
use Rattle.jc_facts.specs.world.World.{World, DeclaredMember}
use Rattle.jc_facts.specs.Options.{or_else}
use Rattle.jc_facts.specs.world.Access.{is_member_accessible}
use Rattle.jc_facts.specs.world.Loading.{fault_where}
use Rattle.jc_facts.specs.world.Lookup.{field_found, method_choices, interface_choices}
use Rattle.jc_facts.specs.world.Assignment.{is_interface_of}
use Rattle.jc_facts.specs.client.Acts.{Form, FieldForm, MethodForm, InterfaceForm, is_act_on_static, is_put_act}
use Rattle.jc_facts.specs.client.Outcome.{look_up, found_or, first_of, use_fault, final_fault, puts_own, assignment_ok}
use Rattle.jc_worlds.proofs.Above.{fault_where-none}
use Rattle.std.proofs.lemmas.Bool.{not-false}
use Rattle.jc_facts.proofs.Options.{or_else-none, or_else-both}
use Rattle.jc_lemmas.proofs.Options.{cond-none}

unfoldable pub head_of : List DeclaredMember → Option DeclaredMember
head_of [] = None
head_of (m ∷ ms) = Some m

unfoldable pub looked : World → Form → Bytes → Key → Option DeclaredMember
looked W FieldForm c k = field_found W c k
looked W MethodForm c k = cond (is_interface_of W c) None (head_of (method_choices W c k))
looked W InterfaceForm c k = cond (is_interface_of W c) (head_of (interface_choices W c k)) None

pub record Takes (W : World) (f : Form) (c : Bytes) (k : Key) (use_it : DeclaredMember → Option LinkError) : Type 0 where
  pub found : DeclaredMember
  pub taken : looked W f c k ≡ Some found
  pub fine : use_it found ≡ None

pub look_up-takes : (W : World) (f : Form) (c : Bytes) (k : Key) (use_it : DeclaredMember → Option LinkError) → look_up W f c k use_it ≡ None → Takes W f c k use_it
unfolding look_up looked first_of head_of
look_up-takes W FieldForm c k use_it h = go (field_found W c k) refl h
  where
    at : Option DeclaredMember → Option LinkError
    at o = found_or NoSuchFieldError o use_it

    go : (o : Option DeclaredMember) → field_found W c k ≡ o → at o ≡ None → Takes W FieldForm c k use_it
    go None e q = absurd (cc)
    go (Some m) e q = record { found = m; taken = e; fine = q }
look_up-takes W MethodForm c k use_it h =
    let p = cond-none (is_interface_of W c) IncompatibleClassChangeError (first_of NoSuchMethodError (method_choices W c k) use_it) h in
    go (method_choices W c k) refl p.0 p.1
  where
    go : (ms : List DeclaredMember) → method_choices W c k ≡ ms → is_interface_of W c ≡ false → first_of NoSuchMethodError ms use_it ≡ None → Takes W MethodForm c k use_it
    go [] e i q = absurd (cc)
    go (m ∷ ms) e i q = record { found = m; taken = rw (i, e) refl; fine = q }
look_up-takes W InterfaceForm c k use_it h = go (is_interface_of W c) refl (interface_choices W c k) refl h
  where
    go : (b : Bool) → is_interface_of W c ≡ b → (ms : List DeclaredMember) → interface_choices W c k ≡ ms → cond b (first_of NoSuchMethodError ms use_it) (Some IncompatibleClassChangeError) ≡ None → Takes W InterfaceForm c k use_it
    go false i ms e q = absurd (cc)
    go true i [] e q = absurd (cc)
    go true i (m ∷ ms) e q = record { found = m; taken = rw (i, e) refl; fine = q }

pub look_up-from : (W : World) (f : Form) (c : Bytes) (k : Key) (use_it : DeclaredMember → Option LinkError) → Takes W f c k use_it → look_up W f c k use_it ≡ None
unfolding look_up looked first_of head_of
look_up-from W FieldForm c k use_it t = go (field_found W c k) t.taken
  where
    at : Option DeclaredMember → Option LinkError
    at o = found_or NoSuchFieldError o use_it

    go : (o : Option DeclaredMember) → o ≡ Some t.found → at o ≡ None
    go None e = absurd (cc)
    go (Some m) e = let q : m ≡ t.found = cc in ap use_it q ∙ t.fine
look_up-from W MethodForm c k use_it t = go (is_interface_of W c) (method_choices W c k) t.taken
  where
    go : (b : Bool) (ms : List DeclaredMember) → cond b None (head_of ms) ≡ Some t.found → cond b (Some IncompatibleClassChangeError) (first_of NoSuchMethodError ms use_it) ≡ None
    go true ms e = absurd (cc)
    go false [] e = absurd (cc)
    go false (m ∷ ms) e = let q : m ≡ t.found = cc in ap use_it q ∙ t.fine
look_up-from W InterfaceForm c k use_it t = go (is_interface_of W c) (interface_choices W c k) t.taken
  where
    go : (b : Bool) (ms : List DeclaredMember) → cond b (head_of ms) None ≡ Some t.found → cond b (first_of NoSuchMethodError ms use_it) (Some IncompatibleClassChangeError) ≡ None
    go false ms e = absurd (cc)
    go true [] e = absurd (cc)
    go true (m ∷ ms) e = let q : m ≡ t.found = cc in ap use_it q ∙ t.fine

-- what a use that is Ok says of the member
pub record IsUsed (V : World) (x : Bytes) (act : Act) (t : Bytes) (r : Option Bytes) (place : Place) (m : DeclaredMember) : Type 0 where
  pub access : is_member_accessible V x t m ≡ true
  pub kind : cond (is_act_on_static act) (no_static_flag m.member.flags) (static_flag m.member.flags) ≡ false
  pub final : (is_put_act act && final_flag m.member.flags && not (same m.owner x && puts_own act place)) ≡ false
  pub assignment : assignment_ok V x act t m r ≡ true

pub use-parts : (V : World) (x : Bytes) (act : Act) (t : Bytes) (r : Option Bytes) (place : Place) (m : DeclaredMember) → use_fault V x act t r place m ≡ None → IsUsed V x act t r place m
unfolding use_fault
use-parts V x act t r place m h = record {
  access = not-false (is_member_accessible V x t m) (fault_where-none (not (is_member_accessible V x t m)) IllegalAccessError p.0);
  kind = fault_where-none (cond (is_act_on_static act) (no_static_flag m.member.flags) (static_flag m.member.flags)) IncompatibleClassChangeError q.0;
  final = fault_where-none (is_put_act act && final_flag m.member.flags && not (same m.owner x && puts_own act place)) IllegalAccessError s.0;
  assignment = not-false (assignment_ok V x act t m r) (fault_where-none (not (assignment_ok V x act t m r)) VerifyError s.1);
}
  where
    p : (fault_where (not (is_member_accessible V x t m)) IllegalAccessError ≡ None) × (or_else (fault_where (cond (is_act_on_static act) (no_static_flag m.member.flags) (static_flag m.member.flags)) IncompatibleClassChangeError)
        (or_else (final_fault x act place m) (fault_where (not (assignment_ok V x act t m r)) VerifyError)) ≡ None)
    p = or_else-none _ _ h

    q : (fault_where (cond (is_act_on_static act) (no_static_flag m.member.flags) (static_flag m.member.flags)) IncompatibleClassChangeError ≡ None) × (or_else (final_fault x act place m) (fault_where (not (assignment_ok V x act t m r)) VerifyError) ≡ None)
    q = or_else-none _ _ p.1

    s : (final_fault x act place m ≡ None) × (fault_where (not (assignment_ok V x act t m r)) VerifyError ≡ None)
    s = or_else-none _ _ q.1

pub use-from : (V : World) (x : Bytes) (act : Act) (t : Bytes) (r : Option Bytes) (place : Place) (m : DeclaredMember) → IsUsed V x act t r place m → use_fault V x act t r place m ≡ None
unfolding use_fault
use-from V x act t r place m u =
    or_else-both _ _ (rw u.access refl) (or_else-both _ _ (rw u.kind refl) (or_else-both _ _ (rw u.final refl) (rw u.assignment refl)))
