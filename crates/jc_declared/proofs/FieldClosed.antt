-- What the rule on acts on fields that are closed to some clients finds.
use Rattle.std.proofs.Common.{◌≡◌, true, false, refl, sym, ◌∙◌, ap, Option, Some, None, is_some}
use Rattle.jc_acts.specs.ClosedActs.{reported, IsFirstClosed, HasNoneClosed}
use Rattle.jc_acts.specs.declared.closed_act.ClosedAct.{ClosedAct}
use Rattle.jc_facts.specs.declared.finding.Finding.{Finding}
use Rattle.jc_facts.specs.declared.key.Key.{Key}
use Rattle.jc_facts.specs.client.Acts.{FieldForm, form_of}
use Rattle.jc_promises.specs.rule.Findings.{finding_at, first_act, field_closed}
use Rattle.jc_facts.specs.world.Lookup.{field_found}
use Rattle.jc_facts.specs.Names.{Bytes}
use Rattle.jc_facts.specs.Orders.{finding_order}
use Rattle.jc_promises.specs.rule.OpenActs.{act_fault, field_acts}
use Rattle.jc_promises.specs.rule.Bases.{is_steady}
use Rattle.jc_sound.proofs.Looked.{looked, look_up-takes}
use Rattle.jc_sides.specs.BrokenOf.{BrokenOf, found}
use Rattle.jc_sides.specs.Members.{is_member, OfPassing}
use Rattle.jc_sides.specs.declared.members.Members.TheVariants as members
use Rattle.jc_sides.specs.Rules.{on_key, key_finding, IsFinding, IsItemRule}
use Rattle.jc_sides.specs.SidesOf.{SidesOf}
use Rattle.jc_sides.proofs.NamedAbove.{steady_unkept}
use Rattle.jc_sides.proofs.Subjects.{IsOnKey}
use Rattle.jc_declared.proofs.ClosedActs.{found_open}
use Rattle.jc_acts.proofs.Untouched.{none_closed}
use Rattle.jc_declared.proofs.ChangedClasses.{holds_where, finding_of_changed}
use Rattle.jc_declared.specs.steps.Changed.{changed_steady}

closed_is : (s : SidesOf) (x : Bytes) (k : Key) → is_steady s.old s.new x ≡ true → key_finding 7 s x k ≡ first_act s.old s.new (on_key 7 x k) k field_acts
unfolding key_finding finding_at field_closed
closed_is s x k h = rw h refl

pub closed : (s : SidesOf) (x : Bytes) (k : Key) (act : Option ClosedAct) (o : Option BrokenOf) → is_steady s.old s.new x ≡ true → IsFirstClosed s x k field_acts act → found (on_key 7 x k) o ≡ reported (on_key 7 x k) act → found (on_key 7 x k) o ≡ key_finding 7 s x k
closed s x k act o steady first r = r ∙ sym (closed_is s x k steady ∙ first (on_key 7 x k) refl)

-- a class that has none closed has no finding
of_none : (s : SidesOf) (x : Bytes) → is_steady s.old s.new x ≡ true → HasNoneClosed s x → OfPassing (key_finding 7 s x) (λ k. false)
of_none s x steady never k f m = absurd (let z : None ≡ Some f = sym (closed_is s x k steady ∙ never k field_acts (on_key 7 x k) refl) ∙ m in cc)

-- a reference to the class found a field of the key
pub of_fields : (s : SidesOf) (x : Bytes) → is_steady s.old s.new x ≡ true → OfPassing (key_finding 7 s x) (is_member members.OldFields s x)
unfolding act_fault looked
of_fields s x steady k f e =
    let w = found_open s (on_key 7 x k) k field_acts (λ what. form_of what ≡ FieldForm) (refl, (refl, (refl, (refl, tt)))) f (sym (closed_is s x k steady) ∙ e) in
    let t = look_up-takes s.old (form_of w.act) x k _ w.open_to in
    let found : field_found s.old x k ≡ Some t.found = sym (ap (λ form. looked s.old form x k) w.is_one) ∙ t.taken in
    ap is_some found

-- ---- where it stands

not_found : (s : SidesOf) (x : Bytes) (k : Key) → is_steady s.old s.new x ≡ false → key_finding 7 s x k ≡ None
unfolding key_finding finding_at field_closed
not_found s x k h = rw h refl

abbrev on_7 : IsOnKey 7
on_7 = record { not_1 = refl; not_2 = refl; not_3 = refl; not_4 = refl }

pub is_rule : IsItemRule finding_order (λ (f : Finding). f.«class») (key_finding 7) (IsFinding 7) changed_steady
is_rule = finding_of_changed (λ s x. is_steady s.old s.new x) steady_unkept 7 on_7 (λ s x k f h. holds_where (is_steady s.old s.new x) (key_finding 7 s x k) f (not_found s x k) h)
    (λ s are x is free. of_none s x is (none_closed s are x free is))
