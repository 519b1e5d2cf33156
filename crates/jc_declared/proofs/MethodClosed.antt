-- What the rule on acts on methods that are closed to some clients finds.
use Rattle.std.proofs.Common.{◌≡◌, Bool, true, false, cond, ◌&&◌, refl, sym, ◌∙◌, Option, Some, None}
use Rattle.jc_acts.specs.ClosedActs.{reported, IsFirstClosed, HasNoneClosed}
use Rattle.jc_acts.specs.declared.closed_act.ClosedAct.{ClosedAct}
use Rattle.jc_facts.specs.declared.finding.Finding.{Finding}
use Rattle.jc_facts.specs.declared.key.Key.{Key}
use Rattle.jc_facts.specs.client.Acts.{form_of}
use Rattle.jc_promises.specs.rule.Findings.{finding_at, first_act, method_closed}
use Rattle.jc_facts.specs.Names.{Bytes}
use Rattle.jc_facts.specs.Orders.{finding_order}
use Rattle.jc_promises.specs.rule.OpenActs.{act_fault, method_acts}
use Rattle.jc_promises.specs.rule.Bases.{is_steady, is_key_of_method}
use Rattle.jc_sound.proofs.Looked.{look_up-takes}
use Rattle.jc_sides.specs.BrokenOf.{BrokenOf, found}
use Rattle.jc_sides.specs.Members.{is_member, OfPassing}
use Rattle.jc_sides.specs.declared.members.Members.TheVariants as members
use Rattle.jc_sides.specs.Rules.{on_key, key_finding, IsFinding, IsItemRule}
use Rattle.jc_sides.specs.SidesOf.{SidesOf}
use Rattle.jc_sides.proofs.NamedAbove.{steady_unkept}
use Rattle.jc_sides.proofs.Subjects.{IsOnKey}
use Rattle.jc_declared.proofs.ClosedActs.{NoField, found_open, looked_found}
use Rattle.jc_acts.proofs.Untouched.{none_closed}
use Rattle.jc_declared.proofs.ChangedClasses.{holds_where, finding_of_changed}
use Rattle.jc_declared.specs.steps.Changed.{changed_steady}

closed_is : (s : SidesOf) (x : Bytes) (k : Key) → is_key_of_method k ≡ true → is_steady s.old s.new x ≡ true → key_finding 8 s x k ≡ first_act s.old s.new (on_key 8 x k) k method_acts
unfolding key_finding finding_at method_closed
closed_is s x k m h = rw (m, h) refl

pub initializer : (s : SidesOf) (x : Bytes) (k : Key) → is_key_of_method k ≡ false → None ≡ key_finding 8 s x k
unfolding key_finding finding_at method_closed
initializer s x k m = rw m refl

pub closed : (s : SidesOf) (x : Bytes) (k : Key) (act : Option ClosedAct) (o : Option BrokenOf) → is_key_of_method k ≡ true → is_steady s.old s.new x ≡ true → IsFirstClosed s x k method_acts act → found (on_key 8 x k) o ≡ reported (on_key 8 x k) act → found (on_key 8 x k) o ≡ key_finding 8 s x k
closed s x k act o m steady first r = r ∙ sym (closed_is s x k m steady ∙ first (on_key 8 x k) refl)

-- a finding is on no initializer
method_where : (s : SidesOf) (x : Bytes) (k : Key) (f : Finding) → key_finding 8 s x k ≡ Some f → is_key_of_method k ≡ true
method_where s x k f h = go (is_key_of_method k) refl
  where
    go : (b : Bool) → is_key_of_method k ≡ b → b ≡ true
    go true e = refl
    go false e = absurd (let z : None ≡ Some f = initializer s x k e ∙ h in cc)

-- a class that has none closed has no finding
of_none : (s : SidesOf) (x : Bytes) → is_steady s.old s.new x ≡ true → HasNoneClosed s x → OfPassing (key_finding 8 s x) (λ k. false)
of_none s x steady never k f m = absurd (let z : None ≡ Some f = sym (closed_is s x k (method_where s x k f m) steady ∙ never k method_acts (on_key 8 x k) refl) ∙ m in cc)

-- a reference to the class found a method of the key
pub of_methods : (s : SidesOf) (x : Bytes) → is_steady s.old s.new x ≡ true → OfPassing (key_finding 8 s x) (is_member members.OldMethods s x)
unfolding act_fault
of_methods s x steady k f e =
    let w = found_open s (on_key 8 x k) k method_acts (λ what. NoField (form_of what)) (tt, (tt, (tt, (tt, tt)))) f (sym (closed_is s x k (method_where s x k f e) steady) ∙ e) in
    let t = look_up-takes s.old (form_of w.act) x k _ w.open_to in
    looked_found s.old x k (form_of w.act) w.is_one t.found t.taken

-- ---- where it stands

not_found : (s : SidesOf) (x : Bytes) (k : Key) → is_steady s.old s.new x ≡ false → key_finding 8 s x k ≡ None
unfolding key_finding finding_at method_closed
not_found s x k h = rw h (go (is_key_of_method k))
  where
    go : (b : Bool) → cond (b && false) (first_act s.old s.new (on_key 8 x k) k method_acts) None ≡ None
    go true = refl
    go false = refl

abbrev on_8 : IsOnKey 8
on_8 = record { not_1 = refl; not_2 = refl; not_3 = refl; not_4 = refl }

pub is_rule : IsItemRule finding_order (λ (f : Finding). f.«class») (key_finding 8) (IsFinding 8) changed_steady
is_rule = finding_of_changed (λ s x. is_steady s.old s.new x) steady_unkept 8 on_8 (λ s x k f h. holds_where (is_steady s.old s.new x) (key_finding 8 s x k) f (not_found s x k) h)
    (λ s are x is free. of_none s x is (none_closed s are x free is))
