-- What the rule on methods that may not be overridden any more finds.
use Rattle.std.proofs.Common.{◌≡◌, Bool, true, false, not, ◌&&◌, refl, sym, ◌∙◌, ap, Option, Some, None}
use Rattle.jc_facts.specs.declared.act.Act.TheVariants.{Override}
use Rattle.jc_facts.specs.declared.finding.Finding.{Finding}
use Rattle.jc_facts.specs.declared.key.Key.{Key}
use Rattle.jc_facts.specs.declared.link_error.LinkError.TheVariants.{IncompatibleClassChangeError}
use Rattle.jc_facts.specs.Names.{Bytes}
use Rattle.jc_facts.specs.Options.{and_then, some_where}
use Rattle.jc_promises.specs.rule.Bases.{is_base_class, is_key_of_method}
use Rattle.jc_facts.specs.world.Inheritance.{is_final_in_chain}
use Rattle.jc_promises.specs.rule.Findings.{Subject, finding_at, method_made_final, report_where, finds_overridable}
use Rattle.jc_facts.specs.Orders.{finding_order}
use Rattle.jc_sound.proofs.ClassGoneLaw.{report_where-some}
use Rattle.jc_lemmas.proofs.Bools.{second_of_five, third_of_five}
use Rattle.jc_declared.specs.steps.Methods.{becomes_final, final_now}
use Rattle.jc_worlds.specs.Agreement.{LooksTheSame}
use Rattle.jc_declared.proofs.NewlyFinal.{row, not_newly}
use Rattle.jc_sides.specs.BrokenOf.{BrokenOf, broken_if, found}
use Rattle.jc_sides.specs.Members.{is_member, OfPassing}
use Rattle.jc_sides.specs.declared.members.Members.TheVariants as members
use Rattle.jc_sides.specs.Rules.{on_key, key_finding, IsFinding, IsItemRule}
use Rattle.jc_sides.specs.SidesOf.{SidesOf}
use Rattle.jc_sides.proofs.BrokenActs.{found_where}
use Rattle.jc_sides.proofs.NamedAbove.{class_unkept}
use Rattle.jc_sides.proofs.Subjects.{IsOnKey}
use Rattle.jc_acts.proofs.Untouched.{looks_alike}
use Rattle.jc_declared.proofs.ChangedClasses.{finding_of_changed}
use Rattle.jc_declared.specs.steps.Changed.{changed_class}
use Rattle.jc_sides.proofs.BaseParts.{base_class_parts}

-- the test of the rule
abbrev is_lost : SidesOf → Bytes → Key → Bool
is_lost s x k = is_key_of_method k && is_base_class s.old s.new x && is_final_in_chain s.new x k && not (is_final_in_chain s.old x k) && finds_overridable s.old x k

lost_is : (s : SidesOf) (x : Bytes) (k : Key) → key_finding 6 s x k ≡ report_where (is_lost s x k) (on_key 6 x k) Override IncompatibleClassChangeError
unfolding key_finding finding_at method_made_final
lost_is s x k = refl

lost_row : (s : SidesOf) (x : Bytes) (k : Key) → is_base_class s.old s.new x ≡ true → is_lost s x k ≡ (becomes_final s x k && finds_overridable s.old x k)
lost_row s x k base = row (is_key_of_method k) (is_base_class s.old s.new x) (is_final_in_chain s.new x k) (not (is_final_in_chain s.old x k)) (finds_overridable s.old x k) base

said : (on : Subject) (b p : Bool) → found on (and_then (λ q. broken_if q Override IncompatibleClassChangeError) (some_where b p)) ≡ report_where (b && p) on Override IncompatibleClassChangeError
unfolding and_then
said on true p = found_where on p Override IncompatibleClassChangeError
said on false p = refl

-- what is said of the key, of what is known of it
lost : (s : SidesOf) (x : Bytes) (k : Key) → is_base_class s.old s.new x ≡ true → (known : Option Bool) (o : Option BrokenOf) → known ≡ final_now s x k → o ≡ and_then (λ q. broken_if q Override IncompatibleClassChangeError) known
    → found (on_key 6 x k) o ≡ key_finding 6 s x k
lost s x k base known o e r =
    ap (found (on_key 6 x k)) (r ∙ ap (and_then (λ q. broken_if q Override IncompatibleClassChangeError)) e) ∙ said (on_key 6 x k) (becomes_final s x k) (finds_overridable s.old x k)
    ∙ ap (λ p. report_where p (on_key 6 x k) Override IncompatibleClassChangeError) (sym (lost_row s x k base)) ∙ sym (lost_is s x k)

pub lost_none : (s : SidesOf) (x : Bytes) (k : Key) → is_base_class s.old s.new x ≡ true → (o : Option BrokenOf) → None ≡ final_now s x k → o ≡ None → found (on_key 6 x k) o ≡ key_finding 6 s x k
unfolding and_then
lost_none s x k base o e r = lost s x k base None o e r

pub lost_some : (s : SidesOf) (x : Bytes) (k : Key) → is_base_class s.old s.new x ≡ true → (p : Bool) (o : Option BrokenOf) → Some p ≡ final_now s x k → o ≡ broken_if p Override IncompatibleClassChangeError → found (on_key 6 x k) o ≡ key_finding 6 s x k
unfolding and_then
lost_some s x k base p o e r = lost s x k base (Some p) o e r

lost_where : (s : SidesOf) (x : Bytes) (k : Key) (f : Finding) → key_finding 6 s x k ≡ Some f → is_lost s x k ≡ true
lost_where s x k f h = (report_where-some (is_lost s x k) (on_key 6 x k) Override IncompatibleClassChangeError f (sym (lost_is s x k) ∙ h)).0

-- its key is final in the new chain
pub of_finals : (s : SidesOf) (x : Bytes) → OfPassing (key_finding 6 s x) (is_member members.NewFinals s x)
of_finals s x k f m = third_of_five (is_key_of_method k) (is_base_class s.old s.new x) (is_final_in_chain s.new x k) (not (is_final_in_chain s.old x k)) (finds_overridable s.old x k) (lost_where s x k f m)

-- no key is where all lookups are as they were
of_none : (s : SidesOf) (x : Bytes) → LooksTheSame s.old s.new x → OfPassing (key_finding 6 s x) (λ k. false)
of_none s x same k f m = absurd (not_newly s x k same (is_key_of_method k) (is_base_class s.old s.new x) (finds_overridable s.old x k) (lost_where s x k f m))

abbrev on_6 : IsOnKey 6
on_6 = record { not_1 = refl; not_2 = refl; not_3 = refl; not_4 = refl }

lost_base : (s : SidesOf) (x : Bytes) (k : Key) (f : Finding) → key_finding 6 s x k ≡ Some f → is_base_class s.old s.new x ≡ true
lost_base s x k f h = second_of_five (is_key_of_method k) (is_base_class s.old s.new x) (is_final_in_chain s.new x k) (not (is_final_in_chain s.old x k)) (finds_overridable s.old x k) (lost_where s x k f h)

pub is_rule : IsItemRule finding_order (λ (f : Finding). f.«class») (key_finding 6) (IsFinding 6) changed_class
is_rule = finding_of_changed (λ s x. is_base_class s.old s.new x) class_unkept 6 on_6 lost_base
    (λ s are x is free. of_none s x (looks_alike s are x free (base_class_parts s x is).both.loads_now))
