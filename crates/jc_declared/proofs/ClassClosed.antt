-- What the rule on classes that are closed to some clients finds.
use Rattle.std.proofs.Common.{◌≡◌, Bool, true, false, not, cond, ◌||◌, ◌&&◌, List, refl, sym, ◌∙◌, ap, Option, Some, None, is_some, nat_lt}
use Rattle.std.proofs.lemmas.Bool.{and_parts}
use Rattle.jc_facts.specs.declared.act.Act.{Act}
use Rattle.jc_facts.specs.declared.act.Act.TheVariants.{Extend, Implement}
use Rattle.jc_facts.specs.declared.class_facts.ClassFacts.{ClassFacts}
use Rattle.jc_facts.specs.declared.link_error.LinkError.TheVariants.{IncompatibleClassChangeError}
use Rattle.jc_facts.specs.world.Assignment.{is_interface_of}
use Rattle.jc_facts.specs.file.Rules.{apart, implies}
use Rattle.jc_facts.specs.file.Valid.{IsValidClass}
use Rattle.jc_promises.specs.rule.Findings.{finding_at, class_closed, report_where}
use Rattle.jc_facts.specs.Flags.{abstract_flag, final_flag, interface_flag, module_flag}
use Rattle.jc_facts.specs.Names.{Bytes, is_name_among}
use Rattle.jc_promises.specs.rule.Bases.{allowed, has_init, is_class_closed, is_kept, is_open, leaves_out, permits_some, newly_sealed}
use Rattle.jc_facts.specs.world.Inheritance.{public_or_protected}
use Rattle.jc_facts.specs.world.World.{World, class_named, find_class}
use Rattle.jc_facts.specs.world.Modules.{OfClients, module_of, same_module}
use Rattle.jc_facts.specs.world.Loading.{excludes}
use Rattle.jc_facts.proofs.World.{find-name}
use Rattle.jc_acts.proofs.Untouched.{platform_record}
use Rattle.jc_lemmas.proofs.Listed.{EachOf-map, any_none}
use Rattle.jc_worlds.proofs.Allowed.{among_each}
use Rattle.jc_worlds.proofs.VisibleFrom.{platform_module}
use Rattle.jc_worlds.proofs.Loaded.{loads-found}
use Rattle.jc_index.proofs.Sides.{side_valid}
use Rattle.jc_sides.specs.steps.ClientsOf.{closes}
use Rattle.jc_sides.proofs.Pair.{pair_of}
use Rattle.jc_sides.specs.BrokenOf.{BrokenOf, broken_if, found}
use Rattle.jc_sides.specs.Rules.{on_class, class_finding}
use Rattle.jc_sides.specs.SidesOf.{SidesOf, AreSides}
use Rattle.jc_sides.proofs.BaseParts.{kept_parts}
use Rattle.jc_sides.proofs.BrokenActs.{found_where}
use Rattle.jc_sides.proofs.NamedAbove.{closed_is as closes_by, closed_unkept}

-- how clients name the class above themselves
act_on : SidesOf → Bytes → Act
act_on s x = cond (is_interface_of s.old x) Implement Extend

closed_is : (s : SidesOf) (x : Bytes) → class_finding 2 s x ≡ report_where (is_class_closed s.old s.new x) (on_class 2 x) (act_on s x) IncompatibleClassChangeError
unfolding class_finding finding_at class_closed act_on
closed_is s x = refl

pub unkept : (s : SidesOf) (x : Bytes) → is_kept s.old s.new x ≡ false → None ≡ class_finding 2 s x
unkept s x h = sym (closed_is s x ∙ ap (λ b. report_where b (on_class 2 x) (act_on s x) IncompatibleClassChangeError) (closed_unkept s x h))

-- ---- a class that has one record on both sides

-- permitted names leave out none of themselves
none_left_out : (O N : World) (p : Option (List Bytes)) → leaves_out O N p p ≡ false
none_left_out O N None = refl
none_left_out O N (Some ns) = any_none (λ x. allowed O N x && not (is_name_among ns x)) ns (EachOf-map (λ x h. listed (allowed O N x) (is_name_among ns x) h) ns (among_each ns))
  where
    listed : (a b : Bool) → b ≡ true → (a && not b) ≡ false
    listed true true h = refl
    listed true false h = absurd (cc)
    listed false b h = refl

-- of an interface, which isn't final, or of a class that isn't
open_row : (i f h o n r : Bool) → (n ≡ true → o ≡ false) → (not i || (not f && r)) ≡ true → (not (i && not i) && ((not i && not f && h && o) || (i && o)) && (f || (i && not i) || n)) ≡ false
open_row true true h o n r e v = absurd (cc)
open_row true false h false n r e v = refl
open_row true false h true false r e v = refl
open_row true false h true true r e v = absurd (let q : true ≡ false = e refl in cc)
open_row false true h o n r e v = refl
open_row false false true true false r e v = refl
open_row false false true true true r e v = absurd (let q : true ≡ false = e refl in cc)
open_row false false true false n r e v = refl
open_row false false false o n r e v = refl

-- what is newly sealed, though its names are the same, has left the clients' module; where its module is the same, it was closed before
shut_before : (a b l p : Bool) → a ≡ b → l ≡ false → (b || l) ≡ true → (not a && p) ≡ false
shut_before true b l p e k h = refl
shut_before false true l p e k h = absurd (cc)
shut_before false false l p e k h = absurd (let q : false ≡ true = sym k ∙ h in cc)

closes_none : (s : SidesOf) (c : ClassFacts) → IsValidClass c → excludes s.old c OfClients ≡ excludes s.new c OfClients → closes s c c ≡ false
closes_none s c v e =
    let f = c.flags in
    let plain = and_parts (not (module_flag f) && apart (final_flag f) (abstract_flag f)) (implies (interface_flag f) (not (final_flag f) && (abstract_flag f || nat_lt c.major 50))) v.flags in
    open_row (interface_flag f) (final_flag f) (has_init c public_or_protected) (is_open s.old s.new c) (newly_sealed s.old s.new c c) (abstract_flag f || nat_lt c.major 50)
    (shut_before (excludes s.old c OfClients) (excludes s.new c OfClients) (leaves_out s.old s.new c.permits c.permits) (permits_some s.old s.new c.permits) e (none_left_out s.old s.new c.permits)) plain.1

-- a class of the platform is in one module on both sides
unclosed : (s : SidesOf) → AreSides s → (x : Bytes) → is_some (class_named s.old.platform x) ≡ true → find_class s.old x ≡ find_class s.new x → is_class_closed s.old s.new x ≡ false
unclosed s are x there same = go (is_kept s.old s.new x) refl
  where
    there_now : is_some (class_named s.new.platform x) ≡ true
    there_now = ap (λ cs. is_some (class_named cs x)) (sym are.run.platform) ∙ there

    one_module : module_of s.old x ≡ module_of s.new x
    one_module = platform_module s.old s.new x (pair_of s are).run.kind there there_now

    go : (b : Bool) → is_kept s.old s.new x ≡ b → is_class_closed s.old s.new x ≡ false
    go false k = closed_unkept s x k
    go true k =
        let t = loads-found s.old x (kept_parts s x k).loads in
        let n : x ≡ t.0.name = sym (find-name s.old x t.0 t.1) in
        let e : excludes s.old t.0 OfClients ≡ excludes s.new t.0 OfClients = ap (λ m. not (same_module OfClients m) && is_some t.0.permits) (sym (ap (module_of s.old) n) ∙ one_module ∙ ap (module_of s.new) n) in
        closes_by s x t.0 t.0 k (sym t.1) (sym t.1 ∙ same) ∙ closes_none s t.0 (side_valid s.old are.old_side x t.0 t.1) e

pub of_platform : (s : SidesOf) → AreSides s → (x : Bytes) → is_some (class_named s.old.platform x) ≡ true → None ≡ class_finding 2 s x
of_platform s are x h = sym (closed_is s x ∙ ap (λ b. report_where b (on_class 2 x) (act_on s x) IncompatibleClassChangeError) (unclosed s are x h (platform_record s are x h)))

-- ---- a class that is kept

act_is : (s : SidesOf) (x : Bytes) (c : ClassFacts) → Some c ≡ find_class s.old x → cond (interface_flag c.flags) Implement Extend ≡ act_on s x
unfolding act_on
act_is s x c f = rw (← f) refl

-- y is the class under its own name
pub closed : (s : SidesOf) (x y : Bytes) (b : Bool) (c : ClassFacts) (a : Act) (o : Option BrokenOf) → y ≡ x → b ≡ is_class_closed s.old s.new y → Some c ≡ find_class s.old y → a ≡ cond (interface_flag c.flags) Implement Extend
    → o ≡ broken_if b a IncompatibleClassChangeError → found (on_class 2 x) o ≡ class_finding 2 s x
closed s x y b c a o n e f q r =
    ap (found (on_class 2 x)) r ∙ found_where (on_class 2 x) b a IncompatibleClassChangeError ∙ ap (λ p. report_where p (on_class 2 x) a IncompatibleClassChangeError) (e ∙ ap (is_class_closed s.old s.new) n)
    ∙ ap (λ (w : Act). report_where (is_class_closed s.old s.new x) (on_class 2 x) w IncompatibleClassChangeError) (q ∙ act_is s x c (f ∙ ap (find_class s.old) n)) ∙ sym (closed_is s x)
