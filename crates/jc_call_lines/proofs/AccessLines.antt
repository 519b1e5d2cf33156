-- Lines on methods of interfaces that base classes have above them now.
use Rattle.std.proofs.Common.{◌≡◌, Bool, true, false, not, ◌&&◌, ◌||◌, refl, sym, ◌∙◌, ap, subst, Option, None, Some}
use Rattle.std.specs.Prelude.{IsTrue, is_some}
use Rattle.std.specs.List.{list_any}
use Rattle.std.specs.Cmp.Lexicographic.{nat_list_cmp_total}
use Rattle.std.specs.declared.cmp.Ordering.TheVariants.{Less}
use Rattle.std.proofs.lemmas.Bool.{and_from, and_parts}
use Rattle.std.proofs.lemmas.Cmp.{tied_itself}
use Rattle.jc_facts.specs.declared.act.Act.{Act}
use Rattle.jc_facts.specs.declared.act.Act.TheVariants.{InvokeInterface}
use Rattle.jc_call_kinds.specs.declared.call_line.CallKind.TheVariants.{Access}
use Rattle.jc_call_kinds.specs.declared.call_line.CallLine.{CallLine}
use Rattle.jc_facts.specs.declared.key.Key.{Key}
use Rattle.jc_facts.specs.declared.link_error.LinkError.{LinkError}
use Rattle.jc_facts.specs.declared.link_error.LinkError.TheVariants.{IllegalAccessError}
use Rattle.jc_facts.specs.Exactly.{Before}
use Rattle.jc_facts.specs.KeyOrder.{key_cmp}
use Rattle.jc_facts.specs.Names.{Bytes}
use Rattle.jc_facts.specs.Options.{some_where}
use Rattle.jc_facts.specs.world.Assignment.{is_interface_of}
use Rattle.jc_facts.specs.world.Hierarchy.{chain}
use Rattle.jc_facts.specs.world.Inheritance.{is_final_in_chain, offers}
use Rattle.jc_facts.specs.world.Lookup.{are_none, first_declared, method_choices, or_choices, superinterface_choices}
use Rattle.jc_facts.specs.world.World.{World, DeclaredMember}
use Rattle.jc_lemmas.proofs.Lists.{IsCons}
use Rattle.jc_promises.specs.rule.Bases.{is_base_class, is_key_of_method}
use Rattle.jc_worlds.specs.Agreement.{LooksTheSame}
use Rattle.jc_worlds.proofs.Offers.{choices-some}
use Rattle.jc_calls.specs.Access.{access_added, allows_less_access, is_called_above, is_public_in_chain}
use Rattle.jc_calls.specs.Lines.{is_due, line_order}
use Rattle.jc_index.proofs.Numbers.{names-in}
use Rattle.jc_rows.specs.Rows.{choices_by}
use Rattle.jc_method.specs.Inheriting.{inherits_from}
use Rattle.jc_sides.specs.BrokenOf.{BrokenOf, broken_if}
use Rattle.jc_sides.specs.Members.{is_member, OfPassing}
use Rattle.jc_sides.specs.declared.members.Members.TheVariants as members
use Rattle.jc_sides.specs.Rules.{IsItemRule}
use Rattle.jc_sides.specs.SharedOf.{OfKept}
use Rattle.jc_sides.specs.SidesOf.{SidesOf, AreSides}
use Rattle.jc_sides.proofs.BaseParts.{base_class_parts, no_interface_now}
use Rattle.jc_sides.proofs.ItemRules.{kept_where, made_where}
use Rattle.jc_sides.proofs.NamedAbove.{class_unkept}
use Rattle.jc_acts.specs.Seats.{may_be_closed}
use Rattle.jc_acts.proofs.Untouched.{looks_alike}
use Rattle.jc_call_lines.specs.steps.AccessLines.{access_line, changed_base, line_on}
use Rattle.jc_call_lines.specs.steps.Kinds.{OfKind}

-- ---- what the lookups say

-- a class that is no interface inherits from superinterfaces alone
pub of_superinterfaces : (W : World) (x : Bytes) (k : Key) → is_interface_of W x ≡ false → inherits_from W x k ≡ is_called_above W x k
of_superinterfaces W x k h = rw h refl

-- a method that a superinterface has is found, or one of the chain
pub finds_some : (W : World) (x : Bytes) (k : Key) → is_called_above W x k ≡ true → are_none (method_choices W x k) ≡ false
unfolding method_choices or_choices
finds_some W x k h = go (first_declared k (chain W x)) (choices-some W x k h)
  where
    go : (o : Option DeclaredMember) → IsCons (superinterface_choices W x k) → are_none (or_choices o (superinterface_choices W x k)) ≡ false
    go None c = ap are_none c.is
    go (Some m) c = refl

-- ---- the line on a class and a key

-- the tests in the order of the code, and in that of the definition
tests : (m b n c f : Bool) → b ≡ true → (m && c && n && f) ≡ (m && b && n && c && f)
tests true true true true f h = refl
tests true true true false f h = refl
tests true true false true f h = refl
tests true true false false f h = refl
tests true false n c f h = absurd (cc)
tests false b n c f h = refl

broken_is : (b : Bool) (a : Act) (e : LinkError) → is_some (broken_if b a e) ≡ b
broken_is true a e = refl
broken_is false a e = refl

pub made_line : (s : SidesOf) (x : Bytes) (k : Key) (b : Bool) (o : Option BrokenOf) → is_base_class s.old s.new x ≡ true
    → b ≡ (is_key_of_method k && is_called_above s.new x k && allows_less_access s.old x k && not (is_final_in_chain s.new x k)) → o ≡ broken_if b InvokeInterface IllegalAccessError
    → some_where (is_some o) (line_on x k) ≡ access_line s x k
unfolding access_added
made_line s x k b o base e r =
    ap (λ (p : Bool). some_where p (line_on x k))
    (ap is_some r ∙ broken_is b InvokeInterface IllegalAccessError ∙ e
    ∙ tests (is_key_of_method k) (is_base_class s.old s.new x) (allows_less_access s.old x k) (is_called_above s.new x k) (not (is_final_in_chain s.new x k)) base)

record IsAdded (s : SidesOf) (x : Bytes) (k : Key) : Type 0 where
  base : is_base_class s.old s.new x ≡ true
  allowed : allows_less_access s.old x k ≡ true
  above : is_called_above s.new x k ≡ true

added : (s : SidesOf) (x : Bytes) (k : Key) → access_added s.old s.new x k ≡ true → IsAdded s x k
unfolding access_added
added s x k h =
    let a = and_parts (is_key_of_method k && is_base_class s.old s.new x && allows_less_access s.old x k && is_called_above s.new x k) (not (is_final_in_chain s.new x k)) h in
    let b = and_parts (is_key_of_method k && is_base_class s.old s.new x && allows_less_access s.old x k) (is_called_above s.new x k) a.0 in
    let c = and_parts (is_key_of_method k && is_base_class s.old s.new x) (allows_less_access s.old x k) b.0 in
    record { base = (and_parts (is_key_of_method k) (is_base_class s.old s.new x) c.0).1; allowed = c.1; above = b.1 }

-- what a line has
parts : (s : SidesOf) (x : Bytes) (k : Key) (l : CallLine) → access_line s x k ≡ Some l → (access_added s.old s.new x k ≡ true) × (line_on x k ≡ l)
parts s x k l e = made_where (access_added s.old s.new x k) (line_on x k) l e

-- ---- where one is due

-- the new lookup finds a method of the key
pub of_methods : (s : SidesOf) (x : Bytes) → OfPassing (access_line s x) (is_member members.NewMethods s x)
of_methods s x k l e = go (is_interface_of s.new x) (no_interface_now s x p.base)
  where
    p : IsAdded s x k
    p = added s x k (parts s x k l e).0

    go : (b : Bool) → b ≡ false → not (are_none (choices_by b s.new x k)) ≡ true
    go true n = absurd (let clash : true ≡ false = n in cc)
    go false n = ap not (finds_some s.new x k p.above)

-- nowhere where all that is above is as it was
of_none : (s : SidesOf) (x : Bytes) (k : Key) → LooksTheSame s.old s.new x → IsAdded s x k → ⊥
of_none s x k same p = refuted (is_called_above s.old x k) (is_public_in_chain s.old x k) (is_final_in_chain s.old x k) (ap (list_any (offers k)) same.superinterfaces ∙ p.above) p.allowed
  where
    refuted : (b c d : Bool) → b ≡ true → not (b || c || d) ≡ true → ⊥
    refuted true c d e h = absurd (let clash : false ≡ true = h in cc)
    refuted false c d e h = absurd (cc)

-- a base class that may have changed
pub base : (s : SidesOf) (x : Bytes) → changed_base s x ≡ true → is_base_class s.old s.new x ≡ true
base s x h = (and_parts (is_base_class s.old s.new x) (may_be_closed s x) h).0

changed : (s : SidesOf) → AreSides s → (x : Bytes) (k : Key) → IsAdded s x k → changed_base s x ≡ true
changed s are x k p = and_from (is_base_class s.old s.new x) (may_be_closed s x) p.base (go (may_be_closed s x) refl)
  where
    go : (b : Bool) → may_be_closed s x ≡ b → b ≡ true
    go true e = refl
    go false e = absurd (of_none s x k (looks_alike s are x e (base_class_parts s x p.base).both.loads_now) p)

-- ---- the rule

kept : OfKept changed_base
kept s x h = ap (λ (b : Bool). b && may_be_closed s x) (class_unkept s x h)

stands : (s : SidesOf) (x : Bytes) (k : Key) (l : CallLine) → access_line s x k ≡ Some l → (l.«class» ≡ x) × OfKind Access s.old s.new l
stands s x k l e =
    let p = parts s x k l e in
    (ap (λ (c : CallLine). c.«class») (sym p.1), subst (OfKind Access s.old s.new) p.1 (refl, p.0))

made : (s : SidesOf) (l : CallLine) → OfKind Access s.old s.new l → (k : Key) × (access_line s l.«class» k ≡ Some l)
made s l h = go l.key l.target refl refl (subst (λ k. IsTrue (is_due s.old s.new k l.«class» l.key l.target)) h.0 h.1)
  where
    go : (o : Option Key) (p : Option Bytes) → l.key ≡ o → l.target ≡ p → IsTrue (is_due s.old s.new Access l.«class» o p) → (k : Key) × (access_line s l.«class» k ≡ Some l)
    go None p e f t = absurd (let clash : false ≡ true = t in cc)
    go (Some k) (Some p) e f t = absurd (let clash : false ≡ true = t in cc)
    go (Some k) None e f t =
        let is : line_on l.«class» k ≡ l = λ i. record { kind = sym h.0 i; «class» = l.«class»; key = sym e i; target = sym f i } in
        (k, ap (λ (b : Bool). some_where b (line_on l.«class» k)) t ∙ ap Some is)

key_before : (x : Bytes) (k j : Key) → key_cmp k j ≡ Less → line_order (line_on x k) (line_on x j) ≡ Less
key_before x k j b = rw (tied_itself nat_list_cmp_total x, b) refl

class_before : (l m : CallLine) → l.kind ≡ Access → m.kind ≡ Access → Before l.«class» m.«class» → line_order l m ≡ Less
class_before l m p q b = rw (p, q, b) refl

pub is_rule : IsItemRule line_order (λ (l : CallLine). l.«class») access_line (λ s l. OfKind Access s.old s.new l) changed_base
is_rule = record {
  stands = stands;
  made = made;
  by_key = λ s x k j l m b e f. subst (λ (c : CallLine). line_order c m ≡ Less) (parts s x k l e).1 (subst (λ (c : CallLine). line_order (line_on x k) c ≡ Less) (parts s x j m f).1 (key_before x k j b));
  by_class = λ s l m p q b. class_before l m p.0 q.0 b;
  kept = λ s x c. kept_where changed_base kept s x c;
  on_covered = λ s are l p.
      let m = made s l p in
      let a = added s l.«class» m.0 (parts s l.«class» m.0 l m.1).0 in
      (names-in s.old l.«class» ((base_class_parts s l.«class» a.base).both.there), changed s are l.«class» m.0 a);
}
