-- Lines of lost references: of which keys they are, and their order.
use Rattle.std.proofs.Common.{◌≡◌, true, false, List, [], refl, sym, ◌∙◌, ap, subst, Option, Some, None}
use Rattle.std.specs.declared.cmp.Ordering.TheVariants.{Less}
use Rattle.std.specs.Cmp.Lexicographic.{nat_list_cmp_total}
use Rattle.std.proofs.lemmas.Cmp.{nat_cmp_total, tied_itself}
use Rattle.jc_calls.specs.Lines.{is_due, line_order, place_of}
use Rattle.jc_calls.specs.References.{reference_lost}
use Rattle.jc_facts.specs.Exactly.{Before, HasExactly}
use Rattle.jc_facts.specs.KeyOrder.{key_cmp}
use Rattle.jc_facts.specs.Names.{Bytes}
use Rattle.jc_facts.specs.Options.{some_where}
use Rattle.jc_call_kinds.specs.declared.call_line.CallKind.TheVariants.{Reference}
use Rattle.jc_call_kinds.specs.declared.call_line.CallLine.{CallLine}
use Rattle.jc_facts.specs.declared.key.Key.{Key}
use Rattle.jc_facts.proofs.InOrder.{exact_none}
use Rattle.jc_index.proofs.Numbers.{names-in}
use Rattle.jc_lemmas.proofs.Bools.{contradicts}
use Rattle.jc_promises.specs.rule.Bases.{is_steady}
use Rattle.jc_sides.specs.Members.{HasAll, is_member}
use Rattle.jc_sides.specs.Rules.{HasEachKey, IsItemRule, IsOf}
use Rattle.jc_sides.specs.SidesOf.{SidesOf, AreSides}
use Rattle.jc_sides.specs.declared.members.Members.TheVariants as members
use Rattle.jc_sides.proofs.BaseParts.{steady_parts}
use Rattle.jc_sides.proofs.ItemRules.{kept_where, made_where}
use Rattle.jc_sides.proofs.NamedAbove.{steady_unkept}
use Rattle.jc_call_lines.specs.steps.Kinds.{OfKind}
use Rattle.jc_call_lines.specs.steps.LostLines.{lost_line, reference_line}
use Rattle.jc_call_lines.proofs.LostReferences.{lost_parts, lost_found}

-- ---- the rule

abbrev pub OfReference : SidesOf → CallLine → Type 0
OfReference s l = OfKind Reference s.old s.new l

stands : (s : SidesOf) (x : Bytes) (k : Key) (l : CallLine) → lost_line s x k ≡ Some l → IsOf (λ (m : CallLine). m.«class») (OfReference s) x l
stands s x k l e =
    let p = made_where (reference_lost s.old s.new x k) (reference_line x k) l e in
    subst (λ (m : CallLine). IsOf (λ (n : CallLine). n.«class») (OfReference s) x m) p.1 (refl, (refl, p.0))

made : (s : SidesOf) (l : CallLine) → OfReference s l → (k : Key) × (lost_line s l.«class» k ≡ Some l)
made s l h = go l.key l.target refl refl (subst (λ c. is_due s.old s.new c l.«class» l.key l.target ≡ true) h.0 h.1)
  where
    go : (o : Option Key) (p : Option Bytes) → l.key ≡ o → l.target ≡ p → is_due s.old s.new Reference l.«class» o p ≡ true → (k : Key) × (lost_line s l.«class» k ≡ Some l)
    go None p e f d = absurd (let clash : false ≡ true = d in cc)
    go (Some k) (Some p) e f d = absurd (let clash : false ≡ true = d in cc)
    go (Some k) None e f d =
        let is : reference_line l.«class» k ≡ l = λ i. record { kind = sym h.0 i; «class» = l.«class»; key = sym e i; target = sym f i } in
        (k, ap (λ b. some_where b (reference_line l.«class» k)) d ∙ ap Some is)

key_before : (x : Bytes) (k l : Key) → key_cmp k l ≡ Less → line_order (reference_line x k) (reference_line x l) ≡ Less
key_before x k l h = rw (tied_itself nat_list_cmp_total x, h) refl

pub class_before : (l m : CallLine) → l.kind ≡ m.kind → Before l.«class» m.«class» → line_order l m ≡ Less
class_before l m e h = rw (e, tied_itself nat_cmp_total (place_of m.kind), h) refl

lost_where : (s : SidesOf) (l : CallLine) → OfReference s l → (k : Key) × (reference_lost s.old s.new l.«class» k ≡ true)
lost_where s l h = let p = made s l h in (p.0, (made_where (reference_lost s.old s.new l.«class» p.0) (reference_line l.«class» p.0) l p.1).0)

pub is_rule : IsItemRule line_order (λ (l : CallLine). l.«class») lost_line OfReference (λ s x. is_steady s.old s.new x)
is_rule = record {
  stands = λ s x k l e. stands s x k l e;
  made = λ s l h. made s l h;
  by_key = λ s x k j l m b e d. keys s x k j l m b (made_where (reference_lost s.old s.new x k) (reference_line x k) l e).1 (made_where (reference_lost s.old s.new x j) (reference_line x j) m d).1;
  by_class = λ s l m p q b. class_before l m (p.0 ∙ sym q.0) b;
  kept = λ s x c. kept_where (λ s x. is_steady s.old s.new x) steady_unkept s x c;
  on_covered = λ s are l h.
      let t = lost_where s l h in
      let c : is_steady s.old s.new l.«class» ≡ true = (lost_parts s l.«class» t.0 t.1).steady in
      (names-in s.old l.«class» (steady_parts s l.«class» c).both.there, c);
}
  where
    keys : (s : SidesOf) (x : Bytes) (k j : Key) (l m : CallLine) → key_cmp k j ≡ Less → reference_line x k ≡ l → reference_line x j ≡ m → line_order l m ≡ Less
    keys s x k j l m b p q = ap (λ v. line_order v m) (sym p) ∙ ap (line_order (reference_line x k)) (sym q) ∙ key_before x k j b

-- ---- of one class

-- its keys are among those that references found
pub has_each : (s : SidesOf) → AreSides s → (x : Bytes) (keys : List Key) → HasAll (is_member members.OldMethods s x) keys → HasEachKey (lost_line s x) keys
has_each s are x keys h k l e = h k (lost_found s x k (made_where (reference_lost s.old s.new x k) (reference_line x k) l e).0)

-- nothing is lost of it
pub none_lost : (s : SidesOf) (x : Bytes) (lines : List CallLine) → lines ≡ [] → ((k : Key) → reference_lost s.old s.new x k ≡ false) → HasExactly line_order (IsOf (λ (l : CallLine). l.«class») (OfReference s) x) lines
none_lost s x lines e h = subst (HasExactly line_order (IsOf (λ (l : CallLine). l.«class») (OfReference s) x)) (sym e) (exact_none line_order (IsOf (λ (l : CallLine). l.«class») (OfReference s) x) never)
  where
    never : (l : CallLine) → IsOf (λ (m : CallLine). m.«class») (OfReference s) x l → ⊥
    never l p =
        let t = lost_where s l p.1 in
        contradicts (reference_lost s.old s.new x t.0) (ap (λ y. reference_lost s.old s.new y t.0) (sym p.0) ∙ t.1) (h t.0)
