-- What has changed between two texts is what is computed.
use Rattle.std.proofs.Common.{◌≡◌, ◌↔◌, Bool, true, false, not, cond, Option, Some, None, refl, sym, ap, ◌∙◌}
use Rattle.std.specs.Option.{option_map, option_eq}
use Rattle.std.proofs.lemmas.Bool.{not-true}
use Rattle.jc_facts.specs.declared.key.Key.{Key}
use Rattle.jc_facts.specs.declared.sig_note.SigChange.{SigChange}
use Rattle.jc_facts.specs.Names.{Bytes, same, is_descriptor_of_method}
use Rattle.jc_facts.proofs.Same.{same_itself}
use Rattle.jc_sig.specs.Trees.{TypeTree, ClassSigTree, MethodSigTree}
use Rattle.jc_sig.specs.Grammar.{SpellsClassSig, SpellsMethodSig, SpellsFieldSig}
use Rattle.jc_sig.specs.Reading.{class_sig_of, method_sig_of, field_sig_of}
use Rattle.jc_sig.proofs.OneTree.{class_reads, method_reads, field_reads}
use Rattle.jc_sig.specs.Notes.{class_part, method_part, field_part, IsOf, change_of, Changes, MemberChanges, ChangeAt}
use Rattle.jc_sig.specs.steps.Changes.{change_between, class_change, member_change, change_at, changed}

-- the change is given where the texts aren't the same
split : (s : Bool) (v change : SigChange) → cond s None (Some v) ≡ Some change → (s ≡ false) × (change ≡ v)
split true v change e = absurd (let q : None ≡ Some change = e in cc)
split false v change e = let q : v ≡ change = cc in (refl, sym q)

joined : (s : Bool) (v change : SigChange) → s ≡ false → change ≡ v → cond s None (Some v) ≡ Some change
joined true v change e f = absurd (cc)
joined false v change e f = ap Some (sym f)

-- in a grammar, whose trees are read of exactly the texts that spell them
module _ (A : Type 0) (Spells : Bytes → A → Type 0) (read : Bytes → Option A) (reads : (bytes : Bytes) (t : A) → (read bytes ≡ Some t) ↔ Spells bytes t) where
  is_of : (text : Option Bytes) → IsOf Spells text (option_map read text)
  is_of None = tt
  is_of (Some b) = go (read b) refl
    where
      go : (o : Option A) → read b ≡ o → IsOf Spells (Some b) (Some o)
      go None e = λ t h. absurd (let q : None ≡ Some t = sym e ∙ (reads b t).1 h in cc)
      go (Some t) e = (reads b t).0 e

  of_is : (text : Option Bytes) (o : Option (Option A)) → IsOf Spells text o → o ≡ option_map read text
  of_is None None h = refl
  of_is None (Some o) h = absurd h
  of_is (Some b) None h = absurd h
  of_is (Some b) (Some None) h = ap Some (go (read b) refl)
    where
      go : (o : Option A) → read b ≡ o → ◌≡◌ {A = Option A} None o
      go None e = refl
      go (Some t) e = absurd (h t ((reads b t).0 e))
  of_is (Some b) (Some (Some t)) h = ap Some (sym ((reads b t).1 h))

  changes_by : (part : A → A → SigChange) (before after : Option Bytes) (change : SigChange) → (option_eq same before after ≡ false) × (change ≡ change_between read part before after) → Changes Spells part before after change
  changes_by part before after change h = record {
    differ = ap not h.0;
    old = option_map read before;
    new = option_map read after;
    old_is = is_of before;
    new_is = is_of after;
    change_is = h.1;
  }

  by_changes : (part : A → A → SigChange) (before after : Option Bytes) (change : SigChange) → Changes Spells part before after change → (option_eq same before after ≡ false) × (change ≡ change_between read part before after)
  by_changes part before after change h = (
    not-true (option_eq same before after) h.differ,
    h.change_is ∙ ap (λ (o : Option (Option A)). change_of part o h.new) (of_is before h.old h.old_is) ∙ ap (λ (o : Option (Option A)). change_of part (option_map read before) o) (of_is after h.new h.new_is),
  )

-- ---- of a class or a member

pub changed_is : (key : Option Key) (before after : Option Bytes) (change : SigChange) → changed key before after ≡ Some change → ChangeAt key before after change
changed_is None before after change e =
    changes_by ClassSigTree SpellsClassSig class_sig_of class_reads class_part before after change (split (option_eq same before after) (class_change before after) change e)
changed_is (Some k) before after change e = go (is_descriptor_of_method k.descriptor) e
  where
    go : (m : Bool) → cond (option_eq same before after) None (Some (member_change m before after)) ≡ Some change → MemberChanges m before after change
    go true e = changes_by MethodSigTree SpellsMethodSig method_sig_of method_reads method_part before after change (split (option_eq same before after) (member_change true before after) change e)
    go false e = changes_by TypeTree SpellsFieldSig field_sig_of field_reads field_part before after change (split (option_eq same before after) (member_change false before after) change e)

pub changed_as : (key : Option Key) (before after : Option Bytes) (change : SigChange) → ChangeAt key before after change → changed key before after ≡ Some change
changed_as None before after change h =
    let p = by_changes ClassSigTree SpellsClassSig class_sig_of class_reads class_part before after change h in
    joined (option_eq same before after) (class_change before after) change p.0 p.1
changed_as (Some k) before after change h = go (is_descriptor_of_method k.descriptor) h
  where
    go : (m : Bool) → MemberChanges m before after change → cond (option_eq same before after) None (Some (member_change m before after)) ≡ Some change
    go true h =
        let p = by_changes MethodSigTree SpellsMethodSig method_sig_of method_reads method_part before after change h in
        joined (option_eq same before after) (member_change true before after) change p.0 p.1
    go false h =
        let p = by_changes TypeTree SpellsFieldSig field_sig_of field_reads field_part before after change h in
        joined (option_eq same before after) (member_change false before after) change p.0 p.1

text_itself : (o : Option Bytes) → option_eq same o o ≡ true
text_itself None = refl
text_itself (Some x) = same_itself x

-- one text hasn't changed
pub unchanged : (key : Option Key) (text : Option Bytes) → changed key text text ≡ None
unchanged key text = ap (λ (b : Bool). cond b None (Some (change_at key text text))) (text_itself text)
