-- The notes on the signatures of one class.
use Rattle.std.proofs.Common.{◌≡◌, Bool, true, false, cond, ◌&&◌, List, [], ◌∷◌, ◌++◌, Bor, Option, Some, None, refl, sym, ap, subst, ◌∙◌, ◌⊎◌, inl, inr}
use Rattle.std.specs.BTreeMap as tree
use Rattle.std.specs.BTreeSet as sorted
use Rattle.std.specs.Cmp.{tied_itself}
use Rattle.std.specs.Cmp.Lexicographic.{nat_list_cmp_total}
use Rattle.std.specs.List.{Contains, filter_map, cons_option}
use Rattle.std.specs.List.Sorted.{IsStrictlySortedBy}
use Rattle.std.specs.Option.{option_map}
use Rattle.std.specs.declared.cmp.Ordering.TheVariants.{Less}
use Rattle.std.proofs.lemmas.Bool.{and_parts}
use Rattle.std.proofs.lemmas.List.Elements.{All-contains_itself, All-from_recursion, filter_map-append}
use Rattle.std.proofs.lemmas.Map.Views.{btree_set_contains_iff}
use Rattle.jc_facts.specs.declared.class_facts.ClassFacts.{ClassFacts}
use Rattle.jc_facts.specs.declared.class_facts.Signed.{Signed}
use Rattle.jc_facts.specs.declared.key.Key.{Key}
use Rattle.jc_facts.specs.declared.sig_note.SigChange.{SigChange}
use Rattle.jc_facts.specs.declared.sig_note.SigNote.{SigNote}
use Rattle.jc_facts.specs.Exactly.{HasExactly, Rises}
use Rattle.jc_facts.specs.KeyOrder.{key_cmp, key_total}
use Rattle.jc_facts.specs.Names.{Bytes}
use Rattle.jc_facts.proofs.Exactly.{exact_over}
use Rattle.jc_facts.proofs.InOrder.{exact_none, exact_same, exact_append}
use Rattle.jc_facts.proofs.KeySets.{key_exact, rises}
use Rattle.jc_lemmas.proofs.Listed.{here}
use Rattle.jc_sig.specs.Notes.{signature_at, declares, sig_note_order}
use Rattle.jc_sig.specs.steps.Changes.{changed}
use Rattle.jc_sig.specs.steps.OnRecords.{signed_at, text_in, HasSignatures, HasMembers, noted, note_with, note_at, note_in, OnRecords, OnMember}
use Rattle.jc_sig.proofs.SignedMaps.{declares_is}

-- ---- what a note is of

made : (x : Bytes) (key : Option Key) (b : Bool) (o : Option SigChange) (n : SigNote) → cond b (option_map (noted x key) o) None ≡ Some n → (n.«class» ≡ x) × (n.key ≡ key) × (b ≡ true) × (o ≡ Some n.change)
made x key true None n e = absurd (let q : None ≡ Some n = e in cc)
made x key true (Some ch) n e = let q : noted x key ch ≡ n = cc in (sym (ap (λ (m : SigNote). m.«class») q), sym (ap (λ (m : SigNote). m.key) q), refl, ap (λ (m : SigNote). Some m.change) q)
made x key false o n e = absurd (let q : None ≡ Some n = e in cc)

pub note_of : (x : Bytes) (c d : ClassFacts) (key : Option Key) (n : SigNote) → note_at x c d key ≡ Some n
    → (n.«class» ≡ x) × (n.key ≡ key) × ((declares c key && declares d key) ≡ true) × (changed key (signature_at c key) (signature_at d key) ≡ Some n.change)
unfolding note_at
note_of x c d key n e = made x key (declares c key && declares d key) (changed key (signature_at c key) (signature_at d key)) n e

pub key_more : (h : Key → Option SigNote) (front : List Key) (k : Key) (o : Option SigNote) (fs gs : List SigNote) → fs ≡ filter_map h front → o ≡ h k → gs ≡ fs ++ cons_option o [] → gs ≡ filter_map h (front ++ k ∷ [])
key_more h front k o fs gs e q g =
    g ∙ ap (λ (xs : List SigNote). xs ++ cons_option o []) e ∙ ap (λ (p : Option SigNote). filter_map h front ++ cons_option p []) q ∙ sym (filter_map-append h front (k ∷ []))

-- where the texts are the same there is none
none_either : (x : Bytes) (key : Option Key) (b : Bool) → note_with x key b None None ≡ None
none_either x key true = refl
none_either x key false = refl

unsigned : (c : ClassFacts) (k : Key) → c.signatures ≡ [] → signature_at c (Some k) ≡ None
unsigned c k e = ap (λ (ss : List Signed). option_map (λ (s : Signed). s.text) (signed_at ss k)) e

module _ (x : Bytes) (c d : ClassFacts) where
  -- two records without signatures
  pub members_unsigned : (ns : List SigNote) → ns ≡ [] → c.signatures ≡ [] → d.signatures ≡ [] → HasExactly sig_note_order (OnMember x c d) ns
  unfolding note_at
  members_unsigned ns empty e f =
      subst (HasExactly sig_note_order (OnMember x c d)) (sym empty)
      (exact_none sig_note_order (OnMember x c d) (λ n p.
      let k : Key = p.0 in
      let at : note_at x c d (Some k) ≡ Some n = subst (λ (key : Option Key). note_at x c d key ≡ Some n) p.1 p.2 in
      let no : note_at x c d (Some k) ≡ None =
      ap (λ (t : Option Bytes). note_with x (Some k) (declares c (Some k) && declares d (Some k)) t (signature_at d (Some k))) (unsigned c k e)
      ∙ ap (λ (t : Option Bytes). note_with x (Some k) (declares c (Some k) && declares d (Some k)) None t) (unsigned d k f)
      ∙ none_either x (Some k) (declares c (Some k) && declares d (Some k)) in
      absurd (let q : None ≡ Some n = sym no ∙ at in cc)))

  abbrev OnClass : SigNote → Type 0
  OnClass n = (n.key ≡ None) × OnRecords x c d n

  h : Key → Option SigNote
  h k = note_at x c d (Some k)

  on_class_exact : (o : Option SigNote) → note_at x c d None ≡ o → HasExactly sig_note_order OnClass (cons_option o [])
  unfolding Rises
  on_class_exact None e = exact_none sig_note_order OnClass (λ n p. absurd (let q : None ≡ Some n = sym e ∙ subst (λ (key : Option Key). note_at x c d key ≡ Some n) p.0 p.1 in cc))
  on_class_exact (Some m) e = record {
    in_order = (tt, tt);
    sound = All-from_recursion OnClass (m ∷ []) ((let i = note_of x c d None m e in (i.1, subst (λ (key : Option Key). note_at x c d key ≡ Some m) (sym i.1) e)), tt);
    complete = λ n p. let q : m ≡ n = (let s : Some m ≡ Some n = sym e ∙ subst (λ (key : Option Key). note_at x c d key ≡ Some n) p.0 p.1 in cc) in subst (λ (z : SigNote). Contains (m ∷ []) z) q (here m []);
  }

  key_before : (k l : Key) (m n : SigNote) → key_cmp k l ≡ Less → h k ≡ Some m → h l ≡ Some n → sig_note_order m n ≡ Less
  unfolding h
  key_before k l m n b e f =
      let i = note_of x c d (Some k) m e in
      let j = note_of x c d (Some l) n f in
      rw (i.0, j.0, i.1, j.1, tied_itself nat_list_cmp_total x, b) refl

  -- the keys that the first record declares are all that are needed
  member_exact : (keys : sorted.BTreeSet Key) → IsStrictlySortedBy key_cmp keys.keys → HasMembers c keys → HasExactly sig_note_order (OnMember x c d) (filter_map h keys.keys)
  unfolding h
  member_exact keys ordered holds = exact_over key_cmp sig_note_order h key_before (Contains keys.keys) (OnMember x c d) keys.keys
      (record { in_order = rises keys.keys ordered; sound = All-contains_itself keys.keys; complete = λ k p. p })
      (λ k n p e. let i = note_of x c d (Some k) n e in (k, i.1, subst (λ (key : Option Key). note_at x c d key ≡ Some n) (sym i.1) e))
      (λ n p.
      let e : note_at x c d (Some p.0) ≡ Some n = subst (λ (key : Option Key). note_at x c d key ≡ Some n) p.1 p.2 in
      let i = note_of x c d (Some p.0) n e in
      let there = (and_parts (declares c (Some p.0)) (declares d (Some p.0)) i.2).0 in
      record { place = p.0; stands = (btree_set_contains_iff key_total key_exact keys p.0).0 (holds p.0 ∙ sym (declares_is c p.0) ∙ there); gives = e })

  in_is : (was now : tree.BTreeMap Key (Bor Signed)) (before after : sorted.BTreeSet Key) → HasSignatures c was → HasSignatures d now → HasMembers c before → HasMembers d after → (k : Key) → note_in x was now before after k ≡ h k
  unfolding h note_in note_at
  in_is was now before after w v b a k =
      ap (λ (t : Bool). note_with x (Some k) (t && sorted.contains key_cmp after k) (text_in was k) (text_in now k)) (b k ∙ sym (declares_is c k))
      ∙ ap (λ (t : Bool). note_with x (Some k) (declares c (Some k) && t) (text_in was k) (text_in now k)) (a k ∙ sym (declares_is d k))
      ∙ ap (λ (o : Option Signed). note_with x (Some k) (declares c (Some k) && declares d (Some k)) (option_map (λ (s : Signed). s.text) o) (text_in now k)) (w k)
      ∙ ap (λ (o : Option Signed). note_with x (Some k) (declares c (Some k) && declares d (Some k)) (signature_at c (Some k)) (option_map (λ (s : Signed). s.text) o)) (v k)

  pub members_exact : (was now : tree.BTreeMap Key (Bor Signed)) (before after : sorted.BTreeSet Key) → HasSignatures c was → HasSignatures d now → HasMembers c before → HasMembers d after
      → IsStrictlySortedBy key_cmp before.keys → (ns : List SigNote) → ns ≡ filter_map (note_in x was now before after) before.keys → HasExactly sig_note_order (OnMember x c d) ns
  members_exact was now before after w v b a ordered ns e =
      let f : note_in x was now before after ≡ h = λ i k. in_is was now before after w v b a k i in
      subst (HasExactly sig_note_order (OnMember x c d)) (sym (e ∙ ap (λ (g : Key → Option SigNote). filter_map g before.keys) f)) (member_exact before ordered b)

  class_first : (m n : SigNote) → OnClass m → OnMember x c d n → sig_note_order m n ≡ Less
  class_first m n p q =
      let i = note_of x c d m.key m p.1 in
      let j = note_of x c d n.key n q.2 in
      rw (i.0, j.0, p.0, q.1, tied_itself nat_list_cmp_total x) refl

  either : (n : SigNote) → OnRecords x c d n → OnClass n ⊎ OnMember x c d n
  either n e = go n.key refl
    where
      go : (key : Option Key) → n.key ≡ key → OnClass n ⊎ OnMember x c d n
      go None p = inl (p, e)
      go (Some k) p = inr (k, p, e)

  each : (n : SigNote) → OnClass n ⊎ OnMember x c d n → OnRecords x c d n
  each n (inl p) = p.1
  each n (inr p) = p.2

  -- the class itself, then its members
  pub all_exact : (o : Option SigNote) (front more all : List SigNote) → o ≡ note_at x c d None → front ≡ cons_option o [] → HasExactly sig_note_order (OnMember x c d) more → all ≡ front ++ more → HasExactly sig_note_order (OnRecords x c d) all
  all_exact o front more all e f g q =
      subst (HasExactly sig_note_order (OnRecords x c d)) (sym (q ∙ ap (λ (ns : List SigNote). ns ++ more) f))
      (exact_same sig_note_order (λ n. OnClass n ⊎ OnMember x c d n) (OnRecords x c d) (cons_option o [] ++ more) each either
      (exact_append sig_note_order OnClass (OnMember x c d) (cons_option o []) more (on_class_exact o (sym e)) g class_first))
