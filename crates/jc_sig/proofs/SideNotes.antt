-- The notes on the signatures of all classes.
use Rattle.std.proofs.Common.{◌≡◌, ◌<◌, ◌≤◌, ◌+◌, ℕ, Bool, true, false, ◌&&◌, nat_lt, List, [], ◌++◌, take, Some, None, is_some, refl, sym, ap, subst, ◌∙◌}
use Rattle.std.specs.declared.cmp.Ordering.TheVariants.{Less}
use Rattle.std.proofs.lemmas.Bool.{and_parts}
use Rattle.jc_facts.specs.declared.class_facts.ClassFacts.{ClassFacts}
use Rattle.jc_facts.specs.declared.sig_note.SigNote.{SigNote}
use Rattle.jc_facts.specs.Exactly.{HasExactly, NamesRise, Before}
use Rattle.jc_facts.specs.Flags.{public_flag}
use Rattle.jc_facts.specs.Names.{Bytes}
use Rattle.jc_facts.specs.Options.{some_where}
use Rattle.jc_facts.specs.world.World.{World, find_class, class_named, size}
use Rattle.jc_facts.proofs.Exactly.{OfNames, grown_start, grown_more, grown_all}
use Rattle.jc_facts.proofs.InOrder.{exact_none, exact_same}
use Rattle.jc_facts.proofs.Options.{some_where-is}
use Rattle.jc_facts.proofs.World.{find-platform}
use Rattle.jc_index.specs.Ids.{names, name_at}
use Rattle.jc_index.specs.Sides.{IsSide}
use Rattle.jc_index.proofs.Numbers.{names-in, names-length, names-rise}
use Rattle.jc_sig.specs.Notes.{signature_at, declares, sig_note_order, SigNoteStands}
use Rattle.jc_sig.specs.steps.Changes.{changed}
use Rattle.jc_sig.specs.steps.OnRecords.{noted, note_at, OnRecords, OnName}
use Rattle.jc_sig.proofs.Changes.{changed_is, changed_as, unchanged}
use Rattle.jc_sig.proofs.RecordNotes.{note_of}

-- ---- one class

module _ (O N : World) (x : Bytes) where
  no_notes : (ns : List SigNote) → ns ≡ [] → ((n : SigNote) → OnName O N x n → ⊥) → HasExactly sig_note_order (OnName O N x) ns
  no_notes ns e h = subst (HasExactly sig_note_order (OnName O N x)) (sym e) (exact_none sig_note_order (OnName O N x) h)

  same_record : (W : World) (c d : ClassFacts) (y : Bytes) → find_class W x ≡ Some c → y ≡ x → find_class W y ≡ Some d → c ≡ d
  same_record W c d y e p f = let q : Some c ≡ Some d = sym e ∙ ap (find_class W) (sym p) ∙ f in cc

  -- a class of the platform has the same signatures on both sides
  pub on_platform : O.platform ≡ N.platform → (b : Bool) → b ≡ is_some (class_named O.platform x) → b ≡ true → (ns : List SigNote) → ns ≡ [] → HasExactly sig_note_order (OnName O N x) ns
  on_platform e b f h ns empty = no_notes ns empty none
    where
      found : find_class O x ≡ find_class N x
      found =
          let there : is_some (class_named O.platform x) ≡ true = sym f ∙ h in
          find-platform O x there ∙ ap (λ (cs : List ClassFacts). class_named cs x) e ∙ sym (find-platform N x (subst (λ (cs : List ClassFacts). is_some (class_named cs x) ≡ true) e there))

      none : (n : SigNote) → OnName O N x n → ⊥
      none n p =
          let one : p.1.old ≡ p.1.new = (let q : Some p.1.old ≡ Some p.1.new = sym p.1.is_old ∙ ap (find_class O) p.0 ∙ found ∙ ap (find_class N) (sym p.0) ∙ p.1.is_new in cc) in
          let change : changed n.key (signature_at p.1.old n.key) (signature_at p.1.new n.key) ≡ Some n.change = changed_as n.key (signature_at p.1.old n.key) (signature_at p.1.new n.key) n.change p.1.changed in
          let no : changed n.key (signature_at p.1.old n.key) (signature_at p.1.new n.key) ≡ None =
          subst (λ (c : ClassFacts). changed n.key (signature_at p.1.old n.key) (signature_at c n.key) ≡ None) one (unchanged n.key (signature_at p.1.old n.key)) in
          absurd (let q : None ≡ Some n.change = sym no ∙ change in cc)

  pub on_none : find_class N x ≡ None → (ns : List SigNote) → ns ≡ [] → HasExactly sig_note_order (OnName O N x) ns
  on_none e ns empty = no_notes ns empty (λ n p. absurd (let q : None ≡ Some p.1.new = sym e ∙ ap (find_class N) (sym p.0) ∙ p.1.is_new in cc))

  pub on_hidden_old : (c : ClassFacts) → find_class O x ≡ Some c → public_flag c.flags ≡ false → (ns : List SigNote) → ns ≡ [] → HasExactly sig_note_order (OnName O N x) ns
  on_hidden_old c e h ns empty = no_notes ns empty (λ n p. absurd (
      let s = same_record O c p.1.old n.«class» e p.0 p.1.is_old in
      let t = (and_parts (public_flag p.1.old.flags) (public_flag p.1.new.flags) p.1.public).0 in
      let u : public_flag c.flags ≡ true = subst (λ (d : ClassFacts). public_flag d.flags ≡ true) (sym s) t in
      cc))

  pub on_hidden_new : (d : ClassFacts) → find_class N x ≡ Some d → public_flag d.flags ≡ false → (ns : List SigNote) → ns ≡ [] → HasExactly sig_note_order (OnName O N x) ns
  on_hidden_new d e h ns empty = no_notes ns empty (λ n p. absurd (
      let s = same_record N d p.1.new n.«class» e p.0 p.1.is_new in
      let t = (and_parts (public_flag p.1.old.flags) (public_flag p.1.new.flags) p.1.public).1 in
      let u : public_flag d.flags ≡ true = subst (λ (c : ClassFacts). public_flag c.flags ≡ true) (sym s) t in
      cc))

  module _ (c d : ClassFacts) (before : find_class O x ≡ Some c) (after : find_class N x ≡ Some d) (old : public_flag c.flags ≡ true) (new : public_flag d.flags ≡ true) where
    to : (n : SigNote) → OnRecords x c d n → OnName O N x n
    to n e =
        let i = note_of x c d n.key n e in (
          i.0,
          record {
            old = c;
            new = d;
            is_old = ap (find_class O) i.0 ∙ before;
            is_new = ap (find_class N) i.0 ∙ after;
            public = rw (old, new) refl;
            declared = i.2;
            changed = changed_is n.key (signature_at c n.key) (signature_at d n.key) n.change i.3;
          },
        )

    back : (n : SigNote) (a b : ClassFacts) → a ≡ c → b ≡ d → n.«class» ≡ x → (declares a n.key && declares b n.key) ≡ true → changed n.key (signature_at a n.key) (signature_at b n.key) ≡ Some n.change → OnRecords x c d n
    unfolding note_at
    back n a b p q i s t =
        let s1 : (declares c n.key && declares d n.key) ≡ true = subst (λ (z : ClassFacts). (declares c n.key && declares z n.key) ≡ true) q (subst (λ (z : ClassFacts). (declares z n.key && declares b n.key) ≡ true) p s) in
        let t1 : changed n.key (signature_at c n.key) (signature_at d n.key) ≡ Some n.change = subst (λ (z : ClassFacts). changed n.key (signature_at c n.key) (signature_at z n.key) ≡ Some n.change) q (subst (λ (z : ClassFacts). changed n.key (signature_at z n.key) (signature_at b n.key) ≡ Some n.change) p t) in
        rw (s1, t1) (ap (λ (y : Bytes). Some (noted y n.key n.change)) (sym i))

    from : (n : SigNote) → OnName O N x n → OnRecords x c d n
    from n p =
        back n p.1.old p.1.new (sym (same_record O c p.1.old n.«class» before p.0 p.1.is_old)) (sym (same_record N d p.1.new n.«class» after p.0 p.1.is_new)) p.0 p.1.declared
        (changed_as n.key (signature_at p.1.old n.key) (signature_at p.1.new n.key) n.change p.1.changed)

    pub on_both : (y : Bytes) → y ≡ x → (ns : List SigNote) → HasExactly sig_note_order (OnRecords y c d) ns → HasExactly sig_note_order (OnName O N x) ns
    on_both y e ns h = exact_same sig_note_order (OnRecords x c d) (OnName O N x) ns to from (subst (λ (z : Bytes). HasExactly sig_note_order (OnRecords z c d) ns) e h)

-- ---- all classes

abbrev pub OfThese : World → World → List Bytes → SigNote → Type 0
OfThese O N xs = OfNames (λ (n : SigNote). n.«class») (SigNoteStands O N) xs

module _ (O N : World) (side : IsSide O) where
  rise : NamesRise (λ x. x) (names O)
  rise = names-rise O side.differ

  apart : (f g : SigNote) → SigNoteStands O N f → SigNoteStands O N g → Before f.«class» g.«class» → sig_note_order f g ≡ Less
  apart f g p q h = rw h refl

  pub start : (ns : List SigNote) → ns ≡ [] → HasExactly sig_note_order (OfThese O N []) ns
  start = grown_start sig_note_order (λ (n : SigNote). n.«class») (SigNoteStands O N) apart (names O) rise

  pub one_more : (n k : ℕ) (ns found ms : List SigNote) → n < size O → some_where (nat_lt n (size O)) n ≡ Some k → HasExactly sig_note_order (OfThese O N (take n (names O))) ns
      → HasExactly sig_note_order (OnName O N (name_at O k)) found → ms ≡ ns ++ found → HasExactly sig_note_order (OfThese O N (take (n + 1) (names O))) ms
  one_more n k ns found ms l is h e g =
      grown_more sig_note_order (λ (n : SigNote). n.«class») (SigNoteStands O N) apart (names O) rise n ns found ms (subst (λ m. n < m) (sym (names-length O)) l) h
      (subst (λ (m : ℕ). HasExactly sig_note_order (OnName O N (name_at O m)) found) (some_where-is (nat_lt n (size O)) n k is) e) g

  pub all_classes : (n : ℕ) (ns : List SigNote) → size O ≤ n → HasExactly sig_note_order (OfThese O N (take n (names O))) ns → HasExactly sig_note_order (SigNoteStands O N) ns
  all_classes n ns l h =
      grown_all sig_note_order (λ (n : SigNote). n.«class») (SigNoteStands O N) apart (names O) rise n ns (subst (λ m. m ≤ n) (sym (names-length O)) l)
      (λ m p. names-in O m.«class» (ap is_some p.is_old)) h
