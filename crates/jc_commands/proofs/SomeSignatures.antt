-- Two sides have notes on signatures: what stands on their subjects, in order. There is one list of them.
--     some_sig_notes      there is a list
--     sig_notes_are_one      there is no other
--     noted_one      what is reported of them is one
use Rattle.std.proofs.Common.{◌≡◌, ◌∙◌, ◌==◌, ◌&&◌, Bool, true, false, cond, ℕ, List, ◌++◌, Option, Some, None, refl, sym, ap, subst}
use Rattle.std.specs.Prelude.{option_map}
use Rattle.std.specs.List.{Contains, filter_map}
use Rattle.std.specs.Cmp.{IsTotalOrder, then_total, on_total}
use Rattle.std.specs.Cmp.Lexicographic.{nat_list_cmp_total, options_total}
use Rattle.std.specs.Option.{option_cmp}
use Rattle.std.specs.Ordering.{ordering_then}
use Rattle.std.proofs.lemmas.Bool.{and_parts, eqb-true}
use Rattle.std.proofs.lemmas.List.Elements.{Contains-append_left}
use Rattle.jc_facts.specs.declared.class_facts.ClassFacts.{ClassFacts}
use Rattle.jc_facts.specs.declared.key.Key.{Key}
use Rattle.jc_facts.specs.declared.sig_note.SigNote.{SigNote}
use Rattle.jc_facts.specs.Exactly.{HasExactly, name_order}
use Rattle.jc_facts.specs.Flags.{public_flag}
use Rattle.jc_facts.specs.KeyOrder.{key_cmp, key_total}
use Rattle.jc_facts.specs.Names.{Bytes}
use Rattle.jc_promises.specs.rule.Findings.{Subject}
use Rattle.jc_facts.specs.world.World.{World, classes, find_class}
use Rattle.jc_facts.proofs.InOrder.{exact_same}
use Rattle.jc_facts.proofs.World.{find-name}
use Rattle.jc_sound.proofs.ExactLists.{exact_list}
use Rattle.jc_sound.proofs.VerdictLaw.{exactly_one}
use Rattle.jc_sides.proofs.Subjects.{subject_order}
use Rattle.jc_sig.specs.Notes.{signature_at, declares, sig_note_order, SigNoteStands}
use Rattle.jc_sig.specs.steps.Changes.{changed}
use Rattle.jc_sig.specs.steps.OnRecords.{noted, note_with, note_at}
use Rattle.jc_sig.proofs.Changes.{changed_is, changed_as}
use Rattle.jc_sig.proofs.RecordNotes.{note_of}
use Rattle.jc_commands.specs.Signatures.{AreSigNotes, AreNoted}
use Rattle.jc_commands.proofs.Declarations.{found_in_world, class_key}
use Rattle.jc_commands.proofs.SomeVerdict.{last_tied}
use Rattle.jc_commands.proofs.Subjects.{on_subject, is_rule, none_or, names, keys, name_of, subjects, covered}

-- ---- notes by subject

abbrev sig_subject : SigNote → Subject
sig_subject n = on_subject 0 n.«class» n.key None

sig_ordered : (m n : SigNote) → subject_order (sig_subject m) (sig_subject n) ≡ sig_note_order m n
sig_ordered m n = ap (ordering_then (name_order m.«class» n.«class»)) (last_tied (option_cmp key_cmp m.key n.key))

module _ (O N : World) where
  -- that of two records of the class, public on both sides
  abbrev noted_by : Bytes → Option Key → Option ClassFacts → Option ClassFacts → Option SigNote
  noted_by x key (Some c) (Some d) = cond (public_flag c.flags && public_flag d.flags) (note_at x c d key) None
  noted_by x key (Some c) None = None
  noted_by x key None o = None

  abbrev sig_note_at : Bytes → Option Key → Option SigNote
  sig_note_at x key = noted_by x key (find_class O x) (find_class N x)

  abbrev sig_note_by : Subject → Option Bytes → Option SigNote
  sig_note_by s None = cond (s.rule == 0) (sig_note_at s.«class» s.key) None
  sig_note_by s (Some t) = None

  abbrev sig_note_on : Subject → Option SigNote
  sig_note_on s = sig_note_by s s.target

  record IsNoteOn (x : Bytes) (key : Option Key) (n : SigNote) : Type 0 where
    class_is : n.«class» ≡ x
    key_is : n.key ≡ key
    stands : SigNoteStands O N n

  note_given : (x : Bytes) (key : Option Key) (n : SigNote) → sig_note_at x key ≡ Some n → IsNoteOn x key n
  note_given x key n e = go (find_class O x) refl (find_class N x) refl e
    where
      both : (c d : ClassFacts) → find_class O x ≡ Some c → find_class N x ≡ Some d → (b : Bool) → (public_flag c.flags && public_flag d.flags) ≡ b → cond b (note_at x c d key) None ≡ Some n → IsNoteOn x key n
      both c d p q true t r =
          let i = note_of x c d key n r in
          record {
            class_is = i.0;
            key_is = i.1;
            stands = record {
              old = c;
              new = d;
              is_old = ap (find_class O) i.0 ∙ p;
              is_new = ap (find_class N) i.0 ∙ q;
              public = t;
              declared = subst (λ (k : Option Key). (declares c k && declares d k) ≡ true) (sym i.1) i.2;
              changed = changed_is n.key (signature_at c n.key) (signature_at d n.key) n.change (subst (λ (k : Option Key). changed k (signature_at c k) (signature_at d k) ≡ Some n.change) (sym i.1) i.3);
            };
          }
      both c d p q false t r = absurd (let clash : None ≡ Some n = r in cc)

      go : (o : Option ClassFacts) → find_class O x ≡ o → (m : Option ClassFacts) → find_class N x ≡ m → noted_by x key o m ≡ Some n → IsNoteOn x key n
      go (Some c) p (Some d) q r = both c d p q (public_flag c.flags && public_flag d.flags) refl r
      go (Some c) p None q r = absurd (let clash : None ≡ Some n = r in cc)
      go None p m q r = absurd (let clash : None ≡ Some n = r in cc)

  note_found : (n : SigNote) → SigNoteStands O N n → sig_note_on (sig_subject n) ≡ Some n
  unfolding note_at
  note_found n h =
      ap (λ (o : Option ClassFacts). noted_by n.«class» n.key o (find_class N n.«class»)) h.is_old
      ∙ ap (λ (o : Option ClassFacts). noted_by n.«class» n.key (Some h.old) o) h.is_new
      ∙ ap (λ (b : Bool). cond b (note_at n.«class» h.old h.new n.key) None) h.public
      ∙ ap (λ (b : Bool). note_with n.«class» n.key b (signature_at h.old n.key) (signature_at h.new n.key)) h.declared
      ∙ ap (option_map (noted n.«class» n.key)) (changed_as n.key (signature_at h.old n.key) (signature_at h.new n.key) n.change h.changed)

  note_stands : (n : SigNote) → sig_note_on (sig_subject n) ≡ Some n → SigNoteStands O N n
  note_stands n e = (note_given n.«class» n.key n e).stands

  note_is_on : (s : Subject) (n : SigNote) → sig_note_on s ≡ Some n → sig_subject n ≡ s
  note_is_on s n e = go s.target refl e
    where
      of_rule : (b : Bool) → (s.rule == 0) ≡ b → s.target ≡ None → cond b (sig_note_at s.«class» s.key) None ≡ Some n → sig_subject n ≡ s
      of_rule true p t r =
          let i = note_given s.«class» s.key n r in
          ap (λ (x : Bytes). on_subject 0 x n.key None) i.class_is
          ∙ ap (λ (k : Option Key). on_subject 0 s.«class» k None) i.key_is
          ∙ sym (ap (λ (m : ℕ). on_subject m s.«class» s.key s.target) (eqb-true s.rule 0 p) ∙ ap (λ (o : Option Bytes). on_subject 0 s.«class» s.key o) t)
      of_rule false p t r = absurd (let clash : None ≡ Some n = r in cc)

      go : (t : Option Bytes) → s.target ≡ t → sig_note_by s t ≡ Some n → sig_subject n ≡ s
      go None p r = of_rule (s.rule == 0) refl p r
      go (Some t) p r = absurd (let clash : None ≡ Some n = r in cc)

  -- the class of a note is one of the old side's, and its key one that the class declares
  note_covered : (n : SigNote) → sig_note_on (sig_subject n) ≡ Some n → Contains (subjects O N).items (sig_subject n)
  note_covered n e =
      let s = note_stands n e in
      let there : Contains (classes O ++ classes N) s.old = Contains-append_left (classes O) (classes N) s.old (found_in_world O n.«class» s.old s.is_old) in
      covered O N (sig_subject n) (is_rule 0 refl) (name_of O N n.«class» s.old there (find-name O n.«class» s.old s.is_old))
      (none_or (keys O N) n.key (λ k is. class_key k (classes O ++ classes N) s.old there
      (and_parts (declares s.old (Some k)) (declares s.new (Some k)) (subst (λ (key : Option Key). (declares s.old key && declares s.new key) ≡ true) is s.declared)).0))
      (none_or (names O N) None (λ t is. absurd (let clash : None ≡ Some t = is in cc)))

  abbrev all_notes : List SigNote
  all_notes = filter_map sig_note_on (subjects O N).items

  pub some_sig_notes : (ns : List SigNote) × AreSigNotes O N ns
  some_sig_notes = (
    all_notes,
    exact_same sig_note_order (λ n. sig_note_on (sig_subject n) ≡ Some n) (SigNoteStands O N) all_notes note_stands note_found
        (subst (λ order. HasExactly order (λ n. sig_note_on (sig_subject n) ≡ Some n) all_notes) (λ i m n. sig_ordered m n i)
        (exact_list subject_order sig_note_on sig_subject note_is_on (subjects O N).items (subjects O N).in_order (λ n e. note_covered n e))),
  )

-- ---- there is one list

sig_note_total : IsTotalOrder sig_note_order
sig_note_total = then_total (on_total (λ (n : SigNote). n.«class») nat_list_cmp_total) (on_total (λ (n : SigNote). n.key) (options_total key_total))

pub sig_notes_are_one : (O N : World) (ms ns : List SigNote) → AreSigNotes O N ms → AreSigNotes O N ns → ms ≡ ns
sig_notes_are_one O N ms ns a b = exactly_one sig_note_order sig_note_total (SigNoteStands O N) ms ns a b

-- ---- what is reported

pub noted_on : (b : Bool) (O N : World) → (o : Option (List SigNote)) × AreNoted b O N o
noted_on false O N = (None, tt)
noted_on true O N = let ns = some_sig_notes O N in (Some ns.0, ns.1)

pub noted_one : (b : Bool) (O N : World) (p q : Option (List SigNote)) → AreNoted b O N p → AreNoted b O N q → p ≡ q
noted_one true O N (Some ms) (Some ns) h k = ap (λ (xs : List SigNote). Some xs) (sig_notes_are_one O N ms ns h k)
noted_one true O N (Some ms) None h k = absurd k
noted_one true O N None q h k = absurd h
noted_one false O N None None h k = refl
noted_one false O N None (Some ns) h k = absurd k
noted_one false O N (Some ms) q h k = absurd h

-- those that are asked for are a list, the one of the two sides
pub noted_list : (b : Bool) (O N : World) (o : Option (List SigNote)) → b ≡ true → AreNoted b O N o → (ns : List SigNote) × (o ≡ Some ns) × AreSigNotes O N ns
noted_list true O N (Some ns) e h = (ns, refl, h)
noted_list true O N None e h = absurd h
noted_list false O N o e h = absurd (let clash : false ≡ true = e in cc)
