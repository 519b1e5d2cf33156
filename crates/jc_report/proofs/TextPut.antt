-- The text of a verdict, put line by line.
use Rattle.std.proofs.Common.{◌≡◌, ◌<◌, ◌+◌, ℕ, List, [], ◌∷◌, ◌++◌, Option, length, drop, get_or, refl, sym, ap, subst, ◌∙◌, append_assoc, arith}
use Rattle.std.proofs.lemmas.List.{at_drop_more}
use Rattle.jc_base.specs.Outside.{TakesAll, TakesFront}
use Rattle.jc_facts.specs.declared.finding.Finding.{Finding}
use Rattle.jc_facts.specs.declared.verdict.Collision.{Collision}
use Rattle.jc_facts.specs.declared.verdict.Note.{Note}
use Rattle.jc_facts.specs.declared.verdict.Verdict.{Verdict}
use Rattle.jc_facts.specs.Names.{Bytes}
use Rattle.jc_report.specs.Text.{line_of_finding, lines_of_findings, line_of_collision, lines_of_collisions, line_of_note, lines_of_notes, last_line_of, text_of}
use Rattle.jc_report.specs.Listing.{lines_from}
use Rattle.jc_report.specs.steps.Fronted.{fronted, fronted_text}
use Rattle.jc_report.proofs.Puts.{IsPut, put_nothing, put_more, put_failed, put_all, put_last_failed}

-- ---- lines

abbrev pub Taken : Type 0
Taken = Option Bytes

-- the lines of all items are to come
pub no_line : {A : Type 0} (printed : A → ℕ → Bytes) (first : ℕ) (xs : List A) (a : Taken) → IsPut a a (lines_from printed (first + 0) xs) (lines_from printed first xs)
no_line printed first xs a =
    let same_number : first + 0 ≡ first = omega arith in
    subst (λ n. IsPut a a (lines_from printed n xs) (lines_from printed first xs)) (sym same_number) (put_nothing a (lines_from printed first xs))

-- the next item's line comes next
pub next_line : {A : Type 0} (printed : A → ℕ → Bytes) (first : ℕ) (xs : List A) (i : ℕ) (x : A) (total : Bytes) (a b : Taken) → i < length xs → x ≡ get_or xs i x
    → IsPut a b (lines_from printed (first + i) (drop i xs)) total → IsPut a b (printed x (first + i) ++ lines_from printed (first + (i + 1)) (drop (i + 1) xs)) total
next_line {A} printed first xs i x total a b lt is h =
    let next : first + i + 1 ≡ first + (i + 1) = omega arith in
    subst (λ n. IsPut a b (printed x (first + i) ++ lines_from printed n (drop (i + 1) xs)) total) next
    (subst (λ (t : Bytes). IsPut a b t total) (at_drop_more (lines_from printed (first + i)) xs i x lt ∙ ap (λ (y : A). lines_from printed (first + i) (y ∷ drop (i + 1) xs)) (sym is)) h)

-- ---- the text

finding_lines : (n : ℕ) (fs : List Finding) → lines_from (λ f m. line_of_finding m f) n fs ≡ lines_of_findings n fs
finding_lines n [] = refl
finding_lines n (f ∷ fs) = ap (λ (t : Bytes). line_of_finding n f ++ t) (finding_lines (n + 1) fs)

collision_lines : (n : ℕ) (cs : List Collision) → lines_from (λ c m. line_of_collision m c) n cs ≡ lines_of_collisions n cs
collision_lines n [] = refl
collision_lines n (c ∷ cs) = ap (λ (t : Bytes). line_of_collision n c ++ t) (collision_lines (n + 1) cs)

note_lines : (n : ℕ) (ns : List Note) → lines_from (λ (note : Note) m. line_of_note note) n ns ≡ lines_of_notes ns
note_lines n [] = refl
note_lines n (x ∷ ns) = ap (λ (t : Bytes). line_of_note x ++ t) (note_lines (n + 1) ns)

module _ (v : Verdict) where
  abbrev pub findings : Bytes
  findings = lines_from (λ f m. line_of_finding m f) 1 v.findings

  abbrev pub collisions : Bytes
  collisions = lines_from (λ c m. line_of_collision m c) (length v.findings + 1) v.collisions

  abbrev pub notes : Bytes
  notes = lines_from (λ (note : Note) m. line_of_note note) 0 v.notes

  abbrev pub last : Bytes
  last = last_line_of v

  pub parts : text_of v ≡ findings ++ (collisions ++ (notes ++ last))
  unfolding text_of
  parts =
      append_assoc (lines_of_findings 1 v.findings ++ lines_of_collisions (length v.findings + 1) v.collisions) (lines_of_notes v.notes) last
      ∙ append_assoc (lines_of_findings 1 v.findings) (lines_of_collisions (length v.findings + 1) v.collisions) (lines_of_notes v.notes ++ last)
      ∙ ap (λ (t : Bytes). t ++ (lines_of_collisions (length v.findings + 1) v.collisions ++ (lines_of_notes v.notes ++ last))) (sym (finding_lines 1 v.findings))
      ∙ ap (λ (t : Bytes). findings ++ (t ++ (lines_of_notes v.notes ++ last))) (sym (collision_lines (length v.findings + 1) v.collisions))
      ∙ ap (λ (t : Bytes). findings ++ (collisions ++ (t ++ last))) (sym (note_lines 0 v.notes))

  -- the text that is made in the order of its lines
  pub joined : ((findings ++ collisions) ++ notes) ++ last ≡ text_of v
  joined = append_assoc (findings ++ collisions) notes last ∙ append_assoc findings collisions (notes ++ last) ∙ sym parts

  -- with nothing before them
  pub bare_is : fronted_text [] v ≡ text_of v
  unfolding fronted_text
  bare_is = sym parts

-- ---- the text with a front before each line

module _ (front : Bytes) (v : Verdict) where
  abbrev pub finding_part : Bytes
  finding_part = lines_from (fronted front (λ f m. line_of_finding m f)) 1 v.findings

  abbrev pub collision_part : Bytes
  collision_part = lines_from (fronted front (λ c m. line_of_collision m c)) (length v.findings + 1) v.collisions

  abbrev pub note_part : Bytes
  note_part = lines_from (fronted front (λ (note : Note) m. line_of_note note)) 0 v.notes

  abbrev pub last_part : Bytes
  last_part = front ++ last_line_of v

  module _ (a b : Taken) where
    start : IsPut a a (finding_part ++ (collision_part ++ (note_part ++ last_part))) (fronted_text front v)
    unfolding fronted_text
    start = put_nothing a (fronted_text front v)

    pub findings_failed : TakesFront a b finding_part → TakesFront a b (fronted_text front v)
    findings_failed h = put_failed a a b finding_part (collision_part ++ (note_part ++ last_part)) (fronted_text front v) start h

    module _ (c : Taken) (first : TakesAll a b finding_part) where
      then_collisions : IsPut a b (collision_part ++ (note_part ++ last_part)) (fronted_text front v)
      then_collisions = put_more a a b finding_part (collision_part ++ (note_part ++ last_part)) (fronted_text front v) start first

      pub collisions_failed : TakesFront b c collision_part → TakesFront a c (fronted_text front v)
      collisions_failed h = put_failed a b c collision_part (note_part ++ last_part) (fronted_text front v) then_collisions h

      module _ (d : Taken) (second : TakesAll b c collision_part) where
        then_notes : IsPut a c (note_part ++ last_part) (fronted_text front v)
        then_notes = put_more a b c collision_part (note_part ++ last_part) (fronted_text front v) then_collisions second

        pub notes_failed : TakesFront c d note_part → TakesFront a d (fronted_text front v)
        notes_failed h = put_failed a c d note_part last_part (fronted_text front v) then_notes h

        module _ (e : Taken) (third : TakesAll c d note_part) where
          then_last : IsPut a d last_part (fronted_text front v)
          then_last = put_more a c d note_part last_part (fronted_text front v) then_notes third

          pub last_failed : TakesFront d e last_part → TakesFront a e (fronted_text front v)
          last_failed h = put_last_failed a d e last_part (fronted_text front v) then_last h

          pub last_put : TakesAll d e last_part → TakesAll a e (fronted_text front v)
          last_put h = put_all a d e last_part (fronted_text front v) then_last h
