-- The text of a verdict with a front before each line, as it is put.
use Rattle.std.specs.Prelude.{ℕ, ◌+◌, ◌++◌, length}
use Rattle.jc_facts.specs.declared.verdict.Verdict.{Verdict}
use Rattle.jc_facts.specs.Names.{Bytes}
use Rattle.jc_report.specs.Text.{line_of_finding, line_of_collision, line_of_note, last_line_of}
use Rattle.jc_report.specs.Listing.{lines_from}

-- what each item is printed as, with the front before it
abbrev pub fronted : {A : Type 0} → Bytes → (A → ℕ → Bytes) → A → ℕ → Bytes
fronted front printed x number = front ++ printed x number

-- the lines of a verdict's text, in their order, with the front before each
unfoldable pub fronted_text : Bytes → Verdict → Bytes
fronted_text front v =
    lines_from (fronted front (λ f n. line_of_finding n f)) 1 v.findings ++ (lines_from (fronted front (λ c n. line_of_collision n c)) (length v.findings + 1) v.collisions
    ++ (lines_from (fronted front (λ note n. line_of_note note)) 0 v.notes ++ (front ++ last_line_of v)))
