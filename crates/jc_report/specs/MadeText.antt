-- The printed form of the verdict on generated releases, as bytes.
--     made_text_of n v      five lines: how many classes there are, findings, collisions and notes, and the word of the verdict
use Rattle.std.specs.Prelude.{ℕ, ◌++◌, length, codes}
use Rattle.std.specs.Fmt.{decimal}
use Rattle.jc_facts.specs.declared.verdict.Verdict.{Verdict}
use Rattle.jc_facts.specs.Names.{Bytes}
use Rattle.jc_report.specs.Text.{verdict_word}

-- the line of a word and a number
abbrev pub line_of_count : Bytes → ℕ → Bytes
line_of_count word n = word ++ codes " " ++ decimal n ++ codes "\n"

-- the text of the verdict on two releases of n classes
unfoldable pub made_text_of : ℕ → Verdict → Bytes
made_text_of n v =
    line_of_count (codes "classes") n
    ++ line_of_count (codes "findings") (length v.findings)
    ++ line_of_count (codes "collisions") (length v.collisions)
    ++ line_of_count (codes "notes") (length v.notes)
    ++ codes "verdict " ++ verdict_word v.findings ++ codes "\n"
