-- The printed form of outcomes, as bytes.
--     link_text_of os      a line for each outcome, and the last line
use Rattle.std.specs.Prelude.{ℕ, List, [], ◌∷◌, ◌++◌, ◌==◌, length, count_by, Option, Some, None, is_some, codes, if◌then◌else◌}
use Rattle.std.specs.Fmt.{decimal}
use Rattle.jc_facts.specs.declared.client.Item.{Item}
use Rattle.jc_facts.specs.declared.client.Item.TheVariants as items
use Rattle.jc_facts.specs.declared.link_error.LinkError.{LinkError}
use Rattle.jc_facts.specs.declared.outcome.Outcome.{Outcome}
use Rattle.jc_facts.specs.Names.{Bytes}
use Rattle.jc_report.specs.Text.{printed, printed_key, printed_name, word_of_act, name_of_error}

-- Ok, or the error
abbrev pub word_of_outcome : Option LinkError → Bytes
word_of_outcome None = codes "ok"
word_of_outcome (Some e) = name_of_error e

-- the act, the class, the member and the receiver of an item, with - for what isn't there. An assignment has its two types as class
-- and member
abbrev pub words_of_item : Item → Bytes
words_of_item (items.Class t) = codes "class " ++ printed t ++ codes " - -"
words_of_item (items.New t d) = codes "new " ++ printed t ++ codes " <init>" ++ printed d ++ codes " -"
words_of_item (items.Init t d) = codes "init " ++ printed t ++ codes " <init>" ++ printed d ++ codes " -"
words_of_item (items.Access act t k r place) = word_of_act act ++ codes " " ++ printed t ++ codes " " ++ printed_key k ++ codes " " ++ printed_name r
words_of_item (items.Assign s t) = codes "assign " ++ printed s ++ codes " " ++ printed t ++ codes " -"

-- what comes of the outcome: a class, or an item of one
abbrev pub words_of_subject : Bytes → Option Item → Bytes
words_of_subject x None = codes "class " ++ printed x
words_of_subject x (Some i) = codes "item " ++ printed x ++ codes " " ++ words_of_item i

-- the line of an outcome
unfoldable pub line_of_outcome : Outcome → Bytes
line_of_outcome o = words_of_subject o.class o.item ++ codes " " ++ word_of_outcome o.error ++ codes "\n"

-- the lines of outcomes
abbrev pub lines_of_outcomes : List Outcome → Bytes
lines_of_outcomes [] = []
lines_of_outcomes (o ∷ os) = line_of_outcome o ++ lines_of_outcomes os

-- how many aren't Ok
abbrev pub errors_of : List Outcome → ℕ
errors_of os = count_by (λ o. is_some o.error) os

-- links where none is an error
abbrev pub word_of_link : ℕ → Bytes
word_of_link errors = if errors == 0 then codes "links" else codes "refused"

-- the last line: the word, and how many outcomes and errors there are
abbrev pub last_line_of_link : List Outcome → Bytes
last_line_of_link os = word_of_link (errors_of os) ++ codes ": " ++ decimal (length os) ++ codes " outcomes, " ++ decimal (errors_of os) ++ codes " errors\n"

-- the text of outcomes: a line for each, and the last line
unfoldable pub link_text_of : List Outcome → Bytes
link_text_of os = lines_of_outcomes os ++ last_line_of_link os
