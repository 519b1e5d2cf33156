-- The printed form of what is said of clients, with the lines of a check that explain it, as bytes.
--     used_text_of all explained entries      `clients_text_of`, with the number of its line after each loss, and the lines that explain some
use Rattle.std.specs.Prelude.{ℕ, true, List, ◌++◌, codes, Option, None, Some}
use Rattle.std.specs.Fmt.{decimal}
use Rattle.std.specs.List.{zip}
use Rattle.jc_facts.specs.declared.finding.Finding.{Finding}
use Rattle.jc_facts.specs.declared.outcome.Outcome.{Outcome}
use Rattle.jc_facts.specs.Names.{Bytes}
use Rattle.jc_answers.specs.ClientsText.{last_line_of_losses, client_front, last_line_of_clients}
use Rattle.jc_answers.specs.Used.{UsedOf, used_from}
use Rattle.jc_answers.specs.declared.answer.Answer.{Answer}
use Rattle.jc_answers.specs.declared.answer.Answer.TheVariants as answers
use Rattle.jc_releases.specs.Stop.{line_of}
use Rattle.jc_report.specs.HistoryText.{with_front}
use Rattle.jc_report.specs.LinkText.{words_of_subject, word_of_outcome}
use Rattle.jc_report.specs.Listing.{lines_from}
use Rattle.jc_report.specs.Text.{line_of_finding}

-- a number, or - where there is none
abbrev pub printed_number : Option ℕ → Bytes
printed_number None = codes "-"
printed_number (Some n) = decimal n

-- a loss, as `link` prints that outcome with the new release, and the number of the line that explains it
abbrev pub line_of_loss : Outcome × Option ℕ → ℕ → Bytes
line_of_loss p n = words_of_subject p.0.class p.0.item ++ codes " " ++ word_of_outcome p.0.error ++ codes " " ++ printed_number p.1 ++ codes "\n"

-- what is said of a client, with the numbers of its losses; of one that isn't linked, the line that says why
abbrev pub explained_text_of : Answer → List (Option ℕ) → Bytes
explained_text_of (answers.Judged l) numbers = lines_from line_of_loss 0 (zip l.lost numbers) ++ last_line_of_losses l
explained_text_of (answers.Refused stop) numbers = line_of stop

-- the lines of a client of this number
abbrev pub explained_client_of : Answer × List (Option ℕ) → ℕ → Bytes
explained_client_of p n = with_front (client_front n) true (explained_text_of p.0 p.1)

-- a line that explains a loss: how many clients it breaks, and the line as `check` prints it, which begins with its number
abbrev pub line_of_used : UsedOf → ℕ → Bytes
line_of_used u n = codes "used " ++ decimal u.clients ++ codes " " ++ line_of_finding u.number u.finding

-- of each client what is said of it, then the lines that explain it, and the last line
unfoldable pub used_text_of : List Answer → List (List (Option ℕ)) → List Finding → Bytes
used_text_of all explained entries =
    lines_from explained_client_of 1 (zip all explained) ++ lines_from line_of_used 0 (used_from explained 1 entries) ++ last_line_of_clients all
