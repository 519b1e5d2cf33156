-- The JSON of what is said of clients, with the lines of a check that explain it, as bytes.
--     used_bytes json all explained entries      the same where it is asked for, and else the text
--     used_json_of all explained entries      the object of `clients_json_of`, with the number of its line in each loss, and the lines that explain some
use Rattle.std.specs.Prelude.{ℕ, Bool, List, [], ◌∷◌, codes, Option, None, Some, if◌then◌else◌}
use Rattle.std.specs.List.{zip}
use Rattle.serde_json.specs.Data.{Data, null, boolean, number, string, array, object, put}
use Rattle.serde_json.specs.View.{items_of}
use Rattle.jc_facts.specs.declared.finding.Finding.{Finding}
use Rattle.jc_facts.specs.declared.outcome.Outcome.{Outcome}
use Rattle.jc_facts.specs.Names.{Bytes}
use Rattle.jc_answers.specs.ClientsJson.{counted, losses_with, refused_json, total_json}
use Rattle.jc_answers.specs.Used.{UsedOf, used_from}
use Rattle.jc_answers.specs.UsedText.{used_text_of}
use Rattle.jc_answers.specs.declared.answer.Answer.{Answer}
use Rattle.jc_answers.specs.declared.answer.Answer.TheVariants as answers
use Rattle.jc_report.specs.Json.{finding_json}
use Rattle.jc_report.specs.Listing.{members_of, values_from, json_line}
use Rattle.jc_report.specs.OutcomeJson.{outcome_json}

-- the object with one more member, in the byte order of their keys
abbrev pub with_member : Bytes → Data → Data → Data
with_member key value (object ms) = object (put key value ms)
with_member key value null = null
with_member key value (boolean b) = boolean b
with_member key value (number n) = number n
with_member key value (string s) = string s
with_member key value (array ds) = array ds

-- a number, or null where there is none
abbrev pub number_or_null : Option ℕ → Data
number_or_null None = null
number_or_null (Some n) = counted n

-- a loss, with the number of the line that explains it
abbrev pub loss_json : Outcome × Option ℕ → ℕ → Data
loss_json p n = with_member (codes "explained") (number_or_null p.1) (outcome_json p.0)

-- what is said of the client of this number, with the numbers of its losses
abbrev pub explained_json : Answer → List (Option ℕ) → ℕ → Data
explained_json (answers.Judged l) numbers n = losses_with n l (values_from loss_json 0 (zip l.lost numbers))
explained_json (answers.Refused stop) numbers n = refused_json n stop

abbrev pub explained_client_json : Answer × List (Option ℕ) → ℕ → Data
explained_client_json p n = explained_json p.0 p.1 n

-- a line that explains a loss, as `check` gives it, with how many clients it breaks
abbrev pub used_line_json : UsedOf → ℕ → Data
used_line_json u n = with_member (codes "clients") (counted u.clients) (finding_json u.number u.finding)

-- the whole, of the objects of clients, the total, and the objects of lines
abbrev pub used_with : List Data → Data → List Data → Data
used_with clients total used = object (members_of (
    (codes "clients", array (items_of clients)) ∷
    (codes "total", total) ∷
    (codes "used", array (items_of used)) ∷ []))

abbrev pub used_json : List Answer → List (List (Option ℕ)) → List Finding → Data
used_json all explained entries =
    used_with (values_from explained_client_json 1 (zip all explained)) (total_json all) (values_from used_line_json 0 (used_from explained 1 entries))

unfoldable pub used_json_of : List Answer → List (List (Option ℕ)) → List Finding → Bytes
used_json_of all explained entries = json_line (used_json all explained entries)

-- the same where it is asked for, and else the text
abbrev pub used_bytes : Bool → List Answer → List (List (Option ℕ)) → List Finding → Bytes
used_bytes json all explained entries = if json then used_json_of all explained entries else used_text_of all explained entries
