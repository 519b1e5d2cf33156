-- The JSON of what is said of clients, as bytes.
--     clients_json_of all      one object, by what `serde_json` means by a text
--     clients_bytes json all      the same where it is asked for, and else the text
use Rattle.std.specs.Prelude.{ℕ, Bool, List, [], ◌∷◌, length, count_by, codes, if◌then◌else◌}
use Rattle.serde_json.specs.Data.{Data, null, number, unsigned, string, array, object}
use Rattle.serde_json.specs.View.{items_of}
use Rattle.jc_facts.specs.declared.outcome.Outcome.{Outcome}
use Rattle.jc_facts.specs.Names.{Bytes}
use Rattle.jc_losses.specs.declared.losses.Losses.{Losses}
use Rattle.jc_answers.specs.ClientsText.{is_broken, is_refused, clients_text_of}
use Rattle.jc_answers.specs.declared.answer.Answer.{Answer}
use Rattle.jc_answers.specs.declared.answer.Answer.TheVariants as answers
use Rattle.jc_releases.specs.Stop.{client_part_name, file_words, unread_words}
use Rattle.jc_releases.specs.declared.stop.Stop.{Stop}
use Rattle.jc_releases.specs.declared.stop.Stop.TheVariants as stops
use Rattle.jc_report.specs.Listing.{members_of, values_from, json_line}
use Rattle.jc_report.specs.OutcomeJson.{outcome_json}
use Rattle.jc_report.specs.Text.{printed}
use Rattle.jc_trees.specs.declared.file_fault.TreeFault.{TreeFault}
use Rattle.jc_trees.specs.declared.file_fault.TreeFault.TheVariants as tree_faults

abbrev pub counted : ℕ → Data
counted n = number (unsigned n)

-- ---- why a client isn't linked

abbrev pub refusal_with : Data → Data → Bytes → Data
refusal_with class path reason = object (members_of (
    (codes "class", class) ∷
    (codes "path", path) ∷
    (codes "reason", string reason) ∷ []))

-- a class file that isn't read, or the whole tree
abbrev pub unread_json : TreeFault → Data
unread_json tree_faults.TooManyFiles = refusal_with null null (unread_words tree_faults.TooManyFiles)
unread_json tree_faults.LongPath = refusal_with null null (unread_words tree_faults.LongPath)
unread_json (tree_faults.File path fault) = refusal_with null (string (printed path)) (file_words fault)

-- or a class whose name isn't allowed; nothing else refuses a client
abbrev pub refusal_json : Stop → Data
refusal_json (stops.Usage usage) = null
refusal_json (stops.Unread tree fault) = unread_json fault
refusal_json (stops.BadRoot part) = null
refusal_json (stops.Overlap tree name) = null
refusal_json (stops.ClientName name part) = refusal_with (string (printed name)) null (client_part_name part)
refusal_json (stops.TooMany part) = null
refusal_json (stops.ReadFault tree) = null
refusal_json stops.Memory = null

-- ---- a client

abbrev pub client_with : ℕ → Data → Data → Data → Data → Data → Data
client_with n classes errors lost outcomes refusal = object (members_of (
    (codes "classes", classes) ∷
    (codes "errors", errors) ∷
    (codes "lost", lost) ∷
    (codes "number", counted n) ∷
    (codes "outcomes", outcomes) ∷
    (codes "refusal", refusal) ∷ []))

-- how many classes, errors and outcomes there are with the old release, and what is lost, whose objects are these
abbrev pub losses_with : ℕ → Losses → List Data → Data
losses_with n l lost = client_with n (counted l.classes) (counted l.errors) (array (items_of lost)) (counted l.outcomes) null

abbrev pub losses_json : ℕ → Losses → Data
losses_json n l = losses_with n l (values_from (λ (o : Outcome) (i : ℕ). outcome_json o) 0 l.lost)

abbrev pub refused_json : ℕ → Stop → Data
refused_json n stop = client_with n null null null null (refusal_json stop)

-- the client of this number
abbrev pub client_json : Answer → ℕ → Data
client_json (answers.Judged losses) n = losses_json n losses
client_json (answers.Refused stop) n = refused_json n stop

-- ---- all clients

-- how many there are, how many of them lose something, and how many aren't linked
abbrev pub total_json : List Answer → Data
total_json all = object (members_of (
    (codes "broken", counted (count_by is_broken all)) ∷
    (codes "clients", counted (length all)) ∷
    (codes "refused", counted (count_by is_refused all)) ∷ []))

abbrev pub clients_json : List Answer → Data
clients_json all = object (members_of (
    (codes "clients", array (items_of (values_from client_json 1 all))) ∷
    (codes "total", total_json all) ∷ []))

unfoldable pub clients_json_of : List Answer → Bytes
clients_json_of all = json_line (clients_json all)

abbrev pub clients_bytes : Bool → List Answer → Bytes
clients_bytes json all = if json then clients_json_of all else clients_text_of all
