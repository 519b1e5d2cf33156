-- The JSON of outcomes.
--     outcome_json o      one as an object, of the words of its line; what isn't there is null
use Rattle.std.specs.Prelude.{[], ◌∷◌, ◌++◌, Option, Some, None, codes}
use Rattle.serde_json.specs.Data.{Data, null, string, object}
use Rattle.jc_facts.specs.declared.client.Item.{Item}
use Rattle.jc_facts.specs.declared.client.Item.TheVariants as items
use Rattle.jc_facts.specs.declared.link_error.LinkError.{LinkError}
use Rattle.jc_facts.specs.declared.outcome.Outcome.{Outcome}
use Rattle.jc_facts.specs.Names.{Bytes}
use Rattle.jc_report.specs.Json.{name_or_null}
use Rattle.jc_report.specs.Listing.{members_of}
use Rattle.jc_report.specs.Text.{printed, printed_key, word_of_act, name_of_error}

-- ---- an item

abbrev pub word_of_item : Item → Bytes
word_of_item (items.Class t) = codes "class"
word_of_item (items.New t d) = codes "new"
word_of_item (items.Init t d) = codes "init"
word_of_item (items.Access act t k r place) = word_of_act act
word_of_item (items.Assign s t) = codes "assign"

-- the class that it names; of an assignment the type of the value
abbrev pub class_of_item : Item → Bytes
class_of_item (items.Class t) = t
class_of_item (items.New t d) = t
class_of_item (items.Init t d) = t
class_of_item (items.Access act t k r place) = t
class_of_item (items.Assign s t) = s

-- the member of that class; of an assignment the type that the value is used as
abbrev pub member_of_item : Item → Data
member_of_item (items.Class t) = null
member_of_item (items.New t d) = string (codes "<init>" ++ printed d)
member_of_item (items.Init t d) = string (codes "<init>" ++ printed d)
member_of_item (items.Access act t k r place) = string (printed_key k)
member_of_item (items.Assign s t) = string (printed t)

-- the type of the value that the member is used on, where it is known
abbrev pub receiver_of_item : Item → Data
receiver_of_item (items.Class t) = null
receiver_of_item (items.New t d) = null
receiver_of_item (items.Init t d) = null
receiver_of_item (items.Access act t k r place) = name_or_null r
receiver_of_item (items.Assign s t) = null

-- ---- an outcome

-- the name of the error, or null where the outcome is Ok
abbrev pub error_or_null : Option LinkError → Data
error_or_null None = null
error_or_null (Some e) = string (name_of_error e)

abbrev pub outcome_with : Bytes → Option LinkError → Data → Data → Data → Data → Data
outcome_with x error member name operation receiver = object (members_of (
    (codes "class", string (printed x)) ∷
    (codes "error", error_or_null error) ∷
    (codes "member", member) ∷
    (codes "name", name) ∷
    (codes "operation", operation) ∷
    (codes "receiver", receiver) ∷ []))

-- the outcome of the class itself, or of an item of it
abbrev pub outcome_of : Bytes → Option LinkError → Option Item → Data
outcome_of x error None = outcome_with x error null null null null
outcome_of x error (Some i) = outcome_with x error (member_of_item i) (string (printed (class_of_item i))) (string (word_of_item i)) (receiver_of_item i)

abbrev pub outcome_json : Outcome → Data
outcome_json o = outcome_of o.class o.error o.item
