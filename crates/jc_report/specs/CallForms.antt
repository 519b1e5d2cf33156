-- The printed forms of lines on calls, as bytes: lines, and JSON.
use Rattle.std.specs.Prelude.{Bool, Option, None, List, [], ◌∷◌, ◌++◌, codes}
use Rattle.serde_json.specs.Data.{Data, string, object}
use Rattle.jc_call_kinds.specs.declared.call_line.CallKind.{CallKind}
use Rattle.jc_call_kinds.specs.declared.call_line.CallKind.TheVariants.{Reference, Access, Joined, Constants}
use Rattle.jc_call_kinds.specs.declared.call_line.CallLine.{CallLine}
use Rattle.jc_facts.specs.Names.{Bytes}
use Rattle.jc_report.specs.Json.{member_or_null, name_or_null}
use Rattle.jc_report.specs.Listing.{members_of, part_bytes}
use Rattle.jc_report.specs.Text.{printed, printed_member}

abbrev pub word_of_call : CallKind → Bytes
word_of_call Reference = codes "reference"
word_of_call Access = codes "access"
word_of_call Joined = codes "joined"
word_of_call Constants = codes "constants"

-- the line of one: class, member or superclass or - for the class itself, and kind, with single spaces
unfoldable pub line_of_call : CallLine → Bytes
line_of_call l = codes "call " ++ printed l.class ++ codes " " ++ printed_member l.key l.target ++ codes " " ++ word_of_call l.kind ++ codes "\n"

-- one as an object; what it doesn't have is null
abbrev pub call_value_of : CallLine → Data
call_value_of l = object (members_of (
    (codes "class", string (printed l.class)) ∷
    (codes "kind", string (word_of_call l.kind)) ∷
    (codes "member", member_or_null l.key None) ∷
    (codes "target", name_or_null l.target) ∷ []))

-- many, where they are asked for: a line for each, or one object whose one key has them
abbrev pub calls_bytes : Bool → Option (List CallLine) → Bytes
calls_bytes json ls = part_bytes json (codes "calls") (λ (l : CallLine) n. line_of_call l) (λ (l : CallLine) n. call_value_of l) ls
