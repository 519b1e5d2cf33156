-- The printed forms of notes on generic signatures, as bytes: lines, and JSON.
use Rattle.std.specs.Prelude.{Bool, Option, None, List, [], ◌∷◌, ◌++◌, codes}
use Rattle.serde_json.specs.Data.{Data, string, object}
use Rattle.jc_facts.specs.declared.sig_note.SigChange.{SigChange}
use Rattle.jc_facts.specs.declared.sig_note.SigChange.TheVariants as changes
use Rattle.jc_facts.specs.declared.sig_note.SigNote.{SigNote}
use Rattle.jc_facts.specs.Names.{Bytes}
use Rattle.jc_report.specs.Json.{member_or_null}
use Rattle.jc_report.specs.Listing.{members_of, part_bytes}
use Rattle.jc_report.specs.Text.{printed, printed_member}

abbrev pub word_of_change : SigChange → Bytes
word_of_change changes.Unread = codes "unread"
word_of_change changes.Gone = codes "gone"
word_of_change changes.New = codes "new"
word_of_change changes.Parameters = codes "parameters"
word_of_change changes.Superclass = codes "superclass"
word_of_change changes.Interfaces = codes "interfaces"
word_of_change changes.Arguments = codes "arguments"
word_of_change changes.Result = codes "result"
word_of_change changes.Throws = codes "throws"
word_of_change changes.Whole = codes "whole"

-- the line of one: class, member or - for the class itself, and change, with single spaces
unfoldable pub line_of_sig_note : SigNote → Bytes
line_of_sig_note n = codes "note signature " ++ printed n.class ++ codes " " ++ printed_member n.key None ++ codes " " ++ word_of_change n.change ++ codes "\n"

-- one as an object; the member is null for the class itself
abbrev pub sig_note_json : SigNote → Data
sig_note_json n = object (members_of (
    (codes "change", string (word_of_change n.change)) ∷
    (codes "class", string (printed n.class)) ∷
    (codes "member", member_or_null n.key None) ∷ []))

-- many, where they are asked for: a line for each, or one object whose one key has them
abbrev pub sig_bytes : Bool → Option (List SigNote) → Bytes
sig_bytes json ns = part_bytes json (codes "signatures") (λ (m : SigNote) n. line_of_sig_note m) (λ (m : SigNote) n. sig_note_json m) ns
