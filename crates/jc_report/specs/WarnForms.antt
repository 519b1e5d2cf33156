-- The printed forms of warnings, as bytes: lines, and JSON.
use Rattle.std.specs.Prelude.{Bool, Option, List, [], ◌∷◌, ◌++◌, codes}
use Rattle.serde_json.specs.Data.{Data, string, object}
use Rattle.jc_facts.specs.declared.warning.WarnKind.{WarnKind}
use Rattle.jc_facts.specs.declared.warning.WarnKind.TheVariants as warn
use Rattle.jc_facts.specs.declared.warning.Warning.{Warning}
use Rattle.jc_facts.specs.Names.{Bytes}
use Rattle.jc_report.specs.Listing.{members_of, part_bytes}
use Rattle.jc_report.specs.Text.{printed, printed_key}

abbrev pub word_of_kind : WarnKind → Bytes
word_of_kind warn.Lost = codes "lost"
word_of_kind warn.Abstract = codes "abstract"
word_of_kind warn.Defaults = codes "defaults"

-- the line of one: class, member and kind, with single spaces
unfoldable pub line_of_warning : Warning → Bytes
line_of_warning w = codes "warning " ++ printed w.class ++ codes " " ++ printed_key w.key ++ codes " " ++ word_of_kind w.kind ++ codes "\n"

-- one as an object
abbrev pub warning_json : Warning → Data
warning_json w = object (members_of (
    (codes "class", string (printed w.class)) ∷
    (codes "kind", string (word_of_kind w.kind)) ∷
    (codes "member", string (printed_key w.key)) ∷ []))

-- many, where they are asked for: a line for each, or one object whose one key has them
abbrev pub warn_bytes : Bool → Option (List Warning) → Bytes
warn_bytes json ws = part_bytes json (codes "warnings") (λ (w : Warning) n. line_of_warning w) (λ (w : Warning) n. warning_json w) ws
