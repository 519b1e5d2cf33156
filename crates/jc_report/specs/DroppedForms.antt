-- The printed forms of dropped interfaces, as bytes: lines, and JSON.
use Rattle.std.specs.Prelude.{Bool, Option, List, [], ◌∷◌, ◌++◌, codes}
use Rattle.serde_json.specs.Data.{Data, string, object}
use Rattle.jc_facts.specs.declared.dropped.Dropped.{Dropped}
use Rattle.jc_facts.specs.Names.{Bytes}
use Rattle.jc_report.specs.Text.{printed}
use Rattle.jc_report.specs.Listing.{members_of, part_bytes}

-- the line of one: class and interface, with single spaces
unfoldable pub line_of_dropped : Dropped → Bytes
line_of_dropped d = codes "dropped " ++ printed d.class ++ codes " " ++ printed d.interface ++ codes "\n"

-- one as an object
abbrev pub dropped_value_of : Dropped → Data
dropped_value_of d = object (members_of (
    (codes "class", string (printed d.class)) ∷
    (codes "interface", string (printed d.interface)) ∷ []))

-- many, where they are asked for: a line for each, or one object whose one key has them
abbrev pub dropped_bytes : Bool → Option (List Dropped) → Bytes
dropped_bytes json ds = part_bytes json (codes "dropped") (λ (d : Dropped) n. line_of_dropped d) (λ (d : Dropped) n. dropped_value_of d) ds
