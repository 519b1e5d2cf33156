-- The JSON of a verdict, as bytes: which members each object has, in the byte order of their keys, by what `serde_json` means by a text.
use Rattle.std.specs.Prelude.{ℕ, List, [], ◌∷◌, ◌+◌, length, Option, Some, None, codes}
use Rattle.serde_json.specs.Data.{Data, null, number, unsigned, string, array, object}
use Rattle.serde_json.specs.View.{items_of}
use Rattle.jc_facts.specs.declared.key.Key.{Key}
use Rattle.jc_facts.specs.declared.act.Act.{Act}
use Rattle.jc_facts.specs.declared.link_error.LinkError.{LinkError}
use Rattle.jc_facts.specs.declared.finding.Finding.{Finding}
use Rattle.jc_facts.specs.declared.verdict.Collision.{Collision}
use Rattle.jc_facts.specs.declared.verdict.Note.{Note}
use Rattle.jc_facts.specs.declared.verdict.Note.TheVariants as notes
use Rattle.jc_facts.specs.declared.verdict.Verdict.{Verdict}
use Rattle.jc_facts.specs.Names.{Bytes}
use Rattle.jc_report.specs.Listing.{members_of, values_from, json_line}
use Rattle.jc_report.specs.Text.{printed, printed_key, rule_name, word_of_act, name_of_error, word_of_side, verdict_word}

-- a name, or null where there is none
abbrev pub name_or_null : Option Bytes → Data
name_or_null None = null
name_or_null (Some x) = string (printed x)

-- the member of a finding: its key, or else its target
abbrev pub member_or_null : Option Key → Option Bytes → Data
member_or_null None target = name_or_null target
member_or_null (Some k) target = string (printed_key k)

-- a finding or a collision
abbrev pub entry_json : ℕ → ℕ → Bytes → Data → Act → Data → LinkError → Data
entry_json n rule class member act seat error = object (members_of (
    (codes "class", string (printed class)) ∷
    (codes "error", string (name_of_error error)) ∷
    (codes "member", member) ∷
    (codes "number", number (unsigned n)) ∷
    (codes "operation", string (word_of_act act)) ∷
    (codes "rule", string (rule_name rule)) ∷
    (codes "seat", seat) ∷ []))

abbrev pub finding_json : ℕ → Finding → Data
finding_json n f = entry_json n f.rule f.class (member_or_null f.key f.target) f.act (name_or_null f.seat) f.error

abbrev pub collision_json : ℕ → Collision → Data
collision_json n c = entry_json n c.rule c.class (string (printed_key c.key)) c.act null c.error

-- a note
abbrev pub note_with : Bytes → Data → Bytes → Data → Data → Data
note_with class detail kind member side = object (members_of (
    (codes "class", string (printed class)) ∷
    (codes "detail", detail) ∷
    (codes "kind", string kind) ∷
    (codes "member", member) ∷
    (codes "side", side) ∷ []))

-- of a class that doesn't load the detail is its load fault, and the side is the release that has it
abbrev pub note_json : Note → Data
note_json (notes.Unloadable old x e) = note_with x (string (name_of_error e)) (codes "unloadable") null (string (word_of_side old))
note_json (notes.Fixed x k) = note_with x null (codes "constant") (string (printed_key k)) null

abbrev pub verdict_with : List Data → List Data → List Data → Bytes → Data
verdict_with collisions findings ns word = object (members_of (
    (codes "collisions", array (items_of collisions)) ∷
    (codes "findings", array (items_of findings)) ∷
    (codes "notes", array (items_of ns)) ∷
    (codes "verdict", string word) ∷ []))

-- a verdict. The numbers of the collisions go on after those of the findings
abbrev pub verdict_json : Verdict → Data
verdict_json v =
    verdict_with (values_from (λ c n. collision_json n c) (length v.findings + 1) v.collisions) (values_from (λ f n. finding_json n f) 1 v.findings) (values_from (λ note n. note_json note) 0 v.notes)
    (verdict_word v.findings)

-- its text, as a line
unfoldable pub json_of : Verdict → Bytes
json_of v = json_line (verdict_json v)
