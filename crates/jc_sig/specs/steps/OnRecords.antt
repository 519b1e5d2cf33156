-- The notes on one class, of its two records.
use Rattle.std.specs.Borrow.{Bor}
use Rattle.std.specs.BTreeMap as tree
use Rattle.std.specs.BTreeSet as sorted
use Rattle.std.specs.Prelude.{◌≡◌, ◌&&◌, Bool, List, ◌++◌, Option, Some, None, option_map, if◌then◌else◌}
use Rattle.std.specs.List.{find as first_where}
use Rattle.std.specs.Option.{option_eq}
use Rattle.jc_facts.specs.declared.class_facts.ClassFacts.{ClassFacts}
use Rattle.jc_facts.specs.declared.class_facts.Signed.{Signed}
use Rattle.jc_facts.specs.declared.key.Key.{Key}
use Rattle.jc_facts.specs.declared.sig_note.SigChange.{SigChange}
use Rattle.jc_facts.specs.declared.sig_note.SigNote.{SigNote}
use Rattle.jc_facts.specs.file.Valid.{keys_of}
use Rattle.jc_facts.specs.KeyOrder.{key_cmp}
use Rattle.jc_facts.specs.Names.{Bytes, same_key}
use Rattle.jc_facts.specs.Seen.{Holds}
use Rattle.jc_facts.specs.world.World.{World}
use Rattle.jc_sig.specs.Notes.{signature_at, declares, SigNoteStands}
use Rattle.jc_sig.specs.steps.Changes.{changed}

-- ---- what a record has, by key

-- the signature of the key, with its text
abbrev pub signed_at : List Signed → Key → Option Signed
signed_at ss k = first_where (λ (s : Signed). option_eq same_key s.key (Some k)) ss

-- what the map has of the key
abbrev pub signed_in : tree.BTreeMap Key (Bor Signed) → Key → Option Signed
signed_in map k = option_map (λ s. s.now) (tree.get key_cmp map k)

abbrev pub text_in : tree.BTreeMap Key (Bor Signed) → Key → Option Bytes
text_in map k = option_map (λ (s : Signed). s.text) (signed_in map k)

-- the map has the signatures of the record's members by their keys
abbrev pub HasSignatures : ClassFacts → tree.BTreeMap Key (Bor Signed) → Type 0
HasSignatures c map = (k : Key) → signed_in map k ≡ signed_at c.signatures k

-- the set has the keys of its fields and methods
abbrev pub HasMembers : ClassFacts → sorted.BTreeSet Key → Type 0
HasMembers c keys = Holds keys (keys_of c.fields ++ keys_of c.methods)

-- ---- notes

-- a note of this change
abbrev pub noted : Bytes → Option Key → SigChange → SigNote
noted x key change = record { «class» = x; key = key; change = change }

-- the note on the class x itself, or on its member of the key, where it is declared on both sides and has these texts
abbrev pub note_with : Bytes → Option Key → Bool → Option Bytes → Option Bytes → Option SigNote
note_with x key declared before after = if declared then option_map (noted x key) (changed key before after) else None

-- by its records c and d
unfoldable pub note_at : Bytes → ClassFacts → ClassFacts → Option Key → Option SigNote
note_at x c d key = note_with x key (declares c key && declares d key) (signature_at c key) (signature_at d key)

-- on its member of the key, by what is known of the records
unfoldable pub note_in : Bytes → tree.BTreeMap Key (Bor Signed) → tree.BTreeMap Key (Bor Signed) → sorted.BTreeSet Key → sorted.BTreeSet Key → Key → Option SigNote
note_in x was now before after k = note_with x (Some k) (sorted.contains key_cmp before k && sorted.contains key_cmp after k) (text_in was k) (text_in now k)

-- a note of these records
abbrev pub OnRecords : Bytes → ClassFacts → ClassFacts → SigNote → Type 0
OnRecords x c d n = note_at x c d n.key ≡ Some n

-- such a note on a member
abbrev pub OnMember : Bytes → ClassFacts → ClassFacts → SigNote → Type 0
OnMember x c d n = (k : Key) × (n.key ≡ Some k) × OnRecords x c d n

-- a note of these sides, on the class of this name
abbrev pub OnName : World → World → Bytes → SigNote → Type 0
OnName O N x n = (n.«class» ≡ x) × SigNoteStands O N n
