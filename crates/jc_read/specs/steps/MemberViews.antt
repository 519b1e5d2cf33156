-- Members that are read, and the set of their keys.
use Rattle.std.specs.Prelude.{◌≡◌, List, ℕ, [], ◌∷◌, ◌++◌, map, Result, Ok, Err}
use Rattle.std.specs.BTreeSet as sorted
use Rattle.jc_desc.specs.declared.fault.Fault.{Fault}
use Rattle.jc_facts.specs.declared.key.Key.{Key}
use Rattle.jc_facts.specs.Names.{key_of}
use Rattle.jc_facts.specs.Seen.{Holds}
use Rattle.jc_facts.specs.file.ClassParts as parts
use Rattle.jc_read.specs.declared.member_list.ReadMember.{ReadMember}
use Rattle.jc_read.specs.steps.OnMemberView.{on_member_view}

abbrev pub member_view : ReadMember → parts.ReadMember
member_view r = record { member = r.member; found = on_member_view r.found }

abbrev pub members_view : List ReadMember → List parts.ReadMember
members_view = map member_view

-- the set has the key of what was read besides those seen
abbrev pub HoldsRead : sorted.BTreeSet Key → List Key → Result (parts.ReadMember × List ℕ) Fault → Type 0
HoldsRead keys seen (Err f) = Unit {0}
HoldsRead keys seen (Ok x) = Holds keys (seen ++ key_of x.0.member ∷ [])

abbrev pub ReadsMember : sorted.BTreeSet Key → List Key → Result (parts.ReadMember × List ℕ) Fault → Result (parts.ReadMember × List ℕ) Fault → Type 0
ReadsMember keys seen read wanted = (read ≡ wanted) × HoldsRead keys seen read

abbrev pub read_keys : List parts.ReadMember → List Key
read_keys reads = map (λ r. key_of r.member) reads
