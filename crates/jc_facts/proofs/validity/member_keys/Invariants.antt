use Rattle.std.proofs.Common.{◌≡◌, ◌++◌, drop}
use Rattle.jc_facts.specs.file.Valid.{keys_of}
use Rattle.jc_facts.proofs.validity.member_keys.Given as goal

abbrev pub invariant-loop-member : goal.invariant-loop-member
invariant-loop-member l = l.keys.items ++ keys_of (drop l.member-index l.members) ≡ keys_of l.members
