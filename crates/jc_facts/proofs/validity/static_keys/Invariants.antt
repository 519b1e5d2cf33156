use Rattle.std.proofs.Common.{◌≡◌, ◌++◌, drop}
use Rattle.jc_facts.specs.file.Valid.{keys_of_statics}
use Rattle.jc_facts.proofs.validity.static_keys.Given as goal

abbrev pub invariant-loop-member : goal.invariant-loop-member
invariant-loop-member l = l.keys.items ++ keys_of_statics (drop l.member-index l.fields) ≡ keys_of_statics l.fields
