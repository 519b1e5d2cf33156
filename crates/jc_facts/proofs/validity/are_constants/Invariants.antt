use Rattle.std.proofs.Common.{◌≡◌, drop}
use Rattle.std.specs.List.{list_all}
use Rattle.jc_facts.specs.file.Valid.{is_valid_constant}
use Rattle.jc_facts.proofs.validity.are_constants.Given as goal

abbrev pub invariant-loop-fixed : goal.invariant-loop-fixed
invariant-loop-fixed l = list_all (is_valid_constant l.facts) (drop l.fixed-index l.facts.constants) ≡ list_all (is_valid_constant l.facts) l.facts.constants
