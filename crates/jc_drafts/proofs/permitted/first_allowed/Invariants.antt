use Rattle.std.proofs.Common.{◌≡◌, ◌&&◌, Bool, not, drop}
use Rattle.std.specs.Option.{option_copied}
use Rattle.jc_facts.specs.Names.{Bytes, is_name_among}
use Rattle.jc_promises.specs.rule.Bases.{allowed}
use Rattle.jc_promises.specs.plan.PlannedNames.{least_name}
use Rattle.jc_drafts.proofs.LowestOfNames.{joined}
use Rattle.jc_drafts.proofs.permitted.first_allowed.Given as goal

abbrev pub invariant-loop-name : goal.invariant-loop-name
invariant-loop-name l =
    let counts : Bytes → Bool = λ x. allowed l.sides.old l.sides.new x && not (is_name_among l.others x) in
    joined (option_copied l.lowest) (least_name counts (drop l.name-index l.names)) ≡ least_name counts l.names
