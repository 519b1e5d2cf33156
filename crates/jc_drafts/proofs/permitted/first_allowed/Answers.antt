use Rattle.std.proofs.Common.{◌&&◌, ◌<◌, ◌≤◌, length, not, Bool, arith}
use Rattle.std.specs.Option.{option_copied}
use Rattle.jc_facts.specs.Names.{Bytes, is_name_among}
use Rattle.jc_promises.specs.rule.Bases.{allowed}
use Rattle.jc_promises.specs.plan.PlannedNames.{least_name}
use Rattle.jc_drafts.proofs.LowestOfNames.{found_next, found_end, name_first, no_name}
use Rattle.jc_drafts.proofs.permitted.first_allowed.Goals as goal

pub loop-name-preserved : goal.loop-name-preserved
loop-name-preserved c =
    let counts : Bytes → Bool = λ x. allowed c.args.sides.now.old c.args.sides.now.new x && not (is_name_among c.args.others.now x) in
    let below : c.loop-name.name-index < length c.args.names.now = omega arith in
    found_next (least_name counts) (λ x. x) counts (name_first counts) c.args.names.now c.loop-name.name-index c.name-item.result c.is_left_out.result (option_copied c.loop-name.lowest) (option_copied c.lowest_with-lowest.result) _
    below c.name-item.is c.is_left_out.ensures c.lowest_with-lowest.ensures c.loop-name.invariant

pub returns : goal.returns
returns c =
    let counts : Bytes → Bool = λ x. allowed c.args.sides.now.old c.args.sides.now.new x && not (is_name_among c.args.others.now x) in
    let past : length c.args.names.now ≤ c.loop-name.name-index = omega arith in
    found_end (least_name counts) (λ x. x) counts (name_first counts) c.args.names.now c.loop-name.name-index (option_copied c.loop-name.lowest) _ (no_name counts) past c.loop-name.invariant
