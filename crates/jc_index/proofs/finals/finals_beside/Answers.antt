use Rattle.std.proofs.Common.{◌≡◌, ◌≤◌, ◌∙◌, ap, arith, false, refl, Some, get_or}
use Rattle.jc_facts.specs.world.World.{size, find_class}
use Rattle.jc_index.specs.Ids.{name_at}
use Rattle.jc_index.proofs.FinalKeys.{finals-more}
use Rattle.jc_index.proofs.PlatformFinals as sides
use Rattle.jc_index.proofs.finals.finals_beside.Goals as goal

pub loop-n-preserved : goal.loop-n-preserved
loop-n-preserved c =
    let W = c.args.index.now in
    let f : Some c.facts.result.now ≡ find_class W (name_at W c.loop-n.n) = c.facts.ensures ∙ ap (λ n. find_class W (name_at W n)) c.new.ensures in
    rw c.in_ok-push_finals_where.ensures (finals-more (λ m. find_class W (name_at W m)) c.args.marks.now c.loop-n.keys.items c.loop-n.n (get_or c.args.marks.now c.loop-n.n false) c.facts.result.now c.loop-n.invariant f refl)

pub returns : goal.returns
returns c =
    let l : size c.args.index.now ≤ c.loop-n.n = omega (arith, c.count-n-end.ensures.count) in
    sides.finals-beside c.args.index.now c.args.marks.now c.loop-n.keys.items c.loop-n.n l c.requires c.loop-n.invariant
