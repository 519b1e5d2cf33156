use Rattle.std.proofs.Common.{◌≡◌, ◌+◌, ◌-◌, ℕ, length, get_or, subst, arith}
use Rattle.std.specs.Option.{option_copied}
use Rattle.std.specs.Prelude.{is_some}
use Rattle.jc_facts.specs.world.World.{class_named}
use Rattle.jc_index.proofs.Overlaps.{least_of_none, least_next}
use Rattle.jc_index.proofs.overlap.least_known.Goals as goal

pub loop-done-init : goal.loop-done-init
loop-done-init c = least_of_none (λ x. is_some (class_named c.args.platform.now x)) c.args.release.now (length c.args.release.now - 0) (omega arith)

pub loop-done-preserved : goal.loop-done-preserved
loop-done-preserved c =
    let n : ℕ = length c.args.release.now - (c.loop-done.done + 1) in
    let at : length c.args.release.now - 1 - c.loop-done.done ≡ n = omega arith in
    least_next (λ x. is_some (class_named c.args.platform.now x)) c.args.release.now n (length c.args.release.now - c.loop-done.done) c.index-release-release.result (option_copied c.loop-done.least) (option_copied c.lower_known-least.result)
    (omega arith) (omega arith) (subst (λ (k : ℕ). c.index-release-release.result ≡ get_or c.args.release.now k c.index-release-release.result) at c.index-release-release.is) c.loop-done.invariant c.lower_known-least.ensures
