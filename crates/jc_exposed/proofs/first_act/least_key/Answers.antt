use Rattle.std.proofs.Common.{◌≡◌, ◌+◌, ◌-◌, ℕ, length, get_or, subst, arith}
use Rattle.std.specs.Option.{option_copied}
use Rattle.jc_exposed.proofs.FirstThrough.{least_of_none, least_next}
use Rattle.jc_exposed.proofs.first_act.least_key.Goals as goal

pub loop-done-init : goal.loop-done-init
loop-done-init c = least_of_none c.args.keys.now (length c.args.keys.now - 0) (omega arith)

pub loop-done-preserved : goal.loop-done-preserved
loop-done-preserved c =
    let n : ℕ = length c.args.keys.now - (c.loop-done.done + 1) in
    let at : length c.args.keys.now - 1 - c.loop-done.done ≡ n = omega arith in
    least_next c.args.keys.now n (length c.args.keys.now - c.loop-done.done) c.index-keys-keys.result (option_copied c.loop-done.least) c.earlier_key.result.now (omega arith) (omega arith)
    (subst (λ (k : ℕ). c.index-keys-keys.result ≡ get_or c.args.keys.now k c.index-keys-keys.result) at c.index-keys-keys.is) c.loop-done.invariant c.earlier_key.ensures
