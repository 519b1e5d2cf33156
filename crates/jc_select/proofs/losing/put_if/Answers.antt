use Rattle.std.proofs.Common.{sym, subst}
use Rattle.jc_select.proofs.SetsOf.{put_in, left_as_it_was}
use Rattle.jc_select.specs.steps.Losing.{IsPut}
use Rattle.jc_select.proofs.losing.put_if.Goals as goal

pub returns-then-not-wanted : goal.returns-then-not-wanted
returns-then-not-wanted c = subst (λ b. IsPut c.args.id b c.args.set.now c.args.set.now) (sym c.if-not-wanted.true) (left_as_it_was c.args.id c.args.set.now)

pub returns : goal.returns
returns c = subst (λ b. IsPut c.args.id b c.args.set.now c.insert.new.self) (sym c.if-not-wanted.false) (put_in c.args.id c.args.set.now c.insert.new.self c.in_ok-insert.ensures.updates c.in_ok-insert.ensures.ordered)
