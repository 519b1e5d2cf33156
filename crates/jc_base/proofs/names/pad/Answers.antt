use Rattle.std.proofs.Common.{List, ℕ, Option, sym, subst}
use Rattle.jc_base.specs.KnownAgain.{AreAgain}
use Rattle.jc_base.proofs.Again.{again_none}
use Rattle.jc_base.proofs.names.pad.Goals as goal

pub loop-preserved : goal.loop-preserved
loop-preserved c = λ names h. again_none names c.loop.earlier.items c.push.new.self.items c.in_ok-push.ensures.items (c.loop.invariant names h)

pub returns-in_err-push : goal.returns-in_err-push
returns-in_err-push c = λ names h. subst (λ (os : List (Option ℕ)). AreAgain names os) (sym c.in_err-push.ensures.items) (c.loop.invariant names h)
