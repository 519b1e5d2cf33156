use Rattle.std.proofs.Common.{List, ℕ, sym, subst}
use Rattle.jc_base.specs.KnownAgain.{AreAgain}
use Rattle.jc_base.proofs.Again.{again_more}
use Rattle.jc_base.proofs.names.Names.push.Goals as goal

pub invariant_of-self : goal.invariant_of-self
invariant_of-self c = subst (λ (xs : List (List ℕ)). AreAgain xs c.self.inside.earlier.items) (sym c.in_err-push.ensures.items) c.self.invariant

pub invariant_of-self-2 : goal.invariant_of-self-2
invariant_of-self-2 c = again_more c.self.inside.names.items c.push.new.self.items c.args.name c.self.inside.earlier.items c.in_ok-push.ensures.items c.self.invariant
