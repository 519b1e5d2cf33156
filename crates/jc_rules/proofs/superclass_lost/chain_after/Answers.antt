use Rattle.std.proofs.Common.{sym, refl, ◌∙◌}
use Rattle.jc_index.specs.Ids.{name_at}
use Rattle.jc_index.proofs.Numbers.{find-None}
use Rattle.jc_sides.specs.SidesFields.{worlds}
use Rattle.jc_sides.specs.SidesOf.{SidesOf}
use Rattle.jc_sides.proofs.Seen.{of_same_name}
use Rattle.jc_rules.specs.steps.Chains.{HasChain}
use Rattle.jc_rules.proofs.ChainLost.{empty_chain}
use Rattle.jc_rules.proofs.superclass_lost.chain_after.Goals as goal

pub returns-in_default : goal.returns-in_default
returns-in_default c =
    let s : SidesOf = c.args.sides.now in
    empty_chain s.new (name_at s.old c.args.id) c.new.result (find-None s.new (name_at s.old c.args.id) (sym c.new_id.ensures.value ∙ c.in_default.is)) c.new.ensures.ordered (λ k. rw c.new.ensures.empty refl)

pub returns : goal.returns
returns c =
    let s : SidesOf = c.args.sides.now in
    of_same_name (worlds c.sides.inside) s c.sides.view_is c.args.id c.in-Some.after (sym c.in-Some.is ∙ c.new_id.ensures.value) (λ W x. HasChain W x c.in_ok-chain.chain) c.in_ok-chain.ensures
