use Rattle.std.proofs.Common.{refl, sym, ◌∙◌, ap, get_or}
use Rattle.jc_index.specs.Ids.{name_at}
use Rattle.jc_loading.specs.declared.faults.State.TheVariants as states
use Rattle.jc_loading.proofs.Entering.{right_at}
use Rattle.jc_loading.proofs.faults.fault_of.Goals as goal

pub returns-in-Known-clause-settled : goal.returns-in-Known-clause-settled
returns-in-Known-clause-settled c = (
  c.requires.settled,
  right_at c.args.index.now c.args.states.now c.args.class (name_at c.args.index.now c.args.class) c.in-Known.fault c.requires.settled.right refl (sym (ap (λ n. get_or c.args.states.now n states.Fresh) c.number.ensures) ∙ c.in-Known.is),
)

pub returns-in-Known-clause-ordered : goal.returns-in-Known-clause-ordered
returns-in-Known-clause-ordered c = (
  c.requires.orders,
  λ e. c.requires.orders.known c.args.class c.requires.inside (sym (ap (λ n. get_or c.args.states.now n states.Fresh) c.number.ensures) ∙ c.in-Known.is ∙ ap states.Known e),
)

pub returns-in-Known-clause-grows : goal.returns-in-Known-clause-grows
returns-in-Known-clause-grows c = λ n h. h
