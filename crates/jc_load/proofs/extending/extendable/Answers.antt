use Rattle.std.proofs.Common.{sym, ◌∙◌, refl}
use Rattle.jc_load.specs.Extending.{is_extendable}
use Rattle.jc_load.proofs.extending.extendable.Goals as goal

pub returns : goal.returns
unfolding is_extendable
returns c = c.lets_extend.ensures ∙ rw (sym c.facts.ensures, c.is_visible.ensures, c.is_of_clients.ensures) refl
