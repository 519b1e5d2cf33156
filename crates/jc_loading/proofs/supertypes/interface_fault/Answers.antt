use Rattle.std.proofs.Common.{◌<◌, ℕ, Option, sym, ◌∙◌, subst}
use Rattle.std.specs.Prelude.{IfSome}
use Rattle.jc_facts.specs.world.World.{size}
use Rattle.jc_facts.specs.world.Loading.{fault_of_interface, error_of_interface}
use Rattle.jc_index.proofs.NamedAbove.{none-named, one-named}
use Rattle.jc_loading.proofs.supertypes.interface_fault.Goals as goal

pub facts-requires : goal.facts-requires
facts-requires c = subst (λ (o : Option ℕ). IfSome o (λ id. id < size c.args.index.now)) c.in-Some.is c.requires

pub returns-in-None : goal.returns-in-None
unfolding fault_of_interface
returns-in-None c = λ x e. sym (none-named c.args.index.now (error_of_interface c.args.index.now c.args.class.now) x (sym e ∙ c.in-None.is))

pub returns-in-Some : goal.returns-in-Some
unfolding fault_of_interface
returns-in-Some c = λ x e. c.interface_error.ensures ∙ sym (one-named c.args.index.now (error_of_interface c.args.index.now c.args.class.now) x c.in-Some.id c.facts.result.now (sym e ∙ c.in-Some.is) c.facts.ensures)
