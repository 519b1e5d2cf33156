use Rattle.std.proofs.Common.{List, sym, subst}
use Rattle.jc_facts.specs.Names.{Bytes}
use Rattle.jc_field.specs.steps.Fields.{AreReady}
use Rattle.jc_field.proofs.Steps.{all_ready}
use Rattle.jc_field.proofs.walk.first_interface.Goals as goal

pub first_of-requires-clause-ready : goal.first_of-requires-clause-ready
first_of-requires-clause-ready c =
    subst (λ (ys : List Bytes). AreReady c.args.table.now ys) (sym c.as_slice.ensures) (all_ready c.args.table.now c.requires.side c.args.key.now c.args.class c.facts.result.now c.facts.ensures c.requires.loads)
