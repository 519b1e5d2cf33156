use Rattle.std.proofs.Common.{arith}
use Rattle.std.proofs.lemmas.Map.Text.{text_keys}
use Rattle.jc_base.proofs.root_faults.RootFaults.raise.Goals as goal

pub returns-clause-never_falls : goal.returns-clause-never_falls
returns-clause-never_falls c = λ other. grind (arith, text_keys)

pub returns-clause-others : goal.returns-clause-others
returns-clause-others c = λ other apart. grind (arith, text_keys)

pub returns-in-Some-clause-others : goal.returns-in-Some-clause-others
returns-in-Some-clause-others c = λ other apart. grind (arith, text_keys)

pub returns-in-Some-clause-never_falls : goal.returns-in-Some-clause-never_falls
returns-in-Some-clause-never_falls c = λ other. grind (arith, text_keys)

pub invariant_of-self : goal.invariant_of-self
invariant_of-self c = record { bounded = λ other. let was = c.args.self.now.bounded other in grind (arith, text_keys) }

pub invariant_of-self-2 : goal.invariant_of-self-2
invariant_of-self-2 c = record { bounded = λ other. let was = c.args.self.now.bounded other in grind (arith, text_keys) }
