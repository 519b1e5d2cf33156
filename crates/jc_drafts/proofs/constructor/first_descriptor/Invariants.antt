use Rattle.std.proofs.Common.{◌≡◌, true, drop}
use Rattle.std.specs.Option.{option_copied}
use Rattle.jc_promises.specs.plan.PlannedNames.{least_name, constructors}
use Rattle.jc_drafts.proofs.LowestOfNames.{joined}
use Rattle.jc_drafts.proofs.constructor.first_descriptor.Given as goal

abbrev pub invariant-loop-method : goal.invariant-loop-method
invariant-loop-method l = joined (option_copied l.lowest) (least_name (λ d. true) (constructors (drop l.method-index l.methods))) ≡ least_name (λ d. true) (constructors l.methods)
