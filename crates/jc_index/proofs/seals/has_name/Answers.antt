use Rattle.std.proofs.Common.{◌∙◌}
use Rattle.jc_index.proofs.Sealing.{by-seal}
use Rattle.jc_index.proofs.seals.has_name.Goals as goal

pub returns-in-Some : goal.returns-in-Some
returns-in-Some c = λ W d are found.
    c.has.ensures ∙ by-seal W c.args.seals.now c.in-Some.seal.now c.args.id d c.args.name.now c.in-Some.ensures.among c.in-Some.ensures.owner are found
