use Rattle.std.proofs.Common.{◌∙◌}
use Rattle.jc_facts.proofs.Generated.{releases}
use Rattle.jc_facts.proofs.generate.generate.Goals as goal

pub returns-clause-fit : goal.returns-clause-fit
returns-clause-fit c =
    releases c.args.classes c.from_vec.result c.from_vec-2.result c.from_vec-3.result c.requires.few
    (c.from_vec.ensures ∙ c.in_ok-platform.ensures)
    (c.from_vec-2.ensures ∙ c.in_ok-old_release.ensures)
    (c.from_vec-3.ensures ∙ c.in_ok-new_release.ensures)
