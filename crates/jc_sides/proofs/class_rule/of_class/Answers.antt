use Rattle.std.proofs.Common.{ℕ, ap, ◌∙◌}
use Rattle.jc_facts.proofs.World.{found_name}
use Rattle.jc_index.specs.Ids.{name_at}
use Rattle.jc_sides.specs.BrokenOf.{found}
use Rattle.jc_sides.specs.Rules.{on_class}
use Rattle.jc_sides.specs.SidesFields.{worlds}
use Rattle.jc_sides.proofs.BrokenActs.{class_found}
use Rattle.jc_sides.proofs.class_rule.of_class.Goals as goal

pub returns : goal.returns
returns g c =
    class_found g.R.ClassRule.rule c.args.id (worlds c.sides.inside) c.args.sides.now c.sides.view_is c.facts.result.now.name c.in_ok-broken.broken c.in_ok-found.found
    (found_name c.sides.inside.old.now (name_at c.sides.inside.old.now c.args.id) c.facts.result.now c.facts.ensures) c.in_ok-broken.ensures
    (c.in_ok-found.ensures ∙ ap (λ (r : ℕ). found (on_class r c.facts.result.now.name) c.in_ok-broken.broken) c.requires.number)
