use Rattle.std.proofs.Common.{◌∙◌, ◌||◌, sym, ap}
use Rattle.jc_facts.specs.world.Hierarchy.{is_superinterface}
use Rattle.jc_index.specs.Ids.{name_at}
use Rattle.jc_index.proofs.Aboves.{same_number}
use Rattle.jc_index.proofs.hierarchy.Hierarchy.is_below.Goals as goal

pub returns-else-eq : goal.returns-else-eq
returns-else-eq c =
    c.has_superinterface.ensures.value
    ∙ sym (ap (λ b. b || is_superinterface c.args.self.now (name_at c.args.self.now c.args.id) (name_at c.args.self.now c.args.of))
    (same_number c.args.self.now c.has_superinterface.ensures.side.differ c.args.id c.args.of c.requires.class c.requires.above ∙ sym c.if-eq.ensures))
