use Rattle.std.proofs.Common.{◌≡◌, true, sym, ◌∙◌}
use Rattle.jc_index.specs.steps.Choosing.{is_strictly_below}
use Rattle.jc_index.proofs.Choices.{strictly, strictly_chosen}
use Rattle.jc_call_lines.proofs.choice.RivalChoice.of.Goals as goal

pub returns : goal.returns
returns c =
    let s : is_strictly_below c.args.table.now c.args.id c.args.self.now.of ≡ true =
    strictly c.args.table.now c.requires.differ c.args.id c.args.self.now.of c.is_below.result c.requires.within c.requires.ready (sym c.if-eq.ensures) c.is_below.ensures c.if-not-is_below.false in
    c.in-Some.ensures ∙ strictly_chosen c.args.table.now c.args.self.now.key.now c.args.id c.args.self.now.of s
