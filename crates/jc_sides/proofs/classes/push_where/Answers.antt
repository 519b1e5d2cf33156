use Rattle.std.proofs.Common.{sym, ◌∙◌}
use Rattle.jc_index.specs.Ids.{name_at}
use Rattle.jc_sides.proofs.TestedClasses.{adds, adds_none, failing}
use Rattle.jc_sides.proofs.classes.push_where.Goals as goal

pub returns-in_default : goal.returns-in_default
returns-in_default g c = adds_none g.T.ClassTest.test c.args.sides.now (name_at c.args.sides.now.old c.args.id) c.args.classes.now.items (c.requires.test c.args.sides.now (name_at c.args.sides.now.old c.args.id) c.in_default.ensures)

pub returns-then-not-passes : goal.returns-then-not-passes
returns-then-not-passes g c =
    adds_none g.T.ClassTest.test c.args.sides.now (name_at c.args.sides.now.old c.args.id) c.args.classes.now.items
    (failing g.T.ClassTest.test c.args.sides.now (name_at c.args.sides.now.old c.args.id) c.in-Some.class c.in-Some.ensures (sym c.in_ok-passes.ensures ∙ c.if-not-passes.true))

pub returns : goal.returns
returns g c =
    adds g.T.ClassTest.test c.args.sides.now (name_at c.args.sides.now.old c.args.id) c.in-Some.class c.args.classes.now.items c.push.new.self.items c.in-Some.ensures (sym c.in_ok-passes.ensures ∙ c.if-not-passes.false) c.in_ok-push.ensures.items
