use Rattle.jc_sides.proofs.TestedClasses.{AreSoFar}
use Rattle.jc_sides.proofs.classes.classes_where.Given as goal

abbrev pub invariant-loop-n : goal.invariant-loop-n
invariant-loop-n g l = AreSoFar (g.T.ClassTest.test l.sides) l.sides l.n l.classes.items
