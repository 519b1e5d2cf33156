use Rattle.std.proofs.Common.{arith}
use Rattle.jc_index.proofs.Indexed.{count_is, size_is}
use Rattle.jc_index.proofs.named_classes.NamedClasses.count.Goals as goal

pub overflow_cast-result : goal.overflow_cast-result
overflow_cast-result c =
    let many = count_is c.self.inside c.self.invariant c.args.self.now c.self.view_is in
    let all = size_is c.self.inside c.self.invariant c.args.self.now c.self.view_is in
    omega (arith, c.self.invariant.few)

pub returns-clause-count : goal.returns-clause-count
returns-clause-count c = let many = count_is c.self.inside c.self.invariant c.args.self.now c.self.view_is in omega arith
