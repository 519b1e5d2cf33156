use Rattle.jc_index.proofs.Indexed.{number_there}
use Rattle.jc_index.proofs.named_classes.NamedClasses.id_at.Goals as goal

pub returns-clause-of_table : goal.returns-clause-of_table
returns-clause-of_table c = (number_there c.self.inside c.self.invariant c.args.self.now c.self.view_is c.args.place c.new.result c.index.result.now c.requires c.new.ensures c.index.ensures).0

pub returns-clause-named : goal.returns-clause-named
returns-clause-named c = (number_there c.self.inside c.self.invariant c.args.self.now c.self.view_is c.args.place c.new.result c.index.result.now c.requires c.new.ensures c.index.ensures).1
