use Rattle.jc_index.proofs.NumberedNames.{added_last}
use Rattle.jc_index.proofs.Mentions.{adds_key}
use Rattle.jc_index.proofs.names.NumberedNames.put.Goals as goal

pub returns-clause-adds : goal.returns-clause-adds
returns-clause-adds c = adds_key c.args.name c.args.self.now c.insert.new.self c.in_ok-insert.ensures

pub returns-clause-last : goal.returns-clause-last
returns-clause-last c = added_last c.args.name c.args.self.now c.insert.new.self c.in_ok-insert.ensures
