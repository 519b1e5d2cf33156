use Rattle.jc_commands.proofs.PartsPut.{last_cut}
use Rattle.jc_commands.proofs.put.put_check.Goals as goal

pub returns-in-Err-put_besides-clause-err : goal.returns-in-Err-put_besides-clause-err
returns-in-Err-put_besides-clause-err g c = last_cut _ _ _ _ _ c.in-Ok.ensures.ok c.in-Err-put_besides.ensures.err
