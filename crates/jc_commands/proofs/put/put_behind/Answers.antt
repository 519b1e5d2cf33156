use Rattle.jc_commands.proofs.PartsPut.{first_cut, last_cut}
use Rattle.jc_commands.proofs.put.put_behind.Goals as goal

pub returns-in-Err-clause-err : goal.returns-in-Err-clause-err
returns-in-Err-clause-err g c = first_cut _ _ _ _ c.in-Err.ensures.err

pub returns-in-Err-put_last-clause-err : goal.returns-in-Err-put_last-clause-err
returns-in-Err-put_last-clause-err g c = last_cut _ _ _ _ _ c.in-Ok.ensures.ok c.in-Err-put_last.ensures.err
