use Rattle.std.proofs.Common.{inl}
use Rattle.jc_commands.proofs.put.put_report.Goals as goal

pub returns-in-Ok-clause-put : goal.returns-in-Ok-clause-put
returns-in-Ok-clause-put g c = inl (record { witnesses = c.in-Ok.ensures.whole; put = c.put_output.ensures })
