use Rattle.std.proofs.Common.{◌≡◌, drop}
use Rattle.jc_rows.specs.steps.Agreeing.{all_agree}
use Rattle.jc_rows.proofs.agreeing.agree_all.Given as goal

abbrev pub invariant-loop-name : goal.invariant-loop-name
invariant-loop-name l = all_agree l.index l.rows l.number l.found (drop l.name-index l.names) ≡ all_agree l.index l.rows l.number l.found l.names
