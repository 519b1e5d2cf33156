use Rattle.std.proofs.Common.{◌≡◌, ◌++◌, take}
use Rattle.jc_report.specs.Text.{printed}
use Rattle.jc_report.proofs.printed.push_printed.Given as goal

abbrev pub invariant-loop-byte : goal.invariant-loop-byte
invariant-loop-byte g l = g.P.Printout.bytes l.text ≡ g.P.Printout.bytes l.fn.text ++ printed (take l.byte-index l.bytes)
