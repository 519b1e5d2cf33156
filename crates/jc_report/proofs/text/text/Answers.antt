use Rattle.std.proofs.Common.{rules, ◌≡◌, ◌++◌, ◌∙◌}
use Rattle.jc_report.proofs.TextPut.{findings, collisions, notes, last, joined}
use Rattle.jc_report.proofs.text.text.Goals as goal

pub returns : goal.returns
returns c =
    let v = c.args.verdict.now in
    let made : c.extend_from_slice-3.new.self.items ≡ ((findings v ++ collisions v) ++ notes v) ++ last v = search rules in
    record { exact = made ∙ joined v }
