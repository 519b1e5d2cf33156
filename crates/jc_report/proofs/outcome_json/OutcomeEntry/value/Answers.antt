use Rattle.jc_report.proofs.Outcomes.{outcome_plain}
use Rattle.jc_report.proofs.outcome_json.OutcomeEntry.value.Goals as goal

pub returns-clause-plain : goal.returns-clause-plain
returns-clause-plain c = outcome_plain c.args.self.now
