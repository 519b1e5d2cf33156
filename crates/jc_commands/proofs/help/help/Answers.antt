use Rattle.jc_commands.proofs.HelpReported.{page_reported}
use Rattle.jc_commands.proofs.help.help.Goals as goal

pub returns-in-Ok-clause-report : goal.returns-in-Ok-clause-report
returns-in-Ok-clause-report c = page_reported _ _ c.page.ensures c.in-Ok.ensures.shown c.in-Ok.ensures.tells
