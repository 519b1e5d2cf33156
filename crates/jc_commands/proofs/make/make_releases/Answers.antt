use Rattle.jc_commands.proofs.MadeReleases.{made_lists, only_memory, made_reported}
use Rattle.jc_commands.proofs.make.make_releases.Goals as goal

pub verdict_on-requires-clause-platform : goal.verdict_on-requires-clause-platform
verdict_on-requires-clause-platform c = rw c.in-Ok.ensures.exact (made_lists c.args.asked.now.classes c.requires.few).platform

pub verdict_on-requires-clause-old : goal.verdict_on-requires-clause-old
verdict_on-requires-clause-old c = rw c.in-Ok.ensures.exact (made_lists c.args.asked.now.classes c.requires.few).old

pub verdict_on-requires-clause-new : goal.verdict_on-requires-clause-new
verdict_on-requires-clause-new c = rw c.in-Ok.ensures.exact (made_lists c.args.asked.now.classes c.requires.few).new

pub returns-in-Err-clause-stopped : goal.returns-in-Err-clause-stopped
returns-in-Err-clause-stopped c = only_memory c.args.asked.now.classes c.requires.few c.in-Err.stop (rw c.in-Ok.ensures.exact at c.in-Err.ensures.stopped)

pub returns-in-Ok-of_made-clause-report : goal.returns-in-Ok-of_made-clause-report
returns-in-Ok-of_made-clause-report c =
    made_reported c.args.asked.now.classes c.requires _ _ (rw c.in-Ok.ensures.exact at c.in-Ok-verdict_on.ensures.exact) c.in-Ok-of_made.ensures.shown c.in-Ok-of_made.ensures.tells
