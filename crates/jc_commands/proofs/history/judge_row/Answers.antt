use Rattle.std.proofs.Common.{◌∙◌, ap, map}
use Rattle.jc_base.specs.States.{change}
use Rattle.jc_words.specs.Command.{HistoryCommand}
use Rattle.jc_trees.specs.TreeView.{tree_of}
use Rattle.jc_words.specs.CommandView.{history_of}
use Rattle.jc_commands.proofs.Causes.{cause_reading, cause_judging, row_reported}
use Rattle.jc_commands.proofs.TreesTaken.{all_kinds, platform_taken, releases_taken, count_taken, some_taken, few_taken, release_lists, row_taken}
use Rattle.jc_trees.proofs.TakenReads.{rest_of_lists}
use Rattle.jc_commands.proofs.history.judge_row.Goals as goal

pub returns-in-Err-clause-stopped : goal.returns-in-Err-clause-stopped
returns-in-Err-clause-stopped g c =
    cause_reading (HistoryCommand (history_of c.args.asked.now)) (change g.T.Trees.state c.args.trees.now c.read_trees.new.trees) (λ P h. h) _ (ap (map tree_of) c.as_slice.ensures.value ∙ c.in-Ok.ensures)
    c.stop_of.result c.in-Err.error c.stop_of.ensures c.in-Err.ensures.stopped

pub take_records-platform-requires : goal.take_records-platform-requires
take_records-platform-requires g c = platform_taken (history_of c.args.asked.now) _ (all_kinds _ _ _ c.in-Ok-read_trees.ensures.kinds (ap (map tree_of) c.as_slice.ensures.value ∙ c.in-Ok.ensures))

pub numbered_releases-requires-clause-libraries : goal.numbered_releases-requires-clause-libraries
numbered_releases-requires-clause-libraries g c = releases_taken (history_of c.args.asked.now) _ (all_kinds _ _ _ c.in-Ok-read_trees.ensures.kinds (ap (map tree_of) c.as_slice.ensures.value ∙ c.in-Ok.ensures)) _ _ c.take_records-platform.ensures

pub numbered_releases-requires-clause-few : goal.numbered_releases-requires-clause-few
numbered_releases-requires-clause-few g c = few_taken _ _ (count_taken (history_of c.args.asked.now) _ (all_kinds _ _ _ c.in-Ok-read_trees.ensures.kinds (ap (map tree_of) c.as_slice.ensures.value ∙ c.in-Ok.ensures)) _ _ c.take_records-platform.ensures) c.requires.1

pub judged-requires-clause-platform : goal.judged-requires-clause-platform
judged-requires-clause-platform g c = (rest_of_lists _ _ _ c.in-Ok-read_trees.ensures.lists c.take_records-platform.ensures).0

pub judged-requires-clause-releases : goal.judged-requires-clause-releases
judged-requires-clause-releases g c = release_lists _ _ c.in-Ok-numbered_releases.ensures.read (rest_of_lists _ _ _ c.in-Ok-read_trees.ensures.lists c.take_records-platform.ensures).1

pub judged-requires-clause-some : goal.judged-requires-clause-some
judged-requires-clause-some g c = some_taken _ _ _ _ c.in-Ok-numbered_releases.ensures.read (count_taken (history_of c.args.asked.now) _ (all_kinds _ _ _ c.in-Ok-read_trees.ensures.kinds (ap (map tree_of) c.as_slice.ensures.value ∙ c.in-Ok.ensures)) _ _ c.take_records-platform.ensures) c.requires.0

pub returns-clause-stopped : goal.returns-clause-stopped
returns-clause-stopped g c =
    cause_judging (history_of c.args.asked.now) (change g.T.Trees.state c.args.trees.now c.read_trees.new.trees) _ (ap (map tree_of) c.as_slice.ensures.value ∙ c.in-Ok.ensures) _ _ _
    (row_taken _ _ _ _ c.take_records-platform.ensures c.in-Ok-numbered_releases.ensures.read)
    c.in-Ok-read_trees.ensures.read c.in-Err-judged.stop c.in-Err-judged.ensures.stopped

pub returns-in-Ok-judged-clause-report : goal.returns-in-Ok-judged-clause-report
returns-in-Ok-judged-clause-report g c =
    row_reported (history_of c.args.asked.now) (change g.T.Trees.state c.args.trees.now c.read_trees.new.trees) _ (ap (map tree_of) c.as_slice.ensures.value ∙ c.in-Ok.ensures) _ _ _
    (row_taken _ _ _ _ c.take_records-platform.ensures c.in-Ok-numbered_releases.ensures.read)
    c.in-Ok-read_trees.ensures.read _ _ c.in-Ok-judged.ensures.judged c.of_row.ensures.shown (c.of_row.ensures.tells (history_of c.args.asked.now))
