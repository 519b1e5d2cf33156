use Rattle.std.proofs.Common.{◌∙◌, sym}
use Rattle.jc_base.specs.States.{change}
use Rattle.jc_words.specs.Command.{CheckCommand}
use Rattle.jc_words.specs.CommandView.{check_of}
use Rattle.jc_commands.proofs.Causes.{cause_reading, cause_comparing, verdict_reported}
use Rattle.jc_commands.proofs.TreesTaken.{all_kinds, first_taken, second_taken, third_taken, three_taken, three_lists, release_list}
use Rattle.jc_commands.proofs.check.check.Goals as goal

pub returns-in-Err-clause-stopped : goal.returns-in-Err-clause-stopped
returns-in-Err-clause-stopped g c =
    cause_reading (CheckCommand (check_of c.args.check.now)) (change g.T.Trees.state c.args.trees.now c.read_trees.new.trees) (λ P h. h) _ c.trees_of_check-wanted.ensures c.stop_of.result c.in-Err.error c.stop_of.ensures c.in-Err.ensures.stopped

pub take_records-platform-requires : goal.take_records-platform-requires
take_records-platform-requires g c = first_taken _ _ _ _ (all_kinds _ _ _ c.in-Ok.ensures.kinds c.trees_of_check-wanted.ensures)

pub take_release-old-requires : goal.take_release-old-requires
take_release-old-requires g c = second_taken _ _ _ _ (all_kinds _ _ _ c.in-Ok.ensures.kinds c.trees_of_check-wanted.ensures) _ _ c.take_records-platform.ensures

pub take_release-new-requires : goal.take_release-new-requires
take_release-new-requires g c = third_taken _ _ _ _ (all_kinds _ _ _ c.in-Ok.ensures.kinds c.trees_of_check-wanted.ensures) _ _ c.take_records-platform.ensures _ _ c.take_release-old.ensures.read

pub of_records-requires-clause-platform : goal.of_records-requires-clause-platform
of_records-requires-clause-platform g c =
    let taken = three_taken _ _ _ _ (all_kinds _ _ _ c.in-Ok.ensures.kinds c.trees_of_check-wanted.ensures) _ _ c.take_records-platform.ensures _ _ c.take_release-old.ensures.read _ _ c.take_release-new.ensures.read in
    (three_lists _ _ _ _ taken c.in-Ok.ensures.lists).0

pub of_records-requires-clause-releases : goal.of_records-requires-clause-releases
of_records-requires-clause-releases g c =
    let taken = three_taken _ _ _ _ (all_kinds _ _ _ c.in-Ok.ensures.kinds c.trees_of_check-wanted.ensures) _ _ c.take_records-platform.ensures _ _ c.take_release-old.ensures.read _ _ c.take_release-new.ensures.read in
    let lists = three_lists _ _ _ _ taken c.in-Ok.ensures.lists in
    record {
      old_list = release_list c.take_release-old.result lists.1.0;
      new_list = release_list c.take_release-new.result lists.1.1.0;
      old_name = c.take_release-old.ensures.name;
      new_name = c.take_release-new.ensures.name;
      kind = c.take_release-old.ensures.kind ∙ sym c.take_release-new.ensures.kind;
    }

pub returns-in-Err-of_records-clause-stopped : goal.returns-in-Err-of_records-clause-stopped
returns-in-Err-of_records-clause-stopped g c =
    let taken = three_taken _ _ _ _ (all_kinds _ _ _ c.in-Ok.ensures.kinds c.trees_of_check-wanted.ensures) _ _ c.take_records-platform.ensures _ _ c.take_release-old.ensures.read _ _ c.take_release-new.ensures.read in
    cause_comparing (check_of c.args.check.now) (change g.T.Trees.state c.args.trees.now c.read_trees.new.trees) _ c.trees_of_check-wanted.ensures
    _ _ c.take_release-old.result c.take_release-new.result taken c.in-Ok.ensures.read c.in-Err-of_records.stop c.in-Err-of_records.ensures.stopped

pub returns-in-Ok-of_comparison-clause-report : goal.returns-in-Ok-of_comparison-clause-report
returns-in-Ok-of_comparison-clause-report g c =
    let taken = three_taken _ _ _ _ (all_kinds _ _ _ c.in-Ok.ensures.kinds c.trees_of_check-wanted.ensures) _ _ c.take_records-platform.ensures _ _ c.take_release-old.ensures.read _ _ c.take_release-new.ensures.read in
    verdict_reported (check_of c.args.check.now) (change g.T.Trees.state c.args.trees.now c.read_trees.new.trees) _ c.trees_of_check-wanted.ensures
    _ _ c.take_release-old.result c.take_release-new.result taken c.in-Ok.ensures.read _ _ c.in-Ok-of_records.ensures.compared
    c.in-Ok-of_comparison.ensures.shown c.in-Ok-of_comparison.ensures.tells
