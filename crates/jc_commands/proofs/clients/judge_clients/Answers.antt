use Rattle.std.proofs.Common.{◌∙◌, sym, ap, map, refl}
use Rattle.jc_base.specs.States.{change}
use Rattle.jc_words.specs.Command.{ClientsCommand}
use Rattle.jc_words.specs.CommandView.{clients_of}
use Rattle.jc_commands.proofs.Causes.{cause_reading, cause_siding, cause_failing, answers_reported}
use Rattle.jc_commands.proofs.TreesTaken.{all_kinds, first_taken, second_taken, third_taken, three_taken, three_lists, release_list}
use Rattle.jc_trees.specs.TreeView.{tree_of}
use Rattle.jc_commands.proofs.TwoInOne.{all_clients}
use Rattle.jc_commands.proofs.clients.judge_clients.Goals as goal

pub returns-in-Err-clause-stopped : goal.returns-in-Err-clause-stopped
returns-in-Err-clause-stopped g c =
    cause_reading (ClientsCommand (clients_of c.args.asked.now)) (change g.T.Trees.state c.args.trees.now c.read_trees.new.trees) (λ P h. h) _ c.trees_of_clients-wanted.ensures c.stop_of.result c.in-Err.error c.stop_of.ensures c.in-Err.ensures.stopped

pub take_records-platform-requires : goal.take_records-platform-requires
take_records-platform-requires g c = first_taken _ _ _ _ (all_kinds _ _ _ c.in-Ok.ensures.kinds c.trees_of_clients-wanted.ensures)

pub take_release-old-requires : goal.take_release-old-requires
take_release-old-requires g c = second_taken _ _ _ _ (all_kinds _ _ _ c.in-Ok.ensures.kinds c.trees_of_clients-wanted.ensures) _ _ c.take_records-platform.ensures

pub take_release-new-requires : goal.take_release-new-requires
take_release-new-requires g c = third_taken _ _ _ _ (all_kinds _ _ _ c.in-Ok.ensures.kinds c.trees_of_clients-wanted.ensures) _ _ c.take_records-platform.ensures _ _ c.take_release-old.ensures.read

pub two_sides-requires-clause-platform : goal.two_sides-requires-clause-platform
two_sides-requires-clause-platform g c =
    let taken = three_taken _ _ _ _ (all_kinds _ _ _ c.in-Ok.ensures.kinds c.trees_of_clients-wanted.ensures) _ _ c.take_records-platform.ensures _ _ c.take_release-old.ensures.read _ _ c.take_release-new.ensures.read in
    (three_lists _ _ _ _ taken c.in-Ok.ensures.lists).0

pub two_sides-requires-clause-releases : goal.two_sides-requires-clause-releases
two_sides-requires-clause-releases g c =
    let taken = three_taken _ _ _ _ (all_kinds _ _ _ c.in-Ok.ensures.kinds c.trees_of_clients-wanted.ensures) _ _ c.take_records-platform.ensures _ _ c.take_release-old.ensures.read _ _ c.take_release-new.ensures.read in
    let lists = three_lists _ _ _ _ taken c.in-Ok.ensures.lists in
    record {
      old_list = release_list c.take_release-old.result lists.1.0;
      new_list = release_list c.take_release-new.result lists.1.1.0;
      old_name = c.take_release-old.ensures.name;
      new_name = c.take_release-new.ensures.name;
      kind = c.take_release-old.ensures.kind ∙ sym c.take_release-new.ensures.kind;
    }

pub returns-in-Err-two_sides-clause-stopped : goal.returns-in-Err-two_sides-clause-stopped
returns-in-Err-two_sides-clause-stopped g c =
    let taken = three_taken _ _ _ _ (all_kinds _ _ _ c.in-Ok.ensures.kinds c.trees_of_clients-wanted.ensures) _ _ c.take_records-platform.ensures _ _ c.take_release-old.ensures.read _ _ c.take_release-new.ensures.read in
    cause_siding (clients_of c.args.asked.now) (change g.T.Trees.state c.args.trees.now c.read_trees.new.trees) _ c.trees_of_clients-wanted.ensures
    _ _ c.take_release-old.result c.take_release-new.result taken c.in-Ok.ensures.read c.in-Err-two_sides.stop c.in-Err-two_sides.ensures.stopped

pub judge_trees-requires-clause-kinds : goal.judge_trees-requires-clause-kinds
judge_trees-requires-clause-kinds g c =
    all_clients 1 _ c.as_slice-2.result.now (ap (map tree_of) c.as_slice-2.ensures.value ∙ (rw c.as_slice.ensures.value at c.in-Ok-trees_of_each_client.ensures))

pub returns-in-Err-judge_trees-clause-stopped : goal.returns-in-Err-judge_trees-clause-stopped
returns-in-Err-judge_trees-clause-stopped g c =
    cause_failing (clients_of c.args.asked.now) (g.T.Trees.state c.args.trees.now) (g.T.Trees.state c.read_trees.new.trees) (g.T.Trees.state c.judge_trees.new.trees) c.in-Ok.ensures.never_falls
    (map tree_of c.as_slice-2.result.now) (ap (map tree_of) c.as_slice-2.ensures.value ∙ (rw c.as_slice.ensures.value at c.in-Ok-trees_of_each_client.ensures))
    c.stop_of-in-Err-judge_trees.result c.in-Err-judge_trees.error c.stop_of-in-Err-judge_trees.ensures c.in-Err-judge_trees.ensures.stopped

pub returns-in-Ok-reported-clause-report : goal.returns-in-Ok-reported-clause-report
returns-in-Ok-reported-clause-report g c =
    let taken = three_taken _ _ _ _ (all_kinds _ _ _ c.in-Ok.ensures.kinds c.trees_of_clients-wanted.ensures) _ _ c.take_records-platform.ensures _ _ c.take_release-old.ensures.read _ _ c.take_release-new.ensures.read in
    let is = ap (map tree_of) c.as_slice-2.ensures.value ∙ (rw c.as_slice.ensures.value at c.in-Ok-trees_of_each_client.ensures) in
    answers_reported (clients_of c.args.asked.now) (change g.T.Trees.state c.args.trees.now c.read_trees.new.trees) _ c.trees_of_clients-wanted.ensures
    _ _ c.take_release-old.result c.take_release-new.result taken c.in-Ok.ensures.read c.in-Ok-two_sides.sides c.in-Ok-two_sides.ensures.sides
    (map tree_of c.as_slice-2.result.now) is
    c.in-Ok-judge_trees.said.answers.items (λ files told. c.in-Ok-judge_trees.ensures.said files (c.in-Ok.ensures.content ∙ told))
    c.in-Ok-judge_trees.said.explained.items (λ files told. rw c.lent.ensures at (c.in-Ok-judge_trees.ensures.numbered files (c.in-Ok.ensures.content ∙ told)))
    _ c.in-Ok-reported.ensures.shown (c.in-Ok-reported.ensures.tells (clients_of c.args.asked.now) refl)
