use Rattle.jc_base.specs.States.{change}
use Rattle.jc_words.specs.Command.{LinkCommand}
use Rattle.jc_words.specs.CommandView.{link_of}
use Rattle.jc_commands.proofs.Causes.{cause_reading, cause_linking, outcomes_reported}
use Rattle.jc_commands.proofs.TreesTaken.{all_kinds, first_taken, second_taken, third_taken, three_taken, three_lists, release_list}
use Rattle.jc_commands.proofs.link.link_clients.Goals as goal

pub returns-in-Err-clause-stopped : goal.returns-in-Err-clause-stopped
returns-in-Err-clause-stopped g c =
    cause_reading (LinkCommand (link_of c.args.asked.now)) (change g.T.Trees.state c.args.trees.now c.read_trees.new.trees) (λ P h. h) _ c.trees_of_link-wanted.ensures c.stop_of.result c.in-Err.error c.stop_of.ensures c.in-Err.ensures.stopped

pub take_records-platform-requires : goal.take_records-platform-requires
take_records-platform-requires g c = first_taken _ _ _ _ (all_kinds _ _ _ c.in-Ok.ensures.kinds c.trees_of_link-wanted.ensures)

pub take_release-release-requires : goal.take_release-release-requires
take_release-release-requires g c = second_taken _ _ _ _ (all_kinds _ _ _ c.in-Ok.ensures.kinds c.trees_of_link-wanted.ensures) _ _ c.take_records-platform.ensures

pub take_clients-clients-requires : goal.take_clients-clients-requires
take_clients-clients-requires g c = third_taken _ _ _ _ (all_kinds _ _ _ c.in-Ok.ensures.kinds c.trees_of_link-wanted.ensures) _ _ c.take_records-platform.ensures _ _ c.take_release-release.ensures.read

pub linked-requires-clause-platform : goal.linked-requires-clause-platform
linked-requires-clause-platform g c =
    let taken = three_taken _ _ _ _ (all_kinds _ _ _ c.in-Ok.ensures.kinds c.trees_of_link-wanted.ensures) _ _ c.take_records-platform.ensures _ _ c.take_release-release.ensures.read _ _ c.take_clients-clients.ensures in
    (three_lists _ _ _ _ taken c.in-Ok.ensures.lists).0

pub linked-requires-clause-release : goal.linked-requires-clause-release
linked-requires-clause-release g c =
    let taken = three_taken _ _ _ _ (all_kinds _ _ _ c.in-Ok.ensures.kinds c.trees_of_link-wanted.ensures) _ _ c.take_records-platform.ensures _ _ c.take_release-release.ensures.read _ _ c.take_clients-clients.ensures in
    release_list c.take_release-release.result (three_lists _ _ _ _ taken c.in-Ok.ensures.lists).1.0

pub linked-requires-clause-clients : goal.linked-requires-clause-clients
linked-requires-clause-clients g c =
    let taken = three_taken _ _ _ _ (all_kinds _ _ _ c.in-Ok.ensures.kinds c.trees_of_link-wanted.ensures) _ _ c.take_records-platform.ensures _ _ c.take_release-release.ensures.read _ _ c.take_clients-clients.ensures in
    (three_lists _ _ _ _ taken c.in-Ok.ensures.lists).1.1.0

pub returns-in-Err-linked-clause-stopped : goal.returns-in-Err-linked-clause-stopped
returns-in-Err-linked-clause-stopped g c =
    let taken = three_taken _ _ _ _ (all_kinds _ _ _ c.in-Ok.ensures.kinds c.trees_of_link-wanted.ensures) _ _ c.take_records-platform.ensures _ _ c.take_release-release.ensures.read _ _ c.take_clients-clients.ensures in
    cause_linking (link_of c.args.asked.now) (change g.T.Trees.state c.args.trees.now c.read_trees.new.trees) _ c.trees_of_link-wanted.ensures
    _ _ c.take_release-release.result _ taken c.in-Ok.ensures.read c.in-Err-linked.stop c.in-Err-linked.ensures.stopped

pub returns-in-Ok-of_outcomes-clause-report : goal.returns-in-Ok-of_outcomes-clause-report
returns-in-Ok-of_outcomes-clause-report g c =
    let taken = three_taken _ _ _ _ (all_kinds _ _ _ c.in-Ok.ensures.kinds c.trees_of_link-wanted.ensures) _ _ c.take_records-platform.ensures _ _ c.take_release-release.ensures.read _ _ c.take_clients-clients.ensures in
    outcomes_reported (link_of c.args.asked.now) (change g.T.Trees.state c.args.trees.now c.read_trees.new.trees) _ c.trees_of_link-wanted.ensures
    _ _ c.take_release-release.result _ taken c.in-Ok.ensures.read _ _ c.in-Ok-linked.ensures.outcomes c.in-Ok-of_outcomes.ensures.shown ((rw c.as_slice.ensures.value at c.in-Ok-of_outcomes.ensures.tells) (link_of c.args.asked.now))
