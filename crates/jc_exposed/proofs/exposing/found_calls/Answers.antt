use Rattle.std.proofs.Common.{[], sym, ◌∙◌}
use Rattle.std.specs.List.{cons_option}
use Rattle.jc_exposed.proofs.FoundMembers.{calls_found}
use Rattle.jc_exposed.proofs.exposing.found_calls.Goals as goal

pub returns : goal.returns
returns c =
    calls_found c.args.table.now c.args.class c.args.naming.now c.new-members.result.items c.push_some.new.items.items c.push_some-2.new.items.items (cons_option c.found_by.result []) (cons_option c.found_by-2.result [])
    (sym c.is_of_method.ensures ∙ c.if-not-is_of_method.false) c.new-members.ensures.items c.in_ok-push_some.ensures c.in_ok-push_some-2.ensures c.found_by.ensures c.found_by-2.ensures
