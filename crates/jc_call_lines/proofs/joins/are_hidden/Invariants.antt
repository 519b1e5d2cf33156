use Rattle.std.proofs.Common.{◌≡◌, drop}
use Rattle.std.specs.List.{list_all}
use Rattle.jc_promises.specs.rule.Exposed.{is_hidden}
use Rattle.jc_index.specs.Ids.{name_at}
use Rattle.jc_call_lines.proofs.joins.are_hidden.Given as goal

abbrev pub invariant-loop-id : goal.invariant-loop-id
invariant-loop-id l = list_all (λ id. is_hidden l.table (name_at l.table id)) (drop l.id-index l.ids) ≡ list_all (λ id. is_hidden l.table (name_at l.table id)) l.ids
