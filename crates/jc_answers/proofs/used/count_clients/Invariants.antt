use Rattle.std.proofs.Common.{◌≡◌, ◌+◌, ◌≤◌, drop}
use Rattle.jc_answers.specs.Used.{clients_by}
use Rattle.jc_answers.proofs.used.count_clients.Given as goal

abbrev pub invariant-loop-client : goal.invariant-loop-client
invariant-loop-client l = (l.count ≤ l.client-index) × (l.count + clients_by (drop l.client-index l.explained) l.number ≡ clients_by l.explained l.number)
