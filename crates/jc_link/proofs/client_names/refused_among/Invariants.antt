use Rattle.std.proofs.Common.{◌≡◌, drop}
use Rattle.jc_link.specs.steps.TakenNames.{first_by}
use Rattle.jc_link.proofs.client_names.refused_among.Given as goal

abbrev pub invariant-loop-client : goal.invariant-loop-client
invariant-loop-client l = first_by l.taken (drop l.client-index l.clients) ≡ first_by l.taken l.clients
