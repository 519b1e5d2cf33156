use Rattle.std.proofs.Common.{◌≡◌, ◌-◌, None}
use Rattle.std.specs.Option.{option_map}
use Rattle.jc_facts.specs.file.ClassSteps.{attributes_at}
use Rattle.jc_facts.specs.code.ClientItems as client
use Rattle.jc_code.proofs.bootstrap_rows.some_body.Given as goal

abbrev pub invariant-loop : goal.invariant-loop
invariant-loop l = attributes_at (client.take_boots l.pool) l.pool (l.count - l.counter) (option_map (λ b. b.now) l.found) l.rest ≡ attributes_at (client.take_boots l.pool) l.pool l.count None l.bytes
