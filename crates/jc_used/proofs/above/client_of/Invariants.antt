use Rattle.std.proofs.Common.{◌≡◌, drop}
use Rattle.jc_facts.specs.world.World.{class_named}
use Rattle.jc_used.proofs.above.client_of.Given as goal

abbrev pub invariant-loop-client : goal.invariant-loop-client
invariant-loop-client l = class_named (drop l.client-index l.clients) l.name ≡ class_named l.clients l.name
