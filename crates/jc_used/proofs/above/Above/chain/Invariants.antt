use Rattle.std.proofs.Common.{◌≡◌, ◌++◌, ◌-◌, length, map}
use Rattle.std.specs.Prelude.{option_map}
use Rattle.jc_facts.specs.world.World.{class_named}
use Rattle.jc_used.specs.Above.{chain_to}
use Rattle.jc_used.proofs.above.Above.chain.Given as goal

abbrev pub invariant-loop : goal.invariant-loop
invariant-loop l = map (λ c. c.now) l.classes.items ++ chain_to l.clients (length l.clients - l.counter) (option_map (λ c. c.now) l.next) ≡ chain_to l.clients (length l.clients) (class_named l.clients l.name)
