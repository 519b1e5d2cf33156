use Rattle.std.proofs.Common.{◌≡◌, ◌<◌, ◌-◌, not}
use Rattle.std.specs.Prelude.{IfSome}
use Rattle.jc_facts.specs.world.World.{size}
use Rattle.jc_index.specs.Ids.{name_at}
use Rattle.std.specs.List.{list_any}
use Rattle.jc_facts.specs.world.Hierarchy.{chain, in_chain}
use Rattle.jc_acts.proofs.Beside.{IsBeside}
use Rattle.jc_acts.proofs.Upwards.{any_from}
use Rattle.jc_acts.proofs.chains.lacks_any.Given as goal

abbrev pub invariant-loop : goal.invariant-loop
invariant-loop l =
    IfSome l.next (λ id. id < size l.old)
    × IfSome l.beside (λ id. id < size l.new)
    × (list_any (λ c. not (in_chain l.new (name_at l.new l.other) c.name)) (chain l.old (name_at l.old l.fn.class)) ≡ any_from l.old (λ c. not (in_chain l.new (name_at l.new l.other) c.name)) (size l.old - l.counter) l.next)
    × IsBeside l.new (name_at l.new l.other) l.beside
