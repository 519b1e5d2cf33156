use Rattle.std.proofs.Common.{◌≡◌, ◌<◌, ◌-◌}
use Rattle.jc_facts.specs.world.World.{size}
use Rattle.jc_facts.specs.world.Hierarchy.{is_superinterface}
use Rattle.jc_index.specs.Ids.{name_at}
use Rattle.jc_index.proofs.Aboves.{any_up}
use Rattle.jc_index.proofs.hierarchy.Hierarchy.has_superinterface.Given as goal

abbrev pub invariant-loop : goal.invariant-loop
invariant-loop l = record {
  within : l.class < size l.self;
  same : is_superinterface l.self (name_at l.self l.fn.id) (name_at l.self l.of) ≡ any_up l.self (size l.self - l.counter) (name_at l.self l.class) (name_at l.self l.of);
}
