use Rattle.std.proofs.Common.{◌≡◌, ◌<◌, ◌-◌}
use Rattle.jc_facts.specs.world.World.{size}
use Rattle.jc_facts.specs.world.Hierarchy.{in_chain}
use Rattle.jc_index.specs.Ids.{name_at}
use Rattle.jc_index.proofs.Upwards.{is_up}
use Rattle.jc_index.proofs.hierarchy.Hierarchy.has_super.Given as goal

abbrev pub invariant-loop : goal.invariant-loop
invariant-loop l = record {
  within : l.class < size l.self;
  same : in_chain l.self (name_at l.self l.fn.id) (name_at l.self l.of) ≡ is_up l.self (size l.self - l.counter) (name_at l.self l.class) (name_at l.self l.of);
}
