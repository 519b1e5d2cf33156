use Rattle.std.proofs.Common.{◌≡◌, ◌<◌, ◌-◌, None}
use Rattle.jc_facts.specs.world.World.{size}
use Rattle.jc_facts.specs.world.Loading.{fault_at}
use Rattle.jc_facts.specs.world.Lookup.{field_found}
use Rattle.jc_index.specs.Ids.{name_at}
use Rattle.jc_field.proofs.walk.walk_field.Given as goal

abbrev pub invariant-loop : goal.invariant-loop
invariant-loop l = record {
  within : l.class < size l.table;
  level : fault_at l.table (size l.table - l.counter) (name_at l.table l.class) ≡ None;
  same : field_found l.table (name_at l.table l.fn.class) l.key ≡ field_found l.table (name_at l.table l.class) l.key;
}
