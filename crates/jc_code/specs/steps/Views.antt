-- A method and its class, without where they lie in memory.
use Rattle.std.specs.Prelude.{map}
use Rattle.std.specs.Option.{option_map}
use Rattle.jc_facts.specs.code.Code as code
use Rattle.jc_code.specs.steps.RowView.{row_view}
use Rattle.jc_code.specs.declared.around.Around.{Around}

abbrev pub around_view : Around → code.Around
around_view a = record {
  pool = a.pool.now;
  class = a.class.now;
  superclass = option_map (λ x. x.now) a.superclass;
  boots = option_map (λ x. map (λ r. row_view r) x.now) a.boots;
  name = a.name.now;
  descriptor = a.descriptor.now;
  flags = a.flags;
}
