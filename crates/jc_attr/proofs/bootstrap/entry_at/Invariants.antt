use Rattle.std.proofs.Common.{◌-◌}
use Rattle.std.specs.Option.{option_map}
use Rattle.jc_facts.specs.file.Attributes.{list_at, bootstrap_from}
use Rattle.jc_attr.specs.Views.{bootstrap_view}
use Rattle.jc_attr.proofs.Lists.{Found}
use Rattle.jc_attr.proofs.bootstrap.entry_at.Given as goal

abbrev pub invariant-loop-i : goal.invariant-loop-i
invariant-loop-i l = Found bootstrap_from l.number l.i (l.count - l.i) (option_map (λ b. bootstrap_view b) l.found) l.rest (list_at bootstrap_from l.count l.bytes)
