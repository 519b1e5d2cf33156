use Rattle.std.proofs.Common.{◌≡◌, ◌++◌, drop, map}
use Rattle.std.specs.List.{filter}
use Rattle.jc_facts.specs.Flags.{enum_flag}
use Rattle.jc_call_lines.specs.steps.ConstantLines.{constant_names}
use Rattle.jc_call_lines.proofs.constants.constant_names.Given as goal

abbrev pub invariant-loop-field : goal.invariant-loop-field
invariant-loop-field l = l.names.items ++ map (λ m. m.name) (filter (λ m. enum_flag m.flags) (drop l.field-index l.class.fields)) ≡ constant_names l.class
