use Rattle.std.proofs.Common.{◌≡◌, ◌++◌, map, drop}
use Rattle.jc_desc.specs.Types.{types_text}
use Rattle.jc_promises.specs.plan.Planned.{class_type}
use Rattle.jc_drafts.proofs.texts.push_classes.Given as goal

abbrev pub invariant-loop-class : goal.invariant-loop-class
invariant-loop-class l = l.bytes.items ++ types_text (map class_type (drop l.class-index l.classes)) ≡ l.fn.bytes.items ++ types_text (map class_type l.classes)
