use Rattle.std.proofs.Common.{take}
use Rattle.std.specs.List.{list_any}
use Rattle.jc_acts.specs.Touched.{flag_at}
use Rattle.jc_desc.specs.Classes.{type_names}
use Rattle.jc_desc.specs.Views.{views}
use Rattle.jc_exposed.specs.Named.{Lists}
use Rattle.jc_exposed.proofs.named.classes_of.Given as goal

abbrev pub invariant-loop-part : goal.invariant-loop-part
invariant-loop-part l = Lists l.table (flag_at l.wanted) (λ x. list_any (type_names x) (views (take l.part-index l.types))) l.ids.items
