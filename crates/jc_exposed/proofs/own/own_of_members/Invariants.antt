use Rattle.std.proofs.Common.{◌&&◌, take}
use Rattle.std.specs.List.{list_any}
use Rattle.jc_acts.specs.Touched.{flag_at}
use Rattle.jc_desc.specs.Classes.{descriptor_names}
use Rattle.jc_facts.specs.Names.{key_of}
use Rattle.jc_index.specs.Ids.{name_at}
use Rattle.jc_exposed.specs.Namings.{Gives}
use Rattle.jc_exposed.proofs.own.own_of_members.Given as goal

abbrev pub invariant-loop-member : goal.invariant-loop-member
invariant-loop-member l = Gives (flag_at l.wanted) (λ g t. list_any (λ m. descriptor_names m.descriptor (name_at l.table t) && g (key_of m)) (take l.member-index l.members)) l.namings.items
