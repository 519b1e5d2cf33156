use Rattle.std.proofs.Common.{take}
use Rattle.jc_facts.specs.Names.{is_name_among}
use Rattle.jc_facts.specs.world.Search.{supers}
use Rattle.jc_index.proofs.Mentions.{AreOf}
use Rattle.jc_index.proofs.mentioned.all_supers.Given as goal

abbrev pub invariant-loop-class : goal.invariant-loop-class
invariant-loop-class l = AreOf (λ c x. is_name_among (supers c) x) (take l.class-index l.classes) l.set
