use Rattle.std.proofs.Common.{take}
use Rattle.jc_facts.specs.Names.{same, package_name}
use Rattle.jc_index.proofs.Mentions.{AreOf}
use Rattle.jc_index.proofs.mentioned.packages.Given as goal

abbrev pub invariant-loop-class : goal.invariant-loop-class
invariant-loop-class l = AreOf (λ c x. same (package_name c.name) x) (take l.class-index l.classes) l.set
