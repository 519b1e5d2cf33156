use Rattle.std.proofs.Common.{Bool, IsTrue, ◌↔◌, subst, sym}
use Rattle.jc_facts.specs.file.Valid.{IsValidClass}
use Rattle.jc_facts.proofs.Tests.{valid_exactly}
use Rattle.jc_facts.proofs.validity.is_valid.Goals as goal

pub returns : goal.returns
returns c = subst (λ (b : Bool). IsTrue b ↔ IsValidClass c.args.facts.now) (sym c.in_ok-valid.ensures) (valid_exactly c.args.facts.now)
