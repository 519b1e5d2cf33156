use Rattle.jc_declared.proofs.MethodMadeFinal.{of_finals}
use Rattle.jc_declared.proofs.method_made_final.MethodMadeFinalItemRule.members.Goals as goal

pub returns : goal.returns
returns c = λ s x covered. of_finals s x
