use Rattle.std.proofs.Common.{refl}
use Rattle.jc_words.proofs.laws.help_alone.Goals as goal

pub returns : goal.returns
returns c = record {
  alone = refl;
  further = λ word words. refl;
}
