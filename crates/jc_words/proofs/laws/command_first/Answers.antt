use Rattle.std.proofs.Common.{refl}
use Rattle.clap.proofs.OnLiterals.{clap_on_literals}
use Rattle.jc_words.proofs.laws.command_first.Goals as goal

pub returns : goal.returns
unfolding clap_on_literals
returns c = record {
  no_word = refl;
  unknown_command = refl;
  unknown_before_words = refl;
  empty_command = refl;
  part_of_a_command = refl;
  other_case = refl;
  option_first = refl;
  help = refl;
}
