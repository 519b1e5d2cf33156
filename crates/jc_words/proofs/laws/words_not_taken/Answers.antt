use Rattle.std.proofs.Common.{refl}
use Rattle.clap.proofs.OnLiterals.{clap_on_literals}
use Rattle.jc_words.proofs.laws.words_not_taken.Goals as goal

pub returns : goal.returns
unfolding clap_on_literals
returns c = record {
  no_option = refl;
  one_option = refl;
  all_options_but_one = refl;
  link_but_one = refl;
  gate_without_value = refl;
  gate_twice = refl;
  twice = refl;
  link_twice = refl;
  flag_twice = refl;
  without_value = refl;
  option_as_value = refl;
  dashes_as_value = refl;
  value_of_flag = refl;
  true_of_flag = refl;
  value_of_signatures = refl;
  value_of_calls = refl;
  calls_of_link = refl;
  value_of_modular = refl;
  modular_twice = refl;
  word_of_no_option = refl;
  empty_word = refl;
  word_after_dashes = refl;
  unknown_option = refl;
  option_of_link = refl;
  option_of_check = refl;
  help = refl;
  short_help = refl;
  version = refl;
  part_of_an_option = refl;
  one_hyphen = refl;
}
