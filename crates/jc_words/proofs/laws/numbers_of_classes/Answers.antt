use Rattle.std.proofs.Common.{refl}
use Rattle.std.specs.Fmt.{digits}
use Rattle.clap.proofs.OnLiterals.{clap_on_literals}
use Rattle.jc_words.proofs.laws.numbers_of_classes.Goals as goal

pub returns : goal.returns
unfolding digits clap_on_literals
returns c = record {
  least = refl;
  most = refl;
  after_dashes = refl;
  zero = refl;
  too_many = refl;
  leading_zero = refl;
  sign = refl;
  sign_after_dashes = refl;
  letter = refl;
  empty_word = refl;
  twenty_digits = refl;
  no_number = refl;
  two_numbers = refl;
  short_option = refl;
  option_of_check = refl;
  modular = refl;
}
