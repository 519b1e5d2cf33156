use Rattle.std.proofs.Common.{refl}
use Rattle.clap.proofs.OnLiterals.{clap_on_literals}
use Rattle.jc_words.proofs.laws.options_in_any_order.Goals as goal

pub returns : goal.returns
unfolding clap_on_literals
returns c = record {
  check = refl;
  check_turned_round = refl;
  check_with_all = refl;
  gates = refl;
  gate_empty = refl;
  warnings = refl;
  signatures = refl;
  dropped = refl;
  calls = refl;
  modular = refl;
  versions = refl;
  link = refl;
  link_turned_round = refl;
  link_modular = refl;
  value_empty = refl;
  value_hyphen = refl;
  value_with_equals_sign = refl;
  value_as_a_command = refl;
  dashes_last = refl;
}
