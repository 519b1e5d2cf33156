use Rattle.std.proofs.Common.{refl}
use Rattle.jc_words.specs.Help.{help_lines}
use Rattle.jc_words.proofs.laws.page_has_each_option.Goals as goal

pub returns : goal.returns
unfolding help_lines
returns c = refl
