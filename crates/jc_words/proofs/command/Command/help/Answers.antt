use Rattle.jc_words.proofs.ByWords.{no_words, some_words}
use Rattle.jc_words.proofs.command.Command.help.Goals as goal

pub returns-in-empty : goal.returns-in-empty
returns-in-empty c = no_words c.args.words.now c.in-empty.len_below

pub returns-in_default : goal.returns-in_default
returns-in_default c = some_words c.args.words.now c.in_default.len_at_least
