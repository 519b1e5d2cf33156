use Rattle.std.proofs.Common.{rules}
use Rattle.jc_words.proofs.Numbers.{same_number, no_number}
use Rattle.jc_words.proofs.number.parsed.Goals as goal

pub returns-in-Ok : goal.returns-in-Ok
returns-in-Ok c = λ m h. search (rules, same_number, h)

pub returns-in-Err : goal.returns-in-Err
returns-in-Err c = λ m h. search (rules, no_number, h)
