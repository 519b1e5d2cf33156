use Rattle.jc_words.proofs.Required.{check_values, link_values}
use Rattle.jc_words.proofs.laws.required_options_have_values.Goals as goal

pub returns-clause-check : goal.returns-clause-check
returns-clause-check c = check_values

pub returns-clause-link : goal.returns-clause-link
returns-clause-link c = link_values
