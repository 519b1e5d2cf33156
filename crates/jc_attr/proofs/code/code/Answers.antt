use Rattle.jc_facts.specs.file.Attributes.{code_of}
use Rattle.jc_facts.specs.file.CodeGrammar.{IsCode}
use Rattle.jc_facts.proofs.Codes.{code_is_one}
use Rattle.jc_attr.proofs.Whole.{has_form}
use Rattle.jc_attr.proofs.code.code.Goals as goal

pub returns-clause-form : goal.returns-clause-form
returns-clause-form c = has_form code_of IsCode code_is_one c.args.body.now _ c.whole_code.ensures
