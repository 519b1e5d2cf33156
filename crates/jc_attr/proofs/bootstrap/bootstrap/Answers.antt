use Rattle.jc_facts.specs.Names.{Bytes}
use Rattle.jc_facts.specs.file.Attributes.{bootstrap_of}
use Rattle.jc_facts.specs.file.CodeGrammar.{IsBootstrap}
use Rattle.jc_facts.proofs.Codes.{bootstrap_is_one}
use Rattle.jc_attr.proofs.Whole.{has_form}
use Rattle.jc_attr.proofs.bootstrap.bootstrap.Goals as goal

pub returns-clause-form : goal.returns-clause-form
returns-clause-form c = has_form (λ (body : Bytes). bootstrap_of body c.args.number) (IsBootstrap c.args.number) (bootstrap_is_one c.args.number) c.args.body.now _ c.whole_bootstrap.ensures
