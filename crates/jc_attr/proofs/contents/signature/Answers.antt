use Rattle.jc_facts.specs.file.Attributes.{signature_of}
use Rattle.jc_facts.specs.file.ClassGrammar.{IsSignature}
use Rattle.jc_facts.proofs.Contents.{signature_is_one}
use Rattle.jc_attr.proofs.Whole.{has_form}
use Rattle.jc_attr.proofs.contents.signature.Goals as goal

pub returns-clause-form : goal.returns-clause-form
returns-clause-form c = has_form (signature_of c.args.pool.now) (IsSignature c.args.pool.now) (signature_is_one c.args.pool.now) c.args.body.now _ c.in_ok-text.ensures
