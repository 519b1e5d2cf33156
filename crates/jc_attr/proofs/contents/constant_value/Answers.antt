use Rattle.jc_facts.specs.file.Attributes.{constant_value_of}
use Rattle.jc_facts.specs.file.ClassGrammar.{IsConstantValue}
use Rattle.jc_facts.proofs.Contents.{constant_is_one}
use Rattle.jc_attr.proofs.Whole.{has_form}
use Rattle.jc_attr.proofs.contents.constant_value.Goals as goal

pub returns-clause-form : goal.returns-clause-form
returns-clause-form c = has_form (constant_value_of c.args.pool.now) (IsConstantValue c.args.pool.now) (constant_is_one c.args.pool.now) c.args.body.now _ c.in_ok-value.ensures
