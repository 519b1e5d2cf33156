use Rattle.jc_facts.specs.file.Attributes.{class_list_of}
use Rattle.jc_facts.specs.file.ClassGrammar.{AreClasses}
use Rattle.jc_facts.proofs.Contents.{classes_are_one}
use Rattle.jc_attr.proofs.Whole.{has_form}
use Rattle.jc_attr.proofs.contents.permits.Goals as goal

pub returns-clause-form : goal.returns-clause-form
returns-clause-form c = has_form (class_list_of c.args.pool.now) (AreClasses c.args.pool.now) (classes_are_one c.args.pool.now) c.args.body.now _ c.in_ok-names.ensures
