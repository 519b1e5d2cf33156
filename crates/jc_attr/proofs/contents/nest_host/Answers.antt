use Rattle.jc_facts.specs.file.Attributes.{nest_host_of}
use Rattle.jc_facts.specs.file.ClassGrammar.{IsHost}
use Rattle.jc_facts.proofs.Contents.{host_is_one}
use Rattle.jc_attr.proofs.Whole.{has_form}
use Rattle.jc_attr.proofs.contents.nest_host.Goals as goal

pub returns-clause-form : goal.returns-clause-form
returns-clause-form c = has_form (nest_host_of c.args.pool.now) (IsHost c.args.pool.now) (host_is_one c.args.pool.now) c.args.body.now _ c.in_ok-name.ensures
