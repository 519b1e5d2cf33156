use Rattle.std.proofs.Common.{◌≡◌, drop}
use Rattle.std.specs.Prelude.{codes}
use Rattle.std.specs.List.{find as first_where}
use Rattle.jc_facts.specs.Names.{is_key}
use Rattle.jc_facts.specs.client.Outcome.{init_key}
use Rattle.jc_index.proofs.root.has_public_init.Given as goal

abbrev pub invariant-loop-method : goal.invariant-loop-method
invariant-loop-method l = first_where (is_key (init_key (codes "()V"))) l.method-items ≡ first_where (is_key (init_key (codes "()V"))) (drop l.method-index l.method-items)
