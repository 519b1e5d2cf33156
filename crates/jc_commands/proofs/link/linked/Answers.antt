use Rattle.jc_commands.proofs.Causes.{refusal_stops, none_refused}
use Rattle.jc_releases.specs.Releases.{modules_in}
use Rattle.jc_commands.proofs.link.linked.Goals as goal

pub returns-in-Ok-linked_in-clause-outcomes : goal.returns-in-Ok-linked_in-clause-outcomes
returns-in-Ok-linked_in-clause-outcomes c = record {
  fits = none_refused (modules_in c.args.release.modules) _ _ _ (rw (c.in-Ok.ensures, c.into_vec.ensures) at c.in-Ok-linked_in.ensures.linked);
  exact = rw (c.in-Ok.ensures, c.into_vec.ensures) at c.in-Ok-linked_in.ensures.value;
}

pub returns-clause-stopped : goal.returns-clause-stopped
returns-clause-stopped c = rw c.unlinked.ensures (refusal_stops (modules_in c.args.release.modules) _ _ _ c.in-Err.refusal (rw (c.in-Ok.ensures, c.into_vec.ensures) at c.in-Err.ensures.refused))
