use Rattle.std.proofs.Common.{subst}
use Rattle.jc_facts.specs.world.World.{size}
use Rattle.jc_acts.specs.Touched.{flag_at}
use Rattle.jc_exposed.specs.Exposing.{AreOwnRows}
use Rattle.jc_exposed.proofs.own.Own.new.Goals as goal

pub returns-clause-own : goal.returns-clause-own
returns-clause-own c = record {
  marks = c.requires.wanted;
  rows = subst (λ ws. AreOwnRows c.args.table.now (flag_at ws) (size c.args.table.now) c.in_ok-rows.rows.items) c.as_slice-2.ensures.value c.in_ok-rows.ensures;
}
