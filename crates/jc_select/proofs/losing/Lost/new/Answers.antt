use Rattle.std.proofs.Common.{subst}
use Rattle.jc_select.specs.steps.Losing.{AreMarks, is_asked}
use Rattle.jc_select.proofs.losing.Lost.new.Goals as goal

pub returns : goal.returns
returns c = record {
  rows = c.in_ok-rows.ensures;
  hidden = subst (λ rows. AreMarks c.args.sides.now.old (is_asked c.args.sides.now rows) c.in_ok-hidden.hidden.items) c.as_slice.ensures.value c.in_ok-hidden.ensures;
}
