use Rattle.std.proofs.Common.{length, ap, ◌∙◌}
use Rattle.jc_acts.specs.Touched.{flag_at}
use Rattle.jc_select.proofs.dropped.exposed_of.Goals as goal

pub new-requires-clause-count : goal.new-requires-clause-count
new-requires-clause-count c = ap length (c.in_ok-wanted.ensures.items ∙ c.hidden.ensures) ∙ c.requires.lost.hidden.count

pub returns-clause-wanted : goal.returns-clause-wanted
returns-clause-wanted c = λ n l h. ap (λ fs. flag_at fs n) (c.in_ok-exposed.ensures.wanted ∙ c.in_ok-wanted.ensures.items ∙ c.hidden.ensures) ∙ h
