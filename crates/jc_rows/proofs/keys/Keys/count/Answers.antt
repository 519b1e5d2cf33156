use Rattle.std.proofs.Common.{subst, List}
use Rattle.jc_facts.specs.declared.key.Key.{Key}
use Rattle.jc_rows.specs.Keys.{AreDistinct}
use Rattle.jc_rows.proofs.Numbered.{distinct}
use Rattle.jc_rows.proofs.keys.Keys.count.Goals as goal

pub returns-clause-distinct : goal.returns-clause-distinct
returns-clause-distinct c = subst (λ (ks : List Key). AreDistinct ks) c.self.view_is (distinct c.self.inside.set.keys c.len.ensures.unique)
