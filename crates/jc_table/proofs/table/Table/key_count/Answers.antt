use Rattle.std.proofs.Common.{List, length, ◌∙◌, ap, subst}
use Rattle.jc_facts.specs.declared.key.Key.{Key}
use Rattle.jc_facts.specs.world.World.{World}
use Rattle.jc_index.specs.Sides.{IsSide}
use Rattle.jc_rows.proofs.KeyLists.{numbered_keys-distinct}
use Rattle.jc_rows.proofs.DeclaredKeys.{numbered_keys-declared}
use Rattle.jc_table.proofs.Rows.{keys_are, side_differs}
use Rattle.jc_table.proofs.table.Table.key_count.Goals as goal

pub returns-clause-count : goal.returns-clause-count
returns-clause-count c = c.count.ensures.count ∙ ap (λ (ks : List Key). length ks) (keys_are c.self.inside.hierarchy c.args.self.now c.self.inside.rows.keys c.self.invariant.rows.keys c.self.view_is)

pub returns-clause-distinct : goal.returns-clause-distinct
returns-clause-distinct c = numbered_keys-distinct c.args.self.now

pub returns-clause-known : goal.returns-clause-known
returns-clause-known c = λ k. numbered_keys-declared c.args.self.now (side_differs c.args.self.now (subst (λ (W : World). IsSide W) c.self.view_is c.self.invariant.side)) k
