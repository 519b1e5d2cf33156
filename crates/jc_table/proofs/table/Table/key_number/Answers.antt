use Rattle.std.proofs.Common.{List, ◌∙◌, subst}
use Rattle.jc_facts.specs.declared.key.Key.{Key}
use Rattle.jc_facts.specs.world.World.{World}
use Rattle.jc_index.specs.Sides.{IsSide}
use Rattle.jc_rows.specs.Keys.{IsNumber, numbered_keys}
use Rattle.jc_rows.proofs.DeclaredKeys.{numbered_keys-declared}
use Rattle.jc_rows.proofs.Numbered.{number-known}
use Rattle.jc_table.proofs.Rows.{keys_are, number_below, side_differs}
use Rattle.jc_table.proofs.table.Table.key_number.Goals as goal

value : goal.returns-clause-value
value c = subst (λ (ks : List Key). IsNumber ks c.args.key.now c.number.result) (keys_are c.self.inside.hierarchy c.args.self.now c.self.inside.rows.keys c.self.invariant.rows.keys c.self.view_is) c.number.ensures

pub returns-clause-value : goal.returns-clause-value
returns-clause-value c = value c

pub returns-clause-below : goal.returns-clause-below
returns-clause-below c = number_below (numbered_keys c.args.self.now) c.args.key.now c.number.result (value c)

pub returns-clause-known : goal.returns-clause-known
returns-clause-known c =
    number-known (numbered_keys c.args.self.now) c.args.key.now c.number.result (value c)
    ∙ numbered_keys-declared c.args.self.now (side_differs c.args.self.now (subst (λ (W : World). IsSide W) c.self.view_is c.self.invariant.side)) c.args.key.now
