use Rattle.std.proofs.Common.{Option, Bor, List, ℕ, ap}
use Rattle.std.specs.Option.{option_map}
use Rattle.jc_attr.specs.Views.{bootstrap_view}
use Rattle.jc_code.proofs.KeptRows.{rows_are}
use Rattle.jc_code.proofs.bootstrap_rows.rows.Goals as goal

pub returns : goal.returns
returns c = rows_are c.args.pool.now (λ b. bootstrap_view b) c.in-Some-2.entries.items _ (option_map (λ x. x.now) c.args.body) c.in-Some.body.now (ap (λ (o : Option (Bor (List ℕ))). option_map (λ x. x.now) o) c.in-Some.is) (rw c.as_slice.ensures.value at c.in_ok-all_rows.ensures) (rw c.in-Some-2.is at c.in_ok-entries.ensures)
