use Rattle.std.proofs.Common.{◌-◌, ◌+◌, arith, sym}
use Rattle.std.specs.Option.{option_map}
use Rattle.jc_facts.specs.file.Attributes.{list_at, bootstrap_from}
use Rattle.jc_attr.specs.Views.{bootstrap_view}
use Rattle.jc_attr.proofs.Lists.{found_step, found_fault, found_done}
use Rattle.jc_attr.proofs.bootstrap.entry_at.Goals as goal

pub returns-in-Err : goal.returns-in-Err
returns-in-Err c =
    found_fault bootstrap_from c.args.number c.loop-i.i (c.args.count - c.loop-i.i) (option_map (λ b. bootstrap_view b) c.loop-i.found) c.loop-i.rest.now c.in-Err.fault (list_at bootstrap_from c.args.count c.args.bytes.now) (omega arith) (sym c.in-Err.ensures) c.loop-i.invariant

pub loop-i-preserved : goal.loop-i-preserved
loop-i-preserved c =
    found_step bootstrap_from c.args.number c.loop-i.i (c.args.count - c.loop-i.i) (c.args.count - (c.loop-i.i + 1)) (option_map (λ b. bootstrap_view b) c.loop-i.found) c.loop-i.rest.now (bootstrap_view c.in-Ok.entry.0) c.in-Ok.entry.1.now
    (list_at bootstrap_from c.args.count c.args.bytes.now) _ (omega arith) (sym c.in-Ok.ensures) c.entry_or-found.ensures c.loop-i.invariant

pub returns : goal.returns
returns c =
    found_done bootstrap_from c.args.number c.loop-i.i (c.args.count - c.loop-i.i) (option_map (λ b. bootstrap_view b) c.loop-i.found) c.loop-i.rest.now (list_at bootstrap_from c.args.count c.args.bytes.now) (omega arith) c.loop-i.invariant
