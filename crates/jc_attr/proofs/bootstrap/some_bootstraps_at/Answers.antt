use Rattle.std.proofs.Common.{◌-◌, ◌+◌, arith, sym}
use Rattle.std.specs.Prelude.{map}
use Rattle.std.proofs.lemmas.List.{map_push}
use Rattle.jc_facts.specs.file.Attributes.{list_at, bootstrap_from}
use Rattle.jc_attr.specs.declared.bootstrap.BootstrapParts.{BootstrapParts}
use Rattle.jc_attr.specs.Views.{bootstrap_view}
use Rattle.jc_attr.proofs.Lists.{list_step, list_fault, list_done}
use Rattle.jc_attr.proofs.bootstrap.some_bootstraps_at.Goals as goal

pub returns-in-Err : goal.returns-in-Err
returns-in-Err c =
    list_fault bootstrap_from (map (λ (b : BootstrapParts). bootstrap_view b) c.loop.entries.items) (c.args.count - c.loop.counter) c.loop.rest.now c.in-Err.fault (list_at bootstrap_from c.args.count c.args.bytes.now) (omega arith) (sym c.in-Err.ensures) c.loop.invariant

pub loop-preserved : goal.loop-preserved
loop-preserved c =
    rw (c.in_ok-push.ensures.items, map_push (λ (b : BootstrapParts). bootstrap_view b) c.loop.entries.items c.in-Ok.entry.0)
    (list_step bootstrap_from (map (λ (b : BootstrapParts). bootstrap_view b) c.loop.entries.items) (c.args.count - c.loop.counter) (c.args.count - (c.loop.counter + 1)) c.loop.rest.now (bootstrap_view c.in-Ok.entry.0) c.in-Ok.entry.1.now (list_at bootstrap_from c.args.count c.args.bytes.now) (omega arith) (sym c.in-Ok.ensures) c.loop.invariant)

pub returns : goal.returns
returns c =
    list_done bootstrap_from (map (λ (b : BootstrapParts). bootstrap_view b) c.loop.entries.items) (c.args.count - c.loop.counter) c.loop.rest.now (list_at bootstrap_from c.args.count c.args.bytes.now) (omega arith) c.loop.invariant
