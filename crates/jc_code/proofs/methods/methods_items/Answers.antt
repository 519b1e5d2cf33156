use Rattle.std.proofs.Common.{◌-◌, ◌+◌, List, Option, arith}
use Rattle.std.specs.Prelude.{map}
use Rattle.std.specs.Option.{option_map}
use Rattle.jc_facts.specs.file.Attributes.{BootstrapOf}
use Rattle.jc_facts.specs.code.ClientItems as client
use Rattle.jc_attr.specs.Views.{head_view}
use Rattle.jc_code.specs.steps.RowView.{row_view}
use Rattle.jc_code.specs.steps.Pushed.{with_before}
use Rattle.jc_code.proofs.EachMethod.{methods_step, methods_fault, methods_done}
use Rattle.jc_code.proofs.methods.methods_items.Goals as goal

pub returns-in-Err : goal.returns-in-Err
returns-in-Err c =
    let rows : Option (List BootstrapOf) = (option_map (λ x. map (λ r. row_view r) x.now) c.args.boots) in
    methods_fault c.args.pool.now (head_view c.args.head) rows (c.args.count - c.loop.counter) (c.args.count - (c.loop.counter + 1)) c.loop.rest.now c.loop.items.items c.in-Err.fault
    (with_before c.args.items.now.items (client.methods_items c.args.pool.now (head_view c.args.head) rows c.args.count c.args.bytes.now)) (omega arith) (rw c.in-Err.is at c.in_ok-after.ensures) c.loop.invariant

pub loop-preserved : goal.loop-preserved
loop-preserved c =
    let rows : Option (List BootstrapOf) = (option_map (λ x. map (λ r. row_view r) x.now) c.args.boots) in
    methods_step c.args.pool.now (head_view c.args.head) rows (c.args.count - c.loop.counter) (c.args.count - (c.loop.counter + 1)) c.loop.rest.now c.in-Ok.after.now c.loop.items.items c.method_items.new.items.items
    (with_before c.args.items.now.items (client.methods_items c.args.pool.now (head_view c.args.head) rows c.args.count c.args.bytes.now)) (omega arith) (rw c.in-Ok.is at c.in_ok-after.ensures) c.loop.invariant

pub returns : goal.returns
returns c =
    let rows : Option (List BootstrapOf) = (option_map (λ x. map (λ r. row_view r) x.now) c.args.boots) in
    methods_done c.args.pool.now (head_view c.args.head) rows (c.args.count - c.loop.counter) c.loop.rest.now c.loop.items.items
    (with_before c.args.items.now.items (client.methods_items c.args.pool.now (head_view c.args.head) rows c.args.count c.args.bytes.now)) (omega arith) c.loop.invariant
