use Rattle.std.proofs.Common.{◌≡◌, Some, sym, ◌∙◌}
use Rattle.jc_facts.specs.Names.{Bytes}
use Rattle.jc_facts.specs.world.Loading.{load_fault}
use Rattle.jc_sides.proofs.Seen.{of_same_name}
use Rattle.jc_sides.specs.SidesFields.{worlds}
use Rattle.jc_index.specs.Ids.{name_at, id_of}
use Rattle.jc_select.proofs.LostRows.{lost_absent, lost_unloaded}
use Rattle.jc_select.proofs.losing.lost_of.Goals as goal

pub returns-in_default-clause-lost : goal.returns-in_default-clause-lost
returns-in_default-clause-lost c = lost_absent c.args.sides.now (name_at c.args.sides.now.old c.args.id) c.new-in_default.result.items c.new-in_default.ensures.items (sym c.in_default.ensures.value)

pub returns-then-is_some-2-clause-lost : goal.returns-then-is_some-2-clause-lost
returns-then-is_some-2-clause-lost c =
    let x : Bytes = name_at c.args.sides.now.old c.args.id in
    let is : Some c.in-Some.now ≡ id_of c.args.sides.now.new x = sym c.in-Some.is ∙ c.new_id.ensures.value in
    lost_unloaded c.args.sides.now x c.new-then-is_some-2.result.items c.new-then-is_some-2.ensures.items c.fault_at-2.result c.is_some-2.result
    (of_same_name (worlds c.sides.inside) c.args.sides.now c.sides.view_is c.args.id c.in-Some.now is (λ W y. c.fault_at-2.result ≡ load_fault W y) c.fault_at-2.ensures) c.is_some-2.ensures c.if-is_some-2.true
