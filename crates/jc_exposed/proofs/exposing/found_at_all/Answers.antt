use Rattle.jc_index.specs.Ids.{name_at}
use Rattle.jc_exposed.specs.Exposing.{is_wanted, opens_at}
use Rattle.jc_exposed.proofs.FoundMembers.{finds_start, finds_next, finds_end}
use Rattle.jc_exposed.proofs.exposing.found_at_all.Goals as goal

pub loop-id-init : goal.loop-id-init
loop-id-init c = finds_start c.args.table.now (is_wanted c.args.own.now) (λ n a t. opens_at c.args.table.now (name_at c.args.table.now c.args.class) a t n) c.new-members.result.items c.new-members.ensures.items

pub loop-id-preserved : goal.loop-id-preserved
loop-id-preserved c =
    finds_next c.args.table.now (is_wanted c.args.own.now) (λ n a t. opens_at c.args.table.now (name_at c.args.table.now c.args.class) a t n) c.args.above.now c.loop-id.id-index c.id-item.result c.id-item.result c.loop-id.members.items
    c.in_ok-found_at.field-0.items c.append.new.self.items c.loop-id-test.true c.id-item.is c.in_ok-append.ensures.items c.loop-id.invariant c.in_ok-found_at.ensures

pub returns : goal.returns
returns c = finds_end c.args.table.now (is_wanted c.args.own.now) (λ n a t. opens_at c.args.table.now (name_at c.args.table.now c.args.class) a t n) c.args.above.now c.loop-id.id-index c.loop-id.members.items c.loop-id-test.false c.loop-id.invariant
