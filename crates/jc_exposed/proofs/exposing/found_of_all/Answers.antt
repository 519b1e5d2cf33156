use Rattle.jc_index.specs.Ids.{name_at}
use Rattle.jc_exposed.specs.declared.namings.Naming.{Naming}
use Rattle.std.proofs.Common.{◌==◌, ◌&&◌}
use Rattle.jc_exposed.specs.Exposing.{every, opens}
use Rattle.jc_exposed.proofs.FoundMembers.{finds_start, finds_next, finds_end}
use Rattle.jc_exposed.proofs.exposing.found_of_all.Goals as goal

pub loop-naming-init : goal.loop-naming-init
loop-naming-init c = finds_start c.args.table.now every (λ (n : Naming) a t. (n.exposed == t) && opens c.args.table.now (name_at c.args.table.now c.args.class) a n.key) c.new-members.result.items c.new-members.ensures.items

pub loop-naming-preserved : goal.loop-naming-preserved
loop-naming-preserved c =
    finds_next c.args.table.now every (λ (n : Naming) a t. (n.exposed == t) && opens c.args.table.now (name_at c.args.table.now c.args.class) a n.key) c.args.namings.now c.loop-naming.naming-index c.naming-item.result c.naming-item.result c.loop-naming.members.items
    c.in_ok-found_of.field-0.items c.append.new.self.items c.loop-naming-test.true c.naming-item.is c.in_ok-append.ensures.items c.loop-naming.invariant c.in_ok-found_of.ensures

pub returns : goal.returns
returns c = finds_end c.args.table.now every (λ (n : Naming) a t. (n.exposed == t) && opens c.args.table.now (name_at c.args.table.now c.args.class) a n.key) c.args.namings.now c.loop-naming.naming-index c.loop-naming.members.items c.loop-naming-test.false c.loop-naming.invariant
