use Rattle.std.proofs.Common.{[], false, refl, ◌==◌, ◌&&◌}
use Rattle.std.specs.List.{cons_option}
use Rattle.jc_index.specs.Ids.{name_at}
use Rattle.jc_exposed.specs.FirstAct.{has_open}
use Rattle.jc_exposed.specs.declared.namings.Naming.{Naming}
use Rattle.jc_exposed.proofs.FirstThrough.{collects_none, collects_next, collects_end}
use Rattle.jc_exposed.proofs.first_act.open_of.Goals as goal

pub loop-naming-init : goal.loop-naming-init
loop-naming-init c = collects_none (λ g. false) c.new-keys.result.items c.new-keys.ensures.items (λ g. refl)

pub loop-naming-preserved : goal.loop-naming-preserved
loop-naming-preserved c =
    collects_next (λ (n : Naming) g. (n.exposed == c.args.exposed) && has_open c.args.table.now (name_at c.args.table.now c.args.seat) (name_at c.args.table.now c.args.class) g n.key) c.args.namings.now c.loop-naming.naming-index c.naming-item.result c.naming-item.result
    c.loop-naming.keys.items (cons_option c.in_ok-if_open.field-0 []) c.push_some.new.items.items c.loop-naming-test.true c.naming-item.is c.in_ok-push_some.ensures c.loop-naming.invariant c.in_ok-if_open.ensures

pub returns : goal.returns
returns c =
    collects_end (λ (n : Naming) g. (n.exposed == c.args.exposed) && has_open c.args.table.now (name_at c.args.table.now c.args.seat) (name_at c.args.table.now c.args.class) g n.key) c.args.namings.now c.loop-naming.naming-index c.loop-naming.keys.items c.loop-naming-test.false
    c.loop-naming.invariant
