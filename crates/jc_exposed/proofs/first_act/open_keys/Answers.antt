use Rattle.std.proofs.Common.{◌≡◌, ◌<◌, ◌≤◌, [], false, refl, arith, nat_lt, length, ap, sym, ◌∙◌}
use Rattle.jc_facts.specs.world.World.{size}
use Rattle.jc_facts.proofs.Options.{some_where-is}
use Rattle.jc_index.proofs.Numbers.{names-length}
use Rattle.jc_index.specs.Ids.{name_at, names}
use Rattle.jc_exposed.specs.FirstAct.{has_open_at}
use Rattle.jc_exposed.proofs.FirstThrough.{collects_none, collects_next, collects_end}
use Rattle.jc_exposed.proofs.first_act.open_keys.Goals as goal

pub loop-n-init : goal.loop-n-init
loop-n-init c = collects_none (λ g. false) c.new-keys.result.items c.new-keys.ensures.items (λ g. refl)

pub loop-n-preserved : goal.loop-n-preserved
loop-n-preserved c =
    let k : c.unwrap-owner.result ≡ c.loop-n.n = some_where-is (nat_lt c.loop-n.n (size c.args.table.now)) c.loop-n.n c.unwrap-owner.result (sym c.id.ensures.value ∙ c.unwrap-owner.ensures) in
    let q = names-length c.args.table.now in
    let l : c.loop-n.n < length (names c.args.table.now) = omega (arith, c.count-n-end.ensures.count, q) in
    collects_next (λ y g. has_open_at c.args.table.now (name_at c.args.table.now c.args.seat) (name_at c.args.table.now c.args.exposed) (name_at c.args.table.now c.args.class) g y) (names c.args.table.now) c.loop-n.n (name_at c.args.table.now c.unwrap-owner.result) []
    c.loop-n.keys.items c.in_ok-open_at.field-0.items c.append.new.self.items l (ap (name_at c.args.table.now) k) c.in_ok-append.ensures.items c.loop-n.invariant c.in_ok-open_at.ensures

pub returns : goal.returns
returns c =
    let q = names-length c.args.table.now in
    let l : length (names c.args.table.now) ≤ c.loop-n.n = omega (arith, c.count-n-end.ensures.count, q) in
    collects_end (λ y g. has_open_at c.args.table.now (name_at c.args.table.now c.args.seat) (name_at c.args.table.now c.args.exposed) (name_at c.args.table.now c.args.class) g y) (names c.args.table.now) c.loop-n.n c.loop-n.keys.items l c.loop-n.invariant
