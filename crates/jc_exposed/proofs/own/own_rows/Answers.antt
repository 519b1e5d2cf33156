use Rattle.std.proofs.Common.{◌≡◌, ◌∙◌, arith, nat_lt, sym, subst}
use Rattle.jc_facts.specs.world.World.{size}
use Rattle.jc_facts.proofs.Options.{some_where-is}
use Rattle.jc_acts.specs.Touched.{flag_at}
use Rattle.jc_exposed.specs.Exposing.{AreNamings, AreOwnRows}
use Rattle.jc_exposed.proofs.OwnNamings.{rows_start, rows_next}
use Rattle.jc_exposed.proofs.own.own_rows.Goals as goal

pub loop-n-init : goal.loop-n-init
loop-n-init c = rows_start c.args.table.now (flag_at c.args.wanted.now) c.new-rows.result.items c.new-rows.ensures.items

pub loop-n-preserved : goal.loop-n-preserved
loop-n-preserved c =
    let k : c.unwrap-id.result ≡ c.loop-n.n = some_where-is (nat_lt c.loop-n.n (size c.args.table.now)) c.loop-n.n c.unwrap-id.result (sym c.id.ensures.value ∙ c.unwrap-id.ensures) in
    rows_next c.args.table.now (flag_at c.args.wanted.now) c.loop-n.n c.unwrap-id.result c.loop-n.rows.items c.push.new.self.items c.from_vec.result k c.in_ok-push.ensures.items
    (λ d e. subst (AreNamings c.args.table.now (flag_at c.args.wanted.now) d) (sym c.from_vec.ensures) (c.in_ok-row.ensures d e)) c.loop-n.invariant

pub returns : goal.returns
returns c =
    let n : c.loop-n.n ≡ size c.args.table.now = omega (arith, c.count-n-end.ensures.count) in
    subst (λ m. AreOwnRows c.args.table.now (flag_at c.args.wanted.now) m c.loop-n.rows.items) n c.loop-n.invariant
