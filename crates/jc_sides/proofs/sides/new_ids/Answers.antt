use Rattle.std.proofs.Common.{◌≡◌, ◌≤◌, ◌∙◌, nat_lt, sym, arith}
use Rattle.jc_facts.specs.world.World.{size}
use Rattle.jc_facts.proofs.Options.{some_where-is}
use Rattle.jc_index.specs.Ids.{id_of}
use Rattle.jc_index.proofs.Keeps.{column-more, column-all}
use Rattle.jc_sides.proofs.sides.new_ids.Goals as goal

pub loop-n-preserved : goal.loop-n-preserved
loop-n-preserved c =
    let k : c.unwrap-id.result ≡ c.loop-n.n = some_where-is (nat_lt c.loop-n.n (size c.args.old.now)) c.loop-n.n c.unwrap-id.result (sym c.id.ensures.value ∙ c.unwrap-id.ensures) in
    c.in_ok-push.ensures.items ∙ column-more c.args.old.now (id_of c.args.new.now) c.loop-n.ids.items c.loop-n.n c.unwrap-id.result c.id_in.result (omega (arith, c.count-n-end.ensures.count)) k c.loop-n.invariant c.id_in.ensures

pub returns : goal.returns
returns c =
    let l : size c.args.old.now ≤ c.loop-n.n = omega (arith, c.count-n-end.ensures.count) in
    column-all c.args.old.now (id_of c.args.new.now) c.loop-n.ids.items c.loop-n.n l c.loop-n.invariant
