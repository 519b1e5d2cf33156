use Rattle.std.proofs.Common.{◌≤◌, ◌∙◌, ◌++◌, ◌∷◌, [], sym, ap, arith}
use Rattle.jc_facts.specs.world.World.{size}
use Rattle.jc_index.specs.Ids.{name_at}
use Rattle.jc_index.specs.Interfaces.{interfaces_of}
use Rattle.jc_index.proofs.Keeps.{column-more, column-all, interfaces_is}
use Rattle.jc_index.proofs.named_above.interfaces.Goals as goal

pub loop-n-preserved : goal.loop-n-preserved
loop-n-preserved c =
    let W = c.args.classes.now in
    c.in_ok-push.ensures.items ∙ ap (λ ids. c.loop-n.rows.items ++ ids ∷ []) c.from_vec.ensures
    ∙ column-more W (interfaces_of W) c.loop-n.rows.items c.loop-n.n c.new-id.result c.in_ok-ids.ids.items (omega (arith, c.count-n-end.ensures.count)) c.new-id.ensures c.loop-n.invariant
    (c.in_ok-ids.ensures ∙ sym (interfaces_is W (name_at W c.new-id.result) c.facts.result.now c.facts.ensures))

pub returns : goal.returns
returns c =
    let l : size c.args.classes.now ≤ c.loop-n.n = omega (arith, c.count-n-end.ensures.count) in
    column-all c.args.classes.now (interfaces_of c.args.classes.now) c.loop-n.rows.items c.loop-n.n l c.loop-n.invariant
