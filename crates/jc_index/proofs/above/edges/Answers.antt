use Rattle.std.proofs.Common.{◌≤◌, ◌∙◌, ◌++◌, [], ◌∷◌, ap, arith}
use Rattle.std.specs.List.{filter_map}
use Rattle.jc_facts.specs.world.World.{size, find_class}
use Rattle.jc_index.specs.Ids.{name_at}
use Rattle.jc_index.specs.steps.Named.{named_by}
use Rattle.jc_index.proofs.Keeps.{column-more, column-all, named-there}
use Rattle.jc_index.proofs.above.edges.Goals as goal

pub loop-n-preserved : goal.loop-n-preserved
loop-n-preserved c =
    let W = c.args.index.now in
    c.in_ok-push.ensures.items ∙ ap (λ ids. c.loop-n.edges.items ++ ids ∷ []) c.from_vec.ensures
    ∙ column-more W (λ x. named_by W (find_class W x)) c.loop-n.edges.items c.loop-n.n c.new.result c.in_ok-numbers.numbers.items (omega (arith, c.count-n-end.ensures.count)) c.new.ensures c.loop-n.invariant
    (c.in_ok-numbers.ensures ∙ ap (filter_map (λ id. id)) c.interfaces.ensures.value ∙ named-there W (name_at W c.new.result))

pub returns-clause-exact : goal.returns-clause-exact
returns-clause-exact c =
    let l : size c.args.index.now ≤ c.loop-n.n = omega (arith, c.count-n-end.ensures.count) in
    column-all c.args.index.now (λ x. named_by c.args.index.now (find_class c.args.index.now x)) c.loop-n.edges.items c.loop-n.n l c.loop-n.invariant
