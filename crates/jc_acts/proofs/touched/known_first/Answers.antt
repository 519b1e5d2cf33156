use Rattle.std.proofs.Common.{◌≡◌, ◌<◌, ◌≤◌, ◌+◌, ◌∷◌, [], length, true, sym, ap, ◌∙◌, nat_lt, arith}
use Rattle.std.specs.Bool.{then_some}
use Rattle.std.proofs.lemmas.List.{length-append}
use Rattle.jc_facts.specs.world.World.{size}
use Rattle.jc_facts.proofs.Options.{some_where-is}
use Rattle.jc_acts.specs.steps.Known.{known_first}
use Rattle.jc_acts.proofs.SetAbove.{all_first}
use Rattle.jc_acts.proofs.SetFlags.{one_more}
use Rattle.jc_acts.proofs.touched.known_first.Goals as goal

pub loop-n-preserved : goal.loop-n-preserved
loop-n-preserved c =
    let l : c.loop-n.n < size c.args.table.now = omega (arith, c.count-n-end.ensures.count) in
    let k : c.unwrap-id.result ≡ c.loop-n.n = some_where-is (nat_lt c.loop-n.n (size c.args.table.now)) c.loop-n.n c.unwrap-id.result (sym c.id.ensures.value ∙ c.unwrap-id.ensures) in (
      ap length c.in_ok-push.ensures.items ∙ length-append c.loop-n.known.items (c.then_some.result ∷ []) ∙ ap (λ n. n + 1) c.loop-n.invariant.0,
      λ p are. one_more c.args.table.now (known_first c.args.table.now p) c.loop-n.known.items c.push.new.self.items c.loop-n.n c.unwrap-id.result c.then_some.result l k (c.then_some.ensures ∙ ap (λ b. then_some b true) (c.fails_or_is_set.ensures p are)) c.in_ok-push.ensures.items
          (c.loop-n.invariant.1 p are),
    )

pub returns-clause-known : goal.returns-clause-known
returns-clause-known c = λ p are.
    let l : size c.args.table.now ≤ c.loop-n.n = omega (arith, c.count-n-end.ensures.count) in
    all_first c.args.table.now p c.loop-n.known.items c.loop-n.n l (c.loop-n.invariant.1 p are)
