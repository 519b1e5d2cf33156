use Rattle.std.proofs.Common.{List, ℕ, take, ◌∙◌, subst}
use Rattle.std.proofs.lemmas.List.{take_more, take_all}
use Rattle.jc_index.specs.steps.Queue.{Enqueues}
use Rattle.jc_index.proofs.Queues.{adds_more}
use Rattle.jc_index.proofs.reach.add.Goals as goal

pub loop-id-preserved : goal.loop-id-preserved
loop-id-preserved c = (
  rw (take_more c.args.ids.now c.loop-id.id-index 0 c.loop-id-test.true)
      (adds_more c.args.queue.now.items c.loop-id.queue.items c.add_one.new.queue.items (take c.loop-id.id-index c.args.ids.now) _ c.loop-id.invariant.0 c.in_ok-add_one.ensures.adds),
  c.in_ok-add_one.ensures.places,
  c.add_one.ensures.count ∙ c.loop-id.invariant.2,
)

pub returns-clause-adds : goal.returns-clause-adds
returns-clause-adds c =
    subst (λ (ids : List ℕ). Enqueues c.args.queue.now.items c.loop-id.queue.items ids) (take_all c.loop-id.id-index c.args.ids.now c.loop-id-test.false) c.loop-id.invariant.0
