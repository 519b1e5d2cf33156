use Rattle.std.proofs.Common.{◌≡◌, ℕ, List, [], ◌∷◌, ◌++◌, false, length, set, sym, ◌∙◌, ap, subst, arith}
use Rattle.jc_index.specs.steps.Queue.{is_in, ArePlaces, Enqueues}
use Rattle.jc_index.proofs.Queues.{adds_new, adds_old, more-places}
use Rattle.jc_index.proofs.reach.add_one.Goals as goal

pub is_queued-requires-clause-places : goal.is_queued-requires-clause-places
is_queued-requires-clause-places c = subst (λ (q : List ℕ). ArePlaces c.args.places.now q) (sym c.as_slice.ensures.value) c.requires.places

pub returns-then-is_queued-clause-adds : goal.returns-then-is_queued-clause-adds
returns-then-is_queued-clause-adds c =
    adds_old c.args.queue.now.items c.args.id (sym (c.is_queued.ensures ∙ ap (λ (q : List ℕ). is_in q c.args.id) c.as_slice.ensures.value) ∙ c.if-is_queued.true)

pub returns-clause-adds : goal.returns-clause-adds
returns-clause-adds c =
    let new : is_in c.args.queue.now.items c.args.id ≡ false = sym (c.is_queued.ensures ∙ ap (λ (q : List ℕ). is_in q c.args.id) c.as_slice.ensures.value) ∙ c.if-is_queued.false in
    subst (λ (q : List ℕ). Enqueues c.args.queue.now.items q (c.args.id ∷ [])) (sym c.in_ok-push.ensures.items) (adds_new c.args.queue.now.items c.args.id new)

pub returns-clause-places : goal.returns-clause-places
returns-clause-places c =
    let new : is_in c.args.queue.now.items c.args.id ≡ false = sym (c.is_queued.ensures ∙ ap (λ (q : List ℕ). is_in q c.args.id) c.as_slice.ensures.value) ∙ c.if-is_queued.false in
    let count : length c.args.queue.now.items ≡ c.args.queue.now.len = omega (arith, c.args.queue.now.ok.0) in
    rw (c.in_ok-push.ensures.items, c.len-place.ensures)
    (subst (λ n. ArePlaces (set c.args.places.now c.args.id n) (c.args.queue.now.items ++ c.args.id ∷ [])) count
    (more-places c.args.places.now c.args.queue.now.items c.args.id c.requires.places c.requires.id new))
