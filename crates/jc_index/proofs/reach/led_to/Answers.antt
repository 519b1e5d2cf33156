use Rattle.std.proofs.Common.{◌≡◌, ◌∙◌, ◌<◌, ℕ, List, [], length, get_or, sym, ap, subst, arith}
use Rattle.std.specs.List.{All}
use Rattle.std.proofs.lemmas.List.{get_or_default}
use Rattle.jc_index.specs.steps.Reach.{next_of}
use Rattle.jc_index.specs.steps.Queue.{Enqueues, ArePlaces}
use Rattle.jc_index.proofs.Queues.{Searching, no-places, starts, goes, smaller, ends, inside_edges, known-within, names_within}
use Rattle.jc_index.proofs.reach.led_to.Goals as goal

named : (edges : List (List ℕ)) (k : ℕ) (x y : List ℕ) → y ≡ x → x ≡ get_or edges k x → k < length edges → y ≡ next_of edges k
named edges k x y s e h = s ∙ e ∙ get_or_default edges k x [] h

-- what a number names lies within the places
in_places : (edges : List (List ℕ)) (k n : ℕ) (ids : List ℕ) → n ≡ length edges → ids ≡ next_of edges k → All (λ xs. All (λ id. id < length edges) xs) edges → All (λ id. id < n) ids
in_places edges k n ids e is within =
    subst (λ (xs : List ℕ). All (λ id. id < n) xs) (sym is) (subst (λ m. All (λ id. id < m) (next_of edges k)) (sym e) (names_within edges (length edges) within k))

pub add_known-requires-clause-ids : goal.add_known-requires-clause-ids
add_known-requires-clause-ids c =
    let E = c.args.edges.now in
    subst (λ n. All (λ id. id < n) c.args.known.now) (sym c.requires.room) (known-within E c.args.start c.args.known.now (names_within E (length E) c.requires.within) c.requires.known)

pub add_known-requires-clause-places : goal.add_known-requires-clause-places
add_known-requires-clause-places c = subst (λ (q : List ℕ). ArePlaces c.args.places.now q) (sym c.new-queue.ensures.items) (no-places c.args.places.now)

pub add-requires-clause-ids : goal.add-requires-clause-ids
add-requires-clause-ids c =
    let E = c.args.edges.now in
    in_places E c.args.start (length c.add_known.new.places) c.as_slice.result.now (c.add_known.ensures.count ∙ c.requires.room)
    (named E c.args.start c.index-edges-start.result c.as_slice.result.now c.as_slice.ensures c.index-edges-start.is c.requires.start) c.requires.within

pub loop-next-init : goal.loop-next-init
loop-next-init c =
    let E = c.args.edges.now in
    let count : length c.add_known.new.queue.items ≡ c.add_known.new.queue.len = omega (arith, c.add_known.new.queue.ok.0) in (
      subst (λ n. Searching E c.args.start c.add.new.queue.items n) (count ∙ sym c.len-next.ensures)
          (starts E c.args.start c.args.known.now c.add_known.new.queue.items c.add.new.queue.items c.requires.known
          (subst (λ (q : List ℕ). Enqueues q c.add_known.new.queue.items c.args.known.now) c.new-queue.ensures.items c.in_ok-add_known.ensures.adds)
          (subst (λ (ids : List ℕ). Enqueues c.add_known.new.queue.items c.add.new.queue.items ids)
          (named E c.args.start c.index-edges-start.result c.as_slice.result.now c.as_slice.ensures c.index-edges-start.is c.requires.start) c.in_ok-add.ensures.adds)),
      c.in_ok-add.ensures.places,
      c.add.ensures.count ∙ c.add_known.ensures.count ∙ c.requires.room,
    )

pub bounds-edges-id : goal.bounds-edges-id
bounds-edges-id c =
    let all = names_within c.args.edges.now (length c.args.edges.now) c.requires.within in
    let there : c.loop-next.next < length c.loop-next.queue.items = (let t = c.loop-next-test.true in let l = c.len.ensures in omega (arith, t, l)) in
    let is : get_or c.loop-next.queue.items c.loop-next.next 0 ≡ c.index-id.result.now = get_or_default c.loop-next.queue.items c.loop-next.next 0 c.index-id.result.now there ∙ sym c.index-id.ensures in
    subst (λ k. k < length c.args.edges.now) is
    (inside_edges c.args.edges.now c.args.start c.loop-next.queue.items c.loop-next.queue.items c.loop-next.next c.loop-next.invariant.0 there all)

pub add-requires-in-loop-next-clause-ids : goal.add-requires-in-loop-next-clause-ids
add-requires-in-loop-next-clause-ids c =
    let E = c.args.edges.now in
    let all = names_within E (length E) c.requires.within in
    let there : c.loop-next.next < length c.loop-next.queue.items = (let t = c.loop-next-test.true in let l = c.len.ensures in omega (arith, t, l)) in
    let is : get_or c.loop-next.queue.items c.loop-next.next 0 ≡ c.index-id.result.now = get_or_default c.loop-next.queue.items c.loop-next.next 0 c.index-id.result.now there ∙ sym c.index-id.ensures in
    let within : c.index-id.result.now < length E = subst (λ k. k < length E) is
    (inside_edges E c.args.start c.loop-next.queue.items c.loop-next.queue.items c.loop-next.next c.loop-next.invariant.0 there all) in
    in_places E c.index-id.result.now (length c.loop-next.places) c.as_slice-in-loop-next.result.now c.loop-next.invariant.2
    (named E c.index-id.result.now c.index-edges-id.result c.as_slice-in-loop-next.result.now c.as_slice-in-loop-next.ensures c.index-edges-id.is within) c.requires.within

-- what was added is what the next of the queue names
added : (edges : List (List ℕ)) (queue longer : List ℕ) (next id : ℕ) (ids lent : List ℕ) → next < length queue → id ≡ get_or queue next id → id < length edges
    → ids ≡ get_or edges id ids → lent ≡ ids → Enqueues queue longer lent → Enqueues queue longer (next_of edges (get_or queue next 0))
added edges queue longer next id ids lent there at within is same a =
    subst (λ (x : List ℕ). Enqueues queue longer x)
    (named edges id ids lent same is within ∙ ap (next_of edges) (sym (get_or_default queue next 0 id there ∙ sym at))) a

pub loop-next-smaller : goal.loop-next-smaller
loop-next-smaller c =
    let E = c.args.edges.now in
    let all = names_within E (length E) c.requires.within in
    let there : c.loop-next.next < length c.loop-next.queue.items = (let t = c.loop-next-test.true in let l = c.len.ensures in omega (arith, t, l)) in
    let is : get_or c.loop-next.queue.items c.loop-next.next 0 ≡ c.index-id.result.now = get_or_default c.loop-next.queue.items c.loop-next.next 0 c.index-id.result.now there ∙ sym c.index-id.ensures in
    let within : c.index-id.result.now < length E = subst (λ k. k < length E) is
    (inside_edges E c.args.start c.loop-next.queue.items c.loop-next.queue.items c.loop-next.next c.loop-next.invariant.0 there all) in
    smaller E c.args.start c.loop-next.queue.items c.add-in-loop-next.new.queue.items c.loop-next.next c.loop-next.invariant.0
    (length E) there all
    (added E c.loop-next.queue.items c.add-in-loop-next.new.queue.items c.loop-next.next c.index-id.result.now c.index-edges-id.result
    c.as_slice-in-loop-next.result.now there c.index-id.ensures within c.index-edges-id.is c.as_slice-in-loop-next.ensures c.in_ok-add-2.ensures.adds)

pub loop-next-preserved : goal.loop-next-preserved
loop-next-preserved c =
    let E = c.args.edges.now in
    let all = names_within E (length E) c.requires.within in
    let there : c.loop-next.next < length c.loop-next.queue.items = (let t = c.loop-next-test.true in let l = c.len.ensures in omega (arith, t, l)) in
    let is : get_or c.loop-next.queue.items c.loop-next.next 0 ≡ c.index-id.result.now = get_or_default c.loop-next.queue.items c.loop-next.next 0 c.index-id.result.now there ∙ sym c.index-id.ensures in
    let within : c.index-id.result.now < length E = subst (λ k. k < length E) is
    (inside_edges E c.args.start c.loop-next.queue.items c.loop-next.queue.items c.loop-next.next c.loop-next.invariant.0 there all) in (
      goes E c.args.start c.loop-next.queue.items c.add-in-loop-next.new.queue.items c.loop-next.next c.loop-next.invariant.0 there
          (added E c.loop-next.queue.items c.add-in-loop-next.new.queue.items c.loop-next.next c.index-id.result.now c.index-edges-id.result
          c.as_slice-in-loop-next.result.now there c.index-id.ensures within c.index-edges-id.is c.as_slice-in-loop-next.ensures c.in_ok-add-2.ensures.adds),
      c.in_ok-add-2.ensures.places,
      c.add-in-loop-next.ensures.count ∙ c.loop-next.invariant.2,
    )

pub returns-clause-led : goal.returns-clause-led
returns-clause-led c =
    ends c.args.edges.now c.args.start c.loop-next.queue.items c.loop-next.queue.items c.loop-next.next c.loop-next.invariant.0
    (let f = c.loop-next-test.false in let l = c.len.ensures in omega (arith, f, l))
