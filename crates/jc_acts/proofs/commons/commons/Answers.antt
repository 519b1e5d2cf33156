use Rattle.std.proofs.Common.{◌≡◌, ◌<◌, ◌+◌, ℕ, None, Some, length, take, set, sym, ap, subst, ◌∙◌, rules}
use Rattle.std.specs.List.{Contains}
use Rattle.std.proofs.lemmas.List.Elements.{All-contains, Contains-get_or}
use Rattle.jc_facts.specs.Names.{Bytes}
use Rattle.jc_facts.specs.world.World.{World, size}
use Rattle.jc_facts.specs.world.Loading.{load_fault}
use Rattle.jc_index.specs.Ids.{name_at}
use Rattle.jc_sides.specs.SharedOf.{SharedOf, IsShared, name_of}
use Rattle.jc_acts.specs.steps.Commons.{AreAdded, Widens}
use Rattle.jc_acts.proofs.Gathered.{AreDone, starts, goes, gathered}
use Rattle.jc_acts.proofs.commons.commons.Goals as goal

pub loop-seat-init : goal.loop-seat-init
loop-seat-init c =
    starts c.args.old.now c.args.new.now c.in_ok-common.common.items c.in_ok-added.added.items (c.in_ok-common.ensures.count ∙ c.count.ensures.count) (c.in_ok-added.ensures.count ∙ c.count-2.ensures.count) c.in_ok-common.ensures.empty c.in_ok-added.ensures.empty

pub widen-requires-clause-common : goal.widen-requires-clause-common
widen-requires-clause-common c = c.loop-seat.invariant.inside

pub widen-requires-clause-added : goal.widen-requires-clause-added
widen-requires-clause-added c = subst (AreAdded c.args.old.now c.args.new.now c.loop-seat.common.items) (sym c.as_slice.ensures.value) c.loop-seat.invariant.others

pub index_mut-requires : goal.index_mut-requires
index_mut-requires c =
    let O : World = c.args.old.now in
    let b : SharedOf = c.seat-item.result in
    let at : Contains c.args.seats.now b = subst (Contains c.args.seats.now) (sym c.seat-item.is) (Contains-get_or c.args.seats.now c.loop-seat.seat-index b c.loop-seat-test.true) in
    let shared : IsShared (record { old = O; new = c.args.new.now }) b = All-contains (IsShared (record { old = O; new = c.args.new.now })) c.args.seats.now b c.requires.seats at in
    let e : length c.loop-seat.added.items ≡ c.loop-seat.added.len = search rules in
    let l : c.number.result < size O = subst (λ n. n < size O) (sym (c.number.ensures ∙ ap (λ (d : SharedOf). d.old) c.seat.view_is)) shared.old_below in
    subst (λ n. c.number.result < n) (sym c.loop-seat.invariant.others.count ∙ e) l

pub loop-seat-preserved : goal.loop-seat-preserved
loop-seat-preserved c =
    let O : World = c.args.old.now in
    let N : World = c.args.new.now in
    let b : SharedOf = c.seat-item.result in
    let at : Contains c.args.seats.now b = subst (Contains c.args.seats.now) (sym c.seat-item.is) (Contains-get_or c.args.seats.now c.loop-seat.seat-index b c.loop-seat-test.true) in
    let shared : IsShared (record { old = O; new = N }) b = All-contains (IsShared (record { old = O; new = N })) c.args.seats.now b c.requires.seats at in
    let loads : load_fault N (name_of b) ≡ None = All-contains (λ d. load_fault N (name_of d) ≡ None) c.args.seats.now b c.requires.loads at in
    let name : name_at O c.seat.inside.old ≡ name_of b = ap (λ (d : SharedOf). name_at O d.old) c.seat.view_is ∙ shared.old_name in
    let w : Widens O N (name_of b) c.loop-seat.common.items c.widen.new.common.items = subst (λ (x : Bytes). Widens O N x c.loop-seat.common.items c.widen.new.common.items) name c.widen.ensures in
    let done : AreDone O N (take (c.loop-seat.seat-index + 1) c.args.seats.now) c.widen.new.common.items (set c.loop-seat.added.items b.old (Some b.new)) =
    goes O N c.args.seats.now c.loop-seat.seat-index b c.loop-seat.common.items c.widen.new.common.items c.loop-seat.added.items c.loop-seat-test.true c.seat-item.is shared loads c.loop-seat.invariant w in
    subst (λ (n : ℕ). AreDone O N (take (c.loop-seat.seat-index + 1) c.args.seats.now) c.widen.new.common.items (set c.loop-seat.added.items n (Some c.seat.inside.new))) (sym (c.number.ensures ∙ ap (λ (d : SharedOf). d.old) c.seat.view_is))
    (subst (λ (m : ℕ). AreDone O N (take (c.loop-seat.seat-index + 1) c.args.seats.now) c.widen.new.common.items (set c.loop-seat.added.items b.old (Some m))) (sym (ap (λ (d : SharedOf). d.new) c.seat.view_is)) done)

pub returns : goal.returns
returns c = gathered c.args.old.now c.args.new.now c.args.seats.now c.loop-seat.seat-index c.loop-seat.common.items c.loop-seat.added.items c.loop-seat-test.false c.loop-seat.invariant
