use Rattle.std.proofs.Common.{◌+◌, ◌<◌, ◌∙◌, List, drop, length, ap, sym, subst}
use Rattle.std.specs.Prelude.{slice_get}
use Rattle.std.proofs.Math.ListN.{drop_of_length-le}
use Rattle.jc_facts.specs.declared.key.Key.{Key}
use Rattle.jc_facts.specs.Names.{Bytes}
use Rattle.jc_facts.specs.world.World.{World}
use Rattle.jc_index.specs.Ids.{name_at}
use Rattle.jc_rows.specs.declared.row.RowItem.{RowItem}
use Rattle.jc_rows.specs.steps.Settling.{IsSettling}
use Rattle.jc_rows.proofs.Merging.{rest_of}
use Rattle.jc_rows.proofs.Settling.{starts, number_within, goes, ends}
use Rattle.jc_rows.proofs.methods.settle.Goals as goal

pub loop-item-init : goal.loop-item-init
loop-item-init c = starts c.args.hierarchy.now (name_at c.args.hierarchy.now c.args.class) c.requires.loads c.args.all.now c.in_ok-row.row.items c.in_ok-row.ensures.items c.requires.all

pub settled-found-requires-clause-number : goal.settled-found-requires-clause-number
settled-found-requires-clause-number c =
    subst (λ (ks : List Key). c.item-item.result.key < length ks) (sym c.requires.keys)
    (number_within c.args.hierarchy.now (name_at c.args.hierarchy.now c.args.class) c.requires.loads c.item-item.result (drop (c.loop-item.item-index + 1) c.args.all.now) c.loop-item.row.items
    (subst (λ (r : List RowItem). IsSettling c.args.hierarchy.now (name_at c.args.hierarchy.now c.args.class) r c.loop-item.row.items) (rest_of c.args.all.now c.loop-item.item-index c.item-item.result c.loop-item-test.true c.item-item.is) c.loop-item.invariant))

pub loop-item-preserved : goal.loop-item-preserved
loop-item-preserved c =
    let W : World = c.args.hierarchy.now in
    let x : Bytes = name_at W c.args.class in
    let is : List RowItem = drop (c.loop-item.item-index + 1) c.args.all.now in
    let w = subst (λ (r : List RowItem). IsSettling W x r c.loop-item.row.items) (rest_of c.args.all.now c.loop-item.item-index c.item-item.result c.loop-item-test.true c.item-item.is) c.loop-item.invariant in
    subst (IsSettling W x is) (sym c.in_ok-push_found.ensures)
    (goes W x c.requires.loads c.item-item.result is c.loop-item.row.items w c.args.front.now c.requires.front c.settled-found.result
    (λ k e. c.settled-found.ensures k (ap (λ (ks : List Key). slice_get ks c.item-item.result.key) c.requires.keys ∙ e)))

pub returns : goal.returns
returns c =
    let W : World = c.args.hierarchy.now in
    let x : Bytes = name_at W c.args.class in
    ends W x c.requires.loads c.loop-item.row.items
    (subst (λ (r : List RowItem). IsSettling W x r c.loop-item.row.items) (drop_of_length-le c.args.all.now c.loop-item-test.false) c.loop-item.invariant)
