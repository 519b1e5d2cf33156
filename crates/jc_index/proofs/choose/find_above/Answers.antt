use Rattle.std.proofs.Common.{Some}
use Rattle.jc_facts.specs.Names.{Bytes}
use Rattle.jc_facts.specs.world.World.{World}
use Rattle.jc_index.specs.Ids.{name_at}
use Rattle.jc_index.proofs.Picked.{pick_choice, best_pick, found_pick}
use Rattle.jc_index.proofs.choose.find_above.Goals as goal

pub returns-in-Some-clause-pick : goal.returns-in-Some-clause-pick
returns-in-Some-clause-pick c = best_pick c.args.hierarchy.now (name_at c.args.hierarchy.now c.args.class) c.requires.loads c.args.key.now c.in-Some.found c.in-Some.ensures

pub returns-in-Some-clause-choice : goal.returns-in-Some-clause-choice
returns-in-Some-clause-choice c =
    let W : World = c.args.hierarchy.now in
    let x : Bytes = name_at W c.args.class in
    pick_choice W x c.requires.loads c.args.key.now (Some c.in-Some.found) (best_pick W x c.requires.loads c.args.key.now c.in-Some.found c.in-Some.ensures)

pub returns-in-None-clause-pick : goal.returns-in-None-clause-pick
returns-in-None-clause-pick c = found_pick c.args.hierarchy.now (name_at c.args.hierarchy.now c.args.class) c.requires.loads c.args.key.now c.count-classes.ensures.side c.choose-in-None.result c.in-None.ensures c.choose-in-None.ensures

pub returns-in-None-clause-choice : goal.returns-in-None-clause-choice
returns-in-None-clause-choice c =
    let W : World = c.args.hierarchy.now in
    let x : Bytes = name_at W c.args.class in
    pick_choice W x c.requires.loads c.args.key.now c.choose-in-None.result (found_pick W x c.requires.loads c.args.key.now c.count-classes.ensures.side c.choose-in-None.result c.in-None.ensures c.choose-in-None.ensures)
