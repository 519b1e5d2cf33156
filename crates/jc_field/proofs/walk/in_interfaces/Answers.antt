use Rattle.std.proofs.Common.{◌≡◌, ◌-◌, ◌+◌, suc, None, Some, arith, sym, ◌∙◌, subst, refl}
use Rattle.jc_facts.specs.world.World.{World, size}
use Rattle.jc_worlds.proofs.Loaded.{loads_from}
use Rattle.jc_index.specs.Ids.{name_at}
use Rattle.jc_index.specs.Lookups.{IsAnswer}
use Rattle.jc_field.specs.steps.Fields.{interfaces_found}
use Rattle.jc_field.proofs.Steps.{level_all, level_out, down_none, down_same, down_within, down_level, down_kind, own_gives, next_gives}
use Rattle.jc_field.proofs.walk.in_interfaces.Goals as goal

pub loop-init : goal.loop-init
loop-init c = record {
  within = c.requires.class;
  level = level_all c.args.table.now (name_at c.args.table.now c.args.class) (size c.args.table.now - 0) (omega arith) c.requires.loads;
  same = refl;
}

pub first_interface-requires-clause-loads : goal.first_interface-requires-clause-loads
first_interface-requires-clause-loads c = loads_from c.args.table.now (size c.args.table.now - c.loop.counter) (name_at c.args.table.now c.loop.class) c.loop.invariant.level

pub returns-in_default : goal.returns-in_default
returns-in_default c =
    let W : World = c.args.table.now in
    let none : interfaces_found W (name_at W c.args.class) c.args.key.now ≡ None = c.loop.invariant.same ∙ down_none W c.requires.side c.args.key.now c.loop.class c.loop.invariant.within c.in_default.ensures in
    subst (IsAnswer W None) (sym none) tt

pub own-requires : goal.own-requires
own-requires c = down_within c.args.table.now c.requires.side c.args.key.now c.loop.class c.loop.invariant.within c.in-Some.interface c.in-Some.ensures

pub returns-in-Some-own : goal.returns-in-Some-own
returns-in-Some-own c =
    let W : World = c.args.table.now in
    let s = c.requires.side in
    let k = c.args.key.now in
    let l = down_within W s k c.loop.class c.loop.invariant.within c.in-Some.interface c.in-Some.ensures in
    let one : suc (size W - (c.loop.counter + 1)) ≡ size W - c.loop.counter = omega (arith, c.count-end.ensures.count) in
    let level = down_level W s k c.loop.class c.loop.invariant.within (size W - c.loop.counter) (size W - (c.loop.counter + 1)) c.in-Some.interface one c.loop.invariant.level c.in-Some.ensures in
    let h = loads_from W (size W - (c.loop.counter + 1)) (name_at W c.in-Some.interface) level in
    subst (IsAnswer W (Some c.in-Some-own.found)) (sym (c.loop.invariant.same ∙ down_same W s k c.loop.class c.loop.invariant.within c.in-Some.interface c.in-Some.ensures))
    (own_gives W s k c.in-Some.interface l c.in-Some-own.found h c.in-Some-own.ensures)

pub loop-preserved : goal.loop-preserved
loop-preserved c =
    let W : World = c.args.table.now in
    let s = c.requires.side in
    let k = c.args.key.now in
    let l = down_within W s k c.loop.class c.loop.invariant.within c.in-Some.interface c.in-Some.ensures in
    let one : suc (size W - (c.loop.counter + 1)) ≡ size W - c.loop.counter = omega (arith, c.count-end.ensures.count) in
    let level = down_level W s k c.loop.class c.loop.invariant.within (size W - c.loop.counter) (size W - (c.loop.counter + 1)) c.in-Some.interface one c.loop.invariant.level c.in-Some.ensures in
    let h = loads_from W (size W - (c.loop.counter + 1)) (name_at W c.in-Some.interface) level in
    let g = loads_from W (size W - c.loop.counter) (name_at W c.loop.class) c.loop.invariant.level in
    record {
      within = l;
      level = level;
      same =
          c.loop.invariant.same ∙ down_same W s k c.loop.class c.loop.invariant.within c.in-Some.interface c.in-Some.ensures
          ∙ next_gives W s k c.in-Some.interface l h (down_kind W s k c.loop.class c.loop.invariant.within c.in-Some.interface g c.in-Some.ensures) c.in-None.ensures;
    }

pub returns : goal.returns
returns c = absurd (level_out c.args.table.now (name_at c.args.table.now c.loop.class) (size c.args.table.now - c.loop.counter) (omega (arith, c.count-end.ensures.count)) c.loop.invariant.level)
