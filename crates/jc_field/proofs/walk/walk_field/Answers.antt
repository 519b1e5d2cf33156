use Rattle.std.proofs.Common.{◌≡◌, ◌-◌, ◌+◌, suc, None, Some, arith, sym, ◌∙◌, subst, refl}
use Rattle.jc_facts.specs.world.World.{World, size}
use Rattle.jc_facts.specs.world.Lookup.{field_found}
use Rattle.jc_worlds.proofs.Loaded.{loads_from}
use Rattle.jc_index.specs.Ids.{name_at}
use Rattle.jc_index.specs.Lookups.{IsAnswer}
use Rattle.jc_field.proofs.Steps.{level_all, level_out, here_gives, up_none, up_some, up_level}
use Rattle.jc_field.proofs.walk.walk_field.Goals as goal

pub loop-init : goal.loop-init
loop-init c = record {
  within = c.requires.class;
  level = level_all c.args.table.now (name_at c.args.table.now c.args.class) (size c.args.table.now - 0) (omega arith) c.requires.loads;
  same = refl;
}

pub here-requires-clause-loads : goal.here-requires-clause-loads
here-requires-clause-loads c = loads_from c.args.table.now (size c.args.table.now - c.loop.counter) (name_at c.args.table.now c.loop.class) c.loop.invariant.level

pub returns-in-Some : goal.returns-in-Some
returns-in-Some c =
    let W : World = c.args.table.now in
    let h = loads_from W (size W - c.loop.counter) (name_at W c.loop.class) c.loop.invariant.level in
    let same : field_found W (name_at W c.args.class) c.of_key-key.result ≡ field_found W (name_at W c.loop.class) c.of_key-key.result = c.loop.invariant.same in
    subst (λ k. IsAnswer W (Some c.in-Some.found) (field_found W (name_at W c.args.class) k)) c.of_key-key.ensures
    (subst (IsAnswer W (Some c.in-Some.found)) (sym same) (here_gives W c.count-end.ensures.side c.of_key-key.result c.loop.class c.loop.invariant.within c.in-Some.found h c.in-Some.ensures))

pub returns-in-None-superclass : goal.returns-in-None-superclass
returns-in-None-superclass c =
    let W : World = c.args.table.now in
    let h = loads_from W (size W - c.loop.counter) (name_at W c.loop.class) c.loop.invariant.level in
    let none : field_found W (name_at W c.args.class) c.of_key-key.result ≡ None =
    c.loop.invariant.same ∙ up_none W c.count-end.ensures.side c.of_key-key.result c.loop.class c.loop.invariant.within h c.in-None.ensures c.in-None-superclass.ensures.value
    in
    subst (λ k. IsAnswer W None (field_found W (name_at W c.args.class) k)) c.of_key-key.ensures (subst (IsAnswer W None) (sym none) tt)

pub loop-preserved : goal.loop-preserved
loop-preserved c =
    let W : World = c.args.table.now in
    let h = loads_from W (size W - c.loop.counter) (name_at W c.loop.class) c.loop.invariant.level in
    let one : suc (size W - (c.loop.counter + 1)) ≡ size W - c.loop.counter = omega (arith, c.count-end.ensures.count) in
    record {
      within = c.in-Some-superclass.ensures.of_table;
      level = up_level W c.count-end.ensures.side c.of_key-key.result c.loop.class c.loop.invariant.within (size W - c.loop.counter) (size W - (c.loop.counter + 1)) c.in-Some-superclass.above one c.loop.invariant.level
          c.in-Some-superclass.ensures.value;
      same = c.loop.invariant.same ∙ up_some W c.count-end.ensures.side c.of_key-key.result c.loop.class c.loop.invariant.within c.in-Some-superclass.above h c.in-None.ensures c.in-Some-superclass.ensures.value;
    }

pub returns : goal.returns
returns c = absurd (level_out c.args.table.now (name_at c.args.table.now c.loop.class) (size c.args.table.now - c.loop.counter) (omega (arith, c.count-end.ensures.count)) c.loop.invariant.level)
