use Rattle.std.proofs.Common.{List, rules, subst}
use Rattle.jc_releases.specs.declared.releases.Release.{Release}
use Rattle.jc_releases.proofs.ReleasesOver.{IsOver, over_first, over_next, over_stopped, over_fits, nothing_left}
use Rattle.jc_releases.proofs.releases.tables_over.Goals as goal

pub returns-in-Err-clause-stopped : goal.returns-in-Err-clause-stopped
returns-in-Err-clause-stopped c =
    over_stopped c.args.platform.now c.args.releases.items c.next.new.self.rest.items c.in-Some.release c.loop-release.tables.items c.in-Err.stop
    (subst (λ (rest : List Release). IsOver c.args.platform.now c.args.releases.items rest c.loop-release.tables.items) c.in-Some.ensures.steps.0 c.loop-release.invariant)
    c.in-Err.ensures.stopped

pub loop-release-init : goal.loop-release-init
loop-release-init c = over_first _ _ _ _ (search rules) (search rules) c.requires.releases

pub loop-release-preserved : goal.loop-release-preserved
loop-release-preserved c =
    rw c.in-Ok-push.ensures.items
    (over_next c.args.platform.now c.args.releases.items c.next.new.self.rest.items c.in-Some.release c.loop-release.tables.items c.in-Ok.table
    (subst (λ (rest : List Release). IsOver c.args.platform.now c.args.releases.items rest c.loop-release.tables.items) c.in-Some.ensures.steps.0 c.loop-release.invariant)
    c.in-Ok.ensures.built c.in-Ok.ensures.sound.0 c.in-Ok.ensures.sound.1)

pub returns-clause-fits : goal.returns-clause-fits
returns-clause-fits c =
    let none = nothing_left c.loop-release.release-iterator.rest.items c.loop-release.release-iterator.rest.len c.loop-release.release-iterator.rest.ok.0 c.in-None.ensures.steps.0 in
    over_fits c.args.platform.now c.args.releases.items c.loop-release.tables.items c.requires.some
    (subst (λ (rest : List Release). IsOver c.args.platform.now c.args.releases.items rest c.loop-release.tables.items) none c.loop-release.invariant)
