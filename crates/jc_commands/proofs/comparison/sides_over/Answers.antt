use Rattle.std.proofs.Common.{◌∙◌, sym, ap, length, subst}
use Rattle.jc_promises.specs.Pairs.{AreOfOneRun}
use Rattle.jc_facts.specs.world.World.{World}
use Rattle.jc_witness.specs.Ground.{HasShortSide}
use Rattle.jc_releases.specs.Releases.{side_of}
use Rattle.jc_commands.proofs.Compared.{short_side}
use Rattle.jc_commands.proofs.TwoReleases.{two_sides, two_tables, two_lists, two_some, two_fit, two_stopped, two_of_run}
use Rattle.jc_commands.proofs.comparison.sides_over.Goals as goal

pub tables_over-requires-clause-releases : goal.tables_over-requires-clause-releases
tables_over-requires-clause-releases c = two_lists _ _ _ c.in-Ok.ensures c.requires.releases

pub tables_over-requires-clause-some : goal.tables_over-requires-clause-some
tables_over-requires-clause-some c = two_some _ _ _ c.in-Ok.ensures

pub returns-in-Err-clause-stopped : goal.returns-in-Err-clause-stopped
returns-in-Err-clause-stopped c = two_stopped c.args.platform.now c.args.old c.args.new _ c.in-Ok.ensures c.requires.releases c.in-Err.stop c.in-Err.ensures.stopped

pub returns-clause-fits : goal.returns-clause-fits
returns-clause-fits c = two_fit c.args.platform.now c.args.old c.args.new _ c.in-Ok.ensures c.requires.releases c.in-Ok-tables_over.ensures.fits

pub both_of-old-requires : goal.both_of-old-requires
both_of-old-requires c = ap length (two_tables c.args.platform.now c.args.old c.args.new _ _ c.in-Ok.ensures c.in-Ok-tables_over.ensures.built)

pub of_tables-requires-clause-run : goal.of_tables-requires-clause-run
of_tables-requires-clause-run c =
    let are = two_sides _ _ _ _ (sym c.both_of-old.ensures ∙ two_tables c.args.platform.now c.args.old c.args.new _ _ c.in-Ok.ensures c.in-Ok-tables_over.ensures.built) in
    subst (λ (W : World). AreOfOneRun W c.both_of-old.result.1) (sym are.0) (subst (AreOfOneRun (side_of c.args.platform.now c.args.old)) (sym are.1) (two_of_run _ _ _ c.requires.releases))

pub of_tables-requires-clause-short_old : goal.of_tables-requires-clause-short_old
of_tables-requires-clause-short_old c =
    subst HasShortSide (sym (two_sides _ _ _ _ (sym c.both_of-old.ensures ∙ two_tables c.args.platform.now c.args.old c.args.new _ _ c.in-Ok.ensures c.in-Ok-tables_over.ensures.built)).0)
    (short_side (side_of c.args.platform.now c.args.old) c.requires.platform.short c.requires.releases.old_list.short)

pub of_tables-requires-clause-short_new : goal.of_tables-requires-clause-short_new
of_tables-requires-clause-short_new c =
    subst HasShortSide (sym (two_sides _ _ _ _ (sym c.both_of-old.ensures ∙ two_tables c.args.platform.now c.args.old c.args.new _ _ c.in-Ok.ensures c.in-Ok-tables_over.ensures.built)).1)
    (short_side (side_of c.args.platform.now c.args.new) c.requires.platform.short c.requires.releases.new_list.short)
