use Rattle.std.proofs.Common.{◌∙◌, List, [], map, subst, sym}
use Rattle.jc_facts.specs.declared.class_facts.ClassFacts.{ClassFacts}
use Rattle.jc_trees.specs.ClassLists.{IsRecordList}
use Rattle.jc_releases.specs.declared.releases.Release.{Release}
use Rattle.jc_commands.specs.steps.History.{IsJudged, StopsJudging}
use Rattle.jc_releases.specs.declared.stop.Part.TheVariants as parts
use Rattle.jc_releases.specs.declared.stop.Stop.TheVariants as stops
use Rattle.jc_facts.specs.world.World.{side}
use Rattle.jc_commands.proofs.RowJudged.{are_of_run, row_judged, row_refused, row_stopped, row_fits, listed_row, valid_row, row_is}
use Rattle.jc_commands.proofs.history.judged.Goals as goal

pub tables_over-requires-clause-platform : goal.tables_over-requires-clause-platform
tables_over-requires-clause-platform c = subst IsRecordList (sym c.in-Ok.ensures) c.requires.platform

pub returns-in-Err-clause-stopped : goal.returns-in-Err-clause-stopped
returns-in-Err-clause-stopped c =
    subst (λ (p : List ClassFacts). StopsJudging p (map (λ (r : Release). r.records) c.args.releases.items) c.in-Err.stop) c.in-Ok.ensures
    (row_stopped c.in-Ok.shared c.args.releases.items c.in-Err.stop c.requires.numbers c.in-Err.ensures.stopped)

pub history_within-requires : goal.history_within-requires
history_within-requires c = (
  side c.in-Ok.shared [],
  are_of_run c.in-Ok.shared (map (λ (r : Release). r.records) c.args.releases.items) c.as_slice-row.result.now
      (c.as_slice-row.ensures.value ∙ row_is c.in-Ok.shared c.args.releases.items _ c.requires.numbers c.in-Ok-tables_over.ensures.built),
)

pub returns-in-Ok-Some-clause-judged : goal.returns-in-Ok-Some-clause-judged
returns-in-Ok-Some-clause-judged c =
    subst (λ (p : List ClassFacts). IsJudged p (map (λ (r : Release). r.records) c.args.releases.items) c.in-Ok-Some.verdicts.items) c.in-Ok.ensures
    (row_judged c.in-Ok.shared (map (λ (r : Release). r.records) c.args.releases.items) c.as_slice-row.result.now c.in-Ok-Some.verdicts.items
    (subst IsRecordList (sym c.in-Ok.ensures) c.requires.platform) (listed_row c.args.releases.items c.requires.releases) c.count_each.ensures
    (c.as_slice-row.ensures.value ∙ row_is c.in-Ok.shared c.args.releases.items _ c.requires.numbers c.in-Ok-tables_over.ensures.built)
    (row_fits c.in-Ok.shared c.args.releases.items c.requires.numbers c.in-Ok-tables_over.ensures.fits)
    (rw c.in-Ok-Some.field-0-is at c.in-Ok-Some.ensures.exact) (rw c.in-Ok-Some.field-0-is at c.in-Ok-Some.ensures.kept))

pub returns-in-Ok-None-clause-stopped : goal.returns-in-Ok-None-clause-stopped
returns-in-Ok-None-clause-stopped c =
    subst (λ (p : List ClassFacts). StopsJudging p (map (λ (r : Release). r.records) c.args.releases.items) (stops.TooMany parts.Findings)) c.in-Ok.ensures
    (row_refused c.in-Ok.shared (map (λ (r : Release). r.records) c.args.releases.items) c.as_slice-row.result.now (subst IsRecordList (sym c.in-Ok.ensures) c.requires.platform) (valid_row c.args.releases.items c.requires.releases)
    (c.as_slice-row.ensures.value ∙ row_is c.in-Ok.shared c.args.releases.items _ c.requires.numbers c.in-Ok-tables_over.ensures.built)
    (row_fits c.in-Ok.shared c.args.releases.items c.requires.numbers c.in-Ok-tables_over.ensures.fits) (rw c.in-Ok-None.field-0-is at c.in-Ok-None.ensures.exact))
