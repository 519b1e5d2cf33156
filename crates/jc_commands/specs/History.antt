-- A row of releases: what it reads, why that is refused, and its verdicts.
use Rattle.std.specs.Prelude.{◌≡◌, ◌≢◌, ◌≤◌, ◌<◌, ◌⊎◌, List, [], ◌∷◌, map, Option, Some, None}
use Rattle.std.specs.List.{All, AllZip, Contains}
use Rattle.jc_base.specs.Outside.{FileOf}
use Rattle.jc_facts.specs.declared.class_facts.ClassFacts.{ClassFacts}
use Rattle.jc_facts.specs.declared.client.ClientClass.{ClientClass}
use Rattle.jc_facts.specs.declared.rule_numbers.TheConstants.{CLASS_GONE}
use Rattle.jc_facts.specs.declared.verdict.Verdict.{Verdict}
use Rattle.jc_promises.specs.client.Scope.{IsInScope}
use Rattle.jc_promises.specs.client.Keeps.{Keeps}
use Rattle.jc_promises.specs.client.Kept.{BreaksClass}
use Rattle.jc_promises.specs.rule.Verdict.{IsVerdict}
use Rattle.jc_facts.specs.Verdicts.{count_of}
use Rattle.jc_facts.specs.world.World.{World, side}
use Rattle.jc_complete.specs.Completeness.{IsBroken}
use Rattle.jc_history.specs.Row.{Step, steps_of, AreVerdicts, KeepsRow}
use Rattle.jc_trees.specs.ReadTrees.{GiveAll}
use Rattle.jc_trees.specs.declared.tree_read.TreeRead.TheVariants as reads
use Rattle.jc_releases.specs.Command.{trees_of}
use Rattle.jc_words.specs.Command.{HistoryOf, HistoryCommand}
use Rattle.jc_commands.specs.Check.{MeetsNone, AreShown}
use Rattle.jc_releases.specs.Releases.{numbered, mismatch_among}
use Rattle.jc_releases.specs.declared.limits.TheConstants.{MAX_FINDINGS}
use Rattle.jc_releases.specs.declared.stop.Part.TheVariants as parts
use Rattle.jc_releases.specs.declared.stop.Stop.{Stop}
use Rattle.jc_releases.specs.declared.stop.Stop.TheVariants as stops

-- the records of the platform and of each release, from the first to the last
pub record HistoryRecords (files : List FileOf) (h : HistoryOf) : Type 0 where
  pub platform : List ClassFacts
  pub releases : List (List ClassFacts)
  pub are : GiveAll files (trees_of (HistoryCommand h)) (reads.Library platform ∷ map reads.Library releases)

-- the platform with each release
abbrev pub row_of : List ClassFacts → List (List ClassFacts) → List World
row_of platform releases = map (side platform) releases

-- ---- why the records are refused

-- the first reason why the releases don't go with the platform
abbrev pub mismatch_of_row : List ClassFacts → List (List ClassFacts) → Option Stop
mismatch_of_row platform releases = mismatch_among platform (numbered 1 releases)

-- the releases go with the platform, and the verdict on a step has too many findings and collisions
pub record HasTooManyAt (platform : List ClassFacts) (releases : List (List ClassFacts)) : Type 0 where
  pub fits : mismatch_of_row platform releases ≡ None
  pub step : Step
  pub is_step : Contains (steps_of (row_of platform releases)) step
  pub verdict : Verdict
  pub exact : IsVerdict step.old step.new verdict
  pub many : MAX_FINDINGS < count_of verdict

-- the records are refused, and this is the first cause
abbrev pub IsUnfitRow : List ClassFacts → List (List ClassFacts) → Stop → Type 0
IsUnfitRow platform releases stop = (mismatch_of_row platform releases ≡ Some stop) ⊎ ((stop ≡ stops.TooMany parts.Findings) × HasTooManyAt platform releases)

-- no cause to refuse them stands
pub record IsFitRow (platform : List ClassFacts) (releases : List (List ClassFacts)) : Type 0 where
  pub fits : mismatch_of_row platform releases ≡ None
  pub few : (s : Step) → Contains (steps_of (row_of platform releases)) s → (v : Verdict) → IsVerdict s.old s.new v → count_of v ≤ MAX_FINDINGS

-- ---- the verdicts

-- the verdicts on each two neighbours, in order, where nothing refuses them
pub record AreVerdictsOn (platform : List ClassFacts) (releases : List (List ClassFacts)) (vs : List Verdict) : Type 0 where
  pub fits : mismatch_of_row platform releases ≡ None
  pub exact : AreVerdicts (steps_of (row_of platform releases)) vs
  pub few : All (λ v. count_of v ≤ MAX_FINDINGS) vs

-- these are the verdicts on the releases, and where none has a finding, each client world in scope of the row that meets none of its collisions
-- keeps with the last release each load, and each assignment and use in reach of the row, that held with the first
pub record IsKeptRow (files : List FileOf) (h : HistoryOf) (vs : List Verdict) : Type 0 where
  pub records : HistoryRecords files h
  pub verdicts : AreVerdictsOn records.platform records.releases vs
  pub keeps : KeepsRow (row_of records.platform records.releases) vs

-- what a check of the two sides of the step says by its verdict, whatever the other steps have. Where the verdict has no finding, each client world in
-- scope that meets none of its collisions keeps what held with the older side; where it has one, some such world isn't kept. Whoever names a class that
-- is gone has the finding's error, and each finding and each collision is shown by some class files
pub record IsBorneOutStep (s : Step) (v : Verdict) : Type 0 where
  pub kept : v.findings ≡ [] → (cs : List ClientClass) → IsInScope s.old s.new cs → MeetsNone s.old cs v.collisions → Keeps s.old s.new cs
  pub broken : v.findings ≢ [] → (cs : List ClientClass) × IsBroken s.old s.new v cs
  pub breaks : All (λ f. f.rule ≡ CLASS_GONE → BreaksClass s.old s.new f.class f.error) v.findings
  pub shown : AreShown s.old s.new v

-- these are the verdicts on the releases, and each is borne out over its step
pub record IsBorneOutRow (files : List FileOf) (h : HistoryOf) (vs : List Verdict) : Type 0 where
  pub records : HistoryRecords files h
  pub verdicts : AreVerdictsOn records.platform records.releases vs
  pub steps : AllZip IsBorneOutStep (steps_of (row_of records.platform records.releases)) vs
