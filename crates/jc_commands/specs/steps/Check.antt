-- What is found in the records of a check, on the way.
use Rattle.std.specs.Prelude.{◌≡◌, ◌<◌, ◌≤◌, ◌⊎◌, Bool, IsTrue, List, [], length, Option, None, Some, IfSome, IfOk, IfErr, option_map}
use Rattle.std.specs.List.{All}
use Rattle.jc_facts.specs.declared.rule_numbers.TheConstants.{CLASS_GONE}
use Rattle.jc_call_kinds.specs.declared.call_line.CallLine.{CallLine}
use Rattle.jc_calls.specs.Lines.{AreLines}
use Rattle.jc_call_lines.specs.LinesWithin.{ReferencesStill}
use Rattle.jc_facts.specs.declared.dropped.Dropped.{Dropped}
use Rattle.jc_dropped.specs.Dropped.{AreDropped}
use Rattle.jc_facts.specs.declared.client.ClientClass.{ClientClass}
use Rattle.jc_facts.specs.declared.verdict.Verdict.{Verdict}
use Rattle.jc_promises.specs.client.Scope.{IsInScope}
use Rattle.jc_promises.specs.client.Keeps.{Keeps}
use Rattle.jc_promises.specs.client.Kept.{BreaksClass}
use Rattle.jc_promises.specs.rule.Verdict.{IsVerdict}
use Rattle.jc_facts.specs.Verdicts.{count_of}
use Rattle.jc_promises.specs.rule.Warnings.{AreWarnings}
use Rattle.jc_facts.specs.declared.warning.Warning.{Warning}
use Rattle.jc_rules.specs.Verdicts.{IsVerdictWithin, KeepsAll, BreaksEach}
use Rattle.jc_select.specs.DroppedWithin.{InterfacesStill}
use Rattle.jc_select.specs.Within.{AnswersStill}
use Rattle.jc_facts.specs.world.World.{World}
use Rattle.jc_bodies.specs.Files.{CanWrite}
use Rattle.jc_commands.specs.Check.{CheckReport, IsUnfit, IsVerdictOn, AreWarned, MeetsNone, mismatch_of, report_of}
use Rattle.jc_words.specs.Command.{CheckOf}
use Rattle.jc_commands.specs.CallsPart.{AreAskedCalls}
use Rattle.jc_commands.specs.DroppedPart.{AreAskedDropped}
use Rattle.jc_commands.specs.Signatures.{AreNoted}
use Rattle.jc_commands.specs.declared.comparison.Comparison.{Comparison}
use Rattle.jc_commands.specs.declared.found.Found.{Found}
use Rattle.jc_commands.specs.declared.found.Judged.{Judged}
use Rattle.jc_releases.specs.declared.limits.TheConstants.{MAX_FINDINGS, MAX_WARNINGS, MAX_DROPPED, MAX_CALLS}
use Rattle.jc_releases.specs.declared.stop.Part.TheVariants as parts
use Rattle.jc_releases.specs.declared.stop.Stop.{Stop}
use Rattle.jc_releases.specs.declared.stop.Stop.TheVariants as stops

-- the report on it, part by part
abbrev pub report_made : Comparison → CheckReport
report_made c =
    report_of c.verdict (option_map (λ ws. ws.items) c.warnings) (option_map (λ ns. ns.items) c.signatures) (option_map (λ ds. ds.items) c.dropped) (option_map (λ ls. ls.items) c.calls)

-- what is known of the comparison of these two sides, with the parts that the check asks for
pub record IsComparison (check : CheckOf) (O N : World) (c : Comparison) : Type 0 where
  pub old_is : c.old ≡ O
  pub new_is : c.new ≡ N
  pub can : CanWrite O N
  pub verdict : IsVerdictOn O N c.verdict
  pub kept : c.verdict.findings ≡ [] → (cs : List ClientClass) → IsInScope O N cs → MeetsNone O cs c.verdict.collisions
      → Keeps O N cs
  pub breaks : All (λ f. f.rule ≡ CLASS_GONE → BreaksClass O N f.class f.error) c.verdict.findings
  pub warned : AreWarned check.warn O N (option_map (λ ws. ws.items) c.warnings)
  pub noted : AreNoted check.signatures O N (option_map (λ ns. ns.items) c.signatures)
  pub dropped : AreAskedDropped check.dropped O N (option_map (λ ds. ds.items) c.dropped)
  pub calls : AreAskedCalls check.calls O N (option_map (λ ls. ls.items) c.calls)
  pub answered : IfSome (option_map (λ ws. ws.items) c.warnings) (AnswersStill O N)
  pub interfaces : IfSome (option_map (λ ds. ds.items) c.dropped) (InterfacesStill O N)
  pub references : IfSome (option_map (λ ls. ls.items) c.calls) (ReferencesStill O N)

-- why there are no tables of the two sides
abbrev pub StopsMatching : World → World → Stop → Type 0
StopsMatching O N stop = (mismatch_of O N ≡ Some stop) ⊎ (stop ≡ stops.Memory)

-- why comparing the sides stopped
abbrev pub StopsComparing : CheckOf → World → World → Stop → Type 0
StopsComparing check O N stop = IsUnfit check O N stop ⊎ (stop ≡ stops.Memory)

-- why the verdict on the sides isn't printed
abbrev pub StopsCounting : World → World → Stop → Type 0
StopsCounting O N stop = ((stop ≡ stops.TooMany parts.Findings) × ((v : Verdict) → IsVerdict O N v → MAX_FINDINGS < count_of v)) ⊎ (stop ≡ stops.Memory)

-- why the warnings on the sides aren't printed
abbrev pub StopsWarning : Bool → World → World → Stop → Type 0
StopsWarning warn O N stop = (IsTrue warn × (stop ≡ stops.TooMany parts.Warnings) × ((ws : List Warning) → AreWarnings O N ws → MAX_WARNINGS < length ws)) ⊎ (stop ≡ stops.Memory)

-- why the dropped interfaces of the sides aren't printed
abbrev pub StopsDropping : Bool → World → World → Stop → Type 0
StopsDropping dropped O N stop = (IsTrue dropped × (stop ≡ stops.TooMany parts.Dropped) × ((ds : List Dropped) → AreDropped O N ds → MAX_DROPPED < length ds)) ⊎ (stop ≡ stops.Memory)

-- why the lines on calls between the sides aren't printed
abbrev pub StopsCalling : Bool → World → World → Stop → Type 0
StopsCalling calls O N stop = (IsTrue calls × (stop ≡ stops.TooMany parts.Calls) × ((ls : List CallLine) → AreLines O N ls → MAX_CALLS < length ls)) ⊎ (stop ≡ stops.Memory)

-- the verdict on the sides, within its limit, and the dropped interfaces where they are asked for, or why these aren't printed
pub record AreJudged (asked : Bool) (O N : World) (j : Judged) : Type 0 where
  pub exact : IsVerdict O N j.verdict
  pub few : count_of j.verdict ≤ MAX_FINDINGS
  pub kept : KeepsAll O N j.verdict
  pub broken : BreaksEach O N j.verdict
  pub listed : IfOk j.dropped (λ made. AreAskedDropped asked O N (option_map (λ ds. ds.items) made))
  pub still : IfOk j.dropped (λ made. IfSome (option_map (λ ds. ds.items) made) (InterfacesStill O N))
  pub stopped : IfErr j.dropped (StopsDropping asked O N)

-- there is none where the verdict is over its limit
abbrev pub AreJudgedWithin : Bool → World → World → Option Judged → Type 0
AreJudgedWithin asked O N None = IsVerdictWithin O N MAX_FINDINGS None
AreJudgedWithin asked O N (Some j) = AreJudged asked O N j

-- both of these, and the lines on calls where they are asked for, or why these aren't printed
pub record AreFound (dropped calls : Bool) (O N : World) (f : Found) : Type 0 where
  pub judged : AreJudged dropped O N f.judged
  pub called : IfOk f.calls (λ made. AreAskedCalls calls O N (option_map (λ ls. ls.items) made))
  pub still : IfOk f.calls (λ made. IfSome (option_map (λ ls. ls.items) made) (ReferencesStill O N))
  pub stopped : IfErr f.calls (StopsCalling calls O N)

-- there is none where the verdict is over its limit
abbrev pub AreFoundWithin : Bool → Bool → World → World → Option Found → Type 0
AreFoundWithin dropped calls O N None = IsVerdictWithin O N MAX_FINDINGS None
AreFoundWithin dropped calls O N (Some f) = AreFound dropped calls O N f
