-- What is shown by witnesses.
use Rattle.std.specs.Prelude.{◌≤◌}
use Rattle.std.specs.List.{All}
use Rattle.jc_facts.specs.declared.verdict.Verdict.{Verdict}
use Rattle.jc_promises.specs.Pairs.{AreOfOneRun}
use Rattle.jc_promises.specs.rule.Verdict.{IsVerdict}
use Rattle.jc_facts.specs.Verdicts.{count_of}
use Rattle.jc_witness.specs.Ground.{HasShortSide}
use Rattle.jc_witness.specs.Witnesses.{IsWitnessOf, witness_files}
use Rattle.jc_shown.specs.Witness.{causes_of}
use Rattle.jc_releases.specs.declared.limits.TheConstants.{MAX_FINDINGS}
use Rattle.jc_shown.specs.declared.shown.Shown.{Shown}

-- the verdict is that on the two sides, which are of one run and have short names, it has at most as many findings and collisions as the limit,
-- and the witness of each shows it
pub record CanShow (of : Shown) (v : Verdict) : Type 0 where
  pub run : AreOfOneRun of.old of.new
  pub verdict : IsVerdict of.old of.new v
  pub few : count_of v ≤ MAX_FINDINGS
  pub old_names : HasShortSide of.old
  pub new_names : HasShortSide of.new
  pub shown : All (λ e. IsWitnessOf of.old of.new e (witness_files of.old of.new e)) (causes_of v)
