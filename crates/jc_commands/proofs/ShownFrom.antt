-- Planned witness files are files that show their causes.
use Rattle.std.proofs.Common.{ℕ, ◌+◌, List, [], ◌∷◌, refl}
use Rattle.std.specs.List.{All, AllByRecursion}
use Rattle.std.proofs.lemmas.List.Elements.{recursion_from_All, All-from_recursion}
use Rattle.jc_facts.specs.declared.verdict.Cause.{Cause}
use Rattle.jc_facts.specs.declared.verdict.Verdict.{Verdict}
use Rattle.jc_facts.specs.Names.{Bytes}
use Rattle.jc_promises.specs.plan.Planned.{planned}
use Rattle.jc_promises.specs.rule.Verdict.{IsVerdict}
use Rattle.jc_facts.specs.world.World.{World}
use Rattle.jc_witness.specs.declared.witness.WitnessFile.{WitnessFile}
use Rattle.jc_witness.specs.Witnesses.{witness_files}
use Rattle.jc_commands.specs.Check.{IsShown, Shows, ShowEach}
use Rattle.jc_shown.specs.Witness.{files_from}

module _ (O N : World) (v : Verdict) (exact : IsVerdict O N v) where
  show_one : (e : Cause) → IsShown O N e → Shows O N v e (witness_files O N e)
  show_one e is = record { clients = planned O N e; witness = is.shows; meets = is.meets v exact }

  show_each : (dir : Bytes) (n : ℕ) (es : List Cause) → AllByRecursion (IsShown O N) es → ShowEach dir O N v n es (files_from dir O N n es)
  show_each dir n [] h = refl
  show_each dir n (e ∷ es) h = (witness_files O N e, files_from dir O N (n + 1) es, refl, show_one e h.0, show_each dir (n + 1) es h.1)

  each_shown : (es : List Cause) → AllByRecursion (IsShown O N) es → AllByRecursion (λ e. (fs : List WitnessFile) × Shows O N v e fs) es
  each_shown [] h = tt
  each_shown (e ∷ es) h = ((witness_files O N e, show_one e h.0), each_shown es h.1)

  pub files_show_each : (dir : Bytes) (n : ℕ) (es : List Cause) → All (IsShown O N) es → ShowEach dir O N v n es (files_from dir O N n es)
  files_show_each dir n es h = show_each dir n es (recursion_from_All (IsShown O N) es h)

  pub each_has_clients : (es : List Cause) → All (IsShown O N) es → All (λ e. (fs : List WitnessFile) × Shows O N v e fs) es
  each_has_clients es h = All-from_recursion (λ e. (fs : List WitnessFile) × Shows O N v e fs) es (each_shown es (recursion_from_All (IsShown O N) es h))
