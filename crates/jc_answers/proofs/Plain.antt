-- The JSON of what is said of clients has no float.
use Rattle.std.proofs.Common.{◌≡◌, ℕ, false, List, refl}
use Rattle.serde_json.specs.Written.{has_float}
use Rattle.jc_facts.specs.declared.outcome.Outcome.{Outcome}
use Rattle.jc_losses.specs.declared.losses.Losses.{Losses}
use Rattle.jc_answers.specs.ClientsJson.{unread_json, refusal_json, losses_json, client_json, clients_json}
use Rattle.jc_answers.specs.declared.answer.Answer.{Answer}
use Rattle.jc_answers.specs.declared.answer.Answer.TheVariants as answers
use Rattle.jc_releases.specs.declared.stop.Stop.{Stop}
use Rattle.jc_releases.specs.declared.stop.Stop.TheVariants as stops
use Rattle.jc_report.specs.OutcomeJson.{outcome_json}
use Rattle.jc_report.proofs.Floats.{each_plain}
use Rattle.jc_report.proofs.Outcomes.{outcome_plain}
use Rattle.jc_trees.specs.declared.file_fault.TreeFault.{TreeFault}
use Rattle.jc_trees.specs.declared.file_fault.TreeFault.TheVariants as tree_faults

unread_plain : (f : TreeFault) → has_float (unread_json f) ≡ false
unread_plain tree_faults.TooManyFiles = refl
unread_plain tree_faults.LongPath = refl
unread_plain (tree_faults.File path fault) = refl

refusal_plain : (s : Stop) → has_float (refusal_json s) ≡ false
refusal_plain (stops.Usage usage) = refl
refusal_plain (stops.Unread tree fault) = unread_plain fault
refusal_plain (stops.BadRoot part) = refl
refusal_plain (stops.Overlap tree name) = refl
refusal_plain (stops.ClientName name part) = refl
refusal_plain (stops.TooMany part) = refl
refusal_plain (stops.ReadFault tree) = refl
refusal_plain stops.Memory = refl

losses_plain : (n : ℕ) (l : Losses) → has_float (losses_json n l) ≡ false
losses_plain n l = rw (each_plain (λ (o : Outcome) (i : ℕ). outcome_json o) (λ o i. outcome_plain o) 0 l.lost) refl

pub client_plain : (a : Answer) (n : ℕ) → has_float (client_json a n) ≡ false
client_plain (answers.Judged losses) n = losses_plain n losses
client_plain (answers.Refused stop) n = rw (refusal_plain stop) refl

pub clients_plain : (all : List Answer) → has_float (clients_json all) ≡ false
clients_plain all = rw (each_plain client_json client_plain 1 all) refl
