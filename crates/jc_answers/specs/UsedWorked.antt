-- Some answers on clients, and lines of a check.
use Rattle.std.specs.Prelude.{ℕ, List, [], ◌∷◌, Option, Some, None, codes}
use Rattle.jc_facts.specs.declared.act.Act.TheVariants as acts
use Rattle.jc_facts.specs.declared.client.Item.TheVariants as items
use Rattle.jc_facts.specs.declared.client.Place.TheVariants as places
use Rattle.jc_facts.specs.declared.finding.Finding.{Finding}
use Rattle.jc_facts.specs.declared.key.Key.{Key}
use Rattle.jc_facts.specs.declared.link_error.LinkError.TheVariants as errors
use Rattle.jc_facts.specs.declared.outcome.Outcome.{Outcome}
use Rattle.jc_facts.specs.declared.rule_numbers.TheConstants.{CLASS_GONE, METHOD_CLOSED, CAPTURE_ADDED}
use Rattle.jc_facts.specs.declared.verdict.Collision.{Collision}
use Rattle.jc_answers.specs.declared.answer.Answer.{Answer}
use Rattle.jc_answers.specs.declared.answer.Answer.TheVariants as answers
use Rattle.jc_link.specs.declared.refusal.ClientPart.TheVariants as client_parts
use Rattle.jc_releases.specs.declared.stop.Stop.TheVariants as stops
use Rattle.jc_used.specs.Lines.{as_finding}

abbrev pub run : Key
run = record { name = codes "run"; descriptor = codes "()V" }

-- ---- a check

abbrev pub class_gone : Finding
class_gone = record { rule = CLASS_GONE; class = codes "p/B"; key = None; target = None; act = acts.ClassRef; seat = None; error = errors.NoClassDefFoundError }

abbrev pub method_gone : Finding
method_gone = record { rule = METHOD_CLOSED; class = codes "p/A"; key = Some run; target = None; act = acts.InvokeVirtual; seat = None; error = errors.NoSuchMethodError }

abbrev pub captures : Collision
captures = record { rule = CAPTURE_ADDED; class = codes "p/D"; key = run; act = acts.InvokeVirtual; error = errors.IllegalAccessError }

abbrev pub check : List Finding
check = class_gone ∷ method_gone ∷ as_finding captures ∷ []

-- ---- clients

abbrev pub call_gone : Outcome
call_gone = record { «class» = codes "c/C"; item = Some (items.Access acts.InvokeVirtual (codes "p/A") run (Some (codes "p/A")) places.Other); error = Some errors.NoSuchMethodError }

abbrev pub call_captured : Outcome
call_captured = record { «class» = codes "c/C"; item = Some (items.Access acts.InvokeVirtual (codes "c/D") run None places.Other); error = Some errors.IllegalAccessError }

abbrev pub unloaded : Outcome
unloaded = record { «class» = codes "c/E"; item = None; error = Some errors.VerifyError }

-- of its two losses no line explains the second
abbrev pub breaks_once : Answer
breaks_once = answers.Judged (record { classes = 2; outcomes = 5; errors = 1; lost = call_gone ∷ unloaded ∷ [] })

abbrev pub breaks_twice : Answer
breaks_twice = answers.Judged (record { classes = 1; outcomes = 3; errors = 0; lost = call_gone ∷ call_gone ∷ call_captured ∷ [] })

abbrev pub is_kept : Answer
is_kept = answers.Judged (record { classes = 1; outcomes = 1; errors = 0; lost = [] })

abbrev pub is_not_linked : Answer
is_not_linked = answers.Refused (stops.ClientName (codes "p/A") client_parts.Declared)

abbrev pub clients : List Answer
clients = breaks_once ∷ is_not_linked ∷ breaks_twice ∷ []

abbrev pub explained : List (List (Option ℕ))
explained = (Some 2 ∷ None ∷ []) ∷ [] ∷ (Some 2 ∷ Some 2 ∷ Some 3 ∷ []) ∷ []
