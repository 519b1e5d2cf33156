-- A collision that is given as a finding.
use Rattle.std.proofs.Common.{◌≡◌, ℕ, ◌++◌, ap, ◌∙◌}
use Rattle.std.specs.Prelude.{codes}
use Rattle.std.proofs.lemmas.List.{append_assoc}
use Rattle.jc_facts.specs.declared.verdict.Collision.{Collision}
use Rattle.jc_facts.specs.Names.{Bytes}
use Rattle.jc_report.specs.Text.{name_of_error, line_of_finding, line_of_collision}
use Rattle.jc_used.specs.Lines.{as_finding}

no_seat : (front : Bytes) → front ++ codes " " ++ codes "-" ++ codes " " ≡ front ++ codes " - "
no_seat front = append_assoc (front ++ codes " ") (codes "-") (codes " ") ∙ append_assoc front (codes " ") (codes "- ")

pub same_line : (n : ℕ) (c : Collision) → line_of_finding n (as_finding c) ≡ line_of_collision n c
unfolding line_of_finding line_of_collision
same_line n c = ap (λ (front : Bytes). front ++ name_of_error c.error ++ codes "\n") (no_seat _)
