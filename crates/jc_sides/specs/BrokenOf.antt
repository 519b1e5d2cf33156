-- Acts of clients that are broken.
use Rattle.std.specs.Prelude.{ℕ, Bool, Option, None, Some}
use Rattle.jc_facts.specs.declared.act.Act.{Act}
use Rattle.jc_facts.specs.declared.finding.Finding.{Finding}
use Rattle.jc_facts.specs.declared.key.Key.{Key}
use Rattle.jc_facts.specs.declared.link_error.LinkError.{LinkError}
use Rattle.jc_facts.specs.declared.verdict.Collision.{Collision}
use Rattle.jc_facts.specs.Names.{Bytes}
use Rattle.jc_facts.specs.Options.{some_where}
use Rattle.jc_promises.specs.rule.Collisions.{made_collision}
use Rattle.jc_promises.specs.rule.Findings.{Subject, report}

-- the act, the seat from which it is where that matters, and the error that it gets
pub record BrokenOf : Type 0 where
  pub act : Act
  pub seat : Option Bytes
  pub error : LinkError

-- the act without a seat, where it is broken
abbrev pub broken_if : Bool → Act → LinkError → Option BrokenOf
broken_if b what e = some_where b (record { act = what; seat = None; error = e })

-- the finding on the subject, where an act is broken
abbrev pub found : Subject → Option BrokenOf → Option Finding
found on None = None
found on (Some b) = report on b.act b.seat b.error

-- the collision of the rule on the class and the key, where an act is broken
abbrev pub collided : ℕ → Bytes → Key → Option BrokenOf → Option Collision
collided rule x k None = None
collided rule x k (Some b) = Some (made_collision rule x k b.act b.error)
