-- What rules say, as findings and collisions.
use Rattle.std.proofs.Common.{◌≡◌, ◌∙◌, ap, ℕ, Bool, true, false, refl, Option}
use Rattle.jc_facts.specs.declared.act.Act.{Act}
use Rattle.jc_facts.specs.declared.finding.Finding.{Finding}
use Rattle.jc_facts.specs.declared.key.Key.{Key}
use Rattle.jc_facts.specs.declared.link_error.LinkError.{LinkError}
use Rattle.jc_facts.specs.Names.{Bytes}
use Rattle.jc_facts.specs.Options.{some_where}
use Rattle.jc_promises.specs.rule.Collisions.{made_collision}
use Rattle.jc_promises.specs.rule.Findings.{Subject, report_where}
use Rattle.jc_index.specs.Ids.{name_at}
use Rattle.jc_sides.specs.BrokenOf.{BrokenOf, broken_if, found, collided}
use Rattle.jc_sides.specs.Rules.{on_class, class_finding}
use Rattle.jc_sides.specs.SidesOf.{SidesOf}

-- an act that is broken where the test holds
pub found_where : (on : Subject) (b : Bool) (what : Act) (e : LinkError) → found on (broken_if b what e) ≡ report_where b on what e
found_where on true what e = refl
found_where on false what e = refl

pub collided_where : (rule : ℕ) (x : Bytes) (k : Key) (b : Bool) (what : Act) (e : LinkError) → collided rule x k (broken_if b what e) ≡ some_where b (made_collision rule x k what e)
collided_where rule x k true what e = refl
collided_where rule x k false what e = refl

-- what is made of a class under its own name y
pub class_found : (r n : ℕ) (t s : SidesOf) → t ≡ s → (y : Bytes) (b : Option BrokenOf) (o : Option Finding) → y ≡ name_at t.old n → found (on_class r (name_at s.old n)) b ≡ class_finding r s (name_at s.old n) → o ≡ found (on_class r y) b
    → o ≡ class_finding r s (name_at s.old n)
class_found r n t s v y b o is e q = q ∙ ap (λ (z : Bytes). found (on_class r z) b) (is ∙ ap (λ (w : SidesOf). name_at w.old n) v) ∙ e
