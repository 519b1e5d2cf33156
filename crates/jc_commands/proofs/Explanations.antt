-- The lines of the check of the two releases of clients, and what they explain.
--     explained_few, explained_one      they are within their limit, and there is one explanation
use Rattle.std.proofs.Common.{◌≡◌, ◌≤◌, ℕ, Bool, true, false, List, Option, Some, None, refl, sym, ap, subst, ◌∙◌}
use Rattle.std.specs.Prelude.{IsTrue}
use Rattle.jc_base.specs.Outside.{FileOf}
use Rattle.jc_facts.specs.declared.verdict.Verdict.{Verdict}
use Rattle.jc_facts.specs.Verdicts.{count_of}
use Rattle.jc_facts.specs.world.World.{World}
use Rattle.jc_promises.specs.rule.Verdict.{IsVerdict}
use Rattle.jc_sound.proofs.VerdictLaw.{verdict_is_one}
use Rattle.jc_used.specs.Lines.{lines_of}
use Rattle.jc_used.specs.declared.line.Line.{Line}
use Rattle.jc_answers.specs.Numbered.{AreNumbered}
use Rattle.jc_answers.proofs.OneAnswer.{all_numbered, some_numbers}
use Rattle.jc_releases.specs.Command.{client_trees}
use Rattle.jc_releases.specs.declared.limits.TheConstants.{MAX_FINDINGS}
use Rattle.jc_words.specs.Command.{ClientsOf}
use Rattle.jc_commands.specs.Check.{mismatch_of}
use Rattle.jc_commands.specs.Clients.{Explanation, IsExplanation, IsExplained}

-- the findings and collisions of lines that are reported are within their limit
pub explained_few : (used : Bool) (files : List FileOf) (c : ClientsOf) (O N : World) (o : Option Explanation) → IsExplained used files c O N o
    → IsTrue used → (v : Verdict) → IsVerdict O N v → count_of v ≤ MAX_FINDINGS
explained_few true files c O N (Some e) h w v k = subst (λ (x : Verdict). count_of x ≤ MAX_FINDINGS) (verdict_is_one O N h.check.verdict v h.check.exact.exact k) h.check.exact.few
explained_few true files c O N None h w v k = absurd h
explained_few false files c O N o h w v k = absurd (let clash : false ≡ true = w in cc)

abbrev explanation_with : List Line → List (List (Option ℕ)) → Explanation
explanation_with lines numbers = record { lines = lines; numbers = numbers }

one_explanation : (files : List FileOf) (c : ClientsOf) (O N : World) (p q : Explanation) → IsExplanation files c O N p → IsExplanation files c O N q → p ≡ q
one_explanation files c O N p q h k =
    let same : p.lines ≡ q.lines = h.check.lines_are ∙ ap (lines_of N) (verdict_is_one O N h.check.verdict k.check.verdict h.check.exact.exact k.check.exact.exact) ∙ sym k.check.lines_are in
    let moved = subst (λ (ls : List Line). AreNumbered files O N (Some ls) (client_trees 1 c.clients) p.numbers) same h.numbered in
    ap (λ (ls : List Line). explanation_with ls p.numbers) same ∙ ap (explanation_with q.lines) (all_numbered files O N (Some q.lines) (client_trees 1 c.clients) p.numbers q.numbers moved k.numbered)

-- two that are reported are one
pub explained_one : (used : Bool) (files : List FileOf) (c : ClientsOf) (O N : World) (o p : Option Explanation) → IsExplained used files c O N o → IsExplained used files c O N p → o ≡ p
explained_one true files c O N (Some e) (Some f) h k = ap (λ (x : Explanation). Some x) (one_explanation files c O N e f h k)
explained_one true files c O N (Some e) None h k = absurd k
explained_one true files c O N None p h k = absurd h
explained_one false files c O N None None h k = refl
explained_one false files c O N None (Some e) h k = absurd k
explained_one false files c O N (Some e) p h k = absurd h

-- where there is a verdict within its limit, there is one
pub explained_on : (used : Bool) (files : List FileOf) (c : ClientsOf) (O N : World) → mismatch_of O N ≡ None → (v : Verdict) → IsVerdict O N v
    → (IsTrue used → (w : Verdict) → IsVerdict O N w → count_of w ≤ MAX_FINDINGS) → (o : Option Explanation) × IsExplained used files c O N o
explained_on false files c O N fits v is few = (None, tt)
explained_on true files c O N fits v is few =
    let ns = some_numbers files O N (Some (lines_of N v)) 1 c.clients in
    (Some (explanation_with (lines_of N v) ns.0), record { check = record { verdict = v; exact = record { fits = fits; exact = is; few = few refl v is }; lines_are = refl }; numbered = ns.1 })
