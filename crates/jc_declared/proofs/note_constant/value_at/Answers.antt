use Rattle.std.proofs.Common.{Option, Some, Bor, sym, ap, ◌∙◌}
use Rattle.std.specs.Prelude.{option_map, option_copied}
use Rattle.jc_facts.specs.declared.class_facts.Fixed.{Fixed}
use Rattle.jc_facts.specs.Options.{and_then}
use Rattle.jc_declared.proofs.note_constant.value_at.Goals as goal

pub returns-in-None : goal.returns-in-None
unfolding and_then
returns-in-None c = ap (λ (o : Option (Bor Fixed)). and_then (λ f. Some f.value) (option_map (λ f. f.now) o)) (ap option_copied (sym c.in-None.is) ∙ c.get.ensures.value)

pub returns-in-Some : goal.returns-in-Some
unfolding and_then
returns-in-Some c = ap (λ (o : Option (Bor Fixed)). and_then (λ f. Some f.value) (option_map (λ f. f.now) o)) (ap option_copied (sym c.in-Some.is) ∙ c.get.ensures.value)
