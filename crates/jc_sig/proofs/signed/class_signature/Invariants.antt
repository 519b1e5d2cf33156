use Rattle.std.proofs.Common.{◌≡◌, None, drop}
use Rattle.std.specs.List.{find as first_where}
use Rattle.std.specs.Option.{option_eq}
use Rattle.jc_facts.specs.declared.class_facts.Signed.{Signed}
use Rattle.jc_facts.specs.Names.{same_key}
use Rattle.jc_sig.proofs.signed.class_signature.Given as goal

abbrev pub invariant-loop-signed : goal.invariant-loop-signed
invariant-loop-signed l =
    first_where (λ (s : Signed). option_eq same_key s.key None) (drop l.signed-index l.signed-items) ≡ first_where (λ (s : Signed). option_eq same_key s.key None) l.«class».signatures
