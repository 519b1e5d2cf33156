use Rattle.std.proofs.Common.{[], ◌∷◌, subst}
use Rattle.jc_facts.specs.Names.{Bytes}
use Rattle.jc_index.specs.steps.Adding.{AddsNames}
use Rattle.jc_index.proofs.HashedKeys.{names_next, names_all}
use Rattle.jc_index.proofs.final_keys.names_of.Goals as goal

pub loop-key-preserved : goal.loop-key-preserved
loop-key-preserved c =
    names_next c.args.keys.now c.loop-key.key-index c.key-item.result c.loop-key.names c.put.new.self c.loop-key-test.true c.key-item.is
    (subst (λ (x : Bytes). AddsNames c.loop-key.names c.put.new.self (x ∷ [])) c.in_ok-name.ensures c.in_ok-put.ensures.adds) c.loop-key.invariant

pub returns : goal.returns
returns c = names_all c.args.keys.now c.loop-key.key-index c.loop-key.names c.loop-key-test.false c.loop-key.invariant
