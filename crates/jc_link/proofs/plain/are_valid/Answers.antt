use Rattle.std.proofs.Common.{List, refl, subst}
use Rattle.std.specs.List.{All}
use Rattle.std.proofs.lemmas.List.{take_all}
use Rattle.std.proofs.lemmas.List.Elements.{All-more}
use Rattle.jc_facts.specs.declared.client.ClientClass.{ClientClass}
use Rattle.jc_facts.specs.client.Valid.{IsValidClient}
use Rattle.jc_link.proofs.plain.are_valid.Goals as goal

pub loop-client-preserved : goal.loop-client-preserved
loop-client-preserved c =
    All-more IsValidClient c.args.clients.now c.loop-client.client-index c.client-item.result c.loop-client-test.true c.loop-client.invariant
    (subst IsValidClient c.client-item.is (c.in_ok-valid.ensures.0 c.if-not-valid.false))

pub returns : goal.returns
returns c = (
  λ h. subst (λ (cs : List ClientClass). All IsValidClient cs) (take_all c.loop-client.client-index c.args.clients.now c.loop-client-test.false) c.loop-client.invariant,
  λ h. refl,
)
