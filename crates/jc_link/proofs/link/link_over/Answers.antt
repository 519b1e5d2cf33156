use Rattle.std.proofs.Common.{◌≡◌, ◌+◌, ◌≤◌, ◌++◌, length, List, sym, ◌∙◌, ap, subst}
use Rattle.std.specs.Prelude.{IfOk, IsTrue}
use Rattle.std.specs.List.{All}
use Rattle.jc_facts.specs.declared.client.ClientClass.{ClientClass}
use Rattle.jc_facts.specs.declared.outcome.Outcome.{Outcome}
use Rattle.jc_facts.specs.world.World.{differ_by_name, side}
use Rattle.jc_facts.specs.client.Valid.{facts_of, IsValidClient}
use Rattle.jc_facts.specs.client.Linked.{all_outcomes}
use Rattle.jc_worlds.proofs.ClientOrder.{sorted_differ}
use Rattle.jc_link.proofs.Joined.{answer_is}
use Rattle.jc_link.proofs.Sorting.{order_valid, order_length}
use Rattle.jc_link.proofs.link.link_over.Goals as goal

pub outcomes_of_allowed-requires-clause-valid_clients : goal.outcomes_of_allowed-requires-clause-valid_clients
outcomes_of_allowed-requires-clause-valid_clients c =
    subst (λ (cs : List ClientClass). All IsValidClient cs) (sym c.in-Ok.ensures) (order_valid c.args.clients.items c.requires.valid_clients)

pub outcomes_of_allowed-requires-clause-clients_differ : goal.outcomes_of_allowed-requires-clause-clients_differ
outcomes_of_allowed-requires-clause-clients_differ c =
    subst (λ (cs : List ClientClass). IsTrue (differ_by_name (facts_of cs))) (sym c.in-Ok.ensures) (sorted_differ c.args.clients.items c.requires.clients_differ)

pub outcomes_of_allowed-requires-clause-few : goal.outcomes_of_allowed-requires-clause-few
outcomes_of_allowed-requires-clause-few c =
    subst (λ n. length c.args.platform.now + (length c.args.release.items + n) ≤ 120000) (sym (ap length c.in-Ok.ensures ∙ order_length c.args.clients.items)) c.requires.few

pub returns-in-None-clause-value : goal.returns-in-None-clause-value
returns-in-None-clause-value c =
    subst (λ (os : List Outcome). IfOk c.outcomes_of_allowed.result (λ list. list.items ≡ os))
    (ap (λ ds. all_outcomes (side c.args.platform.now (c.args.release.items ++ facts_of ds)) ds) c.in-Ok.ensures ∙ answer_is c.args.platform.now c.args.release.items c.args.clients.items c.requires.clients_differ)
    c.outcomes_of_allowed.ensures.value
