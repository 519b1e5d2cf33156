use Rattle.std.proofs.Common.{◌≡◌, ◌+◌, ◌≤◌, length, List, sym, ◌∙◌, ap, subst}
use Rattle.std.specs.Prelude.{IfOk, IsTrue, option_map}
use Rattle.std.specs.List.{All}
use Rattle.jc_facts.specs.declared.client.ClientClass.{ClientClass}
use Rattle.jc_facts.specs.declared.outcome.Outcome.{Outcome}
use Rattle.jc_facts.specs.world.World.{differ_by_name, World, modular_side, with_clients}
use Rattle.jc_facts.specs.client.Valid.{facts_of, IsValidClient}
use Rattle.jc_facts.specs.client.Linked.{all_outcomes}
use Rattle.jc_worlds.proofs.ClientOrder.{sorted_differ}
use Rattle.jc_link.proofs.Joined.{modular_answer_is}
use Rattle.jc_link.proofs.Sorting.{order_valid, order_length}
use Rattle.jc_link.proofs.modular.link_modular_over.Goals as goal

pub modular_outcomes-requires-clause-valid_clients : goal.modular_outcomes-requires-clause-valid_clients
modular_outcomes-requires-clause-valid_clients c =
    subst (λ (cs : List ClientClass). All IsValidClient cs) (sym c.in-Ok.ensures) (order_valid c.args.clients.items c.requires.valid_clients)

pub modular_outcomes-requires-clause-clients_differ : goal.modular_outcomes-requires-clause-clients_differ
modular_outcomes-requires-clause-clients_differ c =
    subst (λ (cs : List ClientClass). IsTrue (differ_by_name (facts_of cs))) (sym c.in-Ok.ensures) (sorted_differ c.args.clients.items c.requires.clients_differ)

pub modular_outcomes-requires-clause-few : goal.modular_outcomes-requires-clause-few
modular_outcomes-requires-clause-few c =
    subst (λ n. length c.args.platform.now + (length c.args.release.items + n) ≤ 120000) (sym (ap length c.in-Ok.ensures ∙ order_length c.args.clients.items)) c.requires.few

pub returns-in-None-clause-value : goal.returns-in-None-clause-value
returns-in-None-clause-value c =
    let W : World = modular_side (option_map (λ ns. ns.items) c.args.exports) c.args.platform.now c.args.release.items in
    subst (λ (os : List Outcome). IfOk c.modular_outcomes.result (λ list. list.items ≡ os))
    (ap (λ ds. all_outcomes (with_clients W (facts_of ds)) ds) c.in-Ok.ensures ∙ modular_answer_is W c.args.clients.items c.requires.clients_differ)
    c.modular_outcomes.ensures.value
