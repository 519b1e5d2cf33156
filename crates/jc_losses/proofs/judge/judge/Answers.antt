use Rattle.std.proofs.Common.{◌≤◌, ◌+◌, List, length, sym, ◌∙◌, ap, subst}
use Rattle.std.specs.Prelude.{IsTrue}
use Rattle.std.specs.List.{All}
use Rattle.jc_facts.specs.declared.client.ClientClass.{ClientClass}
use Rattle.jc_facts.specs.client.Valid.{facts_of, IsValidClient}
use Rattle.jc_facts.specs.world.World.{differ_by_name}
use Rattle.jc_worlds.proofs.ClientOrder.{sorted_differ}
use Rattle.jc_link.proofs.Sorting.{order_valid, order_length}
use Rattle.jc_losses.specs.Ground.{size_of_ground}
use Rattle.jc_losses.proofs.Judged.{both_allow, losses_said}
use Rattle.jc_losses.proofs.judge.judge.Goals as goal

pub losses_of-requires-clause-valid_clients : goal.losses_of-requires-clause-valid_clients
losses_of-requires-clause-valid_clients c = subst (λ (cs : List ClientClass). All IsValidClient cs) (sym c.in_ok-sort.ensures) (order_valid c.args.clients.items c.requires.valid_clients)

pub losses_of-requires-clause-clients_differ : goal.losses_of-requires-clause-clients_differ
losses_of-requires-clause-clients_differ c =
    subst (λ (cs : List ClientClass). IsTrue (differ_by_name (facts_of cs))) (sym c.in_ok-sort.ensures) (sorted_differ c.args.clients.items c.requires.clients_differ)

pub losses_of-requires-clause-few_old : goal.losses_of-requires-clause-few_old
losses_of-requires-clause-few_old c =
    subst (λ n. size_of_ground c.args.old.now + n ≤ 120000) (sym (ap length c.in_ok-sort.ensures ∙ order_length c.args.clients.items)) c.requires.few_old

pub losses_of-requires-clause-few_new : goal.losses_of-requires-clause-few_new
losses_of-requires-clause-few_new c =
    subst (λ n. size_of_ground c.args.new.now + n ≤ 120000) (sym (ap length c.in_ok-sort.ensures ∙ order_length c.args.clients.items)) c.requires.few_new

pub losses_of-requires-clause-old_allows : goal.losses_of-requires-clause-old_allows
losses_of-requires-clause-old_allows c =
    (both_allow c.args.old.now c.args.new.now c.sort.new.clients.items (rw (c.in_default.is, c.as_slice.ensures.value) at c.in_ok-name.ensures)).0

pub losses_of-requires-clause-new_allows : goal.losses_of-requires-clause-new_allows
losses_of-requires-clause-new_allows c =
    (both_allow c.args.old.now c.args.new.now c.sort.new.clients.items (rw (c.in_default.is, c.as_slice.ensures.value) at c.in_ok-name.ensures)).1

pub returns : goal.returns
returns c =
    losses_said c.args.clients.items c.requires.clients_differ c.args.old.now c.args.new.now c.sort.new.clients.items _ c.in_ok-sort.ensures
    (rw (c.in_default.is, c.as_slice.ensures.value) at c.in_ok-name.ensures) c.in_ok-losses_of.ensures
