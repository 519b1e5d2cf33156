use Rattle.std.proofs.Common.{◌≡◌, ◌+◌, ◌≤◌, ◌++◌, length, List, None, false, sym, ◌∙◌, ap, subst}
use Rattle.std.specs.Prelude.{IsTrue, is_some, option_map}
use Rattle.std.specs.List.{All, list_all}
use Rattle.jc_facts.specs.declared.class_facts.ClassFacts.{ClassFacts}
use Rattle.jc_facts.specs.world.World.{differ_by_name, World, class_named, modular_side, with_clients}
use Rattle.jc_facts.specs.client.Valid.{facts_of}
use Rattle.jc_facts.specs.file.Valid.{IsValidClass}
use Rattle.jc_link.specs.Refusals.{RefusesBy}
use Rattle.jc_link.specs.declared.asked.Asked.{Asked}
use Rattle.jc_link.specs.steps.Asked.{asks_no_clinit, outcomes_of_asked}
use Rattle.jc_link.proofs.Askings.{all_no_clinit, asked_outcomes}
use Rattle.jc_link.proofs.Joined.{records_alone, clients_valid, clients_apart, records_differ, three_few, table_refuses}
use Rattle.jc_link.proofs.modular.modular_outcomes.Goals as goal

pub over_modular-requires-clause-valid_clients : goal.over_modular-requires-clause-valid_clients
over_modular-requires-clause-valid_clients c =
    subst (λ (rs : List ClassFacts). All IsValidClass rs) (sym (records_alone c.args.clients.items _ _ c.new.ensures.items c.in-Ok.ensures.records)) (clients_valid c.args.clients.items c.requires.valid_clients)

pub over_modular-requires-clause-beside_differ : goal.over_modular-requires-clause-beside_differ
over_modular-requires-clause-beside_differ c =
    subst (λ (rs : List ClassFacts). IsTrue (differ_by_name (c.args.release.items ++ rs))) (sym (records_alone c.args.clients.items _ _ c.new.ensures.items c.in-Ok.ensures.records))
    (records_differ c.args.platform.now c.args.release.items c.args.clients.items c.requires.release_differs c.requires.clients_differ c.requires.allowed)

pub over_modular-requires-clause-clients_apart : goal.over_modular-requires-clause-clients_apart
over_modular-requires-clause-clients_apart c =
    subst (λ (rs : List ClassFacts). All (λ r. is_some (class_named c.args.platform.now r.name) ≡ false) rs) (sym (records_alone c.args.clients.items _ _ c.new.ensures.items c.in-Ok.ensures.records))
    (clients_apart c.args.platform.now c.args.release.items c.args.clients.items c.requires.allowed)

pub over_modular-requires-clause-few : goal.over_modular-requires-clause-few
over_modular-requires-clause-few c =
    subst (λ (rs : List ClassFacts). length c.args.platform.now + (length c.args.release.items + length rs) ≤ 120000) (sym (records_alone c.args.clients.items _ _ c.new.ensures.items c.in-Ok.ensures.records))
    (three_few c.args.platform.now c.args.release.items c.args.clients.items c.requires.few)

pub returns-in-Err-over_modular-clause-refused : goal.returns-in-Err-over_modular-clause-refused
returns-in-Err-over_modular-clause-refused c =
    subst (RefusesBy c.args.platform.now c.args.release.items None) (sym c.refusal_of.ensures)
    (table_refuses c.args.platform.now c.args.release.items None c.in-Err-over_modular.error c.in-Err-over_modular.ensures.refused)

pub outcomes_in_order-requires-clause-items : goal.outcomes_in_order-requires-clause-items
outcomes_in_order-requires-clause-items c =
    subst (λ (xs : List Asked). IsTrue (list_all asks_no_clinit xs)) (sym c.in-Ok.ensures.asked) (all_no_clinit c.args.clients.items c.requires.valid_clients)

pub returns-in-Ok-outcomes_in_order-clause-value : goal.returns-in-Ok-outcomes_in_order-clause-value
returns-in-Ok-outcomes_in_order-clause-value c =
    let W : World = modular_side (option_map (λ ns. ns.items) c.args.exports) c.args.platform.now c.args.release.items in
    c.in-Ok-outcomes_in_order.ensures
    ∙ ap (λ (V : World). outcomes_of_asked V c.in-Ok.parts.asked.items) (c.in-Ok-over_modular.ensures.built ∙ ap (with_clients W) (records_alone c.args.clients.items _ _ c.new.ensures.items c.in-Ok.ensures.records))
    ∙ ap (outcomes_of_asked (with_clients W (facts_of c.args.clients.items))) c.in-Ok.ensures.asked
    ∙ asked_outcomes (with_clients W (facts_of c.args.clients.items)) c.args.clients.items
