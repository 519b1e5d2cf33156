use Rattle.std.proofs.Common.{◌+◌, ◌≤◌, ◌++◌, length, List, None, sym, ◌∙◌, ap, subst}
use Rattle.std.specs.Prelude.{IsTrue}
use Rattle.std.specs.List.{All}
use Rattle.jc_facts.specs.declared.class_facts.ClassFacts.{ClassFacts}
use Rattle.jc_facts.specs.world.World.{differ_by_name, World, side}
use Rattle.jc_facts.specs.client.Valid.{facts_of}
use Rattle.jc_facts.specs.file.Valid.{IsValidClass}
use Rattle.jc_index.specs.Sides.{overlap_of}
use Rattle.jc_table.specs.Tables.{HasCause}
use Rattle.jc_link.specs.Refusals.{RefusesBy}
use Rattle.std.specs.List.{list_all}
use Rattle.jc_link.specs.declared.asked.Asked.{Asked}
use Rattle.jc_link.specs.steps.Asked.{asks_no_clinit, outcomes_of_asked}
use Rattle.jc_link.proofs.Askings.{all_no_clinit, asked_outcomes}
use Rattle.jc_link.proofs.Joined.{records_valid, records_differ, records_few, joined_refuses, same_overlap}
use Rattle.jc_link.proofs.link.outcomes_of_allowed.Goals as goal

pub over-requires-clause-valid_release : goal.over-requires-clause-valid_release
over-requires-clause-valid_release c =
    subst (λ (rs : List ClassFacts). All IsValidClass rs) (sym c.in-Ok.ensures.records)
    (records_valid c.args.release.items c.args.clients.items c.requires.valid_release c.requires.valid_clients)

pub over-requires-clause-release_differs : goal.over-requires-clause-release_differs
over-requires-clause-release_differs c =
    subst (λ (rs : List ClassFacts). IsTrue (differ_by_name rs)) (sym c.in-Ok.ensures.records)
    (records_differ c.args.platform.now c.args.release.items c.args.clients.items c.requires.release_differs c.requires.clients_differ c.requires.allowed)

pub over-requires-clause-few : goal.over-requires-clause-few
over-requires-clause-few c =
    subst (λ (rs : List ClassFacts). length c.args.platform.now + length rs ≤ 120000) (sym c.in-Ok.ensures.records)
    (records_few c.args.platform.now c.args.release.items c.args.clients.items c.requires.few)

pub returns-in-Err-over-clause-refused : goal.returns-in-Err-over-clause-refused
returns-in-Err-over-clause-refused c =
    subst (RefusesBy c.args.platform.now c.args.release.items None) (sym c.refusal_of.ensures)
    (joined_refuses c.args.platform.now c.args.release.items c.args.clients.items None c.in-Err-over.error c.requires.allowed
    (subst (λ (rs : List ClassFacts). HasCause c.args.platform.now rs c.in-Err-over.error) c.in-Ok.ensures.records c.in-Err-over.ensures.refused))

pub outcomes_in_order-requires-clause-items : goal.outcomes_in_order-requires-clause-items
outcomes_in_order-requires-clause-items c =
    subst (λ (xs : List Asked). IsTrue (list_all asks_no_clinit xs)) (sym c.in-Ok.ensures.asked) (all_no_clinit c.args.clients.items c.requires.valid_clients)

pub returns-in-Ok-outcomes_in_order-clause-value : goal.returns-in-Ok-outcomes_in_order-clause-value
returns-in-Ok-outcomes_in_order-clause-value c =
    c.in-Ok-outcomes_in_order.ensures
    ∙ ap (λ (W : World). outcomes_of_asked W c.in-Ok.parts.asked.items) (c.in-Ok-over.ensures.built ∙ ap (side c.args.platform.now) c.in-Ok.ensures.records)
    ∙ ap (outcomes_of_asked (side c.args.platform.now (c.args.release.items ++ facts_of c.args.clients.items))) c.in-Ok.ensures.asked
    ∙ asked_outcomes (side c.args.platform.now (c.args.release.items ++ facts_of c.args.clients.items)) c.args.clients.items

pub returns-in-Ok-outcomes_in_order-clause-sound : goal.returns-in-Ok-outcomes_in_order-clause-sound
returns-in-Ok-outcomes_in_order-clause-sound c = (
  c.in-Ok-over.ensures.sound.0,
  sym (same_overlap c.args.platform.now c.args.release.items c.args.clients.items c.requires.allowed)
      ∙ ap (overlap_of c.args.platform.now) (sym c.in-Ok.ensures.records) ∙ c.in-Ok-over.ensures.sound.1,
)
