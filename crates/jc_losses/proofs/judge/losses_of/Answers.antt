use Rattle.std.proofs.Common.{◌≤◌, ◌+◌, List, length, sym, ◌∙◌, ap, subst}
use Rattle.std.specs.Prelude.{IsTrue, count_by, is_some}
use Rattle.std.specs.List.{All, list_all}
use Rattle.jc_facts.specs.declared.class_facts.ClassFacts.{ClassFacts}
use Rattle.jc_facts.specs.file.Valid.{IsValidClass}
use Rattle.jc_link.specs.declared.asked.Asked.{Asked}
use Rattle.jc_link.specs.steps.Asked.{asks_no_clinit}
use Rattle.jc_link.proofs.Askings.{all_no_clinit}
use Rattle.jc_link.proofs.Joined.{records_alone, clients_valid}
use Rattle.jc_losses.specs.Ground.{size_of_ground}
use Rattle.jc_losses.specs.steps.Ground.{with_records, StandBeside}
use Rattle.jc_losses.proofs.Judged.{losses_found, facts_few, stand_beside}
use Rattle.jc_losses.proofs.judge.losses_of.Goals as goal

pub table_over-requires-clause-valid : goal.table_over-requires-clause-valid
table_over-requires-clause-valid c =
    subst (λ (rs : List ClassFacts). All IsValidClass rs)
    (sym (c.in_ok-copies.ensures ∙ c.as_slice.ensures.value ∙ records_alone c.args.clients.items c.new.result.items c.in_ok-records.field-0.records.items c.new.ensures.items c.in_ok-records.ensures.records))
    (clients_valid c.args.clients.items c.requires.valid_clients)

pub table_over-requires-clause-beside : goal.table_over-requires-clause-beside
table_over-requires-clause-beside c =
    subst (λ (rs : List ClassFacts). StandBeside c.args.old.now rs)
    (sym (c.in_ok-copies.ensures ∙ c.as_slice.ensures.value ∙ records_alone c.args.clients.items c.new.result.items c.in_ok-records.field-0.records.items c.new.ensures.items c.in_ok-records.ensures.records))
    (stand_beside c.args.old.now c.args.clients.items c.requires.old c.requires.clients_differ c.requires.old_allows)

pub table_over-requires-clause-few : goal.table_over-requires-clause-few
table_over-requires-clause-few c =
    subst (λ (rs : List ClassFacts). size_of_ground c.args.old.now + length rs ≤ 120000)
    (sym (c.in_ok-copies.ensures ∙ c.as_slice.ensures.value ∙ records_alone c.args.clients.items c.new.result.items c.in_ok-records.field-0.records.items c.new.ensures.items c.in_ok-records.ensures.records))
    (facts_few (size_of_ground c.args.old.now) c.args.clients.items c.requires.few_old)

pub table_over-requires-2-clause-valid : goal.table_over-requires-2-clause-valid
table_over-requires-2-clause-valid c =
    subst (λ (rs : List ClassFacts). All IsValidClass rs)
    (sym (records_alone c.args.clients.items c.new.result.items c.in_ok-records.field-0.records.items c.new.ensures.items c.in_ok-records.ensures.records))
    (clients_valid c.args.clients.items c.requires.valid_clients)

pub table_over-requires-2-clause-beside : goal.table_over-requires-2-clause-beside
table_over-requires-2-clause-beside c =
    subst (λ (rs : List ClassFacts). StandBeside c.args.new.now rs)
    (sym (records_alone c.args.clients.items c.new.result.items c.in_ok-records.field-0.records.items c.new.ensures.items c.in_ok-records.ensures.records))
    (stand_beside c.args.new.now c.args.clients.items c.requires.new c.requires.clients_differ c.requires.new_allows)

pub table_over-requires-2-clause-few : goal.table_over-requires-2-clause-few
table_over-requires-2-clause-few c =
    subst (λ (rs : List ClassFacts). size_of_ground c.args.new.now + length rs ≤ 120000)
    (sym (records_alone c.args.clients.items c.new.result.items c.in_ok-records.field-0.records.items c.new.ensures.items c.in_ok-records.ensures.records))
    (facts_few (size_of_ground c.args.new.now) c.args.clients.items c.requires.few_new)

pub add_clients-requires-clause-items : goal.add_clients-requires-clause-items
add_clients-requires-clause-items c =
    subst (λ (xs : List Asked). IsTrue (list_all asks_no_clinit xs)) (sym c.in_ok-records.ensures.asked) (all_no_clinit c.args.clients.items c.requires.valid_clients)

pub returns : goal.returns
returns c =
    losses_found _ _ c.args.clients.items c.in_ok-was.was' c.in_ok-now.now c.in_ok-records.field-0.asked.items c.from_vec.result c.add_clients.new.errors.items _ _ _
    (c.in_ok-was.ensures ∙ ap (with_records c.args.old.now) (c.in_ok-copies.ensures ∙ c.as_slice.ensures.value
    ∙ records_alone c.args.clients.items c.new.result.items c.in_ok-records.field-0.records.items c.new.ensures.items c.in_ok-records.ensures.records))
    (c.in_ok-now.ensures ∙ ap (with_records c.args.new.now) (records_alone c.args.clients.items c.new.result.items c.in_ok-records.field-0.records.items c.new.ensures.items c.in_ok-records.ensures.records))
    c.in_ok-records.ensures.asked
    (c.from_vec.ensures ∙ (rw c.new-lost.ensures.items at c.in_ok-add_clients.ensures.lost))
    (rw c.new-errors.ensures.items at c.in_ok-add_clients.ensures.errors)
    (ap length c.as_slice-classes.ensures.value) (ap length c.as_slice-2.ensures.value) (c.count_errors.ensures ∙ ap (count_by is_some) c.as_slice-3.ensures.value)
