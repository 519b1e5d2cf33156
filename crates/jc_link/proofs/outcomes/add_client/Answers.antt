use Rattle.std.proofs.Common.{◌++◌, ◌∙◌, ap, subst}
use Rattle.std.specs.Prelude.{Err}
use Rattle.jc_index.specs.Ids.{name_at}
use Rattle.jc_facts.specs.client.Linked.{item_outcomes}
use Rattle.jc_link.specs.steps.ItemSteps.{IsAt, IsLoaded}
use Rattle.jc_link.proofs.Client.{client_loads, client_fails}
use Rattle.jc_link.proofs.outcomes.add_client.Goals as goal

pub returns-in-Ok : goal.returns-in-Ok
returns-in-Ok c =
    client_loads c.args.table.now c.args.asked c.in-Ok.class c.args.outcomes.now.items c.add_loading.new.outcomes.items c.add_items.new.outcomes.items
    (subst (λ z. IsAt c.args.table.now z c.in-Ok.class) c.as_bytes.ensures c.in-Ok.ensures) c.in_ok-add_loading-in-Ok.ensures
    (c.in_ok-add_items-in-Ok.ensures ∙ ap (λ is. c.add_loading.new.outcomes.items ++ item_outcomes c.args.table.now (name_at c.args.table.now c.in-Ok.class) is) c.into_vec.ensures)

pub returns : goal.returns
returns c =
    client_fails c.args.table.now c.args.asked c.in-Err.error c.args.outcomes.now.items c.add_loading-in-Err.new.outcomes.items
    (subst (λ z. IsLoaded c.args.table.now z (Err c.in-Err.error)) c.as_bytes.ensures c.in-Err.ensures) c.in_ok-add_loading-in-Err.ensures
