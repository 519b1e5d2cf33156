-- The objects of outcomes.
use Rattle.std.proofs.Common.{◌≡◌, false, Option, Some, None, refl}
use Rattle.serde_json.specs.Written.{has_float}
use Rattle.jc_facts.specs.declared.client.Item.{Item}
use Rattle.jc_facts.specs.declared.client.Item.TheVariants as items
use Rattle.jc_facts.specs.declared.link_error.LinkError.{LinkError}
use Rattle.jc_facts.specs.declared.outcome.Outcome.{Outcome}
use Rattle.jc_facts.specs.Names.{Bytes}
use Rattle.jc_report.specs.OutcomeJson.{member_of_item, receiver_of_item, error_or_null, outcome_of, outcome_json}
use Rattle.jc_report.proofs.Floats.{name_plain}

item_member_plain : (i : Item) → has_float (member_of_item i) ≡ false
item_member_plain (items.Class t) = refl
item_member_plain (items.New t d) = refl
item_member_plain (items.Init t d) = refl
item_member_plain (items.Access act t k r place) = refl
item_member_plain (items.Assign s t) = refl

receiver_plain : (i : Item) → has_float (receiver_of_item i) ≡ false
receiver_plain (items.Class t) = refl
receiver_plain (items.New t d) = refl
receiver_plain (items.Init t d) = refl
receiver_plain (items.Access act t k r place) = name_plain r
receiver_plain (items.Assign s t) = refl

error_plain : (e : Option LinkError) → has_float (error_or_null e) ≡ false
error_plain None = refl
error_plain (Some e) = refl

of_plain : (x : Bytes) (e : Option LinkError) (i : Option Item) → has_float (outcome_of x e i) ≡ false
of_plain x e None = rw (error_plain e) refl
of_plain x e (Some i) = rw (error_plain e, item_member_plain i, receiver_plain i) refl

pub outcome_plain : (o : Outcome) → has_float (outcome_json o) ≡ false
outcome_plain o = of_plain o.class o.error o.item
