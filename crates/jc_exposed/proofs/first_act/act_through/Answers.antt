use Rattle.std.proofs.Common.{◌≡◌, Some, sym, ap, ◌∙◌}
use Rattle.std.specs.Option.{option_copied}
use Rattle.jc_facts.specs.KeyOrder.{key_cmp}
use Rattle.jc_facts.specs.declared.member_act.MemberAct.{MemberAct}
use Rattle.jc_promises.specs.rule.Exposed.{first_by}
use Rattle.jc_facts.proofs.World.{found_name}
use Rattle.jc_index.specs.Ids.{name_at}
use Rattle.jc_exposed.proofs.FirstThrough.{first_loads, has_key, has_act, act_is}
use Rattle.jc_exposed.proofs.first_act.act_through.Goals as goal

pub open_keys-requires-clause-loads : goal.open_keys-requires-clause-loads
open_keys-requires-clause-loads c = first_loads c.args.table.now (name_at c.args.table.now c.args.seat) c.args.exposed c.args.class c.requires.first

pub open_act_on-requires-clause-loads : goal.open_act_on-requires-clause-loads
open_act_on-requires-clause-loads c = first_loads c.args.table.now (name_at c.args.table.now c.args.seat) c.args.exposed c.args.class c.requires.first

pub returns-in_default : goal.returns-in_default
returns-in_default c = absurd (has_key c.args.table.now c.requires.side c.requires.bare (name_at c.args.table.now c.args.seat) c.args.exposed c.args.class c.requires.first c.in_ok-keys.keys.items c.in_ok-keys.ensures (ap (first_by key_cmp) (sym c.as_slice.ensures.value) ∙ sym c.least_key.ensures ∙ ap option_copied c.in_default.is))

pub returns-in_default-open_act_on : goal.returns-in_default-open_act_on
returns-in_default-open_act_on c =
    let least : first_by key_cmp c.in_ok-keys.keys.items ≡ Some c.in-Some.key.now = ap (first_by key_cmp) (sym c.as_slice.ensures.value) ∙ sym c.least_key.ensures ∙ ap option_copied c.in-Some.is in
    absurd (has_act c.args.table.now c.requires.side c.requires.bare (name_at c.args.table.now c.args.seat) c.args.exposed c.args.class c.requires.first c.in_ok-keys.keys.items c.in_ok-keys.ensures c.in-Some.key.now least (sym c.open_act_on.ensures ∙ c.in_default-open_act_on.is))

pub returns : goal.returns
returns c =
    let least : first_by key_cmp c.in_ok-keys.keys.items ≡ Some c.in-Some.key.now = ap (first_by key_cmp) (sym c.as_slice.ensures.value) ∙ sym c.least_key.ensures ∙ ap option_copied c.in-Some.is in
    let name : c.in_ok-copy.field-0 ≡ name_at c.args.table.now c.args.class = c.in_ok-copy.ensures ∙ found_name c.args.table.now (name_at c.args.table.now c.args.class) c.facts.result.now c.facts.ensures in
    let key : c.in_ok-copy-2.field-0 ≡ c.in-Some.key.now = c.in_ok-copy-2.ensures in
    let made : MemberAct = record { «class» = c.in_ok-copy.field-0; key = c.in_ok-copy-2.field-0; act = c.in-Some-open_act_on.act } in
    let is : made ≡ record { «class» = name_at c.args.table.now c.args.class; key = c.in-Some.key.now; act = c.in-Some-open_act_on.act } = λ i. record { «class» = name i; key = key i; act = c.in-Some-open_act_on.act } in
    ap Some is ∙ act_is c.args.table.now c.requires.side c.requires.bare (name_at c.args.table.now c.args.seat) c.args.exposed c.args.class c.requires.first c.in_ok-keys.keys.items c.in_ok-keys.ensures c.in-Some.key.now least c.in-Some-open_act_on.act (sym c.open_act_on.ensures ∙ c.in-Some-open_act_on.is)
