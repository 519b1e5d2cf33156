use Rattle.std.proofs.Common.{◌∙◌, ap}
use Rattle.jc_index.specs.Ids.{name_at}
use Rattle.jc_access.specs.steps.Nests.{takes_in}
use Rattle.jc_access.proofs.Hosts.{host-taken, host-left, host-none}
use Rattle.jc_access.proofs.nests.nest_host.Goals as goal

pub returns-then-takes_member : goal.returns-then-takes_member
returns-then-takes_member c =
    host-taken c.args.table.now (name_at c.args.table.now c.args.class) c.facts.result.now c.facts.ensures c.in-Some.host c.takes_member.result c.in-Some.is
    (c.takes_member.ensures ∙ ap (takes_in c.args.table.now c.in-Some.host) c.name_of-name.ensures) c.if-takes_member.true

pub returns-else-takes_member : goal.returns-else-takes_member
returns-else-takes_member c =
    c.name_of-name.ensures
    ∙ host-left c.args.table.now (name_at c.args.table.now c.args.class) c.facts.result.now c.facts.ensures c.in-Some.host c.takes_member.result c.in-Some.is
    (c.takes_member.ensures ∙ ap (takes_in c.args.table.now c.in-Some.host) c.name_of-name.ensures) c.if-takes_member.false

pub returns-in-None : goal.returns-in-None
returns-in-None c = c.name_of-name.ensures ∙ host-none c.args.table.now (name_at c.args.table.now c.args.class) c.facts.result.now c.facts.ensures c.in-None.is
