use Rattle.std.proofs.Common.{◌∙◌, ap}
use Rattle.jc_facts.specs.Names.{is_name_among, in_same_package}
use Rattle.jc_index.specs.Ids.{id_of}
use Rattle.jc_access.proofs.Hosts.{takes-found, takes-none}
use Rattle.jc_access.proofs.nests.takes_member.Goals as goal

pub returns-then-same_package : goal.returns-then-same_package
returns-then-same_package c =
    takes-found c.args.table.now c.args.host.now c.args.member.now c.in-Some.id c.facts.result.now c.same_package.result c.is_among.result (c.in-Some.ensures.value ∙ ap (id_of c.args.table.now) c.as_bytes.ensures) c.facts.ensures
    (c.same_package.ensures ∙ ap (λ x. in_same_package x c.as_bytes-in-Some-2.result.now) c.as_bytes-in-Some.ensures ∙ ap (in_same_package c.args.member.now) c.as_bytes-in-Some-2.ensures) c.if-same_package.true
    (c.is_among.ensures ∙ ap (λ xs. is_name_among xs c.args.member.now) c.as_slice.ensures)

pub returns-in-None : goal.returns-in-None
returns-in-None c = takes-none c.args.table.now c.args.host.now c.args.member.now (c.in-None.ensures.value ∙ ap (id_of c.args.table.now) c.as_bytes.ensures)
