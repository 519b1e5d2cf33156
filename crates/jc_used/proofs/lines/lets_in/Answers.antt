use Rattle.std.proofs.Common.{subst, ◌≡◌, ◌∙◌}
use Rattle.std.specs.Prelude.{IfOk}
use Rattle.jc_used.proofs.LetsIn.{none_let_in, some_let_in, apart_lets_none}
use Rattle.jc_used.proofs.lines.lets_in.Goals as goal

pub returns-in-None : goal.returns-in-None
returns-in-None c = c.new.ensures.items ∙ none_let_in c.args.side.now c.args.name.now (rw c.as_bytes.ensures at c.in-None.ensures.value)

pub returns-then-is_of_clients : goal.returns-then-is_of_clients
returns-then-is_of_clients c =
    subst (λ y. IfOk c.permitted.result (λ names. names.items ≡ y))
    (some_let_in c.args.side.now c.args.name.now c.in-Some.class c.is_of_clients.result (rw c.as_bytes.ensures at c.in-Some.ensures.value) c.is_of_clients.ensures c.facts.result.now c.if-is_of_clients.true c.facts.ensures)
    c.permitted.ensures

pub returns-else-is_of_clients : goal.returns-else-is_of_clients
returns-else-is_of_clients c =
    c.new-else-is_of_clients.ensures.items
    ∙ apart_lets_none c.args.side.now c.args.name.now c.in-Some.class c.is_of_clients.result (rw c.as_bytes.ensures at c.in-Some.ensures.value) c.is_of_clients.ensures c.if-is_of_clients.false
