use Rattle.std.proofs.Common.{sym, ap, ◌∙◌}
use Rattle.jc_facts.specs.world.World.{own_method_of}
use Rattle.jc_declared.proofs.InterfaceMethodLost.{no_root, not_declared, declared_public, declared_hidden}
use Rattle.jc_declared.proofs.interface_method_lost.is_of_object.Goals as goal

pub returns-in_default : goal.returns-in_default
returns-in_default c = no_root c.args.table.now c.args.key.now (sym c.get.ensures.value ∙ c.in_default.is)

pub returns-in-None : goal.returns-in-None
returns-in-None c =
    not_declared c.args.table.now c.args.key.now c.facts.result.now c.in-Some.root (sym c.get.ensures.value ∙ c.in-Some.is) c.facts.ensures (c.in-None.ensures ∙ ap (own_method_of c.facts.result.now) c.of_key.ensures)

pub returns-then-is_public : goal.returns-then-is_public
returns-then-is_public c =
    declared_public c.args.table.now c.args.key.now c.facts.result.now c.in-Some.root (sym c.get.ensures.value ∙ c.in-Some.is) c.facts.ensures c.in-Some-own_method.method.now c.is_static.result
    (c.in-Some-own_method.ensures ∙ ap (own_method_of c.facts.result.now) c.of_key.ensures) (sym c.is_public.ensures ∙ c.if-is_public.true) c.is_static.ensures

pub returns-else-is_public : goal.returns-else-is_public
returns-else-is_public c =
    declared_hidden c.args.table.now c.args.key.now c.facts.result.now c.in-Some.root (sym c.get.ensures.value ∙ c.in-Some.is) c.facts.ensures c.in-Some-own_method.method.now c.is_public.result
    (c.in-Some-own_method.ensures ∙ ap (own_method_of c.facts.result.now) c.of_key.ensures) c.is_public.ensures c.if-is_public.false
