use Rattle.std.proofs.Common.{sym, ◌∙◌, inl, inr}
use Rattle.jc_method.proofs.Chains.{no_object, object_without, object_hidden, object_found}
use Rattle.jc_method.proofs.walk.object_method.Goals as goal

pub returns-in_default : goal.returns-in_default
returns-in_default c = no_object c.args.table.now c.args.key.now (sym c.get.ensures.value ∙ c.in_default.is)

pub returns-in_default-declared : goal.returns-in_default-declared
returns-in_default-declared c = object_without c.args.table.now c.args.key.now c.in-Some.object (sym c.get.ensures.value ∙ c.in-Some.is) c.declared.result c.declared.ensures c.in_default-declared.is

pub returns-then-not-is_public : goal.returns-then-not-is_public
returns-then-not-is_public c =
    object_hidden c.args.table.now c.args.key.now c.in-Some.object (sym c.get.ensures.value ∙ c.in-Some.is) c.declared.result c.in-Some-declared.found c.declared.ensures c.in-Some-declared.is
    (inl (sym c.is_public.ensures ∙ c.if-not-is_public.true))

pub returns-then-is_static : goal.returns-then-is_static
returns-then-is_static c =
    object_hidden c.args.table.now c.args.key.now c.in-Some.object (sym c.get.ensures.value ∙ c.in-Some.is) c.declared.result c.in-Some-declared.found c.declared.ensures c.in-Some-declared.is
    (inr (sym c.is_static.ensures ∙ c.if-is_static.true))

pub returns : goal.returns
returns c =
    object_found c.args.table.now c.args.key.now c.in-Some.object (sym c.get.ensures.value ∙ c.in-Some.is) c.declared.result c.in-Some-declared.found c.declared.ensures c.in-Some-declared.is
    (sym c.is_public.ensures ∙ c.if-not-is_public.false) (sym c.is_static.ensures ∙ c.if-is_static.false)
