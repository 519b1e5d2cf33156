use Rattle.std.proofs.Common.{◌∙◌, sym, ap, Some}
use Rattle.jc_facts.specs.Options.{and_then}
use Rattle.jc_index.specs.Ids.{name_at, id_of}
use Rattle.jc_index.proofs.NamedAbove.{first-above}
use Rattle.jc_index.proofs.Numbers.{superclass_is}
use Rattle.jc_index.proofs.named_classes.NamedClasses.superclass.Goals as goal

pub get_above-requires-clause-named : goal.get_above-requires-clause-named
get_above-requires-clause-named c = first-above c.args.self.now (name_at c.args.self.now c.args.id) c.facts.result.now c.as_bytes.result.now c.facts.ensures (c.in-Some.is ∙ ap Some (sym c.as_bytes.ensures))

pub returns-in-Some : goal.returns-in-Some
unfolding and_then
returns-in-Some c =
    c.get_above.ensures ∙ ap (id_of c.args.self.now) c.as_bytes.ensures ∙ ap (and_then (id_of c.args.self.now)) (sym c.in-Some.is)
    ∙ sym (superclass_is c.args.self.now (name_at c.args.self.now c.args.id) c.facts.result.now c.facts.ensures)

pub returns-in-None : goal.returns-in-None
unfolding and_then
returns-in-None c =
    ap (and_then (id_of c.args.self.now)) (sym c.in-None.is) ∙ sym (superclass_is c.args.self.now (name_at c.args.self.now c.args.id) c.facts.result.now c.facts.ensures)
