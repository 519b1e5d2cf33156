use Rattle.std.proofs.Common.{sym, ◌∙◌}
use Rattle.jc_sides.specs.SharedOf.{name_of}
use Rattle.jc_sides.proofs.BaseParts.{steady_parts}
use Rattle.jc_lemmas.proofs.Bools.{beq_is}
use Rattle.jc_call_lines.proofs.LostLines.{none_lost}
use Rattle.jc_call_lines.proofs.LostReferences.{kept_apart, kept_open}
use Rattle.jc_call_lines.proofs.OpenChains.{all_open}
use Rattle.jc_call_lines.proofs.references.of_class.Goals as goal

pub returns-then-are_all_open : goal.returns-then-are_all_open
returns-then-are_all_open c =
    none_lost c.args.sides.now (name_of c.args.class.now) c.new.result.items c.new.ensures.items
    (λ k. kept_open c.args.sides.now (name_of c.args.class.now) k c.requires.seats.sides
    (all_open c.args.sides.now.new c.requires.seats.sides.new_side (name_of c.args.class.now) (steady_parts c.args.sides.now (name_of c.args.class.now) c.requires.steady).both.loads_now (c.are_all_open.ensures c.if-are_all_open.true) k))

pub returns-then-not-is_of_one_kind : goal.returns-then-not-is_of_one_kind
returns-then-not-is_of_one_kind c =
    none_lost c.args.sides.now (name_of c.args.class.now) c.new-then-not-is_of_one_kind.result.items c.new-then-not-is_of_one_kind.ensures.items
    (λ k. kept_apart c.args.sides.now (name_of c.args.class.now) k c.requires.seats.sides (sym c.is_of_one_kind.ensures ∙ c.if-not-is_of_one_kind.true))

pub of_methods-requires-clause-kind : goal.of_methods-requires-clause-kind
of_methods-requires-clause-kind c = beq_is _ _ (sym c.is_of_one_kind.ensures ∙ c.if-not-is_of_one_kind.false)
