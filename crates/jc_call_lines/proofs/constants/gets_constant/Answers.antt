use Rattle.std.proofs.Common.{sym, ◌∙◌, subst, List}
use Rattle.std.specs.List.Sorted.{IsPermutation}
use Rattle.jc_facts.specs.Names.{Bytes}
use Rattle.jc_call_lines.proofs.ConstantLines.{gets_by_set}
use Rattle.jc_call_lines.proofs.constants.gets_constant.Goals as goal

pub returns : goal.returns
returns c =
    gets_by_set c.args.before.now c.args.after.now c.in_ok-constants.constants (subst (λ (xs : List Bytes). IsPermutation xs c.in_ok-constants.constants) c.in_ok-names.ensures c.in_ok-constants.ensures) c.has_other_constant.result c.has_other_constant.ensures
    (sym c.is_enum.ensures ∙ c.if-not-is_enum.false)
