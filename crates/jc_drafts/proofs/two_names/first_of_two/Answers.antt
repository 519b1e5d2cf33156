use Rattle.std.proofs.Common.{sym, subst, ◌∙◌}
use Rattle.std.specs.Option.{option_copied}
use Rattle.std.specs.List.Sorted.{IsPermutation}
use Rattle.jc_drafts.proofs.TwoNames.{copied_some, of_no_other, of_more, of_one}
use Rattle.jc_drafts.proofs.two_names.first_of_two.Goals as goal

pub returns-in_default : goal.returns-in_default
returns-in_default c = of_no_other c.args.sides.now c.args.others.now c.args.names.now c.in_ok-none.none c.in_ok-none.ensures c.in_default.ensures

pub returns-then-is_some : goal.returns-then-is_some
returns-then-is_some c =
    of_more c.args.sides.now c.args.others.now c.args.names.now c.in_ok-none.none c.in_ok-none.ensures c.in-Some.only.now c.in-Some.ensures c.in_ok-taken.taken (subst (λ xs. IsPermutation xs c.in_ok-taken.taken) c.from_ref.ensures.value c.in_ok-taken.ensures)
    (option_copied c.first_allowed-2.result) c.first_allowed-2.ensures (copied_some c.first_allowed-2.result ∙ sym c.is_some.ensures ∙ c.if-is_some.true) (option_copied c.first_allowed-then-is_some.result) c.first_allowed-then-is_some.ensures

pub returns : goal.returns
returns c =
    of_one c.args.sides.now c.args.others.now c.args.names.now c.in_ok-none.none c.in_ok-none.ensures c.in-Some.only.now c.in-Some.ensures c.in_ok-taken.taken (subst (λ xs. IsPermutation xs c.in_ok-taken.taken) c.from_ref.ensures.value c.in_ok-taken.ensures)
    (option_copied c.first_allowed-2.result) c.first_allowed-2.ensures (copied_some c.first_allowed-2.result ∙ sym c.is_some.ensures ∙ c.if-is_some.false) (option_copied c.first_allowed-3.result) c.first_allowed-3.ensures
