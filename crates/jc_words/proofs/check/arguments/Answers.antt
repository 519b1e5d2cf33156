use Rattle.std.proofs.lemmas.Result.{IfOk-weaker}
use Rattle.jc_words.proofs.Added.{added}
use Rattle.jc_words.proofs.check.arguments.Goals as goal

pub returns : goal.returns
returns c =
    let one = added _ _ _ _ _ c.in_ok-arg.ensures c.required.ensures.local c.required.ensures.rule c.bare.ensures in
    let two = added _ _ _ _ _ c.in_ok-arg-2.ensures c.required-2.ensures.local c.required-2.ensures.rule one in
    let three = added _ _ _ _ _ c.in_ok-arg-3.ensures c.required-3.ensures.local c.required-3.ensures.rule two in
    let four = added _ _ _ _ _ c.in_ok-arg-4.ensures c.option.ensures.local c.option.ensures.rule three in
    let five = added _ _ _ _ _ c.in_ok-arg-5.ensures c.flag.ensures.local c.flag.ensures.rule four in
    let six = added _ _ _ _ _ c.in_ok-arg-6.ensures c.option-2.ensures.local c.option-2.ensures.rule five in
    let seven = added _ _ _ _ _ c.in_ok-arg-7.ensures c.option-3.ensures.local c.option-3.ensures.rule six in
    let eight = added _ _ _ _ _ c.in_ok-arg-8.ensures c.option-4.ensures.local c.option-4.ensures.rule seven in
    let nine = added _ _ _ _ _ c.in_ok-arg-9.ensures c.flag-2.ensures.local c.flag-2.ensures.rule eight in
    let ten = added _ _ _ _ _ c.in_ok-arg-10.ensures c.flag-3.ensures.local c.flag-3.ensures.rule nine in
    let eleven = added _ _ _ _ _ c.in_ok-arg-11.ensures c.flag-4.ensures.local c.flag-4.ensures.rule ten in
    let twelve = added _ _ _ _ _ c.in_ok-arg-12.ensures c.flag-5.ensures.local c.flag-5.ensures.rule eleven in
    IfOk-weaker _ _ _ (λ x h. added _ x _ _ _ h c.flag-6.ensures.local c.flag-6.ensures.rule twelve) c.arg-13.ensures
