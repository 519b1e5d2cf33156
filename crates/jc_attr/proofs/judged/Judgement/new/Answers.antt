use Rattle.std.proofs.Common.{sym, ◌∙◌}
use Rattle.jc_attr.proofs.Judging.{of_one_kind}
use Rattle.jc_attr.proofs.judged.Judgement.new.Goals as goal

pub invariant_of-result : goal.invariant_of-result
invariant_of-result c = λ name flags i s.
    of_one_kind c.args.method name c.args.name.now flags c.args.flags c.args.descriptor.now (i ∙ c.is_init.ensures) (s ∙ c.is_static.ensures) ∙ sym c.requires
