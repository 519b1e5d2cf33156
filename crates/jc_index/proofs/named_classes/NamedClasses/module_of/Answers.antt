use Rattle.std.proofs.Common.{ℕ, get_or, arith, ◌∙◌, ap}
use Rattle.jc_index.proofs.Indexed.{count_is, module_is}
use Rattle.jc_index.proofs.named_classes.NamedClasses.module_of.Goals as goal

pub index-requires : goal.index-requires
index-requires c = let many = count_is c.self.inside c.self.invariant c.args.self.now c.self.view_is in omega arith

pub returns : goal.returns
returns c = c.module_at.ensures ∙ module_is c.self.inside c.self.invariant c.args.self.now c.self.view_is c.args.id c.index.result.now c.requires (c.index.ensures ∙ ap (λ (k : ℕ). get_or c.self.inside.order.items k c.index.result.now) c.number.ensures)
