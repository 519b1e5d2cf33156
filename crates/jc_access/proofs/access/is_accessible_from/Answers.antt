use Rattle.std.proofs.Common.{◌||◌, refl, sym, ◌∙◌, ap}
use Rattle.jc_facts.specs.Names.{in_same_package}
use Rattle.jc_index.specs.Ids.{name_at}
use Rattle.jc_access.proofs.Spoken.{class_inside}
use Rattle.jc_access.proofs.access.is_accessible_from.Goals as goal

pub returns-then-is_nameable_from : goal.returns-then-is_nameable_from
returns-then-is_nameable_from c = λ d f.
    let W = c.args.table.now in
    let x = name_at W c.args.from in
    let y = name_at W c.args.class in
    c.if-is_nameable_from.true ∙ ap (λ b. b || in_same_package x y) (sym c.if-is_nameable_from.true) ∙ class_inside W x y d c.is_nameable_from.result (in_same_package x y) f c.is_nameable_from.ensures refl

pub returns-else-is_nameable_from : goal.returns-else-is_nameable_from
returns-else-is_nameable_from c = λ d f.
    let W = c.args.table.now in
    ap (λ b. b || c.in_one_package.result) (sym c.if-is_nameable_from.false)
    ∙ class_inside W (name_at W c.args.from) (name_at W c.args.class) d c.is_nameable_from.result c.in_one_package.result f c.is_nameable_from.ensures c.in_one_package.ensures
