use Rattle.std.proofs.Common.{◌≡◌, true, false, ◌∙◌}
use Rattle.jc_facts.specs.Names.{Bytes}
use Rattle.jc_promises.specs.rule.Bases.{is_kept}
use Rattle.jc_index.specs.Ids.{name_at}
use Rattle.jc_sides.specs.SidesOf.{SidesOf}
use Rattle.jc_rules.proofs.Assignments.{kept_some, kept_none}
use Rattle.jc_rules.proofs.Assignments.{both_kept, second_hidden, first_hidden, both_hidden}
use Rattle.jc_rules.proofs.assigned.assigned.Goals as goal

pub returns-then-to_is_kept : goal.returns-then-to_is_kept
returns-then-to_is_kept c = λ on.
    let s : SidesOf = c.args.sides.now in
    let x : Bytes = name_at s.old c.args.from in
    let t : Bytes = name_at s.old c.args.to in
    let kx : is_kept s.old s.new x ≡ true = kept_some (is_kept s.old s.new x) s x c.kept.result c.kept.ensures c.is_some-from_is_kept.result c.if-from_is_kept.true c.is_some-from_is_kept.ensures in
    let kt : is_kept s.old s.new t ≡ true = kept_some (is_kept s.old s.new t) s t c.kept-2.result c.kept-2.ensures c.is_some-to_is_kept.result c.if-to_is_kept.true c.is_some-to_is_kept.ensures in
    both_kept s.old s.new on c.args.from c.args.to kx kt

pub returns-then-from_is_kept : goal.returns-then-from_is_kept
returns-then-from_is_kept c = λ on.
    let s : SidesOf = c.args.sides.now in
    let x : Bytes = name_at s.old c.args.from in
    let t : Bytes = name_at s.old c.args.to in
    let kx : is_kept s.old s.new x ≡ true = kept_some (is_kept s.old s.new x) s x c.kept.result c.kept.ensures c.is_some-from_is_kept.result c.if-from_is_kept.true c.is_some-from_is_kept.ensures in
    let kt : is_kept s.old s.new t ≡ false = kept_none (is_kept s.old s.new t) s t c.kept-2.result c.kept-2.ensures c.is_some-to_is_kept.result c.if-to_is_kept.false c.is_some-to_is_kept.ensures in
    c.assigned_by.ensures on ∙ second_hidden s.old s.new on c.args.from c.args.to kx kt

pub returns-then-to_is_kept-2 : goal.returns-then-to_is_kept-2
returns-then-to_is_kept-2 c = λ on.
    let s : SidesOf = c.args.sides.now in
    let x : Bytes = name_at s.old c.args.from in
    let t : Bytes = name_at s.old c.args.to in
    let kx : is_kept s.old s.new x ≡ false = kept_none (is_kept s.old s.new x) s x c.kept.result c.kept.ensures c.is_some-from_is_kept.result c.if-from_is_kept.false c.is_some-from_is_kept.ensures in
    let kt : is_kept s.old s.new t ≡ true = kept_some (is_kept s.old s.new t) s t c.kept-2.result c.kept-2.ensures c.is_some-to_is_kept.result c.if-to_is_kept-2.true c.is_some-to_is_kept.ensures in
    c.assigned_by-then-to_is_kept-2.ensures on ∙ first_hidden s.old s.new on c.args.from c.args.to kx kt

pub returns : goal.returns
returns c = λ on.
    let s : SidesOf = c.args.sides.now in
    let x : Bytes = name_at s.old c.args.from in
    let t : Bytes = name_at s.old c.args.to in
    let kx : is_kept s.old s.new x ≡ false = kept_none (is_kept s.old s.new x) s x c.kept.result c.kept.ensures c.is_some-from_is_kept.result c.if-from_is_kept.false c.is_some-from_is_kept.ensures in
    let kt : is_kept s.old s.new t ≡ false = kept_none (is_kept s.old s.new t) s t c.kept-2.result c.kept-2.ensures c.is_some-to_is_kept.result c.if-to_is_kept-2.false c.is_some-to_is_kept.ensures in
    c.assigned_by-2.ensures on ∙ both_hidden s.old s.new on c.args.from c.args.to kx kt
