use Rattle.std.proofs.Common.{◌≡◌, true, false, sym, ap, ◌∙◌, ◌||◌}
use Rattle.jc_facts.specs.Names.{Bytes}
use Rattle.jc_promises.specs.rule.Bases.{is_kept}
use Rattle.jc_promises.specs.rule.Exposed.{is_hidden}
use Rattle.jc_sides.specs.SidesOf.{SidesOf}
use Rattle.jc_index.specs.Ids.{name_at}
use Rattle.jc_rules.proofs.Assignments.{kept_some, kept_none}
use Rattle.jc_rules.proofs.losses.takes_part.Goals as goal

pub returns-then-is_some : goal.returns-then-is_some
returns-then-is_some c =
    let s : SidesOf = c.args.sides.now in
    let x : Bytes = name_at s.old c.args.id in
    let k : is_kept s.old s.new x ≡ true = kept_some (is_kept s.old s.new x) s x c.kept.result c.kept.ensures c.is_some.result c.if-is_some.true c.is_some.ensures in
    sym (ap (λ b. b || is_hidden s.old x) k)

pub returns : goal.returns
returns c =
    let s : SidesOf = c.args.sides.now in
    let x : Bytes = name_at s.old c.args.id in
    let k : is_kept s.old s.new x ≡ false = kept_none (is_kept s.old s.new x) s x c.kept.result c.kept.ensures c.is_some.result c.if-is_some.false c.is_some.ensures in
    c.is_hidden_class.ensures ∙ ap (λ (u : SidesOf). is_hidden u.old (name_at u.old c.args.id)) c.sides.view_is ∙ sym (ap (λ b. b || is_hidden s.old x) k)
