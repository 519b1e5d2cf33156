use Rattle.std.proofs.Common.{◌≡◌, sym, ap, ◌∙◌}
use Rattle.jc_facts.specs.Names.{Bytes}
use Rattle.jc_facts.specs.world.Hierarchy.{in_chain}
use Rattle.jc_facts.proofs.World.{found_name}
use Rattle.jc_index.specs.Ids.{name_at}
use Rattle.jc_sides.specs.SidesOf.{SidesOf}
use Rattle.jc_call_lines.proofs.JoinLines.{not_above, no_line, line_is}
use Rattle.jc_call_lines.proofs.joins.line_on.Goals as goal

pub returns-then-not-has_super : goal.returns-then-not-has_super
returns-then-not-has_super c =
    let s : SidesOf = c.args.sides.now in
    not_above s (name_at s.old c.args.class) (name_at s.old c.args.target) c.has_super.result (c.has_super.ensures ∙ ap (λ (u : SidesOf). in_chain u.old (name_at u.old c.args.class) (name_at u.old c.args.target)) c.sides.view_is) c.if-not-has_super.true

pub is_lost-requires-clause-was : goal.is_lost-requires-clause-was
is_lost-requires-clause-was c = sym (c.has_super.ensures ∙ ap (λ (u : SidesOf). in_chain u.old (name_at u.old c.args.class) (name_at u.old c.args.target)) c.sides.view_is) ∙ c.if-not-has_super.false

pub returns-then-not-is_lost : goal.returns-then-not-is_lost
returns-then-not-is_lost c =
    let s : SidesOf = c.args.sides.now in
    no_line s (name_at s.old c.args.class) (name_at s.old c.args.target) c.is_lost.result c.is_lost.ensures c.if-not-is_lost.true

pub returns : goal.returns
returns c =
    let s : SidesOf = c.args.sides.now in
    let x : Bytes = name_at s.old c.args.class in
    let t : Bytes = name_at s.old c.args.target in
    let nx : c.facts.result.now.name ≡ x = found_name c.sides.inside.old.now (name_at c.sides.inside.old.now c.args.class) c.facts.result.now c.facts.ensures ∙ ap (λ (u : SidesOf). name_at u.old c.args.class) c.sides.view_is in
    let nt : c.facts-2.result.now.name ≡ t = found_name c.sides.inside.old.now (name_at c.sides.inside.old.now c.args.target) c.facts-2.result.now c.facts-2.ensures ∙ ap (λ (u : SidesOf). name_at u.old c.args.target) c.sides.view_is in
    line_is s x t c.in_ok-copy.field-0 c.in_ok-copy-2.field-0 c.is_lost.result c.is_lost.ensures c.if-not-is_lost.false (c.in_ok-copy.ensures ∙ nx) (c.in_ok-copy-2.ensures ∙ nt)
