use Rattle.std.proofs.Common.{◌≡◌, Some, sym, ◌∙◌}
use Rattle.jc_facts.specs.Names.{Bytes}
use Rattle.jc_facts.specs.world.Assignment.{is_interface_of}
use Rattle.jc_index.specs.Ids.{name_at, id_of}
use Rattle.jc_index.proofs.Numbers.{id_of-Some, find-None}
use Rattle.jc_sides.specs.SidesFields.{worlds}
use Rattle.jc_sides.specs.SidesOf.{SidesOf}
use Rattle.jc_sides.proofs.Seen.{of_same_name}
use Rattle.jc_rules.proofs.InterfaceBecameClass.{flag_is}
use Rattle.jc_rules.proofs.ChainLost.{set_has, gone_has_left, left_if, left_not}
use Rattle.jc_rules.proofs.superclass_lost.has_left.Goals as goal

pub returns-then-not-contains : goal.returns-then-not-contains
returns-then-not-contains c = λ x h.
    let s : SidesOf = c.args.sides.now in
    let t : Bytes = name_at s.old c.args.target in
    let is : Some c.in-Some.after ≡ id_of s.new t = sym c.in-Some.is ∙ c.new_id.ensures.value in
    let w = id_of-Some s.new t c.in-Some.after (sym is) in
    let kind : c.is_interface.result ≡ is_interface_of s.new t =
    of_same_name (worlds c.sides.inside) s c.sides.view_is c.args.target c.in-Some.after is (λ W y. c.is_interface.result ≡ is_interface_of W y)
    (flag_is c.sides.inside.new.now (name_at c.sides.inside.new.now c.in-Some.after) c.facts.result.now c.is_interface.result c.facts.ensures c.is_interface.ensures) in
    left_if s x t c.contains.result c.is_interface.result (c.contains.ensures ∙ set_has s.new x t c.args.chain.now c.in-Some.after h w.0 w.1) c.if-not-contains.true kind

pub returns-else-not-contains : goal.returns-else-not-contains
returns-else-not-contains c = λ x h.
    let s : SidesOf = c.args.sides.now in
    let t : Bytes = name_at s.old c.args.target in
    let is : Some c.in-Some.after ≡ id_of s.new t = sym c.in-Some.is ∙ c.new_id.ensures.value in
    let w = id_of-Some s.new t c.in-Some.after (sym is) in
    left_not s x t c.contains.result (c.contains.ensures ∙ set_has s.new x t c.args.chain.now c.in-Some.after h w.0 w.1) c.if-not-contains.false

pub returns-in-None : goal.returns-in-None
returns-in-None c = λ x h.
    gone_has_left c.args.sides.now x (name_at c.args.sides.now.old c.args.target) (find-None c.args.sides.now.new (name_at c.args.sides.now.old c.args.target) (sym c.new_id.ensures.value ∙ c.in-None.is))
