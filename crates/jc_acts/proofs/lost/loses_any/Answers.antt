use Rattle.std.proofs.Common.{◌≡◌, not, sym, ap, ◌∙◌, Some, ◌&&◌}
use Rattle.std.specs.List.{list_any}
use Rattle.jc_facts.specs.Names.{Bytes}
use Rattle.jc_facts.specs.world.Hierarchy.{chain, in_chain}
use Rattle.jc_facts.specs.world.Loading.{loads}
use Rattle.jc_facts.specs.world.World.{find_class}
use Rattle.jc_index.specs.Ids.{name_at, id_of}
use Rattle.jc_index.proofs.Numbers.{find-None, id_of-Some}
use Rattle.jc_sides.specs.SidesFields.{worlds}
use Rattle.jc_sides.specs.SidesOf.{SidesOf}
use Rattle.jc_sides.proofs.Seen.{of_same_name}
use Rattle.jc_acts.specs.Seats.{may_be_closed}
use Rattle.jc_acts.proofs.LostChains.{gone_loses, unchanged_loses}
use Rattle.jc_acts.proofs.lost.loses_any.Goals as goal

pub returns-in_default : goal.returns-in_default
returns-in_default c =
    let s : SidesOf = c.args.sides.now in
    gone_loses s c.args.id c.facts-facts.result.now c.requires.class (c.facts-facts.ensures ∙ ap (λ (u : SidesOf). find_class u.old (name_at u.old c.args.id)) c.sides.view_is)
    (find-None s.new (name_at s.old c.args.id) (sym c.new_id.ensures.value ∙ c.in_default.is))

pub returns-then-is_unchanged : goal.returns-then-is_unchanged
returns-then-is_unchanged c =
    let s : SidesOf = c.args.sides.now in
    let x : Bytes = name_at s.old c.args.id in
    let after : name_at s.new c.in-Some.after ≡ x = (id_of-Some s.new x c.in-Some.after (sym c.new_id.ensures.value ∙ c.in-Some.is)).1 in
    unchanged_loses s c.requires.seats.sides x c.is_unchanged.result c.if-is_unchanged.true (c.is_unchanged.ensures ∙ ap (λ (y : Bytes). not (may_be_closed s x) && loads s.new y) after)

pub returns : goal.returns
returns c =
    let s : SidesOf = c.args.sides.now in
    let x : Bytes = name_at s.old c.args.id in
    let is : Some c.in-Some.after ≡ id_of s.new x = sym c.in-Some.is ∙ c.new_id.ensures.value in
    of_same_name (worlds c.sides.inside) s c.sides.view_is c.args.id c.in-Some.after is (λ W y. c.lacks_any.result ≡ list_any (λ d. not (in_chain W y d.name)) (chain c.sides.inside.old.now (name_at c.sides.inside.old.now c.args.id))) c.lacks_any.ensures
    ∙ ap (λ (u : SidesOf). list_any (λ d. not (in_chain s.new x d.name)) (chain u.old (name_at u.old c.args.id))) c.sides.view_is
