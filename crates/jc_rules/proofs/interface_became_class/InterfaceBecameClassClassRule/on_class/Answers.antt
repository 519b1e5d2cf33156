use Rattle.std.proofs.Common.{◌≡◌, true, false, [], ◌∷◌, sym, ◌∙◌, refl}
use Rattle.std.proofs.lemmas.List.Elements.{All-from_recursion}
use Rattle.jc_facts.specs.Names.{Bytes}
use Rattle.jc_promises.specs.rule.Bases.{is_kept}
use Rattle.jc_index.specs.Ids.{name_at}
use Rattle.jc_rules.specs.steps.Losses.{IsCovered, was_interface}
use Rattle.jc_sides.specs.Rules.{on_class}
use Rattle.jc_sides.specs.SidesOf.{SidesOf}
use Rattle.jc_rules.proofs.Assignments.{kept_some, kept_none}
use Rattle.jc_rules.proofs.InterfaceBecameClass.{not_lost, of_kept, of_unkept}
use Rattle.jc_rules.proofs.LostFlags.{of_interface}
use Rattle.jc_rules.proofs.interface_became_class.InterfaceBecameClassClassRule.on_class.Goals as goal

pub returns-then-not-is_no_interface_now : goal.returns-then-not-is_no_interface_now
returns-then-not-is_no_interface_now c = not_lost c.args.sides.now (name_at c.args.sides.now.old c.args.id) c.is_no_interface_now.result c.if-not-is_no_interface_now.true c.is_no_interface_now.ensures

pub returns-then-is_some : goal.returns-then-is_some
returns-then-is_some c =
    let x : Bytes = name_at c.args.sides.now.old c.args.id in
    of_kept c.args.sides.now x c.is_no_interface_now.result c.if-not-is_no_interface_now.false c.is_no_interface_now.ensures
    (kept_some (is_kept c.args.sides.now.old c.args.sides.now.new x) c.args.sides.now x c.kept.result c.kept.ensures c.is_some.result c.if-is_some.true c.is_some.ensures)

pub assigned_by-broken-requires-clause-covered : goal.assigned_by-broken-requires-clause-covered
assigned_by-broken-requires-clause-covered c =
    let s : SidesOf = c.args.sides.now in
    let was : was_interface s (name_at s.old c.args.id) ≡ true = sym c.is_no_interface_now.ensures ∙ c.if-not-is_no_interface_now.false in
    All-from_recursion (IsCovered s.old c.args.self.now.losses.now.exposed) (c.args.id ∷ []) (of_interface s c.args.self.now.losses.now.exposed c.requires.ready.1.wanted c.args.id c.requires.id was, tt)

pub returns : goal.returns
returns c =
    let s : SidesOf = c.args.sides.now in
    let x : Bytes = name_at s.old c.args.id in
    let k : is_kept s.old s.new x ≡ false = kept_none (is_kept s.old s.new x) s x c.kept.result c.kept.ensures c.is_some.result c.if-is_some.false c.is_some.ensures in
    c.assigned_by-broken.ensures (on_class 3 x) ∙ of_unkept s x c.is_no_interface_now.result c.if-not-is_no_interface_now.false c.is_no_interface_now.ensures k c.args.id refl
