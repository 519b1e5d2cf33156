use Rattle.std.proofs.Common.{◌≡◌, Some, sym, subst, ◌∙◌}
use Rattle.jc_facts.specs.world.World.{find_class}
use Rattle.jc_sides.specs.SidesOf.{SidesOf}
use Rattle.jc_facts.proofs.SameRecords.{same_members}
use Rattle.jc_index.specs.Ids.{name_at}
use Rattle.jc_select.proofs.ChangedKeys.{changed_own, unchanged_own}
use Rattle.jc_select.proofs.changes.changed_keys.Goals as goal

pub returns-then-have_same_methods : goal.returns-then-have_same_methods
returns-then-have_same_methods c =
    unchanged_own c.args.sides.now c.args.before c.args.now c.facts-old.result.now c.facts-new.result.now
    (subst (λ (s : SidesOf). Some c.facts-old.result.now ≡ find_class s.old (name_at s.old c.args.before)) c.sides.view_is c.facts-old.ensures)
    (subst (λ (s : SidesOf). Some c.facts-new.result.now ≡ find_class s.new (name_at s.new c.args.now)) c.sides.view_is c.facts-new.ensures)
    (same_members c.facts-old.result.now.methods c.facts-new.result.now.methods (sym c.have_same_methods.ensures ∙ c.if-have_same_methods.true)) c.new-keys.result.items

pub returns : goal.returns
returns c =
    changed_own c.args.sides.now c.args.before c.args.now c.facts-old.result.now c.facts-new.result.now
    (subst (λ (s : SidesOf). Some c.facts-old.result.now ≡ find_class s.old (name_at s.old c.args.before)) c.sides.view_is c.facts-old.ensures)
    (subst (λ (s : SidesOf). Some c.facts-new.result.now ≡ find_class s.new (name_at s.new c.args.now)) c.sides.view_is c.facts-new.ensures)
    c.new-keys.result.items c.add_changed.new.keys.items c.add_changed-2.new.keys.items c.in_ok-add_changed.ensures c.in_ok-add_changed-2.ensures
