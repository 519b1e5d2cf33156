use Rattle.std.proofs.Common.{◌≡◌, true, sym, subst, ◌∙◌, is_some}
use Rattle.jc_facts.specs.world.World.{class_named}
use Rattle.jc_sides.specs.SidesOf.{SidesOf, AreSides}
use Rattle.jc_index.specs.Ids.{name_at}
use Rattle.jc_select.proofs.ChangedKeys.{platform_keys}
use Rattle.jc_select.proofs.changes.changes_of.Goals as goal

pub returns-then-in_platform : goal.returns-then-in_platform
returns-then-in_platform c = λ j e.
    platform_keys c.args.sides.now (subst AreSides c.sides.view_is c.sides.invariant.sides) c.args.class j c.requires
    (subst (λ (s : SidesOf). is_some (class_named s.old.platform (name_at s.old c.args.class)) ≡ true) c.sides.view_is (sym c.in_platform.ensures ∙ c.if-in_platform.true)) e c.new.result.items
