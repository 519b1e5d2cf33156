-- What always holds of the two sides of a comparison is enough for the laws of completeness.
use Rattle.std.proofs.Common.{◌≡◌, false, not, ◌||◌, ◌==◌, List, length, sym, ◌∙◌, ap, Some, None, arith}
use Rattle.std.specs.Prelude.{is_some}
use Rattle.std.proofs.lemmas.Bool.{not-false}
use Rattle.jc_facts.specs.declared.class_facts.ClassFacts.{ClassFacts}
use Rattle.jc_facts.specs.Names.{object_name}
use Rattle.jc_facts.specs.Flags.{public_flag, final_flag, interface_flag}
use Rattle.jc_facts.specs.Options.{some_where}
use Rattle.jc_facts.specs.world.World.{World, class_named}
use Rattle.jc_lemmas.proofs.Bools.{neither_first, neither_last}
use Rattle.jc_lemmas.proofs.Options.{none_from, cond-none}
use Rattle.jc_facts.proofs.Options.{or_else-none}
use Rattle.jc_index.specs.declared.root.RootPart.TheVariants as parts
use Rattle.jc_index.specs.Root.{flags_are_wrong, declares_public_init, faulty_part, root_by, fault_of_root}
use Rattle.jc_index.specs.Sides.{IsSide}
use Rattle.jc_complete.specs.Completeness.{IsOpenRoot, CanPlan}
use Rattle.jc_bodies.specs.Files.{CanWrite}
use Rattle.jc_sides.specs.SidesOf.{SidesOf}
use Rattle.jc_sides.proofs.Pair.{pair_of}
use Rattle.jc_witness.specs.Ground.{IsGround, HasShortSide}

-- ---- the root

root_parts : (c : ClassFacts) → faulty_part c ≡ None → IsOpenRoot c
unfolding faulty_part
root_parts c e =
    let a = or_else-none (some_where (flags_are_wrong c) parts.Flags) _ e in
    let b = or_else-none (some_where (is_some c.superclass) parts.Super) _ a.1 in
    let d = or_else-none (some_where (not (length c.interfaces == 0)) parts.Interfaces) _ b.1 in
    let f = or_else-none (some_where (not (length c.fields == 0)) parts.Fields) _ d.1 in
    let g = or_else-none (some_where (is_some c.permits) parts.Permits) _ f.1 in
    let flags : flags_are_wrong c ≡ false = (cond-none (flags_are_wrong c) parts.Flags None a.0).0 in
    record {
      not_final = neither_last (not (public_flag c.flags)) (final_flag c.flags) (neither_first (not (public_flag c.flags) || final_flag c.flags) (interface_flag c.flags) flags);
      permits = none_from c.permits (cond-none (is_some c.permits) parts.Permits None g.0).0;
      init = not-false (declares_public_init c) (cond-none (not (declares_public_init c)) parts.Init None g.1).0;
    }

is_open : (platform : List ClassFacts) (c : ClassFacts) → class_named platform object_name ≡ Some c → fault_of_root platform ≡ None → IsOpenRoot c
unfolding fault_of_root
is_open platform c there e = root_parts c (let f : root_by (Some c) ≡ None = sym (ap root_by there) ∙ e in f)

-- clients may extend the root of a side
root_is_open : (W : World) (s : IsSide W) → IsOpenRoot s.root.root
root_is_open W s = is_open W.platform s.root.root s.root.is_there s.root_passes

-- ---- the sides

-- clients can be planned
pub can_plan : (s : SidesOf) → IsGround s → CanPlan s.old s.new
can_plan s g = record { pair = pair_of s g.sides; open_root = root_is_open s.old g.sides.old_side; few = omega (arith, g.few) }

-- and their class files written, where names are short
pub can_write : (s : SidesOf) → IsGround s → HasShortSide s.old → HasShortSide s.new → CanWrite s.old s.new
can_write s g old new = record { plan = can_plan s g; platform_short = old.platform; old_short = old.release; new_short = new.release }
