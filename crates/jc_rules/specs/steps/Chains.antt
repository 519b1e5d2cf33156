-- Chains, as sets of numbers, and superclasses that left them.
use Rattle.std.specs.Prelude.{ℕ, Bool, not, [], ◌∷◌, Option, None, Some, ◌≡◌, ◌&&◌, nat_lt}
use Rattle.std.specs.BTreeSet as sorted
use Rattle.std.specs.Ordering.{nat_cmp}
use Rattle.jc_facts.specs.declared.finding.Finding.{Finding}
use Rattle.jc_facts.specs.Options.{or_else}
use Rattle.jc_facts.specs.world.Assignment.{is_interface_of}
use Rattle.jc_promises.specs.rule.Findings.{Subject, assign_finding, finding_at, handed_finding}
use Rattle.jc_facts.specs.world.Hierarchy.{in_chain}
use Rattle.jc_facts.specs.Names.{Bytes}
use Rattle.jc_facts.specs.world.World.{World, size}
use Rattle.jc_sides.specs.Rules.{IsFinding, IsOf}
use Rattle.jc_sides.specs.SidesOf.{SidesOf}
use Rattle.jc_index.specs.Ids.{name_at}

-- the set has the numbers of the classes in the chain of x, and no other
pub record HasChain (W : World) (x : Bytes) (chain : sorted.BTreeSet ℕ) : Type 0 where
  pub ordered : sorted.IsOrdered nat_cmp chain
  pub has : (k : ℕ) → sorted.contains nat_cmp chain k ≡ (nat_lt k (size W) && in_chain W x (name_at W k))

-- the rule on a class and a superclass of it
abbrev pub on_target : Bytes → Bytes → Subject
on_target x t = record { rule = 4; «class» = x; key = None; target = Some t }

-- what is found of the assignment of a value of x to t, by one seat or by two
abbrev pub lost_finding : SidesOf → Bytes → Bytes → Option Finding
lost_finding s x t = or_else (assign_finding s.old s.new (on_target x t) (x ∷ t ∷ [])) (handed_finding s.old s.new (on_target x t) t)

-- what the rule finds of the class and the superclass
unfoldable pub target_finding : SidesOf → Bytes → Bytes → Option Finding
target_finding s x t = finding_at s.old s.new (on_target x t)

-- t isn't in the new chain of x, and is no interface of the new side
abbrev pub has_left_chain : SidesOf → Bytes → Bytes → Bool
has_left_chain s x t = not (in_chain s.new x t) && not (is_interface_of s.new t)

-- the finding stands, and is that a superclass has left the chain of the class x
abbrev pub OfChain : SidesOf → Bytes → Finding → Type 0
OfChain s x f = IsOf (λ g. g.«class») (IsFinding 4 s) x f
