-- The lines on calls, over the old side O and the new side N alone.
--     LineStands O N l      the line l is due
--     AreLines O N ls      ls are all that are due
use Rattle.std.specs.Prelude.{ℕ, Bool, false, List, Option, None, Some, IsTrue}
use Rattle.std.specs.declared.cmp.Ordering.{Ordering}
use Rattle.std.specs.Option.{option_cmp}
use Rattle.std.specs.Ordering.{nat_cmp, on, then_cmp}
use Rattle.jc_call_kinds.specs.declared.call_line.CallKind.{CallKind}
use Rattle.jc_call_kinds.specs.declared.call_line.CallKind.TheVariants.{Reference, Access, Joined, Constants}
use Rattle.jc_call_kinds.specs.declared.call_line.CallLine.{CallLine}
use Rattle.jc_facts.specs.declared.key.Key.{Key}
use Rattle.jc_facts.specs.Exactly.{name_order, HasExactly}
use Rattle.jc_facts.specs.KeyOrder.{key_cmp}
use Rattle.jc_facts.specs.Names.{Bytes}
use Rattle.jc_facts.specs.world.World.{World}
use Rattle.jc_calls.specs.Access.{access_added}
use Rattle.jc_calls.specs.Constants.{constants_added}
use Rattle.jc_calls.specs.Joins.{join_lost}
use Rattle.jc_calls.specs.References.{reference_lost}

-- a line of the kind is due for the class, and the key or the superclass where it has one
abbrev pub is_due : World → World → CallKind → Bytes → Option Key → Option Bytes → Bool
is_due O N Reference x (Some k) None = reference_lost O N x k
is_due O N Access x (Some k) None = access_added O N x k
is_due O N Joined x None (Some t) = join_lost O N x t
is_due O N Constants x None None = constants_added O N x
is_due O N kind x k t = false

abbrev pub LineStands : World → World → CallLine → Type 0
LineStands O N l = IsTrue (is_due O N l.kind l.«class» l.key l.target)

-- the place of a kind among them
abbrev pub place_of : CallKind → ℕ
place_of Reference = 0
place_of Access = 1
place_of Joined = 2
place_of Constants = 3

-- by kind, class, key, then superclass
abbrev pub line_order : CallLine → CallLine → Ordering
line_order = then_cmp (on (λ l. place_of l.kind) nat_cmp) (then_cmp (on (λ l. l.«class») name_order) (then_cmp (on (λ l. l.key) (option_cmp key_cmp)) (on (λ l. l.target) (option_cmp name_order))))

-- each line that is due, once, in order, and no other
abbrev pub AreLines : World → World → List CallLine → Type 0
AreLines O N ls = HasExactly line_order (LineStands O N) ls
