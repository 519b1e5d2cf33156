-- The lines on calls within a limit, and what clients keep of their references where none is lost.
use Rattle.std.proofs.Common.{◌≡◌, ◌≢◌, ◌≤◌, ◌<◌, ℕ, Bool, true, false, List, length, Option, Some, None, refl, arith}
use Rattle.std.specs.Cmp.{IsTotalOrder, then_total, on_total}
use Rattle.std.specs.Cmp.Lexicographic.{nat_list_cmp_total, options_total}
use Rattle.std.specs.Option.{IfSome}
use Rattle.std.specs.List.{All}
use Rattle.std.proofs.lemmas.Bool.{ltb-true, ltb-false}
use Rattle.std.proofs.lemmas.Cmp.{nat_cmp_total}
use Rattle.std.proofs.lemmas.List.Elements.{All-contains}
use Rattle.jc_calls.specs.CallsKept.{LoseNoReference, ReferencesStay}
use Rattle.jc_calls.specs.Lines.{AreLines, LineStands, line_order, place_of}
use Rattle.jc_calls.specs.References.{reference_lost}
use Rattle.jc_facts.specs.KeyOrder.{key_total}
use Rattle.jc_call_kinds.specs.declared.call_line.CallKind.TheVariants.{Reference}
use Rattle.jc_call_kinds.specs.declared.call_line.CallLine.{CallLine}
use Rattle.jc_facts.specs.world.World.{World}
use Rattle.jc_sides.specs.Limit.{IsWithin}
use Rattle.jc_sides.specs.SidesOf.{SidesOf, AreSides}
use Rattle.jc_sides.proofs.Pair.{pair_of}
use Rattle.jc_sound.proofs.VerdictLaw.{no_longer}
use Rattle.jc_call_lines.specs.LinesWithin.{AreLinesWithin, ReferencesStill}
use Rattle.jc_call_lines.specs.steps.LostLines.{reference_line}

line_total : IsTotalOrder line_order
line_total = then_total (on_total (λ (l : CallLine). place_of l.kind) nat_cmp_total) (then_total (on_total (λ (l : CallLine). l.«class») nat_list_cmp_total) (then_total (on_total (λ (l : CallLine). l.key) (options_total key_total)) (on_total (λ (l : CallLine). l.target) (options_total nat_list_cmp_total))))

pub within : (O N : World) (most : ℕ) (o : Option (List CallLine)) → IsWithin line_order (LineStands O N) (Some most) o → AreLinesWithin O N most o
within O N most (Some ls) h = (h.0, ltb-false most (length ls) h.1)
within O N most None h = λ ls is.
    let a : length h.some ≤ length ls = no_longer line_order line_total h.some ls h.in_order is.in_order (λ l c. is.complete l (All-contains (LineStands O N) h.some l h.stand c)) in
    let b : most < length h.some = ltb-true most (length h.some) h.many in
    omega arith

-- where no line is of a reference, none is lost
lose_none : (O N : World) (ls : List CallLine) → AreLines O N ls → All (λ l. l.kind ≢ Reference) ls → LoseNoReference O N
lose_none O N ls are none c k = go (reference_lost O N c k) refl
  where
    go : (b : Bool) → reference_lost O N c k ≡ b → b ≡ false
    go false e = refl
    go true e = absurd (All-contains (λ (l : CallLine). l.kind ≢ Reference) ls (reference_line c k) none (are.complete (reference_line c k) e) refl)

pub still : ReferencesStay → (s : SidesOf) → AreSides s → (ls : List CallLine) → AreLines s.old s.new ls → ReferencesStill s.old s.new ls
still law s are ls is v verdict empty none cs scope collisions = law s.old s.new v (pair_of s are) verdict empty (lose_none s.old s.new ls is none) cs scope collisions

pub still_within : ReferencesStay → (s : SidesOf) → AreSides s → (most : ℕ) (o : Option (List CallLine)) → AreLinesWithin s.old s.new most o → IfSome o (ReferencesStill s.old s.new)
still_within law s are most None h = tt
still_within law s are most (Some ls) h = still law s are ls h.0
