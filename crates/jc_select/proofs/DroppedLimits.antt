-- The dropped interfaces within a limit, and what clients keep where there are none.
use Rattle.std.proofs.Common.{◌≤◌, ◌<◌, ℕ, List, length, Option, Some, None, arith}
use Rattle.std.specs.Cmp.{IsTotalOrder, then_total, on_total}
use Rattle.std.specs.Cmp.Lexicographic.{nat_list_cmp_total}
use Rattle.std.specs.Option.{IfSome}
use Rattle.std.proofs.lemmas.Bool.{ltb-true, ltb-false}
use Rattle.std.proofs.lemmas.List.Elements.{All-contains}
use Rattle.jc_dropped.proofs.DroppedLaws.{instances_stay as law}
use Rattle.jc_dropped.specs.Dropped.{AreDropped, IsDropped, dropped_order}
use Rattle.jc_facts.specs.declared.dropped.Dropped.{Dropped}
use Rattle.jc_promises.specs.Pairs.{AreOfOneRun}
use Rattle.jc_facts.specs.world.World.{World}
use Rattle.jc_select.specs.DroppedWithin.{AreDroppedWithin, InterfacesStill}
use Rattle.jc_sides.proofs.Pair.{pair_of}
use Rattle.jc_sides.specs.Limit.{IsWithin}
use Rattle.jc_sound.proofs.VerdictLaw.{no_longer}
use Rattle.jc_index.specs.Sides.{IsSide}

dropped_total : IsTotalOrder dropped_order
dropped_total = then_total (on_total (λ (d : Dropped). d.«class») nat_list_cmp_total) (on_total (λ (d : Dropped). d.interface) nat_list_cmp_total)

pub within : (O N : World) (most : ℕ) (o : Option (List Dropped)) → IsWithin dropped_order (IsDropped O N) (Some most) o → AreDroppedWithin O N most o
within O N most (Some ds) h = (h.0, ltb-false most (length ds) h.1)
within O N most None h = λ ds is.
    let a : length h.some ≤ length ds = no_longer dropped_order dropped_total h.some ds h.in_order is.in_order (λ d c. is.complete d (All-contains (IsDropped O N) h.some d h.stand c)) in
    let b : most < length h.some = ltb-true most (length h.some) h.many in
    omega arith

pub still : (O N : World) → IsSide O → IsSide N → AreOfOneRun O N → (ds : List Dropped) → AreDropped O N ds → InterfacesStill O N ds
still O N o n run ds are v verdict = law O N v ds (pair_of (record { old = O; new = N }) (record { old_side = o; new_side = n; run = run })) verdict are

pub still_within : (O N : World) → IsSide O → IsSide N → AreOfOneRun O N → (most : ℕ) (o : Option (List Dropped)) → AreDroppedWithin O N most o → IfSome o (InterfacesStill O N)
still_within O N s t e most None h = tt
still_within O N s t e most (Some ds) h = still O N s t e ds h.0
