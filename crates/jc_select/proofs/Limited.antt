-- The warnings within a limit, or past it.
use Rattle.std.proofs.Common.{◌≡◌, ◌≤◌, ◌<◌, ℕ, List, length, Option, Some, None, arith}
use Rattle.std.specs.Cmp.{IsTotalOrder, then_total, on_total}
use Rattle.std.specs.Cmp.Lexicographic.{nat_list_cmp_total}
use Rattle.std.proofs.lemmas.Bool.{ltb-true, ltb-false}
use Rattle.std.proofs.lemmas.List.Elements.{All-contains}
use Rattle.jc_facts.specs.KeyOrder.{key_total}
use Rattle.jc_facts.specs.world.World.{World}
use Rattle.jc_sound.proofs.VerdictLaw.{no_longer, exactly_one}
use Rattle.jc_sides.specs.Limit.{IsWithin}
use Rattle.jc_facts.specs.declared.warning.Warning.{Warning}
use Rattle.jc_promises.specs.rule.Warnings.{WarningStands, warning_order, AreWarnings}
use Rattle.jc_select.specs.Within.{AreWarningsWithin}

pub warning_total : IsTotalOrder warning_order
warning_total = then_total (on_total (λ (w : Warning). w.«class») nat_list_cmp_total) (on_total (λ (w : Warning). w.key) key_total)

-- there is one list of the warnings
pub warnings_are_one : (O N : World) (vs ws : List Warning) → AreWarnings O N vs → AreWarnings O N ws → vs ≡ ws
warnings_are_one O N vs ws a b = exactly_one warning_order warning_total (WarningStands O N) vs ws a b

pub within : (O N : World) (most : ℕ) (o : Option (List Warning)) → IsWithin warning_order (WarningStands O N) (Some most) o → AreWarningsWithin O N most o
within O N most (Some ws) h = (h.0, ltb-false most (length ws) h.1)
within O N most None h = λ ws is.
    let a : length h.some ≤ length ws = no_longer warning_order warning_total h.some ws h.in_order is.in_order (λ w c. is.complete w (All-contains (WarningStands O N) h.some w h.stand c)) in
    let b : most < length h.some = ltb-true most (length h.some) h.many in
    omega arith
