-- Whether a class is visible, by its module and its name.
use Rattle.std.proofs.Common.{◌≡◌, ◌||◌, ◌∙◌, ap}
use Rattle.jc_facts.specs.Names.{Bytes, package_name}
use Rattle.jc_facts.specs.world.Modules.{Module, module_of, same_module, is_exported, visible_by, is_visible, is_visible_from}
use Rattle.jc_facts.specs.world.World.{World, Modules}

pub shown : (W : World) (x y : Bytes) (m : Module) (ms : Modules) → m ≡ module_of W x → ms ≡ W.modules → y ≡ x → visible_by m (is_exported ms (package_name y)) ≡ is_visible W x
shown W x y m ms e k n =
    ap (λ (a : Module). visible_by a (is_exported ms (package_name y))) e ∙ ap (λ (a : Modules). visible_by (module_of W x) (is_exported a (package_name y))) k
    ∙ ap (λ (z : Bytes). visible_by (module_of W x) (is_exported W.modules (package_name z))) n

pub shown_from : (W : World) (x y z : Bytes) (f m : Module) (ms : Modules) → f ≡ module_of W x → m ≡ module_of W y → ms ≡ W.modules → z ≡ y
    → (same_module f m || visible_by m (is_exported ms (package_name z))) ≡ is_visible_from W x y
shown_from W x y z f m ms d e k n =
    ap (λ b. same_module f m || b) (shown W y z m ms e k n) ∙ ap (λ (a : Module). same_module a m || is_visible W y) d
    ∙ ap (λ (a : Module). same_module (module_of W x) a || is_visible W y) e
