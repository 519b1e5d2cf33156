-- What modules say of a class and of one that it names.
use Rattle.std.proofs.Common.{◌≡◌, Bool, true, false, not, refl, sym, ◌∙◌, ap, subst, Option, Some, None, ◌++◌, ◌||◌, ◌&&◌}
use Rattle.std.specs.Prelude.{is_some}
use Rattle.jc_facts.specs.declared.class_facts.ClassFacts.{ClassFacts}
use Rattle.jc_facts.specs.declared.link_error.LinkError.{LinkError}
use Rattle.jc_facts.specs.declared.link_error.LinkError.TheVariants.{IllegalAccessError, IncompatibleClassChangeError}
use Rattle.jc_facts.specs.Names.{Bytes, in_same_package, package_name}
use Rattle.jc_facts.specs.Flags.{public_flag, interface_flag, final_flag}
use Rattle.jc_facts.specs.Options.{or_else}
use Rattle.jc_facts.specs.world.World.{World, Modules, OneModule, Several, is_modular, class_named, find_class}
use Rattle.jc_facts.specs.world.Modules.{Module, OfPlatform, OfRelease, OfClients, module_by, module_of, same_module, in_same_module, is_exported, visible_by, is_visible, is_visible_from}
use Rattle.jc_facts.specs.world.Access.{is_class_accessible}
use Rattle.jc_facts.specs.world.Loading.{fault_where, sealed_by, error_of_superclass, error_of_interface}
use Rattle.std.proofs.lemmas.Bool.{and_parts, and_from, or_left, or_right}
use Rattle.jc_lemmas.proofs.Bools.{or_without}
use Rattle.jc_facts.proofs.World.{find-name}
use Rattle.jc_worlds.specs.Agreement.{SeeAlike}
use Rattle.jc_worlds.proofs.Absent.{class_named-absent, class_named-back}

-- ---- two worlds

-- by whether the class d is visible from c, and whether they are in one module
abbrev superclass_by : ClassFacts → ClassFacts → Bool → Bool → Option LinkError
superclass_by c d seen together =
    or_else (fault_where (not ((seen && public_flag d.flags) || in_same_package c.name d.name)) IllegalAccessError)
    (fault_where (interface_flag d.flags || final_flag d.flags || ((not together && is_some d.permits) || sealed_by c d.name d.permits)) IncompatibleClassChangeError)

abbrev interface_by : ClassFacts → ClassFacts → Bool → Bool → Option LinkError
interface_by c d seen together =
    or_else (fault_where (not ((seen && public_flag d.flags) || in_same_package c.name d.name)) IllegalAccessError)
    (fault_where (not (interface_flag d.flags) || ((not together && is_some d.permits) || sealed_by c d.name d.permits)) IncompatibleClassChangeError)

module _ (W V : World) where
  pub same_superclass : (c d : ClassFacts) → SeeAlike W V c.name d.name → error_of_superclass W c d ≡ error_of_superclass V c d
  same_superclass c d a =
      ap (λ b. superclass_by c d b (in_same_module W c.name d.name)) a.seen ∙ ap (superclass_by c d (is_visible_from V c.name d.name)) a.together

  pub same_interface : (c d : ClassFacts) → SeeAlike W V c.name d.name → error_of_interface W c d ≡ error_of_interface V c d
  same_interface c d a =
      ap (λ b. interface_by c d b (in_same_module W c.name d.name)) a.seen ∙ ap (interface_by c d (is_visible_from V c.name d.name)) a.together

  pub same_class_access : (x : Bytes) (d : ClassFacts) → SeeAlike W V x d.name → is_class_accessible W x d ≡ is_class_accessible V x d
  same_class_access x d a = ap (λ b. (b && public_flag d.flags) || in_same_package x d.name) a.seen

-- ---- clients

-- a class that neither the platform nor the release has is in the module of the clients
pub with_clients_by : (m : Modules) → module_by m false false ≡ OfClients
with_clients_by OneModule = refl
with_clients_by (Several None) = refl
with_clients_by (Several (Some exports)) = refl

pub outside : (W : World) (x : Bytes) → find_class W x ≡ None → module_of W x ≡ OfClients
unfolding find_class
outside W x h =
    let two : class_named (W.platform ++ W.release) x ≡ None = class_named-absent (W.platform ++ W.release) W.clients x h in
    let one : class_named W.platform x ≡ None = class_named-absent W.platform W.release x two in
    let other : class_named W.release x ≡ None = sym (class_named-back W.platform W.release x one) ∙ two in
    rw (one, other) (with_clients_by W.modules)

-- what is in the module of the clients is visible, so that from a client what is visible is visible from there, and nothing else
clients_see : (m : Module) (e : Bool) → (same_module OfClients m || visible_by m e) ≡ visible_by m e
clients_see OfPlatform e = refl
clients_see OfRelease e = refl
clients_see OfClients e = refl

-- classes in the module of the clients are in one module, and visible from each other
pub both_clients : (W : World) (x y : Bytes) → module_of W x ≡ OfClients → module_of W y ≡ OfClients → (is_visible_from W x y ≡ true) × (in_same_module W x y ≡ true)
both_clients W x y h k = (
  ap (λ m. same_module m (module_of W y) || is_visible W y) h ∙ ap (λ m. same_module OfClients m || is_visible W y) k,
  ap (λ m. same_module m (module_of W y)) h ∙ ap (same_module OfClients) k,
)

pub clients_alike : (W V : World) (x y : Bytes) → module_of W x ≡ OfClients → module_of W y ≡ OfClients → module_of V x ≡ OfClients → module_of V y ≡ OfClients → SeeAlike W V x y
clients_alike W V x y a b c d =
    let p = both_clients W x y a b in
    let q = both_clients V x y c d in
    record { seen = p.0 ∙ sym q.0; together = p.1 ∙ sym q.1 }

pub visible_from-client : (W : World) (x y : Bytes) → module_of W x ≡ OfClients → is_visible_from W x y ≡ is_visible W y
visible_from-client W x y h =
    ap (λ m. same_module m (module_of W y) || is_visible W y) h ∙ clients_see (module_of W y) _

-- ---- the platform's classes

visible_platform : (m : Modules) (r : Bool) (e : Bool) → visible_by (module_by m true r) e ≡ true
visible_platform OneModule r e = refl
visible_platform (Several exports) r e = refl

pub platform_visible : (W : World) (y : Bytes) → is_some (class_named W.platform y) ≡ true → is_visible W y ≡ true
platform_visible W y h =
    ap (λ b. visible_by (module_by W.modules b (is_some (class_named W.release y))) (is_exported W.modules (package_name y))) h
    ∙ visible_platform W.modules (is_some (class_named W.release y)) (is_exported W.modules (package_name y))

one_declaring : (m : Modules) (r s : Bool) → same_module (module_by m true r) (module_by m true s) ≡ true
one_declaring OneModule r s = refl
one_declaring (Several exports) r s = refl

pub platform_together : (W : World) (x y : Bytes) → is_some (class_named W.platform x) ≡ true → is_some (class_named W.platform y) ≡ true → in_same_module W x y ≡ true
platform_together W x y h k =
    ap (λ b. same_module (module_by W.modules b (is_some (class_named W.release x))) (module_of W y)) h
    ∙ ap (λ b. same_module (module_by W.modules true (is_some (class_named W.release x))) (module_by W.modules b (is_some (class_named W.release y)))) k
    ∙ one_declaring W.modules (is_some (class_named W.release x)) (is_some (class_named W.release y))

-- two classes of the platform are to each other in each world what they are in another
pub within_platform : (W V : World) (x y : Bytes) → is_some (class_named W.platform x) ≡ true → is_some (class_named W.platform y) ≡ true
    → is_some (class_named V.platform x) ≡ true → is_some (class_named V.platform y) ≡ true → SeeAlike W V x y
within_platform W V x y a b c d =
    let p = platform_together W x y a b in
    let q = platform_together V x y c d in
    record { seen = ap (λ t. t || is_visible W y) p ∙ sym (ap (λ t. t || is_visible V y) q); together = p ∙ sym q }

one_platform : (m n : Modules) (r s : Bool) → is_modular m ≡ is_modular n → module_by m true r ≡ module_by n true s
one_platform OneModule OneModule r s h = refl
one_platform (Several e) (Several f) r s h = refl
one_platform OneModule (Several f) r s h = absurd (cc)
one_platform (Several e) OneModule r s h = absurd (cc)

-- on two sides of one run a class of the platform has one module
pub platform_module : (W V : World) (y : Bytes) → is_modular W.modules ≡ is_modular V.modules → is_some (class_named W.platform y) ≡ true → is_some (class_named V.platform y) ≡ true → module_of W y ≡ module_of V y
platform_module W V y one h k =
    ap (λ b. module_by W.modules b (is_some (class_named W.release y))) h
    ∙ one_platform W.modules V.modules (is_some (class_named W.release y)) (is_some (class_named V.release y)) one
    ∙ sym (ap (λ b. module_by V.modules b (is_some (class_named V.release y))) k)

-- to clients such a class is the same on both
pub platform_alike : (W V : World) (x y : Bytes) → is_modular W.modules ≡ is_modular V.modules → is_some (class_named W.platform y) ≡ true → is_some (class_named V.platform y) ≡ true
    → module_of W x ≡ OfClients → module_of V x ≡ OfClients → SeeAlike W V x y
platform_alike W V x y one h k a b = record {
  seen = visible_from-client W x y a ∙ platform_visible W y h ∙ sym (visible_from-client V x y b ∙ platform_visible V y k);
  together = ap (λ m. same_module m (module_of W y)) a ∙ ap (same_module OfClients) (platform_module W V y one h k) ∙ sym (ap (λ m. same_module m (module_of V y)) b);
}

-- ---- access

-- a class of another package that is accessible is visible from there and public
pub accessible_parts : (W : World) (x : Bytes) (d : ClassFacts) → in_same_package x d.name ≡ false → is_class_accessible W x d ≡ true → (is_visible_from W x d.name ≡ true) × (public_flag d.flags ≡ true)
accessible_parts W x d q a = and_parts (is_visible_from W x d.name) (public_flag d.flags) (or_without (is_visible_from W x d.name && public_flag d.flags) (in_same_package x d.name) q a)

-- a public class that is visible from there is accessible
pub accessible_from : (W : World) (x : Bytes) (d : ClassFacts) → is_visible_from W x d.name ≡ true → public_flag d.flags ≡ true → is_class_accessible W x d ≡ true
accessible_from W x d e p = or_left (is_visible_from W x d.name && public_flag d.flags) (in_same_package x d.name) (and_from (is_visible_from W x d.name) (public_flag d.flags) e p)

-- a public class that is visible is accessible from every class
pub accessible_visible : (W : World) (x y : Bytes) (d : ClassFacts) → find_class W y ≡ Some d → is_visible W y ≡ true → public_flag d.flags ≡ true → is_class_accessible W x d ≡ true
accessible_visible W x y d f v p =
    accessible_from W x d (or_right (in_same_module W x d.name) (is_visible W d.name) (subst (λ z. is_visible W z ≡ true) (sym (find-name W y d f)) v)) p

-- what is in the module of the clients is visible
pub visible-clients : (W : World) (x : Bytes) → module_of W x ≡ OfClients → is_visible W x ≡ true
visible-clients W x h = ap (λ m. visible_by m (is_exported W.modules (package_name x))) h
