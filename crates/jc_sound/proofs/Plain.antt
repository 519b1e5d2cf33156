-- Worlds without modules.
use Rattle.std.proofs.Common.{◌≡◌, true, false, cond, ◌||◌, ◌&&◌, Option, Some, None, is_some, refl, ap}
use Rattle.jc_facts.specs.declared.class_facts.ClassFacts.{ClassFacts}
use Rattle.jc_facts.specs.Names.{Bytes, in_same_package, package_name}
use Rattle.jc_facts.specs.Flags.{public_flag}
use Rattle.jc_facts.specs.world.World.{World, OneModule, class_named, find_class, class_is}
use Rattle.jc_facts.specs.world.Modules.{OfClients, module_by, module_of, same_module, is_exported, visible_by, is_visible}
use Rattle.jc_facts.specs.world.Access.{is_class_accessible}
use Rattle.jc_facts.specs.world.Loading.{sealed_by, is_sealed_against, excludes, loads}
use Rattle.jc_facts.specs.Options.{and_then}
use Rattle.jc_promises.specs.plan.PlannedNames.{left_out_by}
use Rattle.jc_promises.specs.rule.Bases.{is_class_usable}
use Rattle.jc_sound.specs.Plain.{IsPlain, PlainWorlds}

module _ (W : World) (one : W.modules ≡ OneModule) where
  pub one_module : (x : Bytes) → module_of W x ≡ OfClients
  one_module x = ap (λ m. module_by m (is_some (class_named W.platform x)) (is_some (class_named W.release x))) one

  pub all_visible : (x : Bytes) → is_visible W x ≡ true
  all_visible x = ap (λ m. visible_by (module_by m (is_some (class_named W.platform x)) (is_some (class_named W.release x))) (is_exported m (package_name x))) one

  pub all_together : (x y : Bytes) → same_module (module_of W x) (module_of W y) ≡ true
  all_together x y = rw (one_module x, one_module y) refl

  pub plain_access : (x : Bytes) (d : ClassFacts) → is_class_accessible W x d ≡ (public_flag d.flags || in_same_package x d.name)
  plain_access x d = ap (λ b. ((b || is_visible W d.name) && public_flag d.flags) || in_same_package x d.name) (all_together x d.name)

  excludes_none : (d : ClassFacts) → excludes W d OfClients ≡ false
  excludes_none d = rw (one_module d.name) refl

  pub plain_sealing : (d c : ClassFacts) → is_sealed_against W d c ≡ sealed_by c d.name d.permits
  plain_sealing d c = rw (one_module d.name, one_module c.name) refl

  plain_usable : (x : Bytes) → is_class_usable W x ≡ (class_is W (λ c. public_flag c.flags) x && loads W x)
  unfolding is_class_usable
  plain_usable x = ap (λ v. class_is W (λ c. v && public_flag c.flags) x && loads W x) (all_visible x)

  pub is_plain : IsPlain W
  is_plain = record { access = plain_access; sealing = plain_sealing; usable = plain_usable }

pub plain_worlds : PlainWorlds
unfolding and_then
plain_worlds O N o n = (
  is_plain O o,
  record {
    opened = λ c. rw (excludes_none O o c) refl;
    newly_sealed = λ c d. rw (excludes_none N n d) refl;
    missing = λ x. none_missing (find_class O x) (find_class N x);
  },
)
  where
    none_missing : (c d : Option ClassFacts) → and_then (λ c. and_then (λ d. cond (excludes N d OfClients) None (left_out_by O N c d.permits)) d) c ≡ and_then (λ c. and_then (λ d. left_out_by O N c d.permits) d) c
    none_missing None d = refl
    none_missing (Some c) None = refl
    none_missing (Some c) (Some d) = rw (excludes_none N n d) refl
