-- A name that a list of classes hasn't.
use Rattle.std.proofs.Common.{◌≡◌, Bool, true, false, cond, List, [], ◌∷◌, ◌++◌, refl, Some, None}
use Rattle.jc_facts.specs.declared.class_facts.ClassFacts.{ClassFacts}
use Rattle.jc_facts.specs.declared.link_error.LinkError.TheVariants.{NoClassDefFoundError}
use Rattle.jc_facts.specs.Names.{Bytes, same}
use Rattle.jc_facts.specs.world.World.{World, class_named, find_class, size}
use Rattle.jc_facts.specs.world.Loading.{load_step, load_fault}
use Rattle.jc_worlds.proofs.Descent.{descend-absent}

pub class_named-back : (cs ds : List ClassFacts) (x : Bytes) → class_named cs x ≡ None → class_named (cs ++ ds) x ≡ class_named ds x
unfolding class_named
class_named-back [] ds x h = refl
class_named-back (c ∷ cs) ds x h = go (same c.name x) h (class_named-back cs ds x)
  where
    go : (b : Bool) → cond b (Some c) (class_named cs x) ≡ None → (class_named cs x ≡ None → class_named (cs ++ ds) x ≡ class_named ds x) → cond b (Some c) (class_named (cs ++ ds) x) ≡ class_named ds x
    go true q r = absurd (cc)
    go false q r = r q

pub class_named-absent : (cs ds : List ClassFacts) (x : Bytes) → class_named (cs ++ ds) x ≡ None → class_named cs x ≡ None
unfolding class_named
class_named-absent [] ds x h = refl
class_named-absent (c ∷ cs) ds x h = go (same c.name x) h (class_named-absent cs ds x)
  where
    go : (b : Bool) → cond b (Some c) (class_named (cs ++ ds) x) ≡ None → (class_named (cs ++ ds) x ≡ None → class_named cs x ≡ None) → cond b (Some c) (class_named cs x) ≡ None
    go true q r = absurd (cc)
    go false q r = r q

pub load_fault-absent : (W : World) (x : Bytes) → find_class W x ≡ None → load_fault W x ≡ Some NoClassDefFoundError
unfolding load_fault
load_fault-absent W x e = descend-absent W _ _ (load_step W) (size W) x e
