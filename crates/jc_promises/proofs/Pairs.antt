-- What is found on two sides of which a promise is made.
use Rattle.std.proofs.Common.{◌≡◌, List, [], ◌++◌, refl, sym, ◌∙◌, ap, subst, Some, is_some}
use Rattle.std.specs.List.{All}
use Rattle.std.proofs.lemmas.List.Elements.{recursion_from_All}
use Rattle.jc_facts.specs.declared.class_facts.ClassFacts.{ClassFacts}
use Rattle.jc_facts.specs.Names.{Bytes, object_name}
use Rattle.jc_facts.specs.world.World.{World, Modules, OneModule, is_modular, side, side_in, class_named, find_class, classes}
use Rattle.jc_promises.specs.Pairs.{IsPair}
use Rattle.jc_facts.specs.file.Valid.{IsValidClass}
use Rattle.jc_facts.specs.world.Root.{HasRoot}
use Rattle.jc_lemmas.proofs.Listed.{EachOf, EachOf-append}
use Rattle.jc_facts.proofs.World.{find-platform, class_named-each}

-- ---- of one world

-- each class of a world of valid classes is valid
pub found_valid : (W : World) → EachOf IsValidClass W.platform → EachOf IsValidClass W.release → EachOf IsValidClass W.clients → (x : Bytes) (c : ClassFacts) → find_class W x ≡ Some c → IsValidClass c
unfolding find_class
found_valid W p r q x c e =
    class_named-each IsValidClass (classes W) x c (EachOf-append IsValidClass (W.platform ++ W.release) W.clients (EachOf-append IsValidClass W.platform W.release p r) q) e

-- and so it is on a side
pub side_valid : (W : World) → W.clients ≡ [] → All IsValidClass W.platform → All IsValidClass W.release → (x : Bytes) (c : ClassFacts) → find_class W x ≡ Some c → IsValidClass c
side_valid W bare p r =
    found_valid W (recursion_from_All IsValidClass W.platform p) (recursion_from_All IsValidClass W.release r) (subst (EachOf IsValidClass) (sym bare) tt)

-- ---- of two

module _ (O N : World) (p : IsPair O N) where
  pub old_root : find_class O object_name ≡ Some p.root.root
  old_root = find-platform O object_name (ap is_some p.root.is_there) ∙ p.root.is_there

  pub new_there : class_named N.platform object_name ≡ Some p.root.root
  new_there = ap (λ cs. class_named cs object_name) (sym p.run.platform) ∙ p.root.is_there

  pub new_root : find_class N object_name ≡ Some p.root.root
  new_root = find-platform N object_name (ap is_some new_there) ∙ new_there

  pub new_platform_valid : All IsValidClass N.platform
  new_platform_valid = subst (All IsValidClass) p.run.platform p.platform_valid

-- two sides of one run are such a pair, where their classes are valid and the platform has a root
abbrev pub pair_in : (before after : Modules) (platform old new : List ClassFacts) → is_modular before ≡ is_modular after → HasRoot platform
    → All IsValidClass platform → All IsValidClass old → All IsValidClass new → IsPair (side_in before platform old) (side_in after platform new)
pair_in before after platform old new kind root p o n = record {
  run = record { old_bare = refl; new_bare = refl; platform = refl; kind = kind };
  root = root;
  platform_valid = p;
  old_valid = o;
  new_valid = n;
}

-- so are two sides without modules
abbrev pub plain_pair : (platform old new : List ClassFacts) → HasRoot platform → All IsValidClass platform → All IsValidClass old → All IsValidClass new → IsPair (side platform old) (side platform new)
plain_pair platform old new = pair_in OneModule OneModule platform old new refl
