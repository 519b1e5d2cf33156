-- What stands on each side.
use Rattle.std.proofs.Common.{◌≡◌, ◌++◌, Some, true, ◌∙◌, ap}
use Rattle.std.specs.List.{All}
use Rattle.std.proofs.lemmas.List.Elements.{recursion_from_All, All-from_recursion}
use Rattle.jc_facts.specs.declared.class_facts.ClassFacts.{ClassFacts}
use Rattle.jc_facts.specs.Names.{Bytes, object_name}
use Rattle.jc_facts.specs.world.World.{World, classes, find_class, class_named}
use Rattle.jc_facts.specs.file.Valid.{IsValidClass}
use Rattle.jc_worlds.proofs.ChoiceLaws.{valid_in}
use Rattle.jc_lemmas.proofs.Listed.{EachOf-append}
use Rattle.jc_index.specs.Sides.{IsSide}
use Rattle.std.specs.Prelude.{is_some}
use Rattle.jc_facts.proofs.World.{class_named-first}

-- each class of a side is valid
pub classes_valid : (W : World) → IsSide W → All IsValidClass (classes W)
classes_valid W s = All-from_recursion IsValidClass (classes W)
    (EachOf-append IsValidClass (W.platform ++ W.release) W.clients
    (EachOf-append IsValidClass W.platform W.release (recursion_from_All IsValidClass W.platform s.platform) (recursion_from_All IsValidClass W.release s.release))
    (recursion_from_All IsValidClass W.clients s.clients))

pub side_valid : (W : World) → IsSide W → (x : Bytes) (c : ClassFacts) → find_class W x ≡ Some c → IsValidClass c
side_valid W s = valid_in W (classes_valid W s)

pub root_at : (W : World) (s : IsSide W) → find_class W object_name ≡ Some s.root.root
unfolding find_class
root_at W s =
    let there : is_some (class_named W.platform object_name) ≡ true = ap is_some s.root.is_there in
    let first : class_named (W.platform ++ W.release) object_name ≡ class_named W.platform object_name = class_named-first W.platform W.release object_name there in
    class_named-first (W.platform ++ W.release) W.clients object_name (ap is_some first ∙ there) ∙ first ∙ s.root.is_there
