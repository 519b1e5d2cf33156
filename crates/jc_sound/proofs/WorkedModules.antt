-- The worked examples of modules: what the rules find between two sides of a run with modules, and what clients then meet.
use Rattle.std.proofs.Common.{◌≡◌, true, false, List, [], ◌∷◌, refl, Some, None, codes}
use Rattle.std.proofs.lemmas.List.Elements.{All-from_recursion}
use Rattle.jc_facts.specs.declared.class_facts.ClassFacts.{ClassFacts}
use Rattle.jc_facts.specs.declared.client.Item.TheVariants as item
use Rattle.jc_facts.specs.declared.act.Act.TheVariants.{ClassRef, Implement}
use Rattle.jc_facts.specs.declared.link_error.LinkError.TheVariants.{IllegalAccessError, IncompatibleClassChangeError}
use Rattle.jc_facts.specs.Names.{Bytes, object_name}
use Rattle.jc_facts.specs.world.World.{World, Several, modular_side, with_clients}
use Rattle.jc_promises.specs.Pairs.{IsPair}
use Rattle.jc_facts.specs.world.Modules.{OfPlatform, OfRelease, OfClients, module_of, is_visible, is_visible_from}
use Rattle.jc_facts.specs.world.Access.{is_class_accessible}
use Rattle.jc_facts.specs.world.Loading.{load_fault}
use Rattle.jc_facts.specs.file.Valid.{IsValidClass}
use Rattle.jc_facts.specs.client.Outcome.{outcome, Links}
use Rattle.jc_promises.specs.plan.PlannedNames.{closed_name, least_name}
use Rattle.jc_sound.proofs.Examples.{computes, init, a_class, extending, plain, sealed_interface, object, finding, Finds}
use Rattle.jc_promises.proofs.Pairs.{pair_in}
use Rattle.jc_sound.proofs.WorkedClients.{p_A, root_is_valid}
use Rattle.jc_sound.proofs.WorkedVerdict.{root, plain_is_valid}
use Rattle.jc_sound.proofs.WorkedExamples.{utf8_C, utf8_D}

abbrev p_S : Bytes
p_S = codes "p/S"

abbrev q_B : Bytes
q_B = codes "q/B"

abbrev client : Bytes
client = codes "Client"

-- ---- worlds

-- a release whose module exports these packages, over the platform of java/lang/Object alone
abbrev exporting : List Bytes → List ClassFacts → World
exporting packages release = modular_side (Some packages) (object ∷ []) release

-- a release that is no module, in a run with modules
abbrev unnamed : List ClassFacts → World
unnamed release = modular_side None (object ∷ []) release

-- p/A in a module that exports p, and in one that exports nothing
abbrev exported : World
exported = exporting (codes "p" ∷ []) (plain p_A ∷ [])

abbrev kept_back : World
kept_back = exporting [] (plain p_A ∷ [])

-- they are two sides of which soundness speaks
sides_of_one_run : IsPair exported kept_back
sides_of_one_run =
    pair_in (Several (Some (codes "p" ∷ []))) (Several (Some [])) (object ∷ []) (plain p_A ∷ []) (plain p_A ∷ []) refl root
    (All-from_recursion IsValidClass (object ∷ []) (root_is_valid, tt))
    (All-from_recursion IsValidClass (plain p_A ∷ []) (plain_is_valid, tt))
    (All-from_recursion IsValidClass (plain p_A ∷ []) (plain_is_valid, tt))

-- ---- the module of a class

module_of_each : (module_of exported object_name ≡ OfPlatform) × (module_of exported p_A ≡ OfRelease) × (module_of exported client ≡ OfClients)
unfolding computes
module_of_each = (refl, refl, refl)

no_module_of_the_release : (module_of (unnamed (plain p_A ∷ [])) p_A ≡ OfClients) × (module_of (unnamed (plain p_A ∷ [])) object_name ≡ OfPlatform)
unfolding computes
no_module_of_the_release = (refl, refl)

-- the platform is visible whatever is exported, and within its module each class is
visible_without_export : (is_visible kept_back object_name ≡ true) × (is_visible_from kept_back p_A p_A ≡ true) × (is_visible kept_back p_A ≡ false)
unfolding computes
visible_without_export = (refl, refl, refl)

-- ---- a package that is no longer exported

access_from_a_client : (is_class_accessible exported client (plain p_A) ≡ true) × (is_class_accessible kept_back client (plain p_A) ≡ false)
unfolding computes
access_from_a_client = (refl, refl)

package_no_longer_exported : Finds exported kept_back (finding 1 p_A ClassRef IllegalAccessError ∷ []) [] []
unfolding computes
package_no_longer_exported = (refl, refl, refl)

-- the client loads still, and naming the class has the printed error
client_of_the_package : let old = with_clients exported (plain client ∷ []) in let new = with_clients kept_back (plain client ∷ []) in
    Links old client (item.Class p_A) × (load_fault new client ≡ None) × (outcome new client (item.Class p_A) ≡ Some IllegalAccessError)
unfolding computes
client_of_the_package = (refl, refl, refl)

-- a package that is exported only now breaks nobody: nobody used it
package_exported_now : Finds kept_back exported [] [] []
unfolding computes
package_exported_now = (refl, refl, refl)

-- neither does a class leave that was never exported
class_of_a_kept_package_gone : Finds kept_back (exporting [] []) [] [] []
unfolding computes
class_of_a_kept_package_gone = (refl, refl, refl)

-- a superclass may be out of sight: it is the release's own class that names it
superclass_out_of_sight : Finds (exporting (codes "p" ∷ codes "q" ∷ []) (extending p_A q_B [] [] ∷ plain q_B ∷ [])) (exporting (codes "p" ∷ []) (extending p_A q_B [] [] ∷ plain q_B ∷ []))
    (finding 1 q_B ClassRef IllegalAccessError ∷ []) [] []
unfolding computes
superclass_out_of_sight = (refl, refl, refl)

-- ---- a class with permitted names that came into a module

abbrev sealed : List ClassFacts
sealed = sealed_interface p_S (codes "q/C" ∷ codes "r/D" ∷ []) ∷ []

abbrev loose : World
loose = unnamed sealed

abbrev moved : World
moved = exporting (codes "p" ∷ []) sealed

sealed_class_came_into_a_module : Finds loose moved (finding 2 p_S Implement IncompatibleClassChangeError ∷ []) [] []
unfolding computes
sealed_class_came_into_a_module = (simp (utf8_C, utf8_D), simp (utf8_C, utf8_D), refl)

-- any client that the old side let in shows it, so the first of these does
client_of_the_sealed_class : closed_name loose moved (codes "w0/Y") p_S ≡ codes "q/C"
unfolding computes least_name
client_of_the_sealed_class = simp (utf8_C, utf8_D)

abbrev q_C : ClassFacts
q_C = a_class (codes "q/C") 0x21 (Some object_name) (p_S ∷ []) [] (init 1 ∷ [])

load_below_the_sealed_class : (load_fault (with_clients loose (q_C ∷ [])) (codes "q/C") ≡ None) × (load_fault (with_clients moved (q_C ∷ [])) (codes "q/C") ≡ Some IncompatibleClassChangeError)
unfolding computes
load_below_the_sealed_class = (refl, refl)

-- in a module it was closed to every client, so nothing is lost when it permits fewer
sealed_in_a_module : Finds moved (exporting (codes "p" ∷ []) (sealed_interface p_S (codes "q/C" ∷ []) ∷ [])) [] [] []
unfolding computes
sealed_in_a_module = (refl, refl, refl)
