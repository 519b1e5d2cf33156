-- A worked example of scope: clients are as many as they are, and their class files of any version that is read.
use Rattle.std.proofs.Common.{ℕ, List, [], ◌∷◌, refl, codes, IsTrue}
use Rattle.std.proofs.lemmas.List.Elements.{All-from_recursion}
use Rattle.jc_facts.specs.declared.class_facts.ClassFacts.{ClassFacts}
use Rattle.jc_facts.specs.declared.client.ClientClass.{ClientClass}
use Rattle.jc_facts.specs.Names.{Bytes}
use Rattle.jc_facts.specs.world.World.{World, with_clients}
use Rattle.jc_facts.specs.file.Valid.{IsValidClass}
use Rattle.jc_promises.specs.client.Scope.{IsInScope, has_open_super}
use Rattle.jc_facts.specs.client.Valid.{IsValidClient, facts_of}
use Rattle.jc_promises.specs.client.Names.{is_client_name}
use Rattle.jc_sound.proofs.Examples.{computes, plain, over}
use Rattle.jc_sound.proofs.WorkedClients.{p_A}

abbrev A : Bytes
A = codes "w0/A"

abbrev B : Bytes
B = codes "w0/B"

abbrev C : Bytes
C = codes "w0/C"

abbrev D : Bytes
D = codes "w0/D"

abbrev E : Bytes
E = codes "w0/E"

-- a plain class of this major version
abbrev of_version : ℕ → Bytes → ClassFacts
of_version major x = record (plain x) { major = major }

abbrev five : List ClientClass
five =
    record { facts = of_version 45 A; items = [] }
    ∷ record { facts = of_version 52 B; items = [] }
    ∷ record { facts = of_version 61 C; items = [] }
    ∷ record { facts = of_version 65 D; items = [] }
    ∷ record { facts = of_version 65 E; items = [] }
    ∷ []

valid_A : IsValidClass (of_version 45 A)
unfolding computes
valid_A = record { name = refl; flags = refl; superclass = refl; interfaces = refl; fields = refl; fields_differ = refl; methods = refl; methods_differ = refl; permits = refl; nest_host = refl; nest_members = refl; constants = refl; constants_differ = refl; signatures = refl; signatures_differ = refl; one_of_class = refl }

valid_B : IsValidClass (of_version 52 B)
unfolding computes
valid_B = record { name = refl; flags = refl; superclass = refl; interfaces = refl; fields = refl; fields_differ = refl; methods = refl; methods_differ = refl; permits = refl; nest_host = refl; nest_members = refl; constants = refl; constants_differ = refl; signatures = refl; signatures_differ = refl; one_of_class = refl }

valid_C : IsValidClass (of_version 61 C)
unfolding computes
valid_C = record { name = refl; flags = refl; superclass = refl; interfaces = refl; fields = refl; fields_differ = refl; methods = refl; methods_differ = refl; permits = refl; nest_host = refl; nest_members = refl; constants = refl; constants_differ = refl; signatures = refl; signatures_differ = refl; one_of_class = refl }

valid_D : IsValidClass (of_version 65 D)
unfolding computes
valid_D = record { name = refl; flags = refl; superclass = refl; interfaces = refl; fields = refl; fields_differ = refl; methods = refl; methods_differ = refl; permits = refl; nest_host = refl; nest_members = refl; constants = refl; constants_differ = refl; signatures = refl; signatures_differ = refl; one_of_class = refl }

valid_E : IsValidClass (of_version 65 E)
unfolding computes
valid_E = record { name = refl; flags = refl; superclass = refl; interfaces = refl; fields = refl; fields_differ = refl; methods = refl; methods_differ = refl; permits = refl; nest_host = refl; nest_members = refl; constants = refl; constants_differ = refl; signatures = refl; signatures_differ = refl; one_of_class = refl }

abbrev same_side : World
same_side = over (plain p_A ∷ [])

five_of_each_version_are_in_scope : IsInScope same_side same_side five
unfolding computes
five_of_each_version_are_in_scope =
    record {
      valid = All-from_recursion IsValidClient five (record { facts = valid_A; items = refl }, (record { facts = valid_B; items = refl }, (record { facts = valid_C; items = refl }, (record { facts = valid_D; items = refl }, (record { facts = valid_E; items = refl }, tt)))));
      differ = refl;
      names = All-from_recursion (λ c. IsTrue (is_client_name same_side same_side c.facts.name)) five (refl, (refl, (refl, (refl, (refl, tt)))));
      open_supers = All-from_recursion (λ c. IsTrue (has_open_super (with_clients same_side (facts_of five)) c.facts)) five (refl, (refl, (refl, (refl, (refl, tt)))));
    }
