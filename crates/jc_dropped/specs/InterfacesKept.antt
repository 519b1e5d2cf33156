-- What clients keep of the interfaces above their values, where no interface is dropped.
--     NoneDroppedNoneLost      only causes are listed, and that is enough
--     InterfacesStay      what follows of the list alone
--     InstancesStay      what follows of it where the verdict has no finding
use Rattle.std.specs.Prelude.{Bool, false, cond, List, [], ◌≡◌, ◌||◌, ◌&&◌, None, All, IsTrue}
use Rattle.jc_facts.specs.declared.client.ClientClass.{ClientClass}
use Rattle.jc_facts.specs.declared.verdict.Verdict.{Verdict}
use Rattle.jc_facts.specs.Names.{Bytes}
use Rattle.jc_facts.specs.world.World.{World, with_clients, is_client}
use Rattle.jc_promises.specs.Pairs.{IsPair}
use Rattle.jc_facts.specs.world.Hierarchy.{is_superinterface}
use Rattle.jc_facts.specs.world.Loading.{load_fault}
use Rattle.jc_facts.specs.world.Assignment.{is_interface_of}
use Rattle.jc_promises.specs.client.Scope.{IsInScope}
use Rattle.jc_facts.specs.client.Valid.{facts_of}
use Rattle.jc_promises.specs.client.Meets.{Meets}
use Rattle.jc_promises.specs.rule.Bases.{is_class_usable, is_steady}
use Rattle.jc_promises.specs.rule.Verdict.{IsVerdict}
use Rattle.jc_facts.specs.declared.dropped.Dropped.{Dropped}
use Rattle.jc_dropped.specs.Dropped.{is_exposed_to_some, stays_exposed, is_held, is_exposed_with, loses_interface, is_dropped, AreDropped}

-- no class drops an interface
abbrev pub DropNothing : World → World → Type 0
DropNothing O N = (x t : Bytes) → is_dropped O N x t ≡ false

-- Only causes are listed, and that is enough: where no class drops an interface, none loses one.
abbrev pub NoneDroppedNoneLost : Type 0
NoneDroppedNoneLost = (O N : World) → DropNothing O N → (x t : Bytes) → loses_interface O N x t ≡ false

-- the class t is hidden, and exposed to the clients of a seat with which the class x of this world takes part; a client does with each seat
abbrev pub is_exposed_beside : World → World → World → Bytes → Bytes → Bool
is_exposed_beside O N W x t = cond (is_client W x) (is_exposed_to_some O N t) (is_exposed_with O N x t)

-- Without a verdict: where no class drops an interface, each class that is a client, or that clients can hold values of, and that loads in both
-- worlds of a client world in scope, keeps each interface above it that is a client or steady, or that is hidden, exposed to a seat with which the
-- class takes part, and an interface on the new side.
abbrev pub InterfacesStay : Type 0
InterfacesStay = (O N : World) (cs : List ClientClass) → IsPair O N → DropNothing O N → IsInScope O N cs
    → let before = with_clients O (facts_of cs) in
    let after = with_clients N (facts_of cs) in
    (x t : Bytes) → load_fault before x ≡ None → load_fault after x ≡ None
    → IsTrue (is_client before x || is_held O N x) → IsTrue (is_client before t || is_steady O N t || (is_interface_of N t && is_exposed_beside O N before x t))
    → IsTrue (is_superinterface before x t) → IsTrue (is_superinterface after x t)

-- each class that is a client, or usable with the old release, or exposed and there with the new one, and loads with the old release, loads with
-- the new one, and keeps each interface above it that is a client or usable with the old release, or that is hidden and exposed to a seat with
-- which the class takes part
abbrev pub InterfacesKept : World → World → List ClientClass → Type 0
InterfacesKept O N cs =
    let before = with_clients O (facts_of cs) in
    let after = with_clients N (facts_of cs) in
    (x t : Bytes) → load_fault before x ≡ None → IsTrue (is_client before x || is_class_usable O x || stays_exposed O N x) → IsTrue (is_client before t || is_class_usable O t || is_exposed_beside O N before x t)
    → IsTrue (is_superinterface before x t) → (load_fault after x ≡ None) × IsTrue (is_superinterface after x t)

-- where the verdict has no finding and nothing is dropped, so it is in each client world in scope that meets none of the collisions
abbrev pub AllInterfacesKept : World → World → Verdict → List Dropped → Type 0
AllInterfacesKept O N v ds = v.findings ≡ [] → ds ≡ [] → (cs : List ClientClass) → IsInScope O N cs
    → All (λ c. ¬ (Meets (with_clients O (facts_of cs)) cs c)) v.collisions → InterfacesKept O N cs

-- so it is with the verdict and the list of a pair
abbrev pub InstancesStay : Type 0
InstancesStay = (O N : World) (v : Verdict) (ds : List Dropped) → IsPair O N → IsVerdict O N v → AreDropped O N ds → AllInterfacesKept O N v ds
