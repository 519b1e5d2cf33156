-- What `link` and `clients` say over a part of a platform that is enough for the clients.
use Rattle.std.specs.Prelude.{Bool, List, ◌≡◌}
use Rattle.jc_facts.specs.declared.class_facts.ClassFacts.{ClassFacts}
use Rattle.jc_facts.specs.declared.client.ClientClass.{ClientClass}
use Rattle.jc_facts.specs.Names.{Bytes}
use Rattle.jc_facts.specs.client.Linked.{outcomes}
use Rattle.jc_facts.specs.world.World.{Modules, side_in}
use Rattle.jc_link.specs.Refusals.{MayLink}
use Rattle.jc_losses.specs.JudgedOf.{judged_of}
use Rattle.jc_platform.specs.Enough.{IsEnough}

-- where nothing refuses the clients over the whole, nothing refuses them over the part, and `link` says the same of them
abbrev pub LinkedOverAPart : Type 0
LinkedOverAPart = (P Q R : List ClassFacts) (modules : Modules) (cs : List ClientClass) (S : Bytes → Bool) → IsEnough P Q modules R cs S → MayLink Q R cs
    → MayLink P R cs × (outcomes (side_in modules P R) cs ≡ outcomes (side_in modules Q R) cs)

-- where the part is enough with both releases, `clients` says the same
abbrev pub JudgedOverAPart : Type 0
JudgedOverAPart = (P Q O N : List ClassFacts) (old new : Modules) (cs : List ClientClass) (S T : Bytes → Bool) → IsEnough P Q old O cs S → IsEnough P Q new N cs T
    → judged_of (side_in old P O) (side_in new P N) cs ≡ judged_of (side_in old Q O) (side_in new Q N) cs
