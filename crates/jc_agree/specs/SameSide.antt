-- The side of which `check`, `link` and `clients` speak.
--     SeeTheSameSide      over one platform and one release `check` and `link` speak of one side, where both have `--modular` or neither has it
--     SeeTheSameSides      over one platform and the same two releases `check` and `clients` speak of the same two sides, where that is so
use Rattle.std.specs.Prelude.{◌≡◌, List}
use Rattle.jc_base.specs.Outside.{FileOf}
use Rattle.jc_commands.specs.Check.{CheckRecords, old_side, new_side}
use Rattle.jc_words.specs.Command.{CheckOf, LinkOf, ClientsOf}
use Rattle.jc_commands.specs.Clients.{ClientsRecords, side_before, side_after}
use Rattle.jc_commands.specs.Link.{LinkRecords, release_side}

-- What is read of the same files. So what the laws say of the two sides of a check holds of what `link` is asked with either release.
abbrev pub SeeTheSameSide : Type 0
SeeTheSameSide = (files : List FileOf) (check : CheckOf) (link : LinkOf) (r : CheckRecords files check) (s : LinkRecords files link)
    → link.platform ≡ check.platform → link.modular ≡ check.modular
    → (link.release ≡ check.old → release_side s ≡ old_side r) × (link.release ≡ check.new → release_side s ≡ new_side r)

-- So what the laws say of the two sides of a check holds of what `clients` is asked with its two releases.
abbrev pub SeeTheSameSides : Type 0
SeeTheSameSides = (files : List FileOf) (check : CheckOf) (clients : ClientsOf) (r : CheckRecords files check) (s : ClientsRecords files clients)
    → clients.platform ≡ check.platform → clients.old ≡ check.old → clients.new ≡ check.new → clients.modular ≡ check.modular
    → (side_before s ≡ old_side r) × (side_after s ≡ new_side r)
