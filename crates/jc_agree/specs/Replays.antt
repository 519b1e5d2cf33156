-- What `link` says of the class files of a witness.
--     WitnessesReplay      with the old release each outcome is Ok, and with the new one the outcome at the one spot has the printed error
-- It is asked with `--modular` where the check was, and else without it.
use Rattle.std.specs.Prelude.{◌≡◌, List, Some, None, true}
use Rattle.std.specs.List.{Contains}
use Rattle.std.specs.Prelude.{slice_get}
use Rattle.jc_facts.specs.declared.client.ClientClass.{ClientClass}
use Rattle.jc_facts.specs.declared.link_error.LinkError.{LinkError}
use Rattle.jc_facts.specs.declared.outcome.Outcome.{Outcome}
use Rattle.jc_facts.specs.declared.verdict.Spot.{Spot}
use Rattle.jc_facts.specs.declared.verdict.Spot.TheVariants as spots
use Rattle.jc_facts.specs.client.Linked.{outcomes, are_all_ok}
use Rattle.jc_facts.specs.world.World.{World}
use Rattle.jc_link.specs.Refusals.{refused_client}
use Rattle.jc_witness.specs.declared.witness.WitnessFile.{WitnessFile}
use Rattle.jc_witness.specs.Witnesses.{IsReadAs, IsWitness}

-- the outcome is that of the client's load, or that of its item of the number
abbrev pub IsOutcomeAt : ClientClass → Spot → Outcome → Type 0
IsOutcomeAt c spots.Load o = (o.«class» ≡ c.facts.name) × (o.item ≡ None)
IsOutcomeAt c (spots.Item n) o = (o.«class» ≡ c.facts.name) × (o.item ≡ slice_get c.items n)

-- one of the files has a spot, and of the outcomes that of the client as which it is read has the error there
pub record FailsAtTheSpot (fs : List WitnessFile) (error : LinkError) (os : List Outcome) : Type 0 where
  pub file : WitnessFile
  pub is_file : Contains fs file
  pub client : ClientClass
  pub is_read : IsReadAs file client
  pub spot : Spot
  pub has_spot : file.spot ≡ Some spot
  pub said : Outcome
  pub is_said : Contains os said
  pub is_at : IsOutcomeAt client spot said
  pub fails : said.error ≡ Some error

-- both sides take the clients. With the old one each outcome is Ok, and with the new one that at the spot has the error
pub record Replays (O N : World) (error : LinkError) (fs : List WitnessFile) (cs : List ClientClass) : Type 0 where
  pub taken_old : refused_client O cs ≡ None
  pub taken_new : refused_client N cs ≡ None
  pub links : are_all_ok (outcomes O cs) ≡ true
  pub breaks : FailsAtTheSpot fs error (outcomes N cs)

-- Whatever is a witness of the error. Exactly one of its files has a spot: what else fails with the new side, by this error or another, isn't said.
abbrev pub WitnessesReplay : Type 0
WitnessesReplay = (O N : World) (error : LinkError) (fs : List WitnessFile) (cs : List ClientClass) → IsWitness O N error fs cs → Replays O N error fs cs
