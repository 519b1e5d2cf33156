-- Releases between which nothing is listed beside the verdict.
--     ListsNothing O N      no warning, no dropped interface, no note on a signature and no line on calls stands between the sides
--     SameReleaseLists, EmptyReleaseLists      releases of which this is so
use Rattle.std.specs.Prelude.{◌≡◌, List, []}
use Rattle.jc_calls.specs.Lines.{AreLines}
use Rattle.jc_call_kinds.specs.declared.call_line.CallLine.{CallLine}
use Rattle.jc_facts.specs.declared.dropped.Dropped.{Dropped}
use Rattle.jc_facts.specs.declared.sig_note.SigNote.{SigNote}
use Rattle.jc_facts.specs.declared.warning.Warning.{Warning}
use Rattle.jc_facts.specs.world.World.{World}
use Rattle.jc_promises.specs.Pairs.{IsPair}
use Rattle.jc_promises.specs.rule.Warnings.{AreWarnings}
use Rattle.jc_dropped.specs.Dropped.{AreDropped}
use Rattle.jc_commands.specs.Signatures.{AreSigNotes}

-- the four lists of the two sides are empty
pub record ListsNothing (O N : World) : Type 0 where
  pub no_warning : (ws : List Warning) → AreWarnings O N ws → ws ≡ []
  pub none_dropped : (ds : List Dropped) → AreDropped O N ds → ds ≡ []
  pub no_signature_note : (ns : List SigNote) → AreSigNotes O N ns → ns ≡ []
  pub no_call : (ls : List CallLine) → AreLines O N ls → ls ≡ []

-- A release against itself.
abbrev pub SameReleaseLists : Type 0
SameReleaseLists = (O : World) → IsPair O O → ListsNothing O O

-- Whatever the new release is, an old one without classes.
abbrev pub EmptyReleaseLists : Type 0
EmptyReleaseLists = (O N : World) → IsPair O N → O.release ≡ [] → ListsNothing O N
