use Rattle.std.proofs.Common.{◌∙◌, inl, inr}
use Rattle.std.proofs.lemmas.List.{map-id}
use Rattle.clap.specs.Simple.{app_of}
use Rattle.jc_words.proofs.Taken.{simple, taken_some, taken_none}
use Rattle.jc_words.proofs.arguments.taken.Goals as goal

pub returns-in-Ok : goal.returns-in-Ok
returns-in-Ok c = taken_some (app_of c.args.command) _ _ _ (map-id _) (c.in-Ok.ensures.kinds c.requires) (c.in-Ok.ensures.matches (simple (app_of c.args.command) c.requires)).0

pub returns : goal.returns
returns c = elim (c.in-Err.ensures.kinds c.requires) [
  | inl memory ↦ absurd (c.in_default.not-OutOfMemory (c.kind.ensures ∙ memory))
  | inr among ↦ taken_none (app_of c.args.command) _ _ _ (map-id _) among
]
