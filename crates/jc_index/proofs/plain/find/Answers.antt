use Rattle.std.proofs.Common.{◌∙◌}
use Rattle.jc_index.proofs.Searches.{find_first, find_second}
use Rattle.jc_index.proofs.plain.find.Goals as goal

pub returns-in-Some : goal.returns-in-Some
returns-in-Some c = find_first c.args.platform.now c.args.release.now c.args.name.now c.in-Some.class.now c.in-Some.ensures

pub returns-in-None : goal.returns-in-None
returns-in-None c = c.named-in-None.ensures ∙ find_second c.args.platform.now c.args.release.now c.args.name.now c.in-None.ensures
