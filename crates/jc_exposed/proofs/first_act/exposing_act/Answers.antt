use Rattle.std.proofs.Common.{subst}
use Rattle.jc_index.specs.Ids.{name_at}
use Rattle.jc_exposed.specs.Exposing.{opens_usable}
use Rattle.jc_exposed.specs.FirstAct.{IsFirstThrough}
use Rattle.jc_exposed.proofs.FirstThrough.{no_act}
use Rattle.jc_exposed.proofs.first_act.exposing_act.Goals as goal

pub returns-in-None : goal.returns-in-None
returns-in-None c =
    no_act c.args.table.now c.requires.side c.requires.bare (name_at c.args.table.now c.args.seat) c.args.class
    (subst (IsFirstThrough c.args.table.now (λ x. opens_usable c.args.table.now x (name_at c.args.table.now c.args.seat) c.args.class)) c.in-None.is c.in_ok-first_through.ensures)
