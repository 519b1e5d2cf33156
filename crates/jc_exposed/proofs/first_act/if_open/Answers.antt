use Rattle.std.proofs.Common.{◌==◌, ◌∙◌, sym}
use Rattle.jc_index.specs.Ids.{name_at}
use Rattle.jc_exposed.specs.Exposing.{opens}
use Rattle.jc_exposed.proofs.FirstThrough.{collects_one, collects_not}
use Rattle.jc_exposed.proofs.first_act.if_open.Goals as goal

pub returns-then-not-is_open_key : goal.returns-then-not-is_open_key
returns-then-not-is_open_key c = collects_not (c.args.naming.now.exposed == c.args.exposed) (opens c.args.table.now (name_at c.args.table.now c.args.class) (name_at c.args.table.now c.args.seat) c.args.naming.now.key) c.args.naming.now.key (sym c.is_open_key.ensures ∙ c.if-not-is_open_key.true)

pub returns : goal.returns
returns c = collects_one (c.args.naming.now.exposed == c.args.exposed) (opens c.args.table.now (name_at c.args.table.now c.args.class) (name_at c.args.table.now c.args.seat) c.args.naming.now.key) c.args.naming.now.key c.in_ok-key.key (sym c.is_open_key.ensures ∙ c.if-not-is_open_key.false) c.in_ok-key.ensures
