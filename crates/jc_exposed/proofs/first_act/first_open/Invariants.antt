use Rattle.std.proofs.Common.{◌≡◌, drop}
use Rattle.std.specs.List.{find as first_where}
use Rattle.jc_index.specs.Ids.{name_at}
use Rattle.jc_exposed.specs.FirstAct.{is_act_open}
use Rattle.jc_exposed.proofs.first_act.first_open.Given as goal

abbrev pub invariant-loop-act : goal.invariant-loop-act
invariant-loop-act l = first_where (is_act_open l.table (name_at l.table l.seat) (name_at l.table l.class) l.key) (drop l.act-index l.acts) ≡ first_where (is_act_open l.table (name_at l.table l.seat) (name_at l.table l.class) l.key) l.acts
