use Rattle.std.proofs.Common.{◌≡◌, ◌<◌, ◌≤◌, sym, ap, ◌∙◌, nat_lt, arith}
use Rattle.jc_facts.specs.world.World.{size}
use Rattle.jc_facts.proofs.Options.{some_where-is}
use Rattle.jc_sides.proofs.ByClass.{step}
use Rattle.jc_index.specs.Ids.{name_at}
use Rattle.jc_declared.specs.steps.Notes.{unloadable}
use Rattle.jc_declared.proofs.NoteUnloadable.{noted_all}
use Rattle.jc_declared.proofs.note_unloadable.note_unloadable.Goals as goal

pub loop-n-preserved : goal.loop-n-preserved
loop-n-preserved c =
    let l : c.loop-n.n < size c.args.table.now = omega (arith, c.count-n-end.ensures.count) in
    let k : c.unwrap-id.result ≡ c.loop-n.n = some_where-is (nat_lt c.loop-n.n (size c.args.table.now)) c.loop-n.n c.unwrap-id.result (sym c.id.ensures.value ∙ c.unwrap-id.ensures) in
    step (unloadable c.args.table.now c.args.of_old) c.args.table.now c.loop-n.n c.loop-n.notes.items c.push_some.new.items.items c.in_ok-note_on.field-0 l c.loop-n.invariant
    (c.in_ok-note_on.ensures ∙ ap (λ i. unloadable c.args.table.now c.args.of_old (name_at c.args.table.now i)) k) c.in_ok-push_some.ensures

pub returns : goal.returns
returns c =
    let l : size c.args.table.now ≤ c.loop-n.n = omega (arith, c.count-n-end.ensures.count) in
    noted_all c.args.table.now c.count-n-end.ensures.side c.requires c.args.of_old c.loop-n.n c.loop-n.notes.items l c.loop-n.invariant
