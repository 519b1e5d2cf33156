use Rattle.std.proofs.Common.{◌<◌, ◌≤◌, sym, ◌∙◌, arith}
use Rattle.jc_facts.specs.world.World.{size}
use Rattle.jc_sig.proofs.SideNotes.{start, one_more, all_classes}
use Rattle.jc_sig.proofs.notes.signature_notes.Goals as goal

pub loop-n-init : goal.loop-n-init
loop-n-init c = start c.args.old.now c.args.new.now c.count-n-end.ensures.side c.new-notes.result.items c.new-notes.ensures.items

pub loop-n-preserved : goal.loop-n-preserved
loop-n-preserved c =
    let l : c.loop-n.n < size c.args.old.now = omega (arith, c.count-n-end.ensures.count) in
    one_more c.args.old.now c.args.new.now c.count-n-end.ensures.side c.loop-n.n c.unwrap-id.result c.loop-n.notes.items
    c.in_ok-on_class.field-0.items c.append.new.self.items l (sym c.id.ensures.value ∙ c.unwrap-id.ensures) c.loop-n.invariant c.in_ok-on_class.ensures c.in_ok-append.ensures.items

pub returns : goal.returns
returns c =
    let l : size c.args.old.now ≤ c.loop-n.n = omega (arith, c.count-n-end.ensures.count) in
    record { exact = all_classes c.args.old.now c.args.new.now c.count-n-end.ensures.side c.loop-n.n c.loop-n.notes.items l c.loop-n.invariant }
