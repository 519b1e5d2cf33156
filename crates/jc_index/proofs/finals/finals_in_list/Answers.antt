use Rattle.std.proofs.Common.{◌≡◌, ◌<◌, ◌≤◌, length, get_or, false, refl, sym, arith, Some}
use Rattle.std.specs.Prelude.{slice_get}
use Rattle.std.proofs.lemmas.Option.{slice_get_read}
use Rattle.jc_index.proofs.FinalKeys.{finals-more}
use Rattle.jc_index.proofs.PlatformFinals.{finals-listed}
use Rattle.jc_index.proofs.finals.finals_in_list.Goals as goal

pub loop-at-preserved : goal.loop-at-preserved
loop-at-preserved c =
    let l : c.loop-at.at < length c.args.classes.now = omega arith in
    let there : Some c.index-classes-at.result ≡ slice_get c.args.classes.now c.loop-at.at = sym (slice_get_read c.args.classes.now (length c.args.classes.now) c.loop-at.at c.index-classes-at.result refl l c.index-classes-at.is) in
    rw c.in_ok-push_finals_where.ensures
    (finals-more (slice_get c.args.classes.now) c.args.marks.now c.loop-at.keys.items c.loop-at.at (get_or c.args.marks.now c.loop-at.at false) c.index-classes-at.result c.loop-at.invariant there refl)

pub returns : goal.returns
returns c =
    let l : length c.args.classes.now ≤ c.loop-at.at = omega arith in
    finals-listed c.args.classes.now c.args.marks.now c.loop-at.keys.items c.loop-at.at l c.requires c.loop-at.invariant
