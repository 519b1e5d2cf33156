use Rattle.std.proofs.Common.{◌≡◌, length, ◌∙◌, ap}
use Rattle.std.specs.Prelude.{slice_get}
use Rattle.jc_facts.specs.Options.{and_then}
use Rattle.jc_index.specs.steps.PlacesAbove.{first_place}
use Rattle.jc_index.proofs.FinalKeys.{unmarked, marked-more}
use Rattle.jc_index.proofs.PlatformFinals.{first-read, first-within}
use Rattle.jc_index.proofs.finals.mark_first.Goals as goal

pub loop-places-init : goal.loop-places-init
loop-places-init c = unmarked (first_place c.args.above.now) (length c.args.above.now) c.args.marks.now c.requires.count

pub mark-requires : goal.mark-requires
mark-requires c =
    let first : c.one_of.result ≡ first_place c.args.above.now c.loop-places.places-index =
    first-read c.args.above.now c.loop-places.places-index c.places-item.result c.one_of.result c.loop-places-test.true c.places-item.is (c.one_of.ensures ∙ ap (λ row. and_then (λ above. above) (slice_get row 0)) c.as_slice.ensures)
    in
    first-within c.args.above.now c.loop-places.marks c.loop-places.places-index c.one_of.result c.requires.within c.loop-places.invariant.count first

pub loop-places-preserved : goal.loop-places-preserved
loop-places-preserved c =
    let first : c.one_of.result ≡ first_place c.args.above.now c.loop-places.places-index =
    first-read c.args.above.now c.loop-places.places-index c.places-item.result c.one_of.result c.loop-places-test.true c.places-item.is (c.one_of.ensures ∙ ap (λ row. and_then (λ above. above) (slice_get row 0)) c.as_slice.ensures)
    in
    marked-more (first_place c.args.above.now) (length c.args.above.now) c.loop-places.places-index c.loop-places.marks c.mark.new.marks c.one_of.result first
    (first-within c.args.above.now c.loop-places.marks c.loop-places.places-index c.one_of.result c.requires.within c.loop-places.invariant.count first) c.mark.ensures c.loop-places.invariant
