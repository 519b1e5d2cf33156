use Rattle.std.proofs.Common.{ap, ◌∙◌, map, arith}
use Rattle.std.proofs.lemmas.List.{take_all}
use Rattle.jc_facts.specs.world.Search.{supers}
use Rattle.jc_index.specs.Ids.{place_of}
use Rattle.jc_index.specs.steps.Order.{names_at}
use Rattle.jc_index.proofs.PlacesAbove.{row-more}
use Rattle.jc_index.proofs.platform_list.places_above.Goals as goal

pub loop-at-preserved : goal.loop-at-preserved
loop-at-preserved c =
    row-more (place_of (names_at c.args.list.now)) (supers c.args.class.now) c.loop-at.at c.super_at.result.now c.loop-at.places.items c.push.new.self.items c.place.result
    c.super_at.ensures (c.place.ensures.value ∙ ap (place_of (names_at c.args.list.now)) c.as_bytes.ensures) c.in_ok-push.ensures.items c.loop-at.invariant

pub returns : goal.returns
returns c =
    c.from_vec.ensures ∙ c.loop-at.invariant ∙ ap (map (place_of (names_at c.args.list.now))) (take_all c.loop-at.at (supers c.args.class.now) (omega (arith, c.super_count-count.ensures)))
