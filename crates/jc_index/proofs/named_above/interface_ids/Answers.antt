use Rattle.std.proofs.Common.{◌≡◌, List, Some, length, refl, sym, ◌∙◌, ap, map, arith}
use Rattle.std.specs.Prelude.{slice_get}
use Rattle.std.proofs.lemmas.List.{take_all}
use Rattle.std.proofs.lemmas.Option.{slice_get_read, slice_get_within}
use Rattle.jc_facts.specs.Names.{Bytes}
use Rattle.jc_index.specs.Ids.{id_of, name_at}
use Rattle.jc_base.specs.Again.{IsAgain}
use Rattle.jc_index.proofs.NamedAbove.{interface-above}
use Rattle.jc_index.proofs.PlacesAbove.{row-more, row-again, row-length}
use Rattle.jc_index.proofs.named_above.interface_ids.Goals as goal

pub get_above-requires-clause-named : goal.get_above-requires-clause-named
get_above-requires-clause-named c =
    let there : slice_get c.args.class.now.interfaces c.loop-at.at ≡ Some c.as_bytes.result.now =
    ap (λ (xs : List Bytes). slice_get xs c.loop-at.at) (sym c.as_slice-names.ensures)
    ∙ slice_get_read c.as_slice-names.result.now (length c.as_slice-names.result.now) c.loop-at.at c.index-names-at.result refl c.loop-at-test.true c.index-names-at.is
    ∙ ap Some (sym c.as_bytes.ensures)
    in
    interface-above c.args.classes.now (name_at c.args.classes.now c.args.id) c.args.class.now c.before_interfaces-before.result c.loop-at.at c.as_bytes.result.now c.requires.found c.before_interfaces-before.ensures there

pub index-same-requires : goal.index-same-requires
index-same-requires c =
    let again : IsAgain c.args.class.now.interfaces c.loop-at.at c.in-Some.earlier = rw c.in-Some.is at c.earlier.ensures in
    omega (arith, again.after, row-length (id_of c.args.classes.now) c.args.class.now.interfaces c.loop-at.at c.loop-at.ids.items (slice_get_within c.args.class.now.interfaces c.loop-at.at again.name again.there) c.loop-at.invariant)

pub loop-at-preserved-in-Some : goal.loop-at-preserved-in-Some
loop-at-preserved-in-Some c =
    let again : IsAgain c.args.class.now.interfaces c.loop-at.at c.in-Some.earlier = rw c.in-Some.is at c.earlier.ensures in
    row-again (id_of c.args.classes.now) c.args.class.now.interfaces c.loop-at.at c.in-Some.earlier c.loop-at.ids.items c.push.new.self.items c.index-same.result.now again c.loop-at.invariant c.index-same.ensures c.in_ok-push.ensures.items

pub loop-at-preserved : goal.loop-at-preserved
loop-at-preserved c =
    let there : slice_get c.args.class.now.interfaces c.loop-at.at ≡ Some c.as_bytes.result.now =
    ap (λ (xs : List Bytes). slice_get xs c.loop-at.at) (sym c.as_slice-names.ensures)
    ∙ slice_get_read c.as_slice-names.result.now (length c.as_slice-names.result.now) c.loop-at.at c.index-names-at.result refl c.loop-at-test.true c.index-names-at.is
    ∙ ap Some (sym c.as_bytes.ensures)
    in
    row-more (id_of c.args.classes.now) c.args.class.now.interfaces c.loop-at.at c.as_bytes.result.now c.loop-at.ids.items c.push-in-loop-at.new.self.items c.get_above.result
    there c.get_above.ensures c.in_ok-push-2.ensures.items c.loop-at.invariant

pub returns : goal.returns
returns c =
    c.loop-at.invariant ∙ ap (map (id_of c.args.classes.now)) (take_all c.loop-at.at c.args.class.now.interfaces (omega (arith, c.loop-at-test.false, ap length c.as_slice-names.ensures)))
