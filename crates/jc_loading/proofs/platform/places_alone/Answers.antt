use Rattle.std.proofs.Common.{sym, subst}
use Rattle.jc_index.specs.LoadOrder.{IsLoadOrder}
use Rattle.jc_loading.proofs.Loads.{loads-alone, all-alone}
use Rattle.jc_loading.proofs.platform.places_alone.Goals as goal

pub returns-clause-loads : goal.returns-clause-loads
returns-clause-loads c =
    loads-alone c.args.list.now c.in_ok-index.index c.as_slice-2.result.now c.in_ok-places.places.items c.in_ok-index.ensures
    (subst (IsLoadOrder c.in_ok-index.index) (sym c.as_slice-2.ensures.value) c.in_ok-order.ensures.order) c.in_ok-places.ensures.named c.in_ok-places.ensures.within

pub returns-clause-all : goal.returns-clause-all
returns-clause-all c =
    all-alone c.args.list.now c.in_ok-index.index c.as_slice-2.result.now c.in_ok-places.places.items c.in_ok-index.ensures
    (subst (IsLoadOrder c.in_ok-index.index) (sym c.as_slice-2.ensures.value) c.in_ok-order.ensures.order) c.in_ok-places.ensures.named
