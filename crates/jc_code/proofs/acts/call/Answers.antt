use Rattle.std.proofs.Common.{[], ◌∷◌, ◌++◌, sym, ap, ◌∙◌}
use Rattle.std.proofs.lemmas.List.{length-map}
use Rattle.jc_facts.specs.declared.client.Item.{Item}
use Rattle.jc_pool.specs.Views.{member_view}
use Rattle.jc_code.specs.steps.Views.{around_view}
use Rattle.jc_code.specs.steps.KindView.{kind_view, kinds_in}
use Rattle.jc_code.specs.steps.KindsView.{kinds_view}
use Rattle.jc_code.specs.steps.FrameView.{frame_view}
use Rattle.jc_code.proofs.ActEffects.{call_is}
use Rattle.jc_code.proofs.acts.call.Goals as goal

pub returns : goal.returns
returns c = rw c.in_ok-push_result.ensures (call_is (around_view c.args.a) c.args.act (member_view c.args.m) (frame_view c.args.frame.now) (kinds_view c.in-Some.kinds) (kinds_in c.in-Some-2.args.items) (kinds_in c.take.new.stack.items) (kind_view c.in-Some-pop.top) (kinds_in c.pop.new.stack.items) _ c.len.result c.args.items.now.items c.push.new.self.items c.fit_all.new.items.items c.in_ok-fits.fits
    (c.len.ensures ∙ c.in-Some.kinds.params.ok.0 ∙ sym (length-map c.in-Some.kinds.params.items kind_view)) (sym (rw c.in-Some.is at c.in_ok-kinds.ensures)) (sym (rw c.in-Some-2.is at c.in_ok-args.ensures)) (sym c.in-Some-pop.ensures) (sym c.in-Some-receiver.ensures) (c.in_ok-push.ensures.items ∙ ap (λ (i : Item). c.args.items.now.items ++ i ∷ []) c.in_ok-use_of.ensures) (rw (c.as_slice.ensures.value, c.as_slice-2.ensures.value) at c.in_ok-fits.ensures))
