use Rattle.std.proofs.Common.{[], ◌∷◌, ◌++◌, sym, ap, ◌∙◌}
use Rattle.jc_facts.specs.declared.client.Item.{Item}
use Rattle.jc_pool.specs.Views.{member_view}
use Rattle.jc_code.specs.steps.Views.{around_view}
use Rattle.jc_code.specs.steps.KindView.{kind_view, kinds_in}
use Rattle.jc_code.specs.steps.FrameView.{frame_view}
use Rattle.jc_code.proofs.ActEffects.{put_field_is}
use Rattle.jc_code.proofs.acts.put_field.Goals as goal

pub returns : goal.returns
returns c = put_field_is (around_view c.args.a) (member_view c.args.m) (frame_view c.args.frame.now) (kind_view c.in-Some.kind) (kind_view c.in-Some-pop.value) (kinds_in c.pop.new.stack.items) (kind_view c.in-Some-pop-2.top) (kinds_in c.pop-2.new.stack.items) _ c.args.items.now.items c.push.new.self.items c.fit.new.items.items c.in_ok-fits.fits
    (sym c.in-Some.ensures) (sym c.in-Some-pop.ensures) (sym c.in-Some-pop-2.ensures) (sym c.in-Some-receiver.ensures) (c.in_ok-push.ensures.items ∙ ap (λ (i : Item). c.args.items.now.items ++ i ∷ []) c.in_ok-use_of.ensures) c.in_ok-fits.ensures
