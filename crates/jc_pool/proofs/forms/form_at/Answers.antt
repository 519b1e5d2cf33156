use Rattle.std.proofs.Common.{◌<◌, ◌∙◌, ap, length, arith}
use Rattle.jc_desc.specs.Pool.{Slot}
use Rattle.jc_pool.specs.Slots.{slots_of}
use Rattle.jc_pool.proofs.Known.{one_known}
use Rattle.jc_pool.proofs.forms.form_at.Goals as goal

pub returns-clause-known : goal.returns-clause-known
returns-clause-known g c =
    let inside : c.args.index < length c.args.known.now.items = omega (arith, c.if-i-len.false, c.len.ensures) in
    one_known g.F.Form.form_in (slots_of c.args.slots.now) c.args.known.now.items c.args.index c.of-form.result inside (c.of-form.ensures ∙ ap (λ (s : Slot). g.F.Form.form_in s.body) c.at.ensures) c.requires
