use Rattle.std.proofs.Common.{sym, ◌∙◌, ap}
use Rattle.jc_link.specs.Refusals.{first_refused}
use Rattle.jc_losses.specs.Ground.{side_of_ground}
use Rattle.jc_losses.specs.declared.grounds.Ground.{Ground}
use Rattle.jc_losses.proofs.InOneList.{same_in_modules}
use Rattle.jc_losses.proofs.over_ground.refused_by.Goals as goal

pub returns-in_ok-refused-in-Apart : goal.returns-in_ok-refused-in-Apart
returns-in_ok-refused-in-Apart c =
    (rw c.as_slice.ensures at c.in_ok-refused-in-Apart.ensures) ∙ sym (same_in_modules c.in-Apart.exports c.in-Apart.platform c.in-Apart.release c.args.clients.now)
    ∙ ap (λ (g : Ground). first_refused (side_of_ground g) c.args.clients.now) (sym c.in-Apart.is)
