use Rattle.std.proofs.Common.{Some, refl, sym, ap, ◌∙◌}
use Rattle.jc_sig.proofs.SignedMaps.{added}
use Rattle.jc_sig.proofs.signed.add.Goals as goal

pub returns-in_ok-insert-in-Some : goal.returns-in_ok-insert-in-Some
returns-in_ok-insert-in-Some c = added c.args.signed.now c.args.signed c.of_key.result c.args.by_key.now c.insert.new.self refl (c.in-Some.is ∙ ap Some (sym c.of_key.ensures)) c.in_ok-insert-in-Some.ensures.updates
