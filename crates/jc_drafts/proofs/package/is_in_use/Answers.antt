use Rattle.std.proofs.Common.{sym, ap, ◌∙◌, ◌||◌}
use Rattle.jc_index.specs.Mentioned.{mentions_front}
use Rattle.jc_drafts.proofs.Packages.{used_either}
use Rattle.jc_drafts.proofs.package.is_in_use.Goals as goal

pub returns : goal.returns
returns c =
    c.is_mentioned.ensures ∙ ap (λ x. mentions_front c.args.sides.now.old x || mentions_front c.args.sides.now.new x) (c.as_bytes.ensures ∙ c.in_ok-front.ensures)
    ∙ sym (used_either c.args.sides.now.old c.args.sides.now.new c.args.package.now)
