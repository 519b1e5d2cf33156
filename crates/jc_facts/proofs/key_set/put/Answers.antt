use Rattle.std.proofs.Common.{not, ap, ◌∙◌}
use Rattle.jc_facts.proofs.Keys.{put_holds}
use Rattle.jc_facts.proofs.key_set.put.Goals as goal

pub returns : goal.returns
returns c = λ seen h.
    (c.in_ok-new.ensures.added ∙ ap not (h c.args.key), put_holds c.args.keys.now c.insert.new.self c.args.key seen c.in_ok-new.ensures.updates h)
