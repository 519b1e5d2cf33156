use Rattle.jc_facts.proofs.Keys.{put_holds}
use Rattle.jc_sides.proofs.item_rule.put.Goals as goal

pub returns : goal.returns
returns c = λ seen h. put_holds c.args.set.now c.insert.new.self c.args.key seen c.in_ok-insert.ensures.updates h
