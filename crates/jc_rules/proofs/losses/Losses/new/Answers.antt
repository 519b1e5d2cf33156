use Rattle.jc_rules.proofs.JoinedFlags.{matter_wanted, others_wanted}
use Rattle.jc_rules.proofs.losses.Losses.new.Goals as goal

pub returns-clause-losses : goal.returns-clause-losses
returns-clause-losses c = record {
  losing = c.in_ok-losing.ensures;
  exposed = c.in_ok-exposed.ensures.exposed;
  wanted = matter_wanted c.args.sides.now c.in_ok-wanted.wanted.items c.args.others.now c.join.new.flags.items c.in_ok-exposed.exposed c.join.ensures c.in_ok-exposed.ensures.wanted c.in_ok-wanted.ensures;
}

pub returns-clause-others : goal.returns-clause-others
returns-clause-others c =
    others_wanted c.args.sides.now c.in_ok-wanted.wanted.items c.args.others.now c.join.new.flags.items c.in_ok-exposed.exposed c.join.ensures c.in_ok-exposed.ensures.wanted c.in_ok-wanted.ensures
