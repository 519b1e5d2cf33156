use Rattle.jc_commands.proofs.TwoInOne.{together_for, apart_for}
use Rattle.jc_commands.proofs.clients.ground_in.Goals as goal

pub returns-in-Ok-clause-made : goal.returns-in-Ok-clause-made
returns-in-Ok-clause-made c =
    rw c.in-One.is (together_for c.args.platform.now c.args.records.items c.in-Ok.made c.in-Ok.ensures.built c.in-Ok.ensures.lists c.requires.platform c.requires.records)

pub returns-in-Ok-apart-clause-made : goal.returns-in-Ok-apart-clause-made
returns-in-Ok-apart-clause-made c =
    rw c.in-Several.is
    (apart_for c.in-Several.exports c.args.platform.now c.args.records.items c.in-Ok-apart.made c.in-Ok-apart.ensures.built c.in-Ok-apart.ensures.lists c.requires.platform c.requires.records)
