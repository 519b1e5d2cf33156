use Rattle.jc_index.proofs.Shares.{put-parts}
use Rattle.jc_index.proofs.parts.make.Goals as goal

pub returns-clause-parts : goal.returns-clause-parts
returns-clause-parts c =
    put-parts c.args.edges.now c.args.ids.now.items c.part_of.new.ids.items c.args.parts.now c.requires.parts c.args.n c.in_ok-part.part c.requires.number c.in_ok-part.ensures.extends
    c.in_ok-part.ensures.part
