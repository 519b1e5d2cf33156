use Rattle.jc_index.proofs.Shares.{still-parts}
use Rattle.jc_index.proofs.parts.part_of.Goals as goal

pub grown-requires-clause-parts : goal.grown-requires-clause-parts
grown-requires-clause-parts c = still-parts c.args.edges.now c.args.ids.now.items c.shared.new.ids.items c.args.parts.now c.in_ok-found.ensures.extends c.requires.parts
