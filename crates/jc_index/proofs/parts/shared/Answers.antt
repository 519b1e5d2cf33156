use Rattle.std.proofs.Common.{IfSome, Option, Some, None}
use Rattle.jc_index.specs.declared.part.Part.{Part}
use Rattle.jc_index.specs.steps.Parts.{IsLonger, IsPartOf}
use Rattle.jc_index.proofs.Shares.{part-shared}
use Rattle.jc_index.proofs.parts.shared.Goals as goal

pub returns-clause-part : goal.returns-clause-part
returns-clause-part c = go c.in_ok-longer.longer c.in_ok-longer.ensures.longer
  where
    go : (found : Option Part) → IfSome found (λ longer. IsLonger c.longer.new.ids.items c.in-Some-parts.part c.in-Some.above longer) → IfSome found (λ part. IsPartOf c.args.edges.now c.longer.new.ids.items c.args.n part)
    go None h = tt
    go (Some more) h =
        part-shared c.args.edges.now c.args.ids.now.items c.longer.new.ids.items c.args.n c.in-Some.above c.in-Some-parts.part more c.in-Some.ensures.alone c.in_ok-longer.ensures.extends
        (c.requires.parts.right c.in-Some.above c.in-Some-parts.part c.in-Some-parts.is) h
