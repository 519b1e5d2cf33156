use Rattle.std.proofs.Common.{◌∙◌, List, ap, subst, sym}
use Rattle.jc_trees.specs.declared.tree_read.TreeRead.{TreeRead}
use Rattle.jc_trees.specs.declared.tree_read.TreeRead.TheVariants as reads
use Rattle.jc_releases.proofs.ReleasesOver.{IsNumbered, numbered_next}
use Rattle.jc_releases.proofs.releases.numbered_releases.Goals as goal

pub loop-read-preserved : goal.loop-read-preserved
loop-read-preserved c =
    rw c.in_ok-push.ensures.items
    (numbered_next c.args.all.items c.next.new.self.rest.items c.in-Some.read c.loop-read.number c.loop-read.releases.items c.from_vec.result
    (subst (λ (rest : List TreeRead). IsNumbered c.args.all.items rest c.loop-read.number c.loop-read.releases.items) c.in-Some.ensures.steps.0 c.loop-read.invariant)
    (c.into_records.ensures ∙ ap reads.Library (sym c.from_vec.ensures)))
