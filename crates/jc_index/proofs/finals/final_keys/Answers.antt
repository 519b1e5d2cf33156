use Rattle.std.proofs.Common.{List, sym, ◌∙◌, subst}
use Rattle.jc_facts.specs.declared.key.Key.{Key}
use Rattle.jc_facts.specs.world.World.{World}
use Rattle.jc_index.specs.steps.Walking.{HaveAllFinal, HavePlatformFinals}
use Rattle.jc_index.proofs.PlatformFinals.{finals-both}
use Rattle.jc_index.proofs.finals.final_keys.Goals as goal

pub returns : goal.returns
returns c =
    subst (λ (ks : List Key). HaveAllFinal c.args.index.now ks) (sym c.new-2.ensures)
    (finals-both c.args.index.now c.platform_finals.result.now c.in_ok-beside.beside (subst (λ (V : World). HavePlatformFinals V.platform c.platform_finals.result.now) c.side.ensures c.platform_finals.ensures)
    (λ k absent. c.in_ok-keys.ensures k (sym (c.in_ok-beside.ensures k) ∙ absent)))
