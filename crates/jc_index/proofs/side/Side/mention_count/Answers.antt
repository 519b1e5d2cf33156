use Rattle.std.proofs.Common.{◌≡◌, ◌+◌, ℕ, List, length, sym, ◌∙◌, ap}
use Rattle.jc_facts.specs.declared.class_facts.ClassFacts.{ClassFacts}
use Rattle.jc_facts.specs.world.Mentioned.{all_mentions}
use Rattle.jc_index.proofs.InSide.{platform_is, mentions_of_both}
use Rattle.jc_index.proofs.side.Side.mention_count.Goals as goal

pub returns-clause-count : goal.returns-clause-count
returns-clause-count c =
    let platform : List ClassFacts = c.self.inside.platform in
    let first : c.mention_count.result ≡ length (all_mentions platform) =
    c.mention_count.ensures.count ∙ ap (λ (cs : List ClassFacts). length (all_mentions cs)) (c.platform.ensures ∙ sym (platform_is c.self.inside c.args.self.now c.self.view_is))
    in
    ap (λ (n : ℕ). n + c.mention_count-2.result) first ∙ ap (λ (n : ℕ). length (all_mentions platform) + n) c.mention_count-2.ensures.count
    ∙ mentions_of_both c.self.inside c.args.self.now c.self.view_is
