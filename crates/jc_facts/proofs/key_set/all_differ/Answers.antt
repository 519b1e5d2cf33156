use Rattle.std.proofs.Common.{List, [], ap, ◌∙◌}
use Rattle.jc_facts.specs.declared.key.Key.{Key}
use Rattle.jc_facts.specs.file.Valid.{keys_differ}
use Rattle.jc_facts.proofs.Keys.{differ_is}
use Rattle.jc_facts.proofs.key_set.all_differ.Goals as goal

pub loop-key-init : goal.loop-key-init
loop-key-init c = (
  [],
  λ q. (let e = c.new-seen.ensures.empty in cc),
  differ_is c.into_iter-key-iterator.result.rest.items ∙ ap (λ (ks : List Key). keys_differ ks) c.into_iter-key-iterator.ensures.into_iter_gives.0,
)
