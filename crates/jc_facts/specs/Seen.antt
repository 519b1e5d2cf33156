-- The keys of the members before.
use Rattle.std.specs.Prelude.{◌≡◌, List}
use Rattle.std.specs.BTreeSet as sorted
use Rattle.jc_facts.specs.declared.key.Key.{Key}
use Rattle.jc_facts.specs.file.Valid.{has_key}
use Rattle.jc_facts.specs.KeyOrder.{key_cmp}

-- the set has the keys that were seen
abbrev pub Holds : sorted.BTreeSet Key → List Key → Type 0
Holds keys seen = (q : Key) → sorted.contains key_cmp keys q ≡ has_key q seen
