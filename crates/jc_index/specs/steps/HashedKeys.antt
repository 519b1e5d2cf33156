-- Keys that are collected, each once.
use Rattle.std.specs.Prelude.{◌≡◌, true, cond, List, [], ◌∷◌, ◌++◌}
use Rattle.jc_facts.specs.declared.key.Key.{Key}
use Rattle.jc_facts.specs.Names.{Bytes, is_name_among}
use Rattle.jc_facts.specs.file.Valid.{has_key}

-- the keys, and this one at the end where it isn't among them
abbrev pub with_one : List Key → Key → List Key
with_one keys k = cond (has_key k keys) keys (keys ++ k ∷ [])

-- the name of each key is one of these
abbrev pub HaveNames : List Bytes → List Key → Type 0
HaveNames names keys = (q : Key) → has_key q keys ≡ true → is_name_among names q.name ≡ true
