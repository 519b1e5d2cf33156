-- Lists of keys, while they are collected.
use Rattle.std.specs.Prelude.{Bool, true, List, ◌≡◌, ◌||◌, ◌&&◌}
use Rattle.std.specs.List.{list_any, Contains}
use Rattle.jc_facts.specs.declared.class_facts.Member.{Member}
use Rattle.jc_facts.specs.declared.key.Key.{Key}
use Rattle.jc_facts.specs.Names.{is_key}
use Rattle.jc_facts.specs.file.Valid.{has_key}
use Rattle.jc_facts.specs.Exactly.{Rises}
use Rattle.jc_facts.specs.KeyOrder.{key_cmp}

-- the list after has the keys before, and those that are listed
pub record AddsKeys (listed : Key → Bool) (before after : List Key) : Type 0 where
  pub has : (q : Key) → has_key q after ≡ (has_key q before || listed q)

-- one of the members passes, and has the key
abbrev pub has_member : (Member → Bool) → List Member → Key → Bool
has_member test ms q = list_any (λ m. test m && is_key q m) ms

-- the keys, each once, in their order
pub record AreInOrder (keys sorted : List Key) : Type 0 where
  pub in_order : Rises key_cmp sorted
  pub each : (k : Key) → has_key k keys ≡ true → Contains sorted k
