-- Where to look for what exposes a class: the keys that a usable class or one above it declares.
use Rattle.std.specs.Prelude.{Bool, List, [], ◌&&◌, ◌≡◌}
use Rattle.std.specs.List.{list_any, flat_map, All}
use Rattle.jc_facts.specs.declared.class_facts.ClassFacts.{ClassFacts}
use Rattle.jc_facts.specs.declared.key.Key.{Key}
use Rattle.jc_facts.specs.Names.{Bytes}
use Rattle.jc_facts.specs.world.World.{World, classes}
use Rattle.jc_facts.specs.world.Root.{HasRoot}
use Rattle.jc_facts.specs.file.Valid.{IsValidClass}
use Rattle.jc_promises.specs.rule.Bases.{is_class_usable}
use Rattle.jc_promises.specs.rule.Exposed.{is_hidden, is_exposed, keys_of, exposes}
use Rattle.jc_worlds.specs.Hierarchy.{above}

-- the keys that the class or one above it declares
abbrev pub keys_above : World → Bytes → List Key
keys_above O x = flat_map keys_of (above O x)

-- one of them, with the usable class c, exposes the class x to the seat a
abbrev pub exposes_by : World → Bytes → Bytes → ClassFacts → Bool
exposes_by O a x c = is_class_usable O c.name && list_any (λ k. exposes O a x (record { «class» = c.name; key = k })) (keys_above O c.name)

-- On a side of valid classes no other key has to be looked at.
abbrev pub ExposedByKeysAbove : Type 0
ExposedByKeysAbove = (O : World) → O.clients ≡ [] → HasRoot O.platform → All IsValidClass O.platform → All IsValidClass O.release → (a x : Bytes)
    → is_exposed O a x ≡ (is_hidden O x && list_any (exposes_by O a x) (classes O))
