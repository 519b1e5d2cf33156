-- Looking for the first act that exposes a class.
use Rattle.std.specs.Prelude.{◌≡◌, ◌<◌, ◌&&◌, ℕ, Bool, true, false, List, Option, None, Some, take, is_none}
use Rattle.std.specs.List.{list_any}
use Rattle.jc_desc.specs.Classes.{descriptor_names}
use Rattle.jc_facts.specs.declared.act.Act.{Act}
use Rattle.jc_facts.specs.declared.class_facts.ClassFacts.{ClassFacts}
use Rattle.jc_facts.specs.declared.key.Key.{Key}
use Rattle.jc_facts.specs.Names.{Bytes}
use Rattle.jc_facts.specs.Options.{some_and}
use Rattle.jc_promises.specs.rule.Exposed.{keys_of}
use Rattle.jc_promises.specs.rule.OpenActs.{act_fault}
use Rattle.jc_facts.specs.world.World.{World, size, find_class}
use Rattle.jc_index.specs.Ids.{name_at, names}
use Rattle.jc_exposed.specs.Exposing.{opens}

-- the act on the key and the class c is open to the seat a
abbrev pub is_act_open : World → Bytes → Bytes → Key → Act → Bool
is_act_open W a c k what = is_none (act_fault W a c k what)

-- an act on the key and the class c is, and the key passes
abbrev pub has_open : World → Bytes → Bytes → (Key → Bool) → Key → Bool
has_open W a c g k = opens W c a k && g k

-- such a key of the class d names the class x
abbrev pub names_open : World → Bytes → Bytes → Bytes → (Key → Bool) → ClassFacts → Bool
names_open W a x c g d = list_any (λ k. descriptor_names k.descriptor x && has_open W a c g k) (keys_of d)

-- the same of the class of this name
abbrev pub has_open_at : World → Bytes → Bytes → Bytes → (Key → Bool) → Bytes → Bool
has_open_at W a x c g y = some_and (names_open W a x c g) (find_class W y)

-- whatever is asked of keys, one of these passes exactly where p says so
pub record Collects (p : (Key → Bool) → Bool) (ks : List Key) : Type 0 where
  pub exact : (g : Key → Bool) → list_any g ks ≡ p g

-- the name of the class of number n is the first that passes
pub record IsFirstAt (W : World) (p : Bytes → Bool) (n : ℕ) : Type 0 where
  pub inside : n < size W
  pub passes : p (name_at W n) ≡ true
  pub before : list_any p (take n (names W)) ≡ false

-- so is that of this number, and where there is none no name passes
abbrev pub IsFirstThrough : World → (Bytes → Bool) → Option ℕ → Type 0
IsFirstThrough W p None = list_any p (names W) ≡ false
IsFirstThrough W p (Some n) = IsFirstAt W p n
