-- The members of the classes that have rows, by the numbers of their keys.
use Rattle.std.specs.Prelude.{ℕ, ◌≡◌, ◌<◌, ◌++◌, List, [], ◌∷◌, length, map, drop, Option, None, Some, slice_get, slice_index_or}
use Rattle.jc_facts.specs.declared.class_facts.ClassFacts.{ClassFacts}
use Rattle.jc_facts.specs.declared.class_facts.Member.{Member}
use Rattle.jc_facts.specs.declared.key.Key.{Key}
use Rattle.jc_facts.specs.Names.{key_of}
use Rattle.jc_facts.specs.world.World.{World, size}
use Rattle.jc_index.specs.Ids.{name_at, names}
use Rattle.jc_rows.specs.declared.row.RowItem.{RowItem}
use Rattle.jc_rows.specs.declared.numbering.Numbering.{Numbering}
use Rattle.jc_rows.specs.Keys.{with_keys_of, with_all_keys, numbered_keys, class_with_rows}

-- the numbers of the members' keys, in the order of the members
abbrev pub AreNumbers : List Key → List Member → List ℕ → Type 0
AreNumbers keys members numbers = map (slice_get keys) numbers ≡ map (λ m. Some (key_of m)) members

-- for each class that has rows the numbers of the keys of its members
pub record HasNumbers (W : World) (keys : List Key) (members : ClassFacts → List Member) (numbers : List (List ℕ)) : Type 0 where
  pub count : length numbers ≡ size W
  pub right : (n : ℕ) (c : ClassFacts) → n < size W → class_with_rows W (name_at W n) ≡ Some c → AreNumbers keys (members c) (slice_index_or numbers n [])

-- all keys are numbered, and each class has the numbers of its fields' and of its methods' keys
pub record IsNumbering (W : World) (numbering : Numbering) : Type 0 where
  pub keys : numbering.keys ≡ numbered_keys W
  pub fields : HasNumbers W (numbered_keys W) (λ c. c.fields) numbering.fields.items
  pub methods : HasNumbers W (numbered_keys W) (λ c. c.methods) numbering.methods.items

-- the members as items of a row, by the numbers of their keys
abbrev pub items_of : ℕ → List ℕ → List Member → List RowItem
items_of class [] members = []
items_of class (n ∷ ns) [] = []
items_of class (n ∷ ns) (m ∷ ms) = record { key = n; found = record { owner = class; flags = m.flags } } ∷ items_of class ns ms

-- ---- one class after the other

-- a list of numbers more, which are those of these members' keys
pub record AddsNumbers (keys : List Key) (members : List Member) (before after : List (List ℕ)) : Type 0 where
  pub numbers : List ℕ
  pub added : after ≡ before ++ numbers ∷ []
  pub right : AreNumbers keys members numbers

-- the members of the class, where there is one
abbrev pub members_in : (ClassFacts → List Member) → Option ClassFacts → List Member
members_in members None = []
members_in members (Some c) = members c

-- the class is numbered too; where there is none, an empty list of numbers stands for it
pub record AddsClass (before : Numbering) (o : Option ClassFacts) (after : Numbering) : Type 0 where
  pub keys : after.keys ≡ with_keys_of before.keys o
  pub fields : AddsNumbers after.keys (members_in (λ c. c.fields) o) before.fields.items after.fields.items
  pub methods : AddsNumbers after.keys (members_in (λ c. c.methods) o) before.methods.items after.methods.items

-- of the first n classes those that have rows have the numbers of the keys of their members
pub record HasNumbersBefore (W : World) (keys : List Key) (members : ClassFacts → List Member) (done : ℕ) (numbers : List (List ℕ)) : Type 0 where
  pub count : length numbers ≡ done
  pub right : (n : ℕ) (c : ClassFacts) → n < done → class_with_rows W (name_at W n) ≡ Some c → AreNumbers keys (members c) (slice_index_or numbers n [])

-- so many classes are numbered
pub record IsNumberingBefore (W : World) (done : ℕ) (numbering : Numbering) : Type 0 where
  pub keys : with_all_keys W numbering.keys (drop done (names W)) ≡ with_all_keys W [] (names W)
  pub fields : HasNumbersBefore W numbering.keys (λ c. c.fields) done numbering.fields.items
  pub methods : HasNumbersBefore W numbering.keys (λ c. c.methods) done numbering.methods.items
