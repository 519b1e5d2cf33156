-- Lists in order, which have just what they should.
use Rattle.std.specs.Prelude.{List, [], ◌∷◌, ◌≡◌}
use Rattle.std.specs.List.{Contains, All, AllByRecursion}
use Rattle.std.specs.declared.cmp.Ordering.{Ordering}
use Rattle.std.specs.declared.cmp.Ordering.TheVariants.{Less}
use Rattle.std.specs.Ordering.{nat_cmp}
use Rattle.std.specs.Cmp.Lexicographic.{slice_cmp}
use Rattle.jc_facts.specs.Names.{Bytes}

-- names in byte order
abbrev pub name_order : Bytes → Bytes → Ordering
name_order = slice_cmp nat_cmp

-- x stands before y in the order of bytes
abbrev pub Before : Bytes → Bytes → Type 0
Before x y = slice_cmp nat_cmp x y ≡ Less

-- things in byte order of their names
abbrev pub by_names : {A : Type 0} → (A → Bytes) → A → A → Ordering
by_names name x y = slice_cmp nat_cmp (name x) (name y)

-- each item stands before all later ones
unfoldable pub Rises : {A : Type 0} → (A → A → Ordering) → List A → Type 0
Rises order [] = Unit {0}
Rises order (x ∷ xs) = AllByRecursion (λ y. order x y ≡ Less) xs × Rises order xs

-- each name is before all later ones
abbrev pub NamesRise : {A : Type 0} → (A → Bytes) → List A → Type 0
NamesRise name xs = Rises (by_names name) xs

-- the list has each item that stands once, in order, and no other
pub record HasExactly {A : Type 0} (order : A → A → Ordering) (Stand : A → Type 0) (xs : List A) : Type 0 where
  pub in_order : Rises order xs
  pub sound : All Stand xs
  pub complete : (x : A) → Stand x → Contains xs x
