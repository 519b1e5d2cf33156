-- Classes of the new side below which the seats stand that stood below a class of the old one.
use Rattle.std.specs.Prelude.{ℕ, ◌<◌, ◌≡◌, Bool, true, false, List, length, slice_index_or, Option, None, Some, IfSome}
use Rattle.std.specs.List.{Contains}
use Rattle.jc_facts.specs.Names.{Bytes}
use Rattle.jc_facts.specs.world.World.{World, size}
use Rattle.jc_facts.specs.world.Hierarchy.{in_chain}
use Rattle.jc_facts.specs.world.Loading.{load_fault}
use Rattle.jc_index.specs.Ids.{name_at}
use Rattle.jc_sides.specs.SidesOf.{SidesOf}

-- there is a class here, and it is in the chain of b
abbrev pub covers : World → Option ℕ → Bytes → Bool
covers N None b = false
covers N (Some c) b = in_chain N b (name_at N c)

-- what loads and stands below x stands below y
abbrev pub IsWider : World → Bytes → Bytes → Type 0
IsWider N x y = (b : Bytes) → load_fault N b ≡ None → in_chain N b x ≡ true → in_chain N b y ≡ true

-- what loads and stands below the one, where there is one, stands below the class of number n
abbrev pub takes_in : World → Option ℕ → ℕ → Type 0
takes_in N o n = (b : Bytes) → load_fault N b ≡ None → covers N o b ≡ true → in_chain N b (name_at N n) ≡ true

-- what is kept of the class of number k
abbrev pub kept_of : List (Option ℕ) → ℕ → Option ℕ
kept_of places k = slice_index_or places k None

-- there is a place for each class of the old side, and what stands there is a class of the new one
pub record AreInside (O N : World) (common : List (Option ℕ)) : Type 0 where
  pub count : length common ≡ size O
  pub within : (k : ℕ) → IfSome (kept_of common k) (λ c. c < size N)

-- the class a of the old side stands below what is kept of each class that it stood below
abbrev pub IsCovered : World → World → List (Option ℕ) → Bytes → Type 0
IsCovered O N common a = (k : ℕ) → k < size O → in_chain O a (name_at O k) ≡ true → covers N (kept_of common k) a ≡ true

-- those that have been added have their numbers on the new side here, and are covered
pub record AreAdded (O N : World) (common added : List (Option ℕ)) : Type 0 where
  pub count : length added ≡ size O
  pub within : (k : ℕ) → IfSome (kept_of added k) (λ c. c < size N)
  pub named : (k c : ℕ) → kept_of added k ≡ Some c → name_at N c ≡ name_at O k
  pub covered : (k c : ℕ) → kept_of added k ≡ Some c → IsCovered O N common (name_at O k)
  pub loads : (k c : ℕ) → kept_of added k ≡ Some c → load_fault N (name_at O k) ≡ None

-- what stood below what was kept stands below what is kept now
abbrev pub AreWider : World → List (Option ℕ) → List (Option ℕ) → Type 0
AreWider N before after = (b : Bytes) → load_fault N b ≡ None → (k : ℕ) → covers N (kept_of before k) b ≡ true → covers N (kept_of after k) b ≡ true

-- what is kept now covers a too
pub record Widens (O N : World) (a : Bytes) (before after : List (Option ℕ)) : Type 0 where
  pub inside : AreInside O N after
  pub wider : AreWider N before after
  pub covered : IsCovered O N after a

-- all of these are covered
pub record AreCommon (O N : World) (seats : List Bytes) (common : List (Option ℕ)) : Type 0 where
  pub inside : AreInside O N common
  pub covered : (a : Bytes) → Contains seats a → IsCovered O N common a

-- it loads on both sides
abbrev pub LoadsOnBoth : SidesOf → Bytes → Type 0
LoadsOnBoth s x = (load_fault s.old x ≡ None) × (load_fault s.new x ≡ None)
