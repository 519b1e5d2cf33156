-- The classes of the names that a class has above itself.
use Rattle.std.proofs.Common.{◌≡◌, ◌<◌, ◌≤◌, ◌+◌, ℕ, zero, suc, List, [], ◌∷◌, cond, length, get_or, map, refl, ◌∙◌, ap, subst, arith, Option, Some, None, ◌⊎◌, inl, inr}
use Rattle.std.specs.Prelude.{slice_get, is_some}
use Rattle.std.proofs.lemmas.Option.{slice_get_cases}
use Rattle.jc_facts.specs.declared.class_facts.ClassFacts.{ClassFacts}
use Rattle.jc_facts.specs.Names.{Bytes}
use Rattle.jc_facts.specs.Options.{and_then}
use Rattle.jc_facts.specs.world.Search.{supers, supers_of}
use Rattle.jc_facts.specs.world.World.{World, find_class}
use Rattle.jc_index.specs.Ids.{name_at, id_of}
use Rattle.jc_index.proofs.Numbers.{found-by, find-None}

-- ---- one of the names

-- the name at a place, and its number
pub record IsNumbered (W : World) (xs : List Bytes) (i : ℕ) (o : Option ℕ) : Type 0 where
  pub name : Bytes
  pub there : slice_get xs i ≡ Some name
  pub numbered : o ≡ id_of W name

pub name-above : (W : World) (xs : List Bytes) (i : ℕ) (o : Option ℕ) → i < length xs → o ≡ and_then (id_of W) (slice_get xs i) → IsNumbered W xs i o
unfolding and_then
name-above W xs i o l e = go (slice_get_cases xs i).1
  where
    go : ((x : Bytes) × (i < length xs) × (slice_get xs i ≡ Some x) × (get_or xs i x ≡ x)) ⊎ ((length xs ≤ i) × (slice_get xs i ≡ None)) → IsNumbered W xs i o
    go (inl x) = record { name = x.0; there = x.2; numbered = e ∙ ap (and_then (id_of W)) x.2 }
    go (inr x) = absurd (let k = x.0 in omega arith)

-- ---- what a test of a class gives, by the number of its name

pub none-named : {A : Type 0} (W : World) (test : ClassFacts → Option A) (x : Bytes) → id_of W x ≡ None → and_then test (find_class W x) ≡ None
unfolding and_then
none-named W test x e = ap (and_then test) (find-None W x e)

pub one-named : {A : Type 0} (W : World) (test : ClassFacts → Option A) (x : Bytes) (n : ℕ) (c : ClassFacts) → id_of W x ≡ Some n → Some c ≡ find_class W (name_at W n) → and_then test (find_class W x) ≡ test c
unfolding and_then
one-named W test x n c e f = ap (and_then test) (found-by W x n c e f)

-- the same of the superclass
pub none-super : {A : Type 0} (W : World) (test : ClassFacts → Option A) (s : Option Bytes) → and_then (id_of W) s ≡ None → and_then (λ y. and_then test (find_class W y)) s ≡ None
unfolding and_then
none-super W test None e = refl
none-super W test (Some y) e = none-named W test y e

pub one-super : {A : Type 0} (W : World) (test : ClassFacts → Option A) (s : Option Bytes) (n : ℕ) (c : ClassFacts) → and_then (id_of W) s ≡ Some n → Some c ≡ find_class W (name_at W n)
    → and_then (λ y. and_then test (find_class W y)) s ≡ test c
unfolding and_then
one-super W test None n c e f = absurd (let clash : None ≡ Some n = e in cc)
one-super W test (Some y) n c e f = one-named W test y n c e f

-- ---- the class of the name at a place

pub class-at : (f : Bytes → Option ℕ) (xs : List Bytes) (i : ℕ) → and_then (λ (o : Option ℕ). o) (slice_get (map f xs) i) ≡ and_then f (slice_get xs i)
unfolding and_then
class-at f [] i = refl
class-at f (x ∷ xs) zero = refl
class-at f (x ∷ xs) (suc i) = class-at f xs i

module _ (W : World) (is : List Bytes) (o : Option Bytes) where
  -- the superclass stands first
  pub super-first : (s : Bytes) (i : ℕ) → o ≡ Some s → i ≡ 0 → and_then (id_of W) o ≡ and_then (id_of W) (slice_get (supers_of o is) i)
  super-first s i e z = rw (e, z) refl

  pub interface-next : (s : Bytes) (i k : ℕ) → o ≡ Some s → i ≡ suc k → and_then (id_of W) (slice_get is k) ≡ and_then (id_of W) (slice_get (supers_of o is) i)
  interface-next s i k e z = rw (e, z) refl

  -- without a superclass the interfaces stand first
  pub interface-alone : (i : ℕ) → o ≡ None → and_then (id_of W) (slice_get is i) ≡ and_then (id_of W) (slice_get (supers_of o is) i)
  interface-alone i e = rw e refl

-- ---- the names above a class, the superclass first

-- the superclass is the first
pub first-above : (W : World) (x : Bytes) (c : ClassFacts) (name : Bytes) → Some c ≡ find_class W x → c.superclass ≡ Some name → (d : ClassFacts) → find_class W x ≡ Some d → slice_get (supers d) 0 ≡ Some name
first-above W x c name f s d e =
    let same : Some c ≡ Some d = f ∙ e in
    let is : c ≡ d = cc in
    subst (λ (b : ClassFacts). slice_get (supers b) 0 ≡ Some name) is (ap (λ (o : Option Bytes). slice_get (supers_of o c.interfaces) 0) s)

-- so many stand before the interfaces
interface-behind : (s : Option Bytes) (is : List Bytes) (at : ℕ) → slice_get (supers_of s is) (cond (is_some s) 1 0 + at) ≡ slice_get is at
interface-behind None is at = ap (slice_get is) (let e : 0 + at ≡ at = omega arith in e)
interface-behind (Some x) is at = ap (slice_get (x ∷ is)) (let e : 1 + at ≡ suc at = omega arith in e)

pub interface-above : (W : World) (x : Bytes) (c : ClassFacts) (before at : ℕ) (name : Bytes) → Some c ≡ find_class W x → before ≡ cond (is_some c.superclass) 1 0 → slice_get c.interfaces at ≡ Some name
    → (d : ClassFacts) → find_class W x ≡ Some d → slice_get (supers d) (before + at) ≡ Some name
interface-above W x c before at name f b s d e =
    let same : Some c ≡ Some d = f ∙ e in
    let is : c ≡ d = cc in
    subst (λ (y : ClassFacts). slice_get (supers y) (before + at) ≡ Some name) is
    (ap (λ (n : ℕ). slice_get (supers c) (n + at)) b ∙ interface-behind c.superclass c.interfaces at ∙ s)
