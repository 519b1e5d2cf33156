-- What an index keeps of each class: one thing of its name.
use Rattle.std.proofs.Common.{◌≡◌, ◌<◌, ◌≤◌, ◌+◌, ℕ, List, [], ◌∷◌, ◌++◌, length, get_or, map, take, refl, sym, ◌∙◌, ap, subst, arith, Option, Some, None}
use Rattle.std.specs.Prelude.{IfSome}
use Rattle.std.specs.List.{All, filter_map, cons_option}
use Rattle.std.proofs.lemmas.List.{map-append, get_or-map, length-map, take_more, take_all}
use Rattle.jc_facts.specs.declared.class_facts.ClassFacts.{ClassFacts}
use Rattle.jc_facts.specs.Names.{Bytes}
use Rattle.jc_facts.specs.Options.{and_then}
use Rattle.jc_facts.specs.world.World.{World, size, find_class}
use Rattle.jc_index.specs.Ids.{names, name_at, id_of, superclass_of}
use Rattle.jc_index.specs.Interfaces.{interfaces_by, interfaces_of}
use Rattle.jc_index.specs.steps.Named.{named_by}
use Rattle.jc_index.proofs.Numbers.{names-length, id_of-Some}

-- ---- a column: what f gives of each name, in order

module _ {A : Type 0} (W : World) (f : Bytes → A) where
  pub column-more : (column : List A) (n k : ℕ) (x : A) → n < size W → k ≡ n → column ≡ map f (take n (names W)) → x ≡ f (name_at W k) → column ++ x ∷ [] ≡ map f (take (n + 1) (names W))
  column-more column n k x l e h t =
      let m : n < length (names W) = subst (λ j. n < j) (sym (names-length W)) l in
      ap (λ (xs : List A). xs ++ x ∷ []) h ∙ ap (λ (y : A). map f (take n (names W)) ++ y ∷ []) (t ∙ ap (λ j. f (name_at W j)) e)
      ∙ sym (map-append f (take n (names W)) (name_at W n ∷ [])) ∙ ap (map f) (sym (take_more (names W) n [] m))

  pub column-all : (column : List A) (n : ℕ) → size W ≤ n → column ≡ map f (take n (names W)) → column ≡ map f (names W)
  column-all column n l h = h ∙ ap (map f) (take_all n (names W) (subst (λ j. j ≤ n) (sym (names-length W)) l))

  pub column-length : (column : List A) → column ≡ map f (names W) → length column ≡ size W
  column-length column h = ap length h ∙ length-map (names W) f ∙ names-length W

  pub column-at : (column : List A) (n : ℕ) (d : A) → column ≡ map f (names W) → n < size W → get_or column n d ≡ f (name_at W n)
  column-at column n d h l =
      let k : n < length (names W) = let m = names-length W in omega arith in
      ap (λ xs. get_or xs n d) h ∙ get_or-map f (names W) n [] d k

-- ---- superclasses

-- the number of a superclass is one of the world's
pub super-below : (W : World) (x : Bytes) (k : ℕ) → superclass_of W x ≡ Some k → k < size W
unfolding superclass_of and_then
super-below W x k h = go (find_class W x) h
  where
    by : (s : Option Bytes) → and_then (id_of W) s ≡ Some k → k < size W
    by None e = absurd (let clash : None ≡ Some k = e in cc)
    by (Some y) e = (id_of-Some W y k e).0

    go : (o : Option ClassFacts) → and_then (λ c. and_then (id_of W) c.superclass) o ≡ Some k → k < size W
    go None e = absurd (let clash : None ≡ Some k = e in cc)
    go (Some c) e = by c.superclass e

pub super-some : (W : World) (x : Bytes) (o : Option ℕ) → o ≡ superclass_of W x → IfSome o (λ id. id < size W)
super-some W x None e = tt
super-some W x (Some k) e = super-below W x k (sym e)

-- ---- interfaces

-- the class of a name is one of the world's
pub id-below : (W : World) (x : Bytes) (o : Option ℕ) → id_of W x ≡ o → IfSome o (λ id. id < size W)
id-below W x None e = tt
id-below W x (Some k) e = (id_of-Some W x k e).0

-- the classes of what the class names as its interfaces
pub interfaces_is : (W : World) (x : Bytes) (c : ClassFacts) → Some c ≡ find_class W x → interfaces_of W x ≡ map (id_of W) c.interfaces
unfolding interfaces_of
interfaces_is W x c e = ap (interfaces_by W) (sym e)

ids-below : (W : World) (xs : List Bytes) → All (λ o. IfSome o (λ id. id < size W)) (map (id_of W) xs)
ids-below W xs i d l =
    let k : i < length xs = subst (λ m. i < m) (length-map xs (id_of W)) l in
    subst (λ (o : Option ℕ). IfSome o (λ id. id < size W)) (sym (get_or-map (id_of W) xs i [] d k)) (id-below W (get_or xs i []) (id_of W (get_or xs i [])) refl)

-- they are the world's
pub interfaces-below : (W : World) (x : Bytes) → All (λ o. IfSome o (λ id. id < size W)) (interfaces_of W x)
unfolding interfaces_of
interfaces-below W x = go (find_class W x)
  where
    go : (o : Option ClassFacts) → All (λ o. IfSome o (λ id. id < size W)) (interfaces_by W o)
    go None = λ i d l. absurd (let k : i < 0 = l in omega arith)
    go (Some c) = ids-below W c.interfaces

-- those of them that are there
there : (W : World) (xs : List Bytes) → filter_map (λ id. id) (map (id_of W) xs) ≡ filter_map (id_of W) xs
there W [] = refl
there W (x ∷ xs) = ap (cons_option (id_of W x)) (there W xs)

pub named-there : (W : World) (x : Bytes) → filter_map (λ id. id) (interfaces_of W x) ≡ named_by W (find_class W x)
unfolding interfaces_of
named-there W x = go (find_class W x)
  where
    go : (o : Option ClassFacts) → filter_map (λ id. id) (interfaces_by W o) ≡ named_by W o
    go None = refl
    go (Some c) = there W c.interfaces

-- one of them is the class of the name at its place
pub interface-at : (W : World) (x : Bytes) (c : ClassFacts) (os : List (Option ℕ)) (i : ℕ) (o : Option ℕ) → Some c ≡ find_class W x → os ≡ interfaces_of W x → i < length os → o ≡ get_or os i o
    → (i < length c.interfaces) × (o ≡ id_of W (get_or c.interfaces i []))
interface-at W x c os i o f e l g =
    let h : os ≡ map (id_of W) c.interfaces = e ∙ interfaces_is W x c f in
    let k : i < length c.interfaces = subst (λ m. i < m) (ap length h ∙ length-map c.interfaces (id_of W)) l in
    (k, g ∙ ap (λ (ks : List (Option ℕ)). get_or ks i o) h ∙ get_or-map (id_of W) c.interfaces i [] o k)

pub interfaces-count : (W : World) (x : Bytes) (c : ClassFacts) (os : List (Option ℕ)) → Some c ≡ find_class W x → os ≡ interfaces_of W x → length os ≡ length c.interfaces
interfaces-count W x c os f e = ap length (e ∙ interfaces_is W x c f) ∙ length-map c.interfaces (id_of W)
