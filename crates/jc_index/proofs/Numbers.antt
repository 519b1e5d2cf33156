-- The names of a side's classes in byte order, and their numbers.
use Rattle.std.proofs.Common.{◌≡◌, ◌≢◌, ℕ, zero, suc, ◌<◌, Bool, true, false, cond, ◌||◌, ◌&&◌, List, [], ◌∷◌, length, get_or, refl, sym, ◌∙◌, ap, subst, Option, Some, None, ◌⊎◌, inl, inr, arith, Ordering}
use Rattle.std.specs.Prelude.{is_some, is_none, option_map, IsTrue}
use Rattle.std.specs.List.{Contains}
use Rattle.std.specs.Ordering.{is_lt, is_eq, ordering_reverse}
use Rattle.std.specs.Cmp.Lexicographic.{nat_list_cmp_total}
use Rattle.std.specs.declared.cmp.Ordering.TheVariants.{Less, Equal, Greater}
use Rattle.std.proofs.lemmas.Map.Text.{is_eq-slice_cmp}
use Rattle.std.proofs.Math.Bool.{or-true}
use Rattle.jc_facts.specs.declared.class_facts.ClassFacts.{ClassFacts}
use Rattle.jc_facts.specs.Names.{Bytes, same}
use Rattle.jc_facts.specs.Options.{and_then}
use Rattle.jc_facts.specs.Exactly.{name_order, Rises}
use Rattle.jc_facts.specs.Exactly.{Before, NamesRise}
use Rattle.jc_facts.specs.world.World.{World, classes, size, find_class, class_named, differ_by_name}
use Rattle.jc_lemmas.proofs.Listed.{EachOf, EachOf-map, here, there, none, cases, each_in}
use Rattle.jc_facts.proofs.OneList.{not_self}
use Rattle.jc_facts.proofs.Same.{same_is, same_itself}
use Rattle.jc_facts.proofs.World.{class_named-name}
use Rattle.jc_index.specs.Ids.{insert, names_of, names, name_at, place_of, id_of, superclass_of}

-- ---- how many

insert-length : (x : Bytes) (ys : List Bytes) → length (insert x ys) ≡ suc (length ys)
unfolding insert
insert-length x [] = refl
insert-length x (y ∷ ys) = go (is_lt (name_order x y)) (insert-length x ys)
  where
    go : (b : Bool) → length (insert x ys) ≡ suc (length ys) → length (cond b (x ∷ y ∷ ys) (y ∷ insert x ys)) ≡ suc (suc (length ys))
    go true r = refl
    go false r = ap suc r

pub names_of-length : (cs : List ClassFacts) → length (names_of cs) ≡ length cs
unfolding names_of
names_of-length [] = refl
names_of-length (c ∷ cs) = insert-length c.name (names_of cs) ∙ ap suc (names_of-length cs)

-- there are as many names as classes
pub names-length : (W : World) → length (names W) ≡ size W
unfolding names size
names-length W = names_of-length (classes W)

-- ---- in order

insert-each : (P : Bytes → Type 0) (x : Bytes) (ys : List Bytes) → P x → EachOf P ys → EachOf P (insert x ys)
unfolding insert
insert-each P x [] h k = (h, tt)
insert-each P x (y ∷ ys) h k = go (is_lt (name_order x y)) (insert-each P x ys h k.1)
  where
    go : (b : Bool) → EachOf P (insert x ys) → EachOf P (cond b (x ∷ y ∷ ys) (y ∷ insert x ys))
    go true r = (h, k)
    go false r = (k.0, r)

insert-rises : (x : Bytes) (ys : List Bytes) → EachOf (λ y. x ≢ y) ys → NamesRise (λ (z : Bytes). z) ys → NamesRise (λ (z : Bytes). z) (insert x ys)
unfolding insert Rises
insert-rises x [] d r = (tt, tt)
insert-rises x (y ∷ ys) d r = go (name_order x y) refl (insert-rises x ys d.1 r.1)
  where
    further : Before x y → EachOf (λ z. Before x z) (y ∷ ys)
    further h = (h, EachOf-map (λ z k. nat_list_cmp_total.trans x y z h k) ys r.0)

    go : (o : Ordering) → name_order x y ≡ o → NamesRise (λ (z : Bytes). z) (insert x ys) → NamesRise (λ (z : Bytes). z) (cond (is_lt o) (x ∷ y ∷ ys) (y ∷ insert x ys))
    go Less e s = (further e, r)
    go Equal e s = absurd (d.0 (same_is x y (sym (is_eq-slice_cmp x y) ∙ ap is_eq e)))
    go Greater e s =
        let q : Before y x = nat_list_cmp_total.antisymm y x ∙ ap ordering_reverse e in
        (insert-each (λ z. Before y z) x ys q r.0, s)

pub and_true : (a b : Bool) → IsTrue (a && b) → IsTrue a × IsTrue b
and_true true b h = (refl, h)
and_true false b h = absurd (cc)

-- where no class has the name, it is none of the names
absent-each : (cs : List ClassFacts) (x : Bytes) → class_named cs x ≡ None → EachOf (λ y. x ≢ y) (names_of cs)
unfolding class_named names_of
absent-each [] x e = tt
absent-each (c ∷ cs) x e = go (same c.name x) refl e (absent-each cs x)
  where
    go : (b : Bool) → same c.name x ≡ b → cond b (Some c) (class_named cs x) ≡ None → (class_named cs x ≡ None → EachOf (λ y. x ≢ y) (names_of cs)) → EachOf (λ y. x ≢ y) (insert c.name (names_of cs))
    go true p q r = absurd (let clash : Some c ≡ None = q in cc)
    go false p q r = insert-each (λ y. x ≢ y) c.name (names_of cs) (λ is. let k : same c.name x ≡ true = ap (λ (z : Bytes). same c.name z) is ∙ same_itself c.name in absurd (cc)) (r q)

pub is_none-None : {A : Type 0} (o : Option A) → IsTrue (is_none o) → o ≡ None
is_none-None None h = refl
is_none-None (Some x) h = absurd (cc)

pub names_of-rise : (cs : List ClassFacts) → IsTrue (differ_by_name cs) → NamesRise (λ (z : Bytes). z) (names_of cs)
unfolding names_of differ_by_name Rises
names_of-rise [] h = tt
names_of-rise (c ∷ cs) h =
    let k = and_true (is_none (class_named cs c.name)) (differ_by_name cs) h in
    insert-rises c.name (names_of cs) (absent-each cs c.name (is_none-None (class_named cs c.name) k.0)) (names_of-rise cs k.1)

pub names_of-rest : (c : ClassFacts) (cs : List ClassFacts) → IsTrue (differ_by_name (c ∷ cs)) → IsTrue (differ_by_name cs)
unfolding differ_by_name
names_of-rest c cs h = (and_true (is_none (class_named cs c.name)) (differ_by_name cs) h).1

-- the names rise, where they differ
pub names-rise : (W : World) → IsTrue (differ_by_name (classes W)) → NamesRise (λ (z : Bytes). z) (names W)
unfolding names
names-rise W h = names_of-rise (classes W) h

-- ---- whose names they are

pub some-map : {A B : Type 0} (f : A → B) (o : Option A) → is_some (option_map f o) ≡ is_some o
some-map f None = refl
some-map f (Some x) = refl

place-first : (y : Bytes) (ys : List Bytes) (x : Bytes) → is_some (place_of (y ∷ ys) x) ≡ (same y x || is_some (place_of ys x))
unfolding place_of
place-first y ys x = go (same y x)
  where
    go : (b : Bool) → is_some (cond b (Some 0) (option_map suc (place_of ys x))) ≡ (b || is_some (place_of ys x))
    go true = refl
    go false = some-map suc (place_of ys x)

insert-place : (x : Bytes) (ys : List Bytes) (z : Bytes) → is_some (place_of (insert x ys) z) ≡ (same x z || is_some (place_of ys z))
unfolding insert
insert-place x [] z = place-first x [] z
insert-place x (y ∷ ys) z = go (is_lt (name_order x y)) (insert-place x ys z)
  where
    swap : (a b c : Bool) → (a || (b || c)) ≡ (b || (a || c))
    swap true true c = refl
    swap true false c = refl
    swap false true c = refl
    swap false false c = refl

    go : (b : Bool) → is_some (place_of (insert x ys) z) ≡ (same x z || is_some (place_of ys z)) → is_some (place_of (cond b (x ∷ y ∷ ys) (y ∷ insert x ys)) z) ≡ (same x z || is_some (place_of (y ∷ ys) z))
    go true r = place-first x (y ∷ ys) z
    go false r =
        place-first y (insert x ys) z ∙ ap (λ b. same y z || b) r
        ∙ swap (same y z) (same x z) (is_some (place_of ys z))
        ∙ ap (λ b. same x z || b) (sym (place-first y ys z))

-- a name has a place exactly where a class has it
pub place-class : (cs : List ClassFacts) (x : Bytes) → is_some (place_of (names_of cs) x) ≡ is_some (class_named cs x)
unfolding names_of class_named place_of
place-class [] x = refl
place-class (c ∷ cs) x = insert-place c.name (names_of cs) x ∙ go (same c.name x) (place-class cs x)
  where
    go : (b : Bool) → is_some (place_of (names_of cs) x) ≡ is_some (class_named cs x) → (b || is_some (place_of (names_of cs) x)) ≡ is_some (cond b (Some c) (class_named cs x))
    go true r = refl
    go false r = r

-- a name has a number exactly where a class has it
pub id-find : (W : World) (x : Bytes) → is_some (id_of W x) ≡ is_some (find_class W x)
unfolding id_of names find_class
id-find W x = place-class (classes W) x

pub none_too : {A B : Type 0} (o : Option A) (p : Option B) → is_some o ≡ is_some p → o ≡ None → p ≡ None
none_too o None h e = refl
none_too o (Some x) h e = absurd (let k : is_some o ≡ false = ap is_some e in cc)

-- a class that is there has a number
pub number_of : (W : World) (x : Bytes) → is_some (find_class W x) ≡ true → (k : ℕ) × (id_of W x ≡ Some k)
number_of W x h = go (id_of W x) (id-find W x ∙ h)
  where
    go : (o : Option ℕ) → is_some o ≡ true → (k : ℕ) × (o ≡ Some k)
    go None q = absurd cc
    go (Some k) q = (k, refl)

pub find-None : (W : World) (x : Bytes) → id_of W x ≡ None → find_class W x ≡ None
find-None W x e = none_too (id_of W x) (find_class W x) (id-find W x) e

-- ---- a name by its number, and back

-- the name at a place
pub record IsAt (ys : List Bytes) (x : Bytes) (n : ℕ) : Type 0 where
  pub within : n < length ys
  pub name : get_or ys n [] ≡ x

later : (y : Bytes) (ys : List Bytes) (x : Bytes) (n : ℕ) → IsAt ys x n → IsAt (y ∷ ys) x (suc n)
later y ys x n h = record { within = let k : n < length ys = h.within in omega arith; name = h.name }

pub place-at : (ys : List Bytes) (x : Bytes) (n : ℕ) → place_of ys x ≡ Some n → IsAt ys x n
unfolding place_of
place-at [] x n e = absurd (let clash : None ≡ Some n = e in cc)
place-at (y ∷ ys) x n e = go (same y x) refl e (place-at ys x)
  where
    go2 : (o : Option ℕ) → place_of ys x ≡ o → option_map suc o ≡ Some n → ((m : ℕ) → place_of ys x ≡ Some m → IsAt ys x m) → IsAt (y ∷ ys) x n
    go2 None q k r = absurd (let clash : None ≡ Some n = k in cc)
    go2 (Some m) q k r = let l : suc m ≡ n = cc in subst (λ j. IsAt (y ∷ ys) x j) l (later y ys x m (r m q))

    go : (b : Bool) → same y x ≡ b → cond b (Some 0) (option_map suc (place_of ys x)) ≡ Some n → ((m : ℕ) → place_of ys x ≡ Some m → IsAt ys x m) → IsAt (y ∷ ys) x n
    go true p k r = let l : 0 ≡ n = cc in subst (λ j. IsAt (y ∷ ys) x j) l (record { within = omega arith; name = same_is y x p })
    go false p k r = go2 (place_of ys x) refl k r

pub at-in : (ys : List Bytes) (n : ℕ) → n < length ys → Contains ys (get_or ys n [])
at-in [] n h = absurd (omega arith)
at-in (y ∷ ys) zero h = here y ys
at-in (y ∷ ys) (suc n) h = there (get_or ys n []) y ys (at-in ys n (omega arith))

not_same : (y x : Bytes) → Before y x → same y x ≡ false
not_same y x h = go (same y x) refl
  where
    go : (b : Bool) → same y x ≡ b → b ≡ false
    go true p = absurd (not_self y (subst (λ (z : Bytes). Before y z) (sym (same_is y x p)) h))
    go false p = refl

pub place-back : (ys : List Bytes) (n : ℕ) → NamesRise (λ (z : Bytes). z) ys → n < length ys → place_of ys (get_or ys n []) ≡ Some n
unfolding place_of Rises
place-back [] n r h = absurd (omega arith)
place-back (y ∷ ys) zero r h = rw (same_itself y) refl
place-back (y ∷ ys) (suc n) r h =
    let l : n < length ys = omega arith in
    let e : same y (get_or ys n []) ≡ false = not_same y (get_or ys n []) (each_in (λ z. Before y z) ys (get_or ys n []) r.0 (at-in ys n l)) in
    rw (e, place-back ys n r.1 l) refl

-- the number of the name of a number is that number
pub id_of-name_at : (W : World) (n : ℕ) → IsTrue (differ_by_name (classes W)) → n < size W → id_of W (name_at W n) ≡ Some n
unfolding id_of
id_of-name_at W n d h = place-back (names W) n (names-rise W d) (let e = names-length W in omega arith)

-- the number of a name is below their count, and the number of just that name
pub id_of-Some : (W : World) (x : Bytes) (n : ℕ) → id_of W x ≡ Some n → (n < size W) × (name_at W n ≡ x)
unfolding id_of
id_of-Some W x n e =
    let h : IsAt (names W) x n = place-at (names W) x n e in
    (let k : n < length (names W) = h.within in let l = names-length W in omega arith, h.name)

-- ---- the class of a number

-- the class of a name
pub record IsClass (W : World) (x : Bytes) : Type 0 where
  pub facts : ClassFacts
  pub found : find_class W x ≡ Some facts
  pub name : facts.name ≡ x

some_true : {A : Type 0} (o : Option A) (x : A) → o ≡ Some x → is_some o ≡ true
some_true o x e = ap is_some e

pub is_class : (W : World) (x : Bytes) → is_some (find_class W x) ≡ true → IsClass W x
unfolding find_class
is_class W x h = go (find_class W x) refl h
  where
    go : (o : Option ClassFacts) → find_class W x ≡ o → is_some o ≡ true → IsClass W x
    go None e k = absurd (cc)
    go (Some c) e k = record { facts = c; found = e; name = class_named-name (classes W) x c e }

-- each number below the count has a class of its name
pub class_at : (W : World) (n : ℕ) → IsTrue (differ_by_name (classes W)) → n < size W → IsClass W (name_at W n)
class_at W n d h = is_class W (name_at W n) (sym (id-find W (name_at W n)) ∙ some_true (id_of W (name_at W n)) n (id_of-name_at W n d h))

-- ---- what the names have

place-in : (ys : List Bytes) (x : Bytes) → is_some (place_of ys x) ≡ true → Contains ys x
place-in ys x h = go (place_of ys x) refl h
  where
    go : (o : Option ℕ) → place_of ys x ≡ o → is_some o ≡ true → Contains ys x
    go None e k = absurd (cc)
    go (Some n) e k = let a = place-at ys x n e in subst (λ (z : Bytes). Contains ys z) a.name (at-in ys n a.within)

in-place : (ys : List Bytes) (x : Bytes) → Contains ys x → is_some (place_of ys x) ≡ true
in-place [] x k = absurd (none x k)
in-place (y ∷ ys) x k = place-first y ys x ∙ go (cases y ys x k) (in-place ys x)
  where
    go : (y ≡ x) ⊎ Contains ys x → (Contains ys x → is_some (place_of ys x) ≡ true) → (same y x || is_some (place_of ys x)) ≡ true
    go (inl is) r = let q : same y x ≡ true = ap (λ (z : Bytes). same y z) (sym is) ∙ same_itself y in rw q refl
    go (inr c) r = rw (r c) (or-true (same y x))

-- the names in order have a name exactly where a class has it
pub named-in : (cs : List ClassFacts) (x : Bytes) → is_some (class_named cs x) ≡ true → Contains (names_of cs) x
named-in cs x h = place-in (names_of cs) x (place-class cs x ∙ h)

pub in-named : (cs : List ClassFacts) (x : Bytes) → Contains (names_of cs) x → is_some (class_named cs x) ≡ true
in-named cs x k = sym (place-class cs x) ∙ in-place (names_of cs) x k

-- the names have a name exactly where the world has a class of it
pub names-in : (W : World) (x : Bytes) → is_some (find_class W x) ≡ true → Contains (names W) x
unfolding names find_class
names-in W x h = named-in (classes W) x h

pub names-find : (W : World) (x : Bytes) → Contains (names W) x → is_some (find_class W x) ≡ true
unfolding names find_class
names-find W x k = in-named (classes W) x k

-- ---- superclasses

-- the number of what the class names as its superclass
pub superclass_is : (W : World) (x : Bytes) (c : ClassFacts) → Some c ≡ find_class W x → superclass_of W x ≡ and_then (id_of W) c.superclass
unfolding superclass_of and_then
superclass_is W x c e = rw (← e) refl

-- the class of a name that has a number
pub found-by : (W : World) (x : Bytes) (n : ℕ) (c : ClassFacts) → id_of W x ≡ Some n → Some c ≡ find_class W (name_at W n) → find_class W x ≡ Some c
found-by W x n c e f = ap (find_class W) (sym (id_of-Some W x n e).1) ∙ sym f
