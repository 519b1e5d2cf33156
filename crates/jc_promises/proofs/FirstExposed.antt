-- The first of a list in an order; and which act exposes a class: that of a reference that exposes it and before which none stands that does.
use Rattle.std.proofs.Common.{◌≡◌, Bool, true, false, cond, List, [], ◌∷◌, map, filter, refl, sym, ◌∙◌, ap, subst, Option, Some, None, ◌⊎◌, inl, inr, Contains}
use Rattle.std.specs.List.{flat_map}
use Rattle.std.specs.declared.cmp.Ordering.{Ordering}
use Rattle.std.specs.declared.cmp.Ordering.TheVariants.{Less, Equal, Greater}
use Rattle.std.specs.Ordering.{is_lt, ordering_reverse, ordering_then}
use Rattle.std.specs.Cmp.{IsTotalOrder, on_total}
use Rattle.std.specs.Cmp.Lexicographic.{nat_list_cmp_total}
use Rattle.std.proofs.lemmas.Cmp.{then_total}
use Rattle.std.proofs.lemmas.Map.Lookups.{exact_bytes}
use Rattle.std.proofs.lemmas.Bool.{both_ways}
use Rattle.jc_facts.specs.declared.act.Act.{Act}
use Rattle.jc_facts.specs.declared.class_facts.ClassFacts.{ClassFacts}
use Rattle.jc_facts.specs.declared.key.Key.{Key}
use Rattle.jc_facts.specs.Names.{Bytes}
use Rattle.jc_facts.specs.Exactly.{name_order}
use Rattle.jc_facts.specs.KeyOrder.{key_cmp, key_total}
use Rattle.jc_facts.specs.Options.{and_then}
use Rattle.jc_facts.specs.world.World.{World, classes}
use Rattle.jc_promises.specs.rule.Exposed.{Reference, keys_of, references, open_act, exposes, reference_order, earlier, first_by, act_of, exposing_act}
use Rattle.jc_promises.proofs.Exposed.{first_by-in}
use Rattle.jc_facts.proofs.Mapped.{in_flat, of_flat, in_map, of_map}
use Rattle.jc_facts.proofs.KeySets.{then_equal, key_exact}
use Rattle.jc_lemmas.proofs.Listed.{here, there, none, cases, filter_in, in_filter}

-- ---- the first of a list

module _ {A : Type 0} (order : A → A → Ordering) (total : IsTotalOrder order) where
  -- nothing stands before itself
  itself : (x : A) → is_lt (order x x) ≡ false
  itself x = go (order x x) (total.antisymm x x)
    where
      go : (o : Ordering) → o ≡ ordering_reverse o → is_lt o ≡ false
      go Less e = absurd (let z : Less ≡ Greater = e in cc)
      go Equal e = refl
      go Greater e = refl

  -- nor what is behind it
  behind : (x y : A) → is_lt (order x y) ≡ true → is_lt (order y x) ≡ false
  behind x y h = subst (λ o. is_lt o ≡ false) (sym (total.antisymm y x)) (go (order x y) h)
    where
      go : (o : Ordering) → is_lt o ≡ true → is_lt (ordering_reverse o) ≡ false
      go Less e = refl
      go Equal e = refl
      go Greater e = absurd (let z : false ≡ true = e in cc)

  -- what stands before x stands before what doesn't stand before x
  before_others : (x w z : A) → is_lt (order w x) ≡ false → is_lt (order z x) ≡ true → is_lt (order z w) ≡ true
  before_others x w z h k = by (order x w) refl
    where
      less : (o : Ordering) → is_lt o ≡ true → o ≡ Less
      less Less e = refl
      less Equal e = absurd (let z : false ≡ true = e in cc)
      less Greater e = absurd (let z : false ≡ true = e in cc)

      zx : order z x ≡ Less
      zx = less (order z x) k

      by : (o : Ordering) → order x w ≡ o → is_lt (order z w) ≡ true
      by Less e = ap is_lt (total.trans z x w zx e)
      by Equal e = ap is_lt (total.antisymm z w ∙ ap ordering_reverse (sym (total.congr x w z e) ∙ total.antisymm x z ∙ ap ordering_reverse zx))
      by Greater e = absurd (let z : true ≡ false = sym (ap is_lt (total.antisymm w x ∙ ap ordering_reverse e)) ∙ h in cc)

  none_left : (xs : List A) → first_by order xs ≡ None → (w : A) → Contains xs w → ⊥
  unfolding first_by
  none_left [] n w k = none w k
  none_left (v ∷ vs) n w k = absurd (let q : Some (earlier order v (first_by order vs)) ≡ None = n in cc)

  step : (x : A) (ys : List A) (o : Option A) → (o ≡ None → (w : A) → Contains ys w → ⊥) → ((v : A) → o ≡ Some v → (w : A) → Contains ys w → is_lt (order w v) ≡ false) → (y z : A) → earlier order x o ≡ y → (x ≡ z) ⊎ Contains ys z
      → is_lt (order z y) ≡ false
  step x ys None n r y z q (inl i) = subst (λ v. is_lt (order z v) ≡ false) q (subst (λ v. is_lt (order v x) ≡ false) i (itself x))
  step x ys None n r y z q (inr k) = absurd (n refl z k)
  step x ys (Some v) n r y z q k = by (is_lt (order v x)) refl q k
    where
      not_before : (b : Bool) → is_lt (order z x) ≡ b → is_lt (order v x) ≡ false → Contains ys z → is_lt (order z x) ≡ false
      not_before false h e c = h
      not_before true h e c = absurd (both_ways (is_lt (order z v)) (r v refl z c) (before_others x v z e h))

      by : (b : Bool) → is_lt (order v x) ≡ b → cond b v x ≡ y → (x ≡ z) ⊎ Contains ys z → is_lt (order z y) ≡ false
      by true e p (inl i) = subst (λ u. is_lt (order z u) ≡ false) p (subst (λ u. is_lt (order u v) ≡ false) i (behind v x e))
      by true e p (inr c) = subst (λ u. is_lt (order z u) ≡ false) p (r v refl z c)
      by false e p (inl i) = subst (λ u. is_lt (order z u) ≡ false) p (subst (λ u. is_lt (order u x) ≡ false) i (itself x))
      by false e p (inr c) = subst (λ u. is_lt (order z u) ≡ false) p (not_before (is_lt (order z x)) refl e c)

  -- none of the list stands before the first
  pub first_by-least : (xs : List A) (y : A) → first_by order xs ≡ Some y → (z : A) → Contains xs z → is_lt (order z y) ≡ false
  unfolding first_by
  first_by-least [] y e z c = absurd (none z c)
  first_by-least (x ∷ ys) y e z c = step x ys (first_by order ys) (none_left ys) (first_by-least ys) y z (let q : earlier order x (first_by order ys) ≡ y = cc in q) (cases x ys z c)

  some_first : (xs : List A) (y : A) → Contains xs y → (m : A) × (first_by order xs ≡ Some m)
  unfolding first_by
  some_first [] y c = absurd (none y c)
  some_first (x ∷ ys) y c = (earlier order x (first_by order ys), refl)

  -- it is the one before which none stands
  pub first_by-is : ((x y : A) → order x y ≡ Equal → x ≡ y) → (xs : List A) (y : A) → Contains xs y → ((z : A) → Contains xs z → is_lt (order z y) ≡ false) → first_by order xs ≡ Some y
  first_by-is ext xs y c least = go (some_first xs y c)
    where
      equal : (m : A) (o : Ordering) → order m y ≡ o → is_lt o ≡ false → is_lt (order y m) ≡ false → order m y ≡ Equal
      equal m Less e p q = absurd (let z : true ≡ false = p in cc)
      equal m Equal e p q = e
      equal m Greater e p q = absurd (let z : true ≡ false = sym (ap is_lt (total.antisymm y m ∙ ap ordering_reverse e)) ∙ q in cc)

      go : (m : A) × (first_by order xs ≡ Some m) → first_by order xs ≡ Some y
      go f =
          let inside : Contains xs f.0 = first_by-in order xs f.0 f.1 in
          f.1 ∙ ap Some (ext f.0 y (equal f.0 (order f.0 y) refl (least f.0 inside) (first_by-least xs f.0 f.1 y c)))

-- ---- the exposing act

reference_total : IsTotalOrder reference_order
reference_total = then_total (on_total (λ (r : Reference). r.class) nat_list_cmp_total) (on_total (λ (r : Reference). r.key) key_total)

reference_exact : (x y : Reference) → reference_order x y ≡ Equal → x ≡ y
reference_exact x y e =
    let p = then_equal (name_order x.class y.class) (key_cmp x.key y.key) e in
    let a : x.class ≡ y.class = exact_bytes x.class y.class p.0 in
    let b : x.key ≡ y.key = key_exact x.key y.key p.1 in
    λ i. record { «class» = a i; key = b i }

-- a reference that exposes the class, with its first open act, before which none stands that exposes it too
pub exposing-is : (O : World) (a x : Bytes) (y : Reference) (what : Act) → Contains (references O) y → exposes O a x y ≡ true → open_act O a y ≡ Some what
    → ((z : Reference) → Contains (references O) z → exposes O a x z ≡ true → is_lt (reference_order z y) ≡ false) → exposing_act O a x ≡ Some (record { «class» = y.class; key = y.key; act = what })
unfolding exposing_act and_then
exposing-is O a x y what c h e least =
    let first : first_by reference_order (filter (exposes O a x) (references O)) ≡ Some y =
    first_by-is reference_order reference_total reference_exact (filter (exposes O a x) (references O)) y (filter_in (exposes O a x) (references O) y c h)
    (λ z k. let q = in_filter (exposes O a x) (references O) z k in least z q.0 q.1) in
    ap (and_then (act_of O a)) first ∙ ap (and_then (λ w. Some (record { «class» = y.class; key = y.key; act = w }))) e

-- ---- found by two loops: over classes in order, and for each of them over keys in order

-- all keys that classes of the side declare
abbrev pub all_keys : World → List Key
all_keys O = flat_map keys_of (classes O)

pub reference_in : (O : World) (c : ClassFacts) (k : Key) → Contains (classes O) c → Contains (all_keys O) k → Contains (references O) (record { «class» = c.name; key = k })
unfolding references
reference_in O c k i j = in_flat (λ (c : ClassFacts). map (λ k. record { «class» = c.name; key = k }) (all_keys O)) (classes O) c (record { «class» = c.name; key = k }) i (in_map (λ k. record { «class» = c.name; key = k }) (all_keys O) k j)

pub reference_from : (O : World) (r : Reference) → Contains (references O) r → (c : ClassFacts) × Contains (classes O) c × (c.name ≡ r.class) × Contains (all_keys O) r.key
unfolding references
reference_from O r i =
    let q = of_flat (λ (c : ClassFacts). map (λ k. record { «class» = c.name; key = k }) (all_keys O)) (classes O) r i in
    let p = of_map (λ k. record { «class» = q.0.name; key = k }) (all_keys O) r q.2 in
    (q.0, q.1, ap (λ (z : Reference). z.class) p.2, subst (λ (z : Reference). Contains (all_keys O) z.key) p.2 p.1)

-- what stands before a reference has a lesser class, or the same class and a lesser key
parts_before : (z y : Reference) → is_lt (reference_order z y) ≡ true → (is_lt (name_order z.class y.class) ≡ true) ⊎ ((z.class ≡ y.class) × (is_lt (key_cmp z.key y.key) ≡ true))
parts_before z y h = go (name_order z.class y.class) refl h
  where
    go : (o : Ordering) → name_order z.class y.class ≡ o → is_lt (ordering_then o (key_cmp z.key y.key)) ≡ true → (is_lt (name_order z.class y.class) ≡ true) ⊎ ((z.class ≡ y.class) × (is_lt (key_cmp z.key y.key) ≡ true))
    go Less e k = inl (ap is_lt e)
    go Equal e k = inr (exact_bytes z.class y.class e, k)
    go Greater e k = absurd (let q : false ≡ true = k in cc)

-- no key of a lesser class exposes x to the seat, and of this class none less than this one
pub record IsFirstHit (O : World) (a x : Bytes) (c : ClassFacts) (k : Key) : Type 0 where
  pub class_in : Contains (classes O) c
  pub key_in : Contains (all_keys O) k
  pub exposed : exposes O a x (record { «class» = c.name; key = k }) ≡ true
  pub classes_before : (d : ClassFacts) (l : Key) → Contains (classes O) d → Contains (all_keys O) l → is_lt (name_order d.name c.name) ≡ true → exposes O a x (record { «class» = d.name; key = l }) ≡ false
  pub keys_before : (l : Key) → Contains (all_keys O) l → is_lt (key_cmp l k) ≡ true → exposes O a x (record { «class» = c.name; key = l }) ≡ false

-- the first hit of the two loops, with its first open act, is the exposing act
pub exposing-by_loops : (O : World) (a x : Bytes) (c : ClassFacts) (k : Key) (what : Act) → IsFirstHit O a x c k → open_act O a (record { «class» = c.name; key = k }) ≡ Some what
    → exposing_act O a x ≡ Some (record { «class» = c.name; key = k; act = what })
exposing-by_loops O a x c k what h e = exposing-is O a x (record { «class» = c.name; key = k }) what (reference_in O c k h.class_in h.key_in) h.exposed e least
  where
    y : Reference
    y = record { «class» = c.name; key = k }

    no : (z : Reference) → Contains (references O) z → exposes O a x z ≡ true → is_lt (reference_order z y) ≡ true → ⊥
    no z i s l = by (reference_from O z i) (parts_before z y l)
      where
        by : (d : ClassFacts) × Contains (classes O) d × (d.name ≡ z.class) × Contains (all_keys O) z.key → (is_lt (name_order z.class c.name) ≡ true) ⊎ ((z.class ≡ c.name) × (is_lt (key_cmp z.key k) ≡ true)) → ⊥
        by d (inl p) =
            both_ways (exposes O a x z) (subst (λ n. exposes O a x (record { «class» = n; key = z.key }) ≡ false) d.2 (h.classes_before d.0 z.key d.1 d.3 (subst (λ n. is_lt (name_order n c.name) ≡ true) (sym d.2) p))) s
        by d (inr p) = both_ways (exposes O a x z) (subst (λ n. exposes O a x (record { «class» = n; key = z.key }) ≡ false) (sym p.0) (h.keys_before z.key d.3 p.1)) s

    least : (z : Reference) → Contains (references O) z → exposes O a x z ≡ true → is_lt (reference_order z y) ≡ false
    least z i s = go (is_lt (reference_order z y)) refl
      where
        go : (b : Bool) → is_lt (reference_order z y) ≡ b → b ≡ false
        go false q = refl
        go true q = absurd (no z i s q)

-- where no reference exposes x to the seat, there is none
pub exposing-none : (O : World) (a x : Bytes) → ((d : ClassFacts) (l : Key) → Contains (classes O) d → Contains (all_keys O) l → exposes O a x (record { «class» = d.name; key = l }) ≡ false) → exposing_act O a x ≡ None
unfolding exposing_act and_then first_by
exposing-none O a x h = ap (λ rs. and_then (act_of O a) (first_by reference_order rs)) (empty (references O) each)
  where
    each : (z : Reference) → Contains (references O) z → exposes O a x z ≡ false
    each z i = let d = reference_from O z i in subst (λ n. exposes O a x (record { «class» = n; key = z.key }) ≡ false) d.2 (h d.0 z.key d.1 d.3)

    empty : (rs : List Reference) → ((z : Reference) → Contains rs z → exposes O a x z ≡ false) → filter (exposes O a x) rs ≡ []
    empty [] f = refl
    empty (r ∷ rs) f = rw (f r (here r rs)) (empty rs (λ z i. f z (there z r rs i)))
