-- Clients in byte order of names: a list of them, its names, and the world that they make over a side.
use Rattle.std.proofs.Common.{◌≡◌, suc, Bool, true, false, cond, List, [], ◌∷◌, ◌++◌, length, refl, sym, ◌∙◌, ap, subst, Option, Some, None, is_some, is_none, Contains, arith}
use Rattle.std.proofs.lemmas.Bool.{and_parts, both_ways}
use Rattle.std.proofs.lemmas.List.{length-append}
use Rattle.std.proofs.lemmas.List.Elements.{Contains-push, Contains-append_left, Contains-append_right}
use Rattle.std.specs.declared.cmp.Ordering.{Ordering}
use Rattle.std.specs.declared.cmp.Ordering.TheVariants.{Less, Equal, Greater}
use Rattle.std.specs.Ordering.{nat_cmp, is_lt, is_eq, ordering_reverse}
use Rattle.std.specs.Cmp.Lexicographic.{slice_cmp, nat_list_cmp_total, texts_ties}
use Rattle.jc_facts.specs.Exactly.{Before, NamesRise, Rises}
use Rattle.jc_facts.specs.declared.class_facts.ClassFacts.{ClassFacts}
use Rattle.jc_facts.specs.declared.client.ClientClass.{ClientClass}
use Rattle.jc_facts.specs.Names.{Bytes, same}
use Rattle.jc_facts.specs.world.World.{World, find_class, size, class_named, with_clients, is_client, differ_by_name}
use Rattle.jc_facts.specs.client.Valid.{facts_of}
use Rattle.jc_facts.specs.ByName.{placed, by_name}
use Rattle.jc_lemmas.proofs.Listed.{each_in, EachOf, EachOf-map}
use Rattle.jc_facts.proofs.Clients.{name_of}
use Rattle.jc_facts.proofs.Same.{same_is, same_itself}
use Rattle.jc_worlds.proofs.Absent.{class_named-back}
use Rattle.jc_facts.proofs.World.{class_named-first}
use Rattle.jc_lemmas.proofs.Options.{none_where}

-- ---- a rearranged list

pub placed_each : (P : ClientClass → Type 0) (c : ClientClass) (ds : List ClientClass) → P c → EachOf P ds → EachOf P (placed name_of c ds)
unfolding placed
placed_each P c [] p h = (p, tt)
placed_each P c (d ∷ ds) p h = go (is_lt (slice_cmp nat_cmp d.facts.name c.facts.name)) (placed_each P c ds p h.1)
  where
    go : (b : Bool) → EachOf P (placed name_of c ds) → EachOf P (cond b (d ∷ placed name_of c ds) (c ∷ d ∷ ds))
    go true r = (h.0, r)
    go false r = (p, h)

pub sorted_each : (P : ClientClass → Type 0) (cs : List ClientClass) → EachOf P cs → EachOf P (by_name name_of cs)
unfolding by_name
sorted_each P [] h = tt
sorted_each P (c ∷ cs) h = placed_each P c (by_name name_of cs) h.0 (sorted_each P cs h.1)

taken_each : (P : ClientClass → Type 0) (c : ClientClass) (ds : List ClientClass) → EachOf P (placed name_of c ds) → P c × EachOf P ds
unfolding placed
taken_each P c [] h = (h.0, tt)
taken_each P c (d ∷ ds) h = go (is_lt (slice_cmp nat_cmp d.facts.name c.facts.name)) h (taken_each P c ds)
  where
    go : (b : Bool) → EachOf P (cond b (d ∷ placed name_of c ds) (c ∷ d ∷ ds)) → (EachOf P (placed name_of c ds) → P c × EachOf P ds) → P c × EachOf P (d ∷ ds)
    go true q r = let w = r q.1 in (w.0, (q.0, w.1))
    go false q r = (q.0, q.1)

unsorted_each : (P : ClientClass → Type 0) (cs : List ClientClass) → EachOf P (by_name name_of cs) → EachOf P cs
unfolding by_name
unsorted_each P [] h = tt
unsorted_each P (c ∷ cs) h = let w = taken_each P c (by_name name_of cs) h in (w.0, unsorted_each P cs w.1)

all_contained : (cs : List ClientClass) → EachOf (λ c. Contains cs c) cs
all_contained [] = tt
all_contained (c ∷ cs) = (Contains-append_left (c ∷ []) cs c (Contains-push [] c), EachOf-map (λ d h. Contains-append_right (c ∷ []) cs d h) cs (all_contained cs))

pub to_sorted : (cs : List ClientClass) (c : ClientClass) → Contains cs c → Contains (by_name name_of cs) c
to_sorted cs c h = each_in (λ c. Contains (by_name name_of cs) c) cs c (unsorted_each (λ c. Contains (by_name name_of cs) c) cs (all_contained (by_name name_of cs))) h

pub from_sorted : (cs : List ClientClass) (c : ClientClass) → Contains (by_name name_of cs) c → Contains cs c
from_sorted cs c h = each_in (λ c. Contains cs c) (by_name name_of cs) c (sorted_each (λ c. Contains cs c) cs (all_contained cs)) h

-- ---- names

-- two classes of other names may change places
swapped : (c d : ClassFacts) (x : Bytes) (o : Option ClassFacts) → same d.name c.name ≡ false → cond (same d.name x) (Some d) (cond (same c.name x) (Some c) o) ≡ cond (same c.name x) (Some c) (cond (same d.name x) (Some d) o)
swapped c d x o h = go (same d.name x) refl (same c.name x) refl
  where
    go : (p : Bool) → same d.name x ≡ p → (q : Bool) → same c.name x ≡ q → cond p (Some d) (cond q (Some c) o) ≡ cond q (Some c) (cond p (Some d) o)
    go true e true f = absurd (both_ways (same d.name c.name) h (subst (λ z. same d.name z ≡ true) (sym (same_is c.name x f)) e))
    go true e false f = refl
    go false e q f = refl

class_named-parts : (d : ClassFacts) (ds : List ClassFacts) (x : Bytes) → class_named (d ∷ ds) x ≡ None → (same d.name x ≡ false) × (class_named ds x ≡ None)
unfolding class_named
class_named-parts d ds x h = go (same d.name x) h
  where
    go : (b : Bool) → cond b (Some d) (class_named ds x) ≡ None → (b ≡ false) × (class_named ds x ≡ None)
    go true q = absurd (cc)
    go false q = (refl, q)

placed_named : (c : ClientClass) (ds : List ClientClass) → class_named (facts_of ds) c.facts.name ≡ None → (x : Bytes) → class_named (facts_of (placed name_of c ds)) x ≡ class_named (c.facts ∷ facts_of ds) x
unfolding placed class_named
placed_named c [] h x = refl
placed_named c (d ∷ ds) h x = go (is_lt (slice_cmp nat_cmp d.facts.name c.facts.name)) (placed_named c ds p.1 x)
  where
    p : (same d.facts.name c.facts.name ≡ false) × (class_named (facts_of ds) c.facts.name ≡ None)
    p = class_named-parts d.facts (facts_of ds) c.facts.name h

    go : (b : Bool) → class_named (facts_of (placed name_of c ds)) x ≡ class_named (c.facts ∷ facts_of ds) x → class_named (facts_of (cond b (d ∷ placed name_of c ds) (c ∷ d ∷ ds))) x ≡ class_named (c.facts ∷ d.facts ∷ facts_of ds) x
    go true r = ap (cond (same d.facts.name x) (Some d.facts)) r ∙ swapped c.facts d.facts x (class_named (facts_of ds) x) p.0
    go false r = refl

differ_parts : (c : ClassFacts) (cs : List ClassFacts) → differ_by_name (c ∷ cs) ≡ true → (class_named cs c.name ≡ None) × (differ_by_name cs ≡ true)
unfolding differ_by_name
differ_parts c cs h = let p = and_parts (is_none (class_named cs c.name)) (differ_by_name cs) h in (none_where (class_named cs c.name) p.0, p.1)

pub sorted_named : (cs : List ClientClass) → differ_by_name (facts_of cs) ≡ true → (x : Bytes) → class_named (facts_of (by_name name_of cs)) x ≡ class_named (facts_of cs) x
unfolding by_name class_named
sorted_named [] h x = refl
sorted_named (c ∷ cs) h x =
    let p = differ_parts c.facts (facts_of cs) h in
    placed_named c (by_name name_of cs) (sorted_named cs p.1 c.facts.name ∙ p.0) x ∙ ap (cond (same c.facts.name x) (Some c.facts)) (sorted_named cs p.1 x)

placed_differ : (c : ClientClass) (ds : List ClientClass) → class_named (facts_of ds) c.facts.name ≡ None → differ_by_name (facts_of ds) ≡ true → differ_by_name (facts_of (placed name_of c ds)) ≡ true
unfolding placed differ_by_name class_named
placed_differ c [] h k = refl
placed_differ c (d ∷ ds) h k = go (is_lt (slice_cmp nat_cmp d.facts.name c.facts.name)) (placed_differ c ds p.1 q.1)
  where
    p : (same d.facts.name c.facts.name ≡ false) × (class_named (facts_of ds) c.facts.name ≡ None)
    p = class_named-parts d.facts (facts_of ds) c.facts.name h

    q : (class_named (facts_of ds) d.facts.name ≡ None) × (differ_by_name (facts_of ds) ≡ true)
    q = differ_parts d.facts (facts_of ds) k

    back : same c.facts.name d.facts.name ≡ false
    back = by (same c.facts.name d.facts.name) refl
      where
        by : (b : Bool) → same c.facts.name d.facts.name ≡ b → b ≡ false
        by false e = refl
        by true e = absurd (both_ways (same d.facts.name c.facts.name) p.0 (subst (λ z. same z c.facts.name ≡ true) (same_is c.facts.name d.facts.name e) (same_itself c.facts.name)))

    here : class_named (facts_of (placed name_of c ds)) d.facts.name ≡ None
    here = placed_named c ds p.1 d.facts.name ∙ rw (back, q.0) refl

    go : (b : Bool) → differ_by_name (facts_of (placed name_of c ds)) ≡ true → differ_by_name (facts_of (cond b (d ∷ placed name_of c ds) (c ∷ d ∷ ds))) ≡ true
    go true r = rw (here, r) refl
    go false r = rw h k

pub sorted_differ : (cs : List ClientClass) → differ_by_name (facts_of cs) ≡ true → differ_by_name (facts_of (by_name name_of cs)) ≡ true
unfolding by_name
sorted_differ [] h = h
sorted_differ (c ∷ cs) h =
    let p = differ_parts c.facts (facts_of cs) h in
    placed_differ c (by_name name_of cs) (sorted_named cs p.1 c.facts.name ∙ p.0) (sorted_differ cs p.1)

placed_length : (c : ClientClass) (ds : List ClientClass) → length (facts_of (placed name_of c ds)) ≡ suc (length (facts_of ds))
unfolding placed
placed_length c [] = refl
placed_length c (d ∷ ds) = go (is_lt (slice_cmp nat_cmp d.facts.name c.facts.name)) (placed_length c ds)
  where
    go : (b : Bool) → length (facts_of (placed name_of c ds)) ≡ suc (length (facts_of ds)) → length (facts_of (cond b (d ∷ placed name_of c ds) (c ∷ d ∷ ds))) ≡ suc (suc (length (facts_of ds)))
    go true r = ap suc r
    go false r = refl

pub sorted_length : (cs : List ClientClass) → length (facts_of (by_name name_of cs)) ≡ length (facts_of cs)
unfolding by_name
sorted_length [] = refl
sorted_length (c ∷ cs) = placed_length c (by_name name_of cs) ∙ ap suc (sorted_length cs)

-- ---- the order

before_cases : (c d : Bytes) → same d c ≡ false → (o : Ordering) → slice_cmp nat_cmp d c ≡ o → (is_lt o ≡ true → Before d c) × (is_lt o ≡ false → Before c d)
before_cases c d h Less e = (λ q. e, λ q. absurd (cc))
before_cases c d h Equal e = (λ q. absurd (cc), λ q. absurd (both_ways (same d c) h (texts_ties d c ∙ ap is_eq e)))
before_cases c d h Greater e = (λ q. absurd (cc), λ q. nat_list_cmp_total.antisymm c d ∙ ap ordering_reverse e)

placed_rise : (c : ClientClass) (ds : List ClientClass) → class_named (facts_of ds) c.facts.name ≡ None → NamesRise (λ (c : ClientClass). c.facts.name) ds → NamesRise (λ (c : ClientClass). c.facts.name) (placed name_of c ds)
unfolding placed Rises
placed_rise c [] h k = (tt, tt)
placed_rise c (d ∷ ds) h k = go (is_lt (slice_cmp nat_cmp d.facts.name c.facts.name)) refl (placed_rise c ds p.1 k.1)
  where
    p : (same d.facts.name c.facts.name ≡ false) × (class_named (facts_of ds) c.facts.name ≡ None)
    p = class_named-parts d.facts (facts_of ds) c.facts.name h

    order : (is_lt (slice_cmp nat_cmp d.facts.name c.facts.name) ≡ true → Before d.facts.name c.facts.name) × (is_lt (slice_cmp nat_cmp d.facts.name c.facts.name) ≡ false → Before c.facts.name d.facts.name)
    order = before_cases c.facts.name d.facts.name p.0 (slice_cmp nat_cmp d.facts.name c.facts.name) refl

    go : (b : Bool) → is_lt (slice_cmp nat_cmp d.facts.name c.facts.name) ≡ b → NamesRise (λ (c : ClientClass). c.facts.name) (placed name_of c ds) → NamesRise (λ (c : ClientClass). c.facts.name) (cond b (d ∷ placed name_of c ds) (c ∷ d ∷ ds))
    go true e r = (placed_each (λ (z : ClientClass). Before d.facts.name z.facts.name) c ds (order.0 e) k.0, r)
    go false e r = let f = order.1 e in ((f, EachOf-map (λ (z : ClientClass) q. nat_list_cmp_total.trans c.facts.name d.facts.name z.facts.name f q) ds k.0), k)

-- the names rise
pub sorted_rise : (cs : List ClientClass) → differ_by_name (facts_of cs) ≡ true → NamesRise (λ (c : ClientClass). c.facts.name) (by_name name_of cs)
unfolding by_name Rises
sorted_rise [] h = tt
sorted_rise (c ∷ cs) h =
    let p = differ_parts c.facts (facts_of cs) h in
    placed_rise c (by_name name_of cs) (sorted_named cs p.1 c.facts.name ∙ p.0) (sorted_rise cs p.1)

-- ---- the two worlds

module _ (W : World) (cs : List ClientClass) (differ : differ_by_name (facts_of cs) ≡ true) where
  abbrev V : World
  V = with_clients W (facts_of cs)

  abbrev S : World
  S = with_clients W (facts_of (by_name name_of cs))

  pub found : (x : Bytes) → find_class V x ≡ find_class S x
  unfolding find_class
  found x = go (class_named (W.platform ++ W.release) x) refl
    where
      go : (o : Option ClassFacts) → class_named (W.platform ++ W.release) x ≡ o → class_named (W.platform ++ W.release ++ facts_of cs) x ≡ class_named (W.platform ++ W.release ++ facts_of (by_name name_of cs)) x
      go None e = class_named-back (W.platform ++ W.release) (facts_of cs) x e ∙ sym (sorted_named cs differ x) ∙ sym (class_named-back (W.platform ++ W.release) (facts_of (by_name name_of cs)) x e)
      go (Some c) e = let s : is_some (class_named (W.platform ++ W.release) x) ≡ true = rw e refl in class_named-first (W.platform ++ W.release) (facts_of cs) x s ∙ sym (class_named-first (W.platform ++ W.release) (facts_of (by_name name_of cs)) x s)

  pub count : size V ≡ size S
  unfolding size
  count = omega (arith, length-append (W.platform ++ W.release) (facts_of cs), length-append (W.platform ++ W.release) (facts_of (by_name name_of cs)), sorted_length cs)

  pub clients : (x : Bytes) → is_client V x ≡ is_client S x
  unfolding is_client
  clients x = ap is_some (sym (sorted_named cs differ x))
