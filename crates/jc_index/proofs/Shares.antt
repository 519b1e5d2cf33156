-- Parts of one list, and what is led to.
use Rattle.std.proofs.Common.{◌≡◌, ◌<◌, ◌≤◌, ◌+◌, ◌-◌, ℕ, Bool, true, false, List, [], ◌∷◌, ◌++◌, length, get_or, map, take, drop, set, slice_range, refl, sym, ◌∙◌, ap, subst, ◌⊎◌, inl, inr, arith, Option, Some, None}
use Rattle.std.specs.Prelude.{is_some, slice_get}
use Rattle.std.specs.List.{All, Contains}
use Rattle.std.proofs.lemmas.Bool.{cases_eq}
use Rattle.std.proofs.lemmas.List.{length-append, length-drop, length-map, length-set, get_or-map, get_or-drop, get_or-set_same, get_or-set_other, get_or_default, take_more, take-append-le, drop-append-le}
use Rattle.std.proofs.lemmas.List.Elements.{All-weaker, Contains-push, Contains-push_cases, Contains-append_left}
use Rattle.jc_index.specs.declared.part.Part.{Part}
use Rattle.jc_index.specs.steps.Reach.{next_of, AreLedTo, IsLedTo, AllLedTo}
use Rattle.jc_index.specs.steps.Parts.{LiesIn, LieIn, items_of, Extends, IsLonger, IsPartOf, IsMade, AreParts}
use Rattle.jc_index.proofs.Queues.{one_all, the_one}

-- ---- parts of lists

still_range : (ids more : List ℕ) (a b : ℕ) → a ≤ b → b ≤ length ids → slice_range (ids ++ more) a b ≡ slice_range ids a b
still_range ids more a b l m = ap (take (b - a)) (drop-append-le a ids more (omega arith)) ∙ take-append-le (b - a) (drop a ids) more (omega (arith, length-drop a ids))

range_and_next : (ids : List ℕ) (a b k : ℕ) → a ≤ b → b < length ids → get_or ids b 0 ≡ k → slice_range ids a (b + 1) ≡ slice_range ids a b ++ k ∷ []
range_and_next ids a b k l m e =
    let n : b + 1 - a ≡ b - a + 1 = omega arith in
    let at : a + (b - a) ≡ b = omega arith in
    ap (λ j. take j (drop a ids)) n ∙ take_more (drop a ids) (b - a) 0 (omega (arith, length-drop a ids))
    ∙ ap (λ y. slice_range ids a b ++ y ∷ []) (get_or-drop a ids (b - a) 0 ∙ ap (λ j. get_or ids j 0) at ∙ e)

module _ (ids longer : List ℕ) (x : Extends ids longer) where
  still_lies : (part : Part) → LiesIn ids part → LiesIn longer part
  still_lies part h = record {
    order = h.order;
    inside = subst (λ (ys : List ℕ). part.end ≤ length ys) (sym x.longer_by) (let l = h.inside in omega (arith, l, length-append ids x.end));
  }

  still_items : (part : Part) → LiesIn ids part → slice_range longer part.start part.end ≡ slice_range ids part.start part.end
  still_items part h = ap (λ ys. slice_range ys part.start part.end) x.longer_by ∙ still_range ids x.end part.start part.end h.order h.inside

-- ---- what is led to

-- a number that names one other alone leads to that one, and to what that one leads to
led_by_one : (edges : List (List ℕ)) (n i : ℕ) (ids : List ℕ) → next_of edges n ≡ i ∷ [] → IsLedTo edges i ids → IsLedTo edges n (ids ++ i ∷ [])
led_by_one edges n i ids e s = record {
  first = subst (λ (ks : List ℕ). All (Contains (ids ++ i ∷ [])) ks) (sym e) (one_all (Contains (ids ++ i ∷ [])) i (Contains-push ids i));
  further = λ k c. on k (Contains-push_cases ids i k c);
  least = λ p first more k c. by p (the_one (λ j. p j ≡ true) i (subst (λ (ks : List ℕ). All (λ j. p j ≡ true) ks) e first)) more k (Contains-push_cases ids i k c);
}
  where
    wider : (ks : List ℕ) → All (Contains ids) ks → All (Contains (ids ++ i ∷ [])) ks
    wider ks h = All-weaker (Contains ids) (Contains (ids ++ i ∷ [])) (λ k c. Contains-append_left ids (i ∷ []) k c) ks h

    on : (k : ℕ) → Contains ids k ⊎ (i ≡ k) → All (Contains (ids ++ i ∷ [])) (next_of edges k)
    on k (inl c) = wider (next_of edges k) (s.further k c)
    on k (inr q) = subst (λ j. All (Contains (ids ++ i ∷ [])) (next_of edges j)) q (wider (next_of edges i) s.first)

    by : (p : ℕ → Bool) → p i ≡ true → ((k : ℕ) → p k ≡ true → All (λ j. p j ≡ true) (next_of edges k)) → (k : ℕ) → Contains ids k ⊎ (i ≡ k) → p k ≡ true
    by p t more k (inl c) = s.least p (more i t) more k c
    by p t more k (inr q) = subst (λ j. p j ≡ true) q t

module _ (edges : List (List ℕ)) where
  still_part : (ids longer : List ℕ) (n : ℕ) (part : Part) → Extends ids longer → IsPartOf edges ids n part → IsPartOf edges longer n part
  still_part ids longer n part x h = record {
    lies = still_lies ids longer x part h.lies;
    led = subst (λ (ys : List ℕ). IsLedTo edges n ys) (sym (still_items ids longer x part h.lies)) h.led;
  }

  pub part-shared : (ids longer : List ℕ) (n i : ℕ) (part more : Part) → next_of edges n ≡ i ∷ [] → Extends ids longer → IsPartOf edges ids i part → IsLonger longer part i more
      → IsPartOf edges longer n more
  part-shared ids longer n i part more e x h l =
      let k = still_part ids longer i part x h in
      let o = k.lies.order in
      let a = l.start in
      let b = l.end in
      let m = l.inside in
      let is : slice_range longer more.start more.end ≡ slice_range longer part.start part.end ++ i ∷ [] =
      ap (λ j. slice_range longer j more.end) a ∙ ap (slice_range longer part.start) b ∙ range_and_next longer part.start part.end i o m l.next in
      record {
        lies = record { order = omega (arith, o, a, b); inside = omega (arith, b, m) };
        led = subst (λ (ys : List ℕ). IsLedTo edges n ys) (sym is) (led_by_one edges n i (slice_range longer part.start part.end) e k.led);
      }

  -- ---- all parts

  pub still-parts : (ids longer : List ℕ) (parts : List (Option Part)) → Extends ids longer → AreParts edges ids parts → AreParts edges longer parts
  still-parts ids longer parts x h = record { count = h.count; right = λ n part e. still_part ids longer n part x (h.right n part e) }

  module _ (ids longer : List ℕ) (parts : List (Option Part)) (h : AreParts edges ids parts) (n : ℕ) (part : Part) (l : n < length edges) where
    inside : n < length parts
    inside = let c = h.count in omega (arith, c, l)

    pub put-parts : Extends ids longer → IsPartOf edges longer n part → AreParts edges longer (set parts n (Some part))
    put-parts x p = record {
      count = length-set parts n (Some part) ∙ h.count;
      right = λ k q e. go k q e (cases_eq k n);
    }
      where
        go : (k : ℕ) (q : Part) → get_or (set parts n (Some part)) k None ≡ Some q → (k ≡ n) ⊎ (k ≡ n → ⊥) → IsPartOf edges longer k q
        go k q e (inl is) =
            let same : Some part ≡ Some q = sym (get_or-set_same parts n (Some part) None inside) ∙ ap (λ j. get_or (set parts n (Some part)) j None) (sym is) ∙ e in
            let part_is : part ≡ q = cc in
            subst (λ (r : Part). IsPartOf edges longer k r) part_is (subst (λ j. IsPartOf edges longer j part) (sym is) p)
        go k q e (inr other) = still_part ids longer k q x (h.right k q (sym (get_or-set_other parts n k (Some part) None other) ∙ e))

  pub parts-led : (ids : List ℕ) (parts : List (Option Part)) → AreParts edges ids parts → ((n : ℕ) → n < length edges → IsMade parts n) → AllLedTo edges (map (items_of ids) parts)
  parts-led ids parts h made = record {
    count = length-map parts (items_of ids) ∙ h.count;
    led = λ n l.
        subst (λ (ys : List ℕ). IsLedTo edges n ys) (sym (get_or-map (items_of ids) parts n None [] (subst (λ k. n < k) (sym h.count) l))) (go n (get_or parts n None) refl (made n l));
  }
    where
      go : (n : ℕ) (o : Option Part) → get_or parts n None ≡ o → is_some o ≡ true → IsLedTo edges n (items_of ids o)
      go n None e m = absurd (let c : false ≡ true = m in cc)
      go n (Some part) e m = let p = h.right n part e in p.led

-- what is found at a place lies in the list
pub part-lies : (ids : List ℕ) (parts : List (Option Part)) (rows : List (List ℕ)) (n k : ℕ) (found : Option Part) (part : Part) → LieIn ids parts → map (items_of ids) parts ≡ rows → n < length rows → k ≡ n
    → found ≡ get_or parts k found → found ≡ Some part → LiesIn ids part
part-lies ids parts rows n k found part h v l s e is =
    let m : n < length parts = subst (λ j. n < j) (ap length (sym v) ∙ length-map parts (items_of ids)) l in
    h k part (get_or_default parts k None found (subst (λ j. j < length parts) (sym s) m) ∙ sym e ∙ is)

first_in : (xs : List ℕ) (i : ℕ) (P : ℕ → Type 0) → slice_get xs 0 ≡ Some i → All P xs → P i
first_in [] i P e all = absurd (let c : None ≡ Some i = e in cc)
first_in (x ∷ xs) i P e all = let same : Some x ≡ Some i = e in let is : x ≡ i = cc in subst P is (all 0 x (omega arith))

-- what the first number that it names leads to
pub from_first : (edges : List (List ℕ)) (n i : ℕ) (ids : List ℕ) → slice_get (next_of edges n) 0 ≡ Some i → IsLedTo edges i ids → AreLedTo edges n ids
from_first edges n i ids e s = record {
  further = s.further;
  least = λ p first more k c. s.least p (more i (first_in (next_of edges n) i (λ j. p j ≡ true) e first)) more k c;
}
