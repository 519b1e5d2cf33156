-- The seats to which hidden classes are exposed, and the places where they begin.
use Rattle.std.proofs.Common.{◌≡◌, ◌<◌, ◌≤◌, ◌+◌, ◌⊎◌, inl, inr, ℕ, zero, suc, arith, Bool, true, false, cond, List, [], ◌∷◌, ◌++◌, map, take, drop, length, get_or, refl, sym, ◌∙◌, ap, subst, Some, None, ◌&&◌, ◌||◌}
use Rattle.std.specs.Prelude.{IsTrue}
use Rattle.std.specs.List.{All, list_any, find as first_where}
use Rattle.std.proofs.lemmas.Bool.{cases_lt}
use Rattle.std.proofs.lemmas.List.{at_drop_more, at_drop_all, get_or_append_left, length-append, take-map, take_all}
use Rattle.std.proofs.lemmas.List.Elements.{All-get_or}
use Rattle.std.proofs.lemmas.List.Folds.{list_all_at, list_any_more}
use Rattle.std.proofs.Math.Seq.{get_or-append_seam}
use Rattle.jc_facts.specs.Names.{Bytes}
use Rattle.jc_promises.specs.rule.Exposed.{is_hidden, is_exposed}
use Rattle.jc_facts.specs.world.World.{size}
use Rattle.jc_lemmas.proofs.Bools.{contradicts}
use Rattle.jc_lemmas.proofs.Lists.{any_weaker}
use Rattle.jc_sides.specs.SharedOf.{SharedOf, name_of}
use Rattle.jc_sides.specs.SidesOf.{SidesOf}
use Rattle.jc_index.specs.Ids.{name_at}
use Rattle.jc_acts.specs.Seats.{all_seats}
use Rattle.jc_exposed.specs.Exposed.{AreExposed, AreStarts, IsStart, are_all_exposed, is_wanted, start_at}
use Rattle.jc_exposed.specs.Rows.{exposes_in}
use Rattle.jc_exposed.specs.declared.exposed.Exposed.{Exposed}
use Rattle.jc_exposed.specs.declared.exposure.Exposure.{Exposure}

pub both : (b o r : Bool) → b ≡ true → r ≡ o → r ≡ (b && o)
both true o r e h = h
both false o r e h = absurd (cc)

-- ---- the first seat that passes

module _ (test : Bytes → Bool) where
  at_front : (ys : List SharedOf) (n : ℕ) (d y : SharedOf) → n < length ys → y ≡ get_or ys n d → first_where test (map name_of (drop n ys)) ≡ cond (test (name_of y)) (Some (name_of y)) (first_where test (map name_of (drop (n + 1) ys)))
  at_front ys n d y l is = at_drop_more (λ zs. first_where test (map name_of zs)) ys n d l ∙ ap (λ z. cond (test (name_of z)) (Some (name_of z)) (first_where test (map name_of (drop (n + 1) ys)))) (sym is)

  pub seat_next : (ys : List SharedOf) (n : ℕ) (d y : SharedOf) → n < length ys → y ≡ get_or ys n d → test (name_of y) ≡ false → first_where test (map name_of (drop n ys)) ≡ first_where test (map name_of (drop (n + 1) ys))
  seat_next ys n d y l is h = at_front ys n d y l is ∙ ap (λ b. cond b (Some (name_of y)) (first_where test (map name_of (drop (n + 1) ys)))) h

  pub seat_here : (ys : List SharedOf) (n : ℕ) (d y : SharedOf) → n < length ys → y ≡ get_or ys n d → test (name_of y) ≡ true → first_where test (map name_of (drop n ys)) ≡ Some (name_of y)
  seat_here ys n d y l is h = at_front ys n d y l is ∙ ap (λ b. cond b (Some (name_of y)) (first_where test (map name_of (drop (n + 1) ys)))) h

  pub seat_end : (ys : List SharedOf) (n : ℕ) → length ys ≤ n → first_where test (map name_of (drop n ys)) ≡ None
  seat_end ys n l = at_drop_all (λ zs. first_where test (map name_of zs)) ys n l

  -- one seat more that doesn't pass
  pub start_next : (ys : List SharedOf) (n : ℕ) (d y : SharedOf) → n < length ys → y ≡ get_or ys n d → test (name_of y) ≡ false → list_any (λ z. test (name_of z)) (take n ys) ≡ false → list_any (λ z. test (name_of z)) (take (n + 1) ys) ≡ false
  start_next ys n d y l is h e = list_any_more (λ z. test (name_of z)) ys n d l ∙ ap (λ b. b || test (name_of (get_or ys n d))) e ∙ ap (λ z. test (name_of z)) (sym is) ∙ h

  any_names : (ys : List SharedOf) → list_any test (map name_of ys) ≡ list_any (λ z. test (name_of z)) ys
  any_names [] = refl
  any_names (y ∷ ys) = ap (λ b. test (name_of y) || b) (any_names ys)

  pub start_end : (ys : List SharedOf) (n : ℕ) → list_any (λ z. test (name_of z)) (take n ys) ≡ false → list_any test (take n (map name_of ys)) ≡ false
  start_end ys n e = ap (list_any test) (take-map name_of n ys) ∙ any_names (take n ys) ∙ e

  -- where none of the first n passes, the first that does stands behind them
  pub first_past : (ys : List SharedOf) (n : ℕ) → list_any test (take n (map name_of ys)) ≡ false → first_where test (map name_of (drop n ys)) ≡ first_where test (map name_of ys)
  first_past ys zero e = refl
  first_past [] (suc n) e = refl
  first_past (y ∷ ys) (suc n) e = go (test (name_of y)) refl e (first_past ys n)
    where
      go : (b : Bool) → test (name_of y) ≡ b → (b || list_any test (take n (map name_of ys))) ≡ false → (list_any test (take n (map name_of ys)) ≡ false → first_where test (map name_of (drop n ys)) ≡ first_where test (map name_of ys))
          → first_where test (map name_of (drop n ys)) ≡ cond b (Some (name_of y)) (first_where test (map name_of ys))
      go true q p r = absurd (let clash : true ≡ false = p in cc)
      go false q p r = r p

  pub none_first : (xs : List Bytes) → list_any test xs ≡ false → first_where test xs ≡ None
  none_first [] e = refl
  none_first (x ∷ xs) e = go (test x) e (none_first xs)
    where
      go : (b : Bool) → (b || list_any test xs) ≡ false → (list_any test xs ≡ false → first_where test xs ≡ None) → cond b (Some x) (first_where test xs) ≡ None
      go true p r = absurd (let clash : true ≡ false = p in cc)
      go false p r = r p

-- ---- the places of all classes

module _ (s : SidesOf) (rows : List (List Exposure)) where
  pub starts_none : (starts : List ℕ) → starts ≡ [] → AreStarts s rows 0 starts
  starts_none starts e = record { count = ap length e; each = λ t l. absurd (omega (arith, l)) }

  pub starts_next : (n id start : ℕ) (starts now : List ℕ) → id ≡ n → now ≡ starts ++ start ∷ [] → IsStart s rows id start → AreStarts s rows n starts → AreStarts s rows (n + 1) now
  starts_next n id start starts now i e h f = subst (AreStarts s rows (n + 1)) (sym e) (record {
    count = length-append starts (start ∷ []) ∙ ap (λ m. m + 1) f.count;
    each = λ t l. step t l (cases_lt t n);
  })
    where
      step : (t : ℕ) → t < n + 1 → (t < n) ⊎ (n ≤ t) → IsStart s rows t (start_at (starts ++ start ∷ []) t)
      step t m (inl l) = subst (IsStart s rows t) (sym (get_or_append_left starts (start ∷ []) 0 t (subst (λ k. t < k) (sym f.count) l))) (f.each t l)
      step t m (inr l) =
          let q : t ≡ n = omega (arith, l, m) in
          subst (IsStart s rows t) (sym (ap (λ k. get_or (starts ++ start ∷ []) k 0) (q ∙ sym f.count) ∙ get_or-append_seam starts start [] 0)) (subst (λ k. IsStart s rows k start) (i ∙ sym q) h)

  -- before the first seat there is none
  pub start_zero : (t n : ℕ) → n ≡ 0 → IsStart s rows t n
  start_zero t n e = ap (λ k. list_any (λ a. exposes_in s.old rows a t) (take k (all_seats s))) e

-- ---- several classes

module _ (s : SidesOf) (e : Exposed) (h : AreExposed s e) (ids : List ℕ) (inside : All (λ id. id < size s.old) ids) (hidden : All (λ id. IsTrue (is_hidden s.old (name_at s.old id))) ids) (wanted : All (λ id. IsTrue (is_wanted e id)) ids) where
  -- where one of them isn't exposed, not each is
  pub start_of_all : (i id d start : ℕ) → i < length ids → id ≡ get_or ids i d → start ≡ start_at e.starts.items id → list_any (are_all_exposed s.old ids) (take start (all_seats s)) ≡ false
  start_of_all i id d start l q k = go (list_any (are_all_exposed s.old ids) (take start (all_seats s))) refl
    where
      below : id < size s.old
      below = subst (λ n. n < size s.old) (sym q) (All-get_or (λ n. n < size s.old) ids i d l inside)

      on : IsTrue (is_wanted e id)
      on = subst (λ n. IsTrue (is_wanted e n)) (sym q) (All-get_or (λ n. IsTrue (is_wanted e n)) ids i d l wanted)

      unseen : IsTrue (is_hidden s.old (name_at s.old id))
      unseen = subst (λ n. IsTrue (is_hidden s.old (name_at s.old n))) (sym q) (All-get_or (λ n. IsTrue (is_hidden s.old (name_at s.old n))) ids i d l hidden)

      each : (a : Bytes) → are_all_exposed s.old ids a ≡ true → exposes_in s.old e.rows.items a id ≡ true
      each a t = by (is_exposed s.old a (name_at s.old id)) refl
        where
          by : (b : Bool) → is_exposed s.old a (name_at s.old id) ≡ b → exposes_in s.old e.rows.items a id ≡ true
          by true p = h.rows.exact a id below on unseen ∙ p
          by false p = absurd (contradicts (are_all_exposed s.old ids a) t (list_all_at (λ n. is_exposed s.old a (name_at s.old n)) ids i d l (subst (λ n. is_exposed s.old a (name_at s.old n) ≡ false) q p)))

      go : (b : Bool) → list_any (are_all_exposed s.old ids) (take start (all_seats s)) ≡ b → b ≡ false
      go false p = refl
      go true p = absurd (contradicts (list_any (λ a. exposes_in s.old e.rows.items a id) (take start (all_seats s))) (any_weaker (are_all_exposed s.old ids) (λ a. exposes_in s.old e.rows.items a id) each (take start (all_seats s)) p)
          (subst (IsStart s e.rows.items id) (sym k) (h.starts.each id below)))

  pub later_start : (i id d before other now : ℕ) → i < length ids → id ≡ get_or ids i d → other ≡ start_at e.starts.items id → (now ≡ before) ⊎ (now ≡ other) → list_any (are_all_exposed s.old ids) (take before (all_seats s)) ≡ false
      → list_any (are_all_exposed s.old ids) (take now (all_seats s)) ≡ false
  later_start i id d before other now l q k (inl r) f = subst (λ n. list_any (are_all_exposed s.old ids) (take n (all_seats s)) ≡ false) (sym r) f
  later_start i id d before other now l q k (inr r) f = subst (λ n. list_any (are_all_exposed s.old ids) (take n (all_seats s)) ≡ false) (sym r) (start_of_all i id d other l q k)

-- no place is behind all seats
pub none_behind : (test : Bytes → Bool) (ys : List SharedOf) (n : ℕ) → length ys ≤ n → list_any test (take n (map name_of ys)) ≡ false → first_where test (map name_of ys) ≡ None
none_behind test ys n l e = none_first test (map name_of ys) (subst (λ zs. list_any test zs ≡ false) (take-map name_of n ys ∙ ap (map name_of) (take_all n ys l)) e)

-- before the place where the seats of one class begin, no test passes that holds of none but those to which it is exposed
pub start_for : (s : SidesOf) (id start : ℕ) (test : Bytes → Bool) → ((a : Bytes) → test a ≡ true → is_exposed s.old a (name_at s.old id) ≡ true) → list_any (are_all_exposed s.old (id ∷ [])) (take start (all_seats s)) ≡ false
    → list_any test (take start (all_seats s)) ≡ false
start_for s id start test h e = go (list_any test (take start (all_seats s))) refl
  where
    go : (b : Bool) → list_any test (take start (all_seats s)) ≡ b → list_any test (take start (all_seats s)) ≡ false
    go false f = f
    go true f = absurd (contradicts (list_any (are_all_exposed s.old (id ∷ [])) (take start (all_seats s)))
        (any_weaker test (are_all_exposed s.old (id ∷ [])) (λ a t. ap (λ b. b && true) (h a t)) (take start (all_seats s)) f) e)
