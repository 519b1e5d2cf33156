-- A queue that grows by what is new.
use Rattle.std.proofs.Common.{◌≡◌, ◌<◌, ◌≤◌, ◌+◌, ◌-◌, ℕ, zero, suc, Bool, true, false, cond, ◌||◌, List, [], ◌∷◌, ◌++◌, length, get_or, set, refl, sym, ◌∙◌, ap, subst, ◌⊎◌, inl, inr, arith, eqb, ltb, append_assoc}
use Rattle.std.specs.List.{All, Contains}
use Rattle.std.proofs.lemmas.Bool.{cases_eq, eq-eqb, ne_eqb, eqb-true, cases_lt}
use Rattle.std.proofs.lemmas.List.{append-nil, length-append, length-set, get_or_append_left, get_or_past, get_or_default, get_or_push, get_or-set_same, get_or-set_other}
use Rattle.std.proofs.lemmas.List.Elements.{All-append, All-push, All-contains, All-from_recursion, All-weaker, All-contains_itself, Contains-append_left, Contains-push, Contains-get_or}
use Rattle.std.proofs.lemmas.List.Folds.{list_any-append, list_any_at, Any-from_list_any}
use Rattle.std.specs.Cmp.{both_ways}
use Rattle.jc_index.specs.steps.Reach.{next_of, AreLedTo, IsLedTo}
use Rattle.jc_index.specs.steps.Queue.{is_in, Has, ArePlaces, missing, Enqueues}

none_all : (P : ℕ → Type 0) → All P []
none_all P i d h = absurd (omega arith)

pub one_all : (P : ℕ → Type 0) (x : ℕ) → P x → All P (x ∷ [])
one_all P x h = All-from_recursion P (x ∷ []) (h, tt)

pub the_one : (P : ℕ → Type 0) (x : ℕ) → All P (x ∷ []) → P x
the_one P x h = h 0 x (omega arith)

-- ---- what a queue has

in_queue : (queue : List ℕ) (k : ℕ) → Contains queue k → Has queue k
in_queue queue k c = list_any_at (λ x. eqb x k) queue c.0 k c.1 (ap (λ x. eqb x k) c.2 ∙ eq-eqb k k refl)

of_queue : (queue : List ℕ) (k : ℕ) → Has queue k → Contains queue k
of_queue queue k h =
    let a = Any-from_list_any (λ x. eqb x k) queue h in
    subst (λ j. Contains queue j) (eqb-true a.1 k a.4) (a.0, a.2, a.3)

has_all : (queue ids : List ℕ) → All (Contains queue) ids → All (Has queue) ids
has_all queue ids h = All-weaker (Contains queue) (Has queue) (in_queue queue) ids h

contains_all : (queue ids : List ℕ) → All (Has queue) ids → All (Contains queue) ids
contains_all queue ids h = All-weaker (Has queue) (Contains queue) (of_queue queue) ids h

never : (k : ℕ) → Has [] k → ⊥
never k h = absurd (let c : false ≡ true = h in cc)

-- ---- where its numbers stand

pub no-places : (places : List ℕ) → ArePlaces places []
no-places places = record { within = none_all (λ id. id < length places); right = λ p l. absurd (omega arith) }

-- one number more
pub more-places : (places queue : List ℕ) (id : ℕ) → ArePlaces places queue → id < length places → is_in queue id ≡ false → ArePlaces (set places id (length queue)) (queue ++ id ∷ [])
more-places places queue id a inside new = record {
  within = subst (λ n. All (λ j. j < n) (queue ++ id ∷ [])) (sym (length-set places id (length queue))) (All-push (λ j. j < length places) queue id a.within inside);
  right = λ p l. go p (cases_eq p (length queue)) l;
}
  where
    longer : List ℕ
    longer = queue ++ id ∷ []

    kept : List ℕ
    kept = set places id (length queue)

    go : (p : ℕ) → (p ≡ length queue) ⊎ (p ≡ length queue → ⊥) → p < length longer → get_or kept (get_or longer p 0) 0 ≡ p
    go p (inl e) l = ap (λ k. get_or kept k 0) (get_or_push queue id 0 p (sym e)) ∙ get_or-set_same places id (length queue) 0 inside ∙ sym e
    go p (inr n) l =
        let m : p < length queue = omega (arith, l, n, length-append queue (id ∷ [])) in
        let old : Has queue (get_or queue p 0) = in_queue queue (get_or queue p 0) (Contains-get_or queue p 0 m) in
        let other : get_or queue p 0 ≡ id → ⊥ = λ e. absurd (let c : true ≡ false = sym old ∙ ap (is_in queue) e ∙ new in cc) in
        ap (λ k. get_or kept k 0) (get_or_append_left queue (id ∷ []) 0 p m) ∙ get_or-set_other places id (get_or queue p 0) (length queue) 0 other ∙ a.right p m

module _ (places queue : List ℕ) (a : ArePlaces places queue) (id place : ℕ) (at : get_or places id 0 ≡ place) where
  -- a number that the queue has stands at its place
  stands : Has queue id → (place < length queue) × (get_or queue place 0 ≡ id)
  stands h =
      let c : Contains queue id = of_queue queue id h in
      let is : get_or queue c.0 0 ≡ id = get_or_default queue c.0 0 id c.1 ∙ c.2 in
      let same : c.0 ≡ place = sym (a.right c.0 c.1) ∙ ap (λ k. get_or places k 0) is ∙ at in
      (subst (λ p. p < length queue) same c.1, ap (λ p. get_or queue p 0) (sym same) ∙ is)

  pub there : (x : ℕ) → place < length queue → get_or queue place x ≡ x → eqb x id ≡ is_in queue id
  there x l e = both_ways (eqb x id) (is_in queue id) to from
    where
      to : eqb x id ≡ true → is_in queue id ≡ true
      to t = let q : x ≡ id = eqb-true x id t in in_queue queue id (subst (λ j. Contains queue j) q (place, l, e))

      from : is_in queue id ≡ true → eqb x id ≡ true
      from h = eq-eqb x id (sym e ∙ get_or_default queue place x 0 l ∙ (stands h).1)

  pub past : length queue ≤ place → false ≡ is_in queue id
  past l = both_ways false (is_in queue id) (λ h. absurd (let c : false ≡ true = h in cc)) (λ h. absurd (let s = (stands h).0 in omega arith))

-- ---- one number

-- the longer queue has what the other one has, and the id
abbrev pub Puts : List ℕ → List ℕ → ℕ → Type 0
Puts before after id = (q : ℕ) → is_in after q ≡ cond (eqb id q) true (is_in before q)

puts_new : (queue : List ℕ) (id : ℕ) → Puts queue (queue ++ id ∷ []) id
puts_new queue id q = list_any-append (λ x. eqb x q) queue (id ∷ []) ∙ go (is_in queue q) (eqb id q)
  where
    go : (a b : Bool) → (a || (b || false)) ≡ cond b true a
    go true true = refl
    go true false = refl
    go false true = refl
    go false false = refl

module _ (before after : List ℕ) (id : ℕ) (u : Puts before after id) where
  has_it : Has after id
  has_it = u id ∙ rw (eq-eqb id id refl) refl

  still : (k : ℕ) → Has before k → Has after k
  still k h = u k ∙ go (eqb id k)
    where
      go : (b : Bool) → cond b true (is_in before k) ≡ true
      go true = refl
      go false = h

  either : (k : ℕ) → Has after k → (id ≡ k) ⊎ Has before k
  either k h = go (cases_eq id k)
    where
      go : (id ≡ k) ⊎ (id ≡ k → ⊥) → (id ≡ k) ⊎ Has before k
      go (inl e) = inl e
      go (inr n) = inr (rw (ne_eqb id k n) at (sym (u k)) ∙ h)

  same_at : (k : ℕ) → (id ≡ k → ⊥) → is_in after k ≡ is_in before k
  same_at k n = u k ∙ rw (ne_eqb id k n) refl

  far : (n : ℕ) → n ≤ id → missing n after ≡ missing n before
  far zero h = refl
  far (suc n) h = rw (same_at n (λ e. absurd (omega (arith, e)))) (ap (λ m. cond (is_in before n) 0 1 + m) (far n (omega arith)))

  one_less : is_in before id ≡ false → (n : ℕ) → id < n → missing n after + 1 ≡ missing n before
  one_less new zero h = absurd (omega arith)
  one_less new (suc n) h = go (cases_eq id n) (one_less new n)
    where
      go : (id ≡ n) ⊎ (id ≡ n → ⊥) → (id < n → missing n after + 1 ≡ missing n before) → missing (suc n) after + 1 ≡ missing (suc n) before
      go (inl e) more =
          let a : is_in after n ≡ true = subst (λ k. Has after k) e has_it in
          let b : is_in before n ≡ false = subst (λ k. is_in before k ≡ false) e new in
          let f : missing n after ≡ missing n before = far n (omega (arith, e)) in
          rw (a, b) (omega (arith, f))
      go (inr k) more =
          let f : missing n after + 1 ≡ missing n before = more (omega (arith, k)) in
          rw (same_at n k) (omega (arith, f))

  only_these : (p : ℕ → Bool) → ((k : ℕ) → Has before k → p k ≡ true) → All (λ i. p i ≡ true) (id ∷ []) → (k : ℕ) → Has after k → p k ≡ true
  only_these p old new k h = go (either k h)
    where
      go : (id ≡ k) ⊎ Has before k → p k ≡ true
      go (inl e) = subst (λ j. p j ≡ true) e (the_one (λ i. p i ≡ true) id new)
      go (inr b) = old k b

pub adds_new : (queue : List ℕ) (id : ℕ) → is_in queue id ≡ false → Enqueues queue (queue ++ id ∷ []) (id ∷ [])
adds_new queue id new =
    let u : Puts queue (queue ++ id ∷ []) id = puts_new queue id in
    record {
      keeps = still queue (queue ++ id ∷ []) id u;
      has = one_all (Has (queue ++ id ∷ [])) id (has_it queue (queue ++ id ∷ []) id u);
      only = only_these queue (queue ++ id ∷ []) id u;
      end = id ∷ [];
      longer_by = refl;
      counted = λ n ids.
          let f : missing n (queue ++ id ∷ []) + 1 ≡ missing n queue = one_less queue (queue ++ id ∷ []) id u new n (the_one (λ i. i < n) id ids) in
          omega (arith, length-append queue (id ∷ []), f);
    }

pub adds_old : (queue : List ℕ) (id : ℕ) → is_in queue id ≡ true → Enqueues queue queue (id ∷ [])
adds_old queue id old = record {
  keeps = λ k h. h;
  has = one_all (Has queue) id old;
  only = λ p before new k h. before k h;
  end = [];
  longer_by = sym (append-nil queue);
  counted = λ n ids. refl;
}

pub adds_more : (a b c : List ℕ) (ids : List ℕ) (id : ℕ) → Enqueues a b ids → Enqueues b c (id ∷ []) → Enqueues a c (ids ++ id ∷ [])
adds_more a b c ids id h k = record {
  keeps = λ x y. k.keeps x (h.keeps x y);
  has = All-append (Has c) ids (id ∷ []) (λ i d l. k.keeps _ (h.has i d l)) k.has;
  only = λ t old new. k.only t (h.only t old (front (λ i. t i ≡ true) new)) (back (λ i. t i ≡ true) new);
  end = h.end ++ k.end;
  longer_by = k.longer_by ∙ ap (λ x. x ++ k.end) h.longer_by ∙ append_assoc a h.end k.end;
  counted = λ n all. k.counted n (back (λ i. i < n) all) ∙ h.counted n (front (λ i. i < n) all);
}
  where
    front : (P : ℕ → Type 0) → All P (ids ++ id ∷ []) → All P ids
    front P all =
        All-weaker (Contains ids) P (λ x c. All-contains P (ids ++ id ∷ []) x all (Contains-append_left ids (id ∷ []) x c)) ids (All-contains_itself ids)

    back : (P : ℕ → Type 0) → All P (ids ++ id ∷ []) → All P (id ∷ [])
    back P all = one_all P id (All-contains P (ids ++ id ∷ []) id all (Contains-push ids id))

-- ---- the search

-- the queue, of which those before `next` have been looked at
pub record Searching (edges : List (List ℕ)) (start : ℕ) (queue : List ℕ) (next : ℕ) : Type 0 where
  pub first : All (Has queue) (next_of edges start)
  pub done : (i : ℕ) → i < next → All (Has queue) (next_of edges (get_or queue i 0))
  pub least : (p : ℕ → Bool) → All (λ k. p k ≡ true) (next_of edges start) → ((k : ℕ) → p k ≡ true → All (λ j. p j ≡ true) (next_of edges k))
      → (k : ℕ) → Has queue k → p k ≡ true
  pub within : next ≤ length queue

module _ (edges : List (List ℕ)) (start : ℕ) where
  -- it begins with what is known, which needn't be looked at
  pub starts : (known begun queue : List ℕ) → AreLedTo edges start known → Enqueues [] begun known → Enqueues begun queue (next_of edges start) → Searching edges start queue (length begun)
  starts known begun queue k b a = record {
    first = a.has;
    done = λ i l. subst (λ j. All (Has queue) (next_of edges j)) (sym (same_front i l)) (among (get_or begun i 0) (in_known (get_or begun i 0) (in_queue begun (get_or begun i 0) (Contains-get_or begun i 0 l))));
    least = λ p first more. a.only p (b.only p (λ j h. absurd (never j h)) (All-weaker (Contains known) (λ j. p j ≡ true) (k.least p first more) known (All-contains_itself known))) first;
    within = subst (λ (q : List ℕ). length begun ≤ length q) (sym a.longer_by) (omega (arith, length-append begun a.end));
  }
    where
      same_front : (i : ℕ) → i < length begun → get_or queue i 0 ≡ get_or begun i 0
      same_front i l = subst (λ (q : List ℕ). get_or q i 0 ≡ get_or begun i 0) (sym a.longer_by) (get_or_append_left begun a.end 0 i l)

      in_known : (j : ℕ) → Has begun j → Contains known j
      in_known j h = of_queue known j (b.only (is_in known) (λ m n. absurd (never m n)) (has_all known known (All-contains_itself known)) j h)

      among : (j : ℕ) → Contains known j → All (Has queue) (next_of edges j)
      among j c = All-weaker (Contains known) (Has queue) (λ m n. a.keeps m (All-contains (Has begun) known m b.has n)) (next_of edges j) (k.further j c)

  module _ (queue longer : List ℕ) (next : ℕ) (s : Searching edges start queue next) where
    pub goes : next < length queue → Enqueues queue longer (next_of edges (get_or queue next 0)) → Searching edges start longer (next + 1)
    goes inside a = record {
      first = λ i d l. a.keeps _ (s.first i d l);
      done = λ i h. by i (cases_eq i next) h;
      least = λ p first more. a.only p (s.least p first more) (more (get_or queue next 0) (s.least p first more (get_or queue next 0) (in_queue queue (get_or queue next 0) (Contains-get_or queue next 0 inside))));
      within = subst (λ (q : List ℕ). next + 1 ≤ length q) (sym a.longer_by) (omega (arith, inside, length-append queue a.end));
    }
      where
        same_front : (i : ℕ) → i < length queue → get_or longer i 0 ≡ get_or queue i 0
        same_front i l = subst (λ (q : List ℕ). get_or q i 0 ≡ get_or queue i 0) (sym a.longer_by) (get_or_append_left queue a.end 0 i l)

        by : (i : ℕ) → (i ≡ next) ⊎ (i ≡ next → ⊥) → i < next + 1 → All (Has longer) (next_of edges (get_or longer i 0))
        by i (inl e) h = subst (λ k. All (Has longer) (next_of edges k)) (sym (subst (λ (j : ℕ). get_or longer j 0 ≡ get_or queue next 0) (sym e) (same_front next inside))) a.has
        by i (inr n) h =
            let l : i < next = omega (arith, n) in
            subst (λ k. All (Has longer) (next_of edges k)) (sym (same_front i (omega (arith, inside)))) (λ j d m. a.keeps _ (s.done i l j d m))

    pub smaller : (n : ℕ) → next < length queue → ((k : ℕ) → All (λ j. j < n) (next_of edges k)) → Enqueues queue longer (next_of edges (get_or queue next 0))
        → missing n longer + (length longer - (next + 1)) < missing n queue + (length queue - next)
    smaller n inside all a =
        let c : missing n longer + length longer ≡ missing n queue + length queue = a.counted n (all (get_or queue next 0)) in
        let l : length queue ≤ length longer = subst (λ (q : List ℕ). length queue ≤ length q) (sym a.longer_by) (omega (arith, length-append queue a.end)) in
        omega (arith, c, l, inside)

    pub ends : length queue ≤ next → IsLedTo edges start queue
    ends h = record {
      first = contains_all queue (next_of edges start) s.first;
      further = λ k c. contains_all queue (next_of edges k) (by k c);
      least = λ p first more k c. s.least p first more k (in_queue queue k c);
    }
      where
        by : (k : ℕ) → Contains queue k → All (Has queue) (next_of edges k)
        by k c = subst (λ j. All (Has queue) (next_of edges j)) (get_or_default queue c.0 0 k c.1 ∙ c.2) (s.done c.0 (let l = c.1 in omega arith))

    pub inside_edges : next < length queue → ((k : ℕ) → All (λ j. j < length edges) (next_of edges k)) → get_or queue next 0 < length edges
    inside_edges inside all =
        let t : ltb (get_or queue next 0) (length edges) ≡ true = s.least (λ k. ltb k (length edges)) (tests (next_of edges start) (all start)) (λ k h. tests (next_of edges k) (all k)) (get_or queue next 0)
        (in_queue queue (get_or queue next 0) (Contains-get_or queue next 0 inside)) in
        grind arith
      where
        tests : (xs : List ℕ) → All (λ j. j < length edges) xs → All (λ j. ltb j (length edges) ≡ true) xs
        tests xs h i d l = let m = h i d l in grind arith

  -- what is known lies within
  pub known-within : (known : List ℕ) → ((k : ℕ) → All (λ j. j < length edges) (next_of edges k)) → AreLedTo edges start known → All (λ j. j < length edges) known
  known-within known all k =
      All-weaker (Contains known) (λ j. j < length edges)
      (λ j c. let t : ltb j (length edges) ≡ true = k.least (λ i. ltb i (length edges)) (tests (next_of edges start) (all start)) (λ i h. tests (next_of edges i) (all i)) j c in grind arith)
      known (All-contains_itself known)
    where
      tests : (xs : List ℕ) → All (λ j. j < length edges) xs → All (λ j. ltb j (length edges) ≡ true) xs
      tests xs h i d l = let m = h i d l in grind arith

-- what a number names lies within, also where there is no such number
pub names_within : (edges : List (List ℕ)) (n : ℕ) → All (λ ids. All (λ id. id < n) ids) edges → (k : ℕ) → All (λ j. j < n) (next_of edges k)
names_within edges n h k = go (cases_lt k (length edges))
  where
    go : (k < length edges) ⊎ (length edges ≤ k) → All (λ j. j < n) (next_of edges k)
    go (inl l) = h k [] l
    go (inr l) = subst (λ (ids : List ℕ). All (λ j. j < n) ids) (sym (get_or_past edges k [] l)) (none_all (λ j. j < n))
