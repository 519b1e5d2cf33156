-- The order in which classes load: what a written state and one more class leave of it.
use Rattle.std.proofs.Common.{◌≡◌, ◌≢◌, ℕ, ◌<◌, ◌+◌, ◌≤◌, Bool, true, false, cond, ◌||◌, List, [], ◌∷◌, ◌++◌, length, get_or, slice_get, set, eqb, refl, sym, ◌∙◌, ap, subst, Option, Some, None, ◌⊎◌, inl, inr, arith, length-append, take}
use Rattle.std.specs.List.{Contains}
use Rattle.std.proofs.lemmas.Bool.Decides.{eqb_tells}
use Rattle.std.proofs.lemmas.Option.{slice_get_within, get_or_from_slice_get}
use Rattle.std.proofs.lemmas.List.{take-append-le, get_or_append_left, get_or-append-add, take_all, take_more}
use Rattle.std.proofs.lemmas.List.Elements.{Contains-append_left, Contains-push}
use Rattle.jc_lemmas.proofs.Listed.{EachOf, EachOf-map, EachOf-append}
use Rattle.jc_facts.specs.declared.class_facts.ClassFacts.{ClassFacts}
use Rattle.jc_facts.specs.declared.link_error.LinkError.{LinkError}
use Rattle.jc_facts.specs.Names.{Bytes}
use Rattle.jc_facts.specs.world.World.{World, find_class, size}
use Rattle.jc_facts.specs.world.Search.{supers}
use Rattle.jc_facts.specs.world.Loading.{load_fault}
use Rattle.jc_index.specs.Ids.{name_at, id_of}
use Rattle.jc_index.proofs.Numbers.{id_of-Some}
use Rattle.jc_index.specs.LoadOrder.{IsNext, AreInLoadOrder, IsLoadOrder}
use Rattle.jc_loading.specs.declared.faults.State.{State}
use Rattle.jc_loading.specs.declared.faults.State.TheVariants as states
use Rattle.jc_loading.specs.declared.faults.Frame.{Frame}
use Rattle.jc_loading.specs.steps.Entering.{state_of, is_on, is_known, AllHave}
use Rattle.jc_loading.specs.steps.Passing.{IsPassed, ArePassed, AllPassed, ArePassedOnWay, Orders, Grows, StandBefore}
use Rattle.jc_loading.proofs.Paths.{written}

-- ---- one state is written: what was known to load is

still : (ss : List State) (k m : ℕ) (s : State) → k < length ss → (state_of ss k ≡ states.Known None → s ≡ states.Known None) → state_of ss m ≡ states.Known None → state_of (set ss k s) m ≡ states.Known None
still ss k m s l keep h = written ss k m s l ∙ go (eqb_tells k m)
  where
    go : ((eqb k m ≡ true) × (k ≡ m)) ⊎ ((eqb k m ≡ false) × (k ≢ m)) → cond (eqb k m) s (state_of ss m) ≡ states.Known None
    go (inl e) = rw e.0 (keep (ap (state_of ss) e.1 ∙ h))
    go (inr e) = rw e.0 h

passed : (W : World) (ss : List State) (k : ℕ) (s : State) → k < length ss → (state_of ss k ≡ states.Known None → s ≡ states.Known None) → (x : Bytes) → IsPassed W ss x → IsPassed W (set ss k s) x
passed W ss k s l keep x h = (h.0, h.1, still ss k h.0 s l keep h.2)

passed-first : (W : World) (ss : List State) (k : ℕ) (s : State) → k < length ss → (state_of ss k ≡ states.Known None → s ≡ states.Known None) → (x : Bytes) (above : ℕ) → ArePassed W ss x above → ArePassed W (set ss k s) x above
passed-first W ss k s l keep x above h = λ c e. EachOf-map (passed W ss k s l keep) (take above (supers c)) (h c e)

passed-path : (W : World) (ss : List State) (k : ℕ) (s : State) → k < length ss → (state_of ss k ≡ states.Known None → s ≡ states.Known None) → (fs : List Frame)
    → EachOf (λ (f : Frame). ArePassed W ss (name_at W f.class) f.above) fs → EachOf (λ (f : Frame). ArePassed W (set ss k s) (name_at W f.class) f.above) fs
passed-path W ss k s l keep fs h = EachOf-map (λ (f : Frame) p. passed-first W ss k s l keep (name_at W f.class) f.above p) fs h

-- ---- one state is written: what is known to load was, or is the class that was written

before : (ss : List State) (k m : ℕ) (s : State) → k < length ss → state_of (set ss k s) m ≡ states.Known None → ((k ≡ m) × (s ≡ states.Known None)) ⊎ (state_of ss m ≡ states.Known None)
before ss k m s l h = go (eqb_tells k m)
  where
    at : cond (eqb k m) s (state_of ss m) ≡ states.Known None
    at = sym (written ss k m s l) ∙ h

    go : ((eqb k m ≡ true) × (k ≡ m)) ⊎ ((eqb k m ≡ false) × (k ≢ m)) → ((k ≡ m) × (s ≡ states.Known None)) ⊎ (state_of ss m ≡ states.Known None)
    go (inl e) = inl (e.1, rw e.0 at at)
    go (inr e) = inr (rw e.0 at at)

-- a class that is entered isn't known to load
pub orders-entered : (W : World) (ss : List State) (k : ℕ) (order : List ℕ) → k < length ss → Orders W ss order → Orders W (set ss k states.Entered) order
orders-entered W ss k order l o = record { each = o.each; known = λ n b h. go n b (before ss k n states.Entered l h) }
  where
    go : (n : ℕ) → n < size W → ((k ≡ n) × (states.Entered ≡ states.Known None)) ⊎ (state_of ss n ≡ states.Known None) → Contains order n
    go n b (inl e) = absurd (let c : is_known states.Entered ≡ is_known (states.Known None) = ap is_known e.1 in cc)
    go n b (inr h) = o.known n b h

-- the classes that have a fault aren't either
pub orders-noted : (W : World) (ss after : List State) (path : List Frame) (top : ℕ) (e : LinkError) (order : List ℕ) → AllHave e ss path top after → Orders W ss order → Orders W after order
orders-noted W ss after path top e order a o = record { each = o.each; known = λ n b h. go n b (is_on n path || eqb top n) (sym (a.1 n) ∙ h) }
  where
    fault_of : State → Option LinkError
    fault_of (states.Known fault) = fault
    fault_of _ = None

    go : (n : ℕ) → n < size W → (b : Bool) → cond b (states.Known (Some e)) (state_of ss n) ≡ states.Known None → Contains order n
    go n b true h = absurd (let c : Some e ≡ None = ap fault_of h in cc)
    go n b false h = o.known n b h

-- ---- one class more stands in the order

pub goes : (W : World) (order : List ℕ) (n : ℕ) → AreInLoadOrder W order → IsNext W order n → AreInLoadOrder W (order ++ n ∷ [])
goes W order n each next = λ i d l. go i d l (eqb_tells i (length order))
  where
    go : (i d : ℕ) → i < length (order ++ n ∷ []) → ((eqb i (length order) ≡ true) × (i ≡ length order)) ⊎ ((eqb i (length order) ≡ false) × (i ≢ length order)) → IsNext W (take i (order ++ n ∷ [])) (get_or (order ++ n ∷ []) i d)
    go i d l (inr e) =
        let m : i < length order = let q = length-append order (n ∷ []) in let o = e.1 in omega arith in
        rw (take-append-le i order (n ∷ []) (let k : i ≤ length order = omega arith in k), get_or_append_left order (n ∷ []) d i m) (each i d m)
    go i d l (inl e) =
        let k : i ≤ length order = let o = e.1 in omega arith in
        let front : take i (order ++ n ∷ []) ≡ order = take-append-le i order (n ∷ []) k ∙ take_all i order (let o = e.1 in omega arith) in
        let last : get_or (order ++ n ∷ []) i d ≡ n = ap (λ j. get_or (order ++ n ∷ []) j d) (let q : i ≡ length order + 0 = let o = e.1 in omega arith in q) ∙ get_or-append-add order (n ∷ []) 0 d in
        rw (front, last) next

next-is : (W : World) (ss : List State) (order : List ℕ) (k : ℕ) → Orders W ss order → k < size W → load_fault W (name_at W k) ≡ None → AllPassed W ss (name_at W k) → IsNext W order k
next-is W ss order k o b h p = record {
  within = b;
  loads = h;
  above = λ c e. EachOf-map stands (supers c) (p c e);
}
  where
    stands : (s : Bytes) → IsPassed W ss s → (m : ℕ) × (id_of W s ≡ Some m) × Contains order m
    stands s q = (q.0, q.1, o.known q.0 (id_of-Some W s q.0 q.1).0 q.2)

orders-pushed : (W : World) (ss : List State) (k : ℕ) (order : List ℕ) → k < length ss → k < size W → load_fault W (name_at W k) ≡ None → AllPassed W ss (name_at W k) → Orders W ss order → Orders W (set ss k (states.Known None)) (order ++ k ∷ [])
orders-pushed W ss k order l b h p o = record {
  each = goes W order k o.each (next-is W ss order k o b h p);
  known = λ n m e. go n m (before ss k n (states.Known None) l e);
}
  where
    go : (n : ℕ) → n < size W → ((k ≡ n) × (states.Known None ≡ states.Known None)) ⊎ (state_of ss n ≡ states.Known None) → Contains (order ++ k ∷ []) n
    go n m (inl e) = subst (λ j. Contains (order ++ k ∷ []) j) e.0 (Contains-push order k)
    go n m (inr e) = Contains-append_left order (k ∷ []) n (o.known n m e)

-- ---- going over the classes above

-- one more of them is known to load
pub passed-more : (P : Bytes → Type 0) (xs : List Bytes) (n : ℕ) (x : Bytes) → EachOf P (take n xs) → slice_get xs n ≡ Some x → P x → EachOf P (take (n + 1) xs)
passed-more P xs n x h g p =
    let l : n < length xs = slice_get_within xs n x g in
    let t : take (n + 1) xs ≡ take n xs ++ x ∷ [] = take_more xs n x l ∙ ap (λ y. take n xs ++ y ∷ []) (get_or_from_slice_get xs n x x g) in
    subst (λ (ys : List Bytes). EachOf P ys) (sym t) (EachOf-append P (take n xs) (x ∷ []) h (p, tt))

-- all of them are
pub passed-all : (P : Bytes → Type 0) (xs : List Bytes) (n : ℕ) → length xs ≤ n → EachOf P (take n xs) → EachOf P xs
passed-all P xs n l h = subst (λ (ys : List Bytes). EachOf P ys) (take_all n xs l) h

-- the class of a name that has a number
pub of_class : (W : World) (x : Bytes) (c : ClassFacts) (P : Bytes → Type 0) (part : ClassFacts → List Bytes) → Some c ≡ find_class W x → EachOf P (part c) → (d : ClassFacts) → find_class W x ≡ Some d → EachOf P (part d)
of_class W x c P part f h d g = let s : Some c ≡ Some d = f ∙ g in let e : c ≡ d = cc in subst (λ (b : ClassFacts). EachOf P (part b)) e h

-- ---- what stands on the way

each-front : {A : Type 0} (P : A → Type 0) (xs ys : List A) → EachOf P (xs ++ ys) → EachOf P xs × EachOf P ys
each-front P [] ys h = (tt, h)
each-front P (x ∷ xs) ys h = let r = each-front P xs ys h.1 in ((h.0, r.0), r.1)

keeps_fresh : (s t : State) → is_known s ≡ false → s ≡ states.Known None → t ≡ states.Known None
keeps_fresh s t f e = absurd (let p : is_known s ≡ true = ap is_known e in cc)

-- one class more is entered
pub way-entered : (W : World) (ss : List State) (path pushed : List Frame) (top : Frame) (above id k : ℕ) → pushed ≡ path ++ record { class = top.class; above = above } ∷ [] → k ≡ id → id < length ss → is_known (state_of ss id) ≡ false
    → ArePassedOnWay W ss path top → ArePassed W ss (name_at W top.class) above → ArePassedOnWay W (set ss k states.Entered) pushed (record { class = id; above = 0 })
way-entered W ss path pushed top above id k p q l u w a = rw (p, q) (record {
  at_top = λ c e. tt;
  on_path = EachOf-append (λ (f : Frame). ArePassed W (set ss id states.Entered) (name_at W f.class) f.above) path (record { class = top.class; above = above } ∷ [])
      (passed-path W ss id states.Entered l (keeps_fresh (state_of ss id) states.Entered u) path w.on_path)
      (passed-first W ss id states.Entered l (keeps_fresh (state_of ss id) states.Entered u) (name_at W top.class) above a, tt);
})

-- the class at the top loads, and is left
pub way-left : (W : World) (ss : List State) (path fs : List Frame) (f top : Frame) (k : ℕ) → path ≡ fs ++ f ∷ [] → k ≡ top.class → top.class < length ss → ArePassedOnWay W ss path top → ArePassedOnWay W (set ss k (states.Known None)) fs f
way-left W ss path fs f top k p q l w =
    let r = each-front (λ (g : Frame). ArePassed W ss (name_at W g.class) g.above) fs (f ∷ []) (subst (λ (gs : List Frame). EachOf (λ (g : Frame). ArePassed W ss (name_at W g.class) g.above) gs) p w.on_path) in
    rw q (record {
      at_top = passed-first W ss top.class (states.Known None) l (λ e. refl) (name_at W f.class) f.above r.1.0;
      on_path = passed-path W ss top.class (states.Known None) l (λ e. refl) fs r.0;
    })

-- the first class is entered
pub way-starts : (W : World) (ss : List State) (path : List Frame) (id : ℕ) → path ≡ [] → ArePassedOnWay W ss path (record { class = id; above = 0 })
way-starts W ss path id p = rw p (record { at_top = λ c e. tt; on_path = tt })

-- ---- what the order is after a class was pushed

pub orders-left : (W : World) (ss : List State) (k : ℕ) (order after : List ℕ) (top : ℕ) → k ≡ top → after ≡ order ++ top ∷ [] → top < length ss → top < size W → load_fault W (name_at W top) ≡ None → AllPassed W ss (name_at W top) → Orders W ss order
    → Orders W (set ss k (states.Known None)) after
orders-left W ss k order after top p q l b h a o = rw (p, q) (orders-pushed W ss top order l b h a o)

pub grows-pushed : (order after : List ℕ) (k : ℕ) → after ≡ order ++ k ∷ [] → Grows order after
grows-pushed order after k q = λ n h. rw q (Contains-append_left order (k ∷ []) n h)

pub grown-pushed : (order after : List ℕ) (k : ℕ) → after ≡ order ++ k ∷ [] → Contains after k
grown-pushed order after k q = rw q (Contains-push order k)

pub orders-started : (W : World) (ss : List State) (k id : ℕ) (order : List ℕ) → k ≡ id → id < size W → length ss ≡ size W → Orders W ss order → Orders W (set ss k states.Entered) order
orders-started W ss k id order p i q o = rw p (orders-entered W ss id order (omega arith) o)

-- ---- all classes

pub stand-more : (W : World) (n id : ℕ) (fault : Option LinkError) (order after : List ℕ) → id ≡ n → load_fault W (name_at W id) ≡ fault → StandBefore W n order → Grows order after → (fault ≡ None → Contains after id) → StandBefore W (n + 1) after
stand-more W n id fault order after p f s g h = λ k l e. go k l e (eqb_tells k n)
  where
    go : (k : ℕ) → k < n + 1 → load_fault W (name_at W k) ≡ None → ((eqb k n ≡ true) × (k ≡ n)) ⊎ ((eqb k n ≡ false) × (k ≢ n)) → Contains after k
    go k l e (inr o) = g k (s k (let q = o.1 in omega arith) e)
    go k l e (inl q) =
        let r : id ≡ k = p ∙ sym q.1 in
        subst (λ j. Contains after j) r (h (sym f ∙ ap (λ j. load_fault W (name_at W j)) r ∙ e))

pub stand-all : (W : World) (n : ℕ) (ss : List State) (order : List ℕ) → size W ≤ n → Orders W ss order → StandBefore W n order → IsLoadOrder W order
stand-all W n ss order l o s = record { each = o.each; all = λ k b e. s k (omega arith) e }
