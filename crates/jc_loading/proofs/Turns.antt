-- What stands after one more class is entered, is done, or has a fault.
use Rattle.std.proofs.Common.{◌≡◌, ◌≢◌, ℕ, ◌<◌, ◌+◌, ◌≤◌, Bool, true, false, cond, ◌||◌, List, [], ◌∷◌, ◌++◌, length, get_or, set, eqb, refl, sym, ◌∙◌, ap, subst, Option, Some, None, ◌⊎◌, inl, inr, arith, length-append, length-set, take, map}
use Rattle.std.specs.Prelude.{sum_by}
use Rattle.std.specs.List.{All}
use Rattle.std.proofs.lemmas.List.Sums.{sum_by-set}
use Rattle.std.proofs.lemmas.Bool.{eq-eqb, or_left, or_right}
use Rattle.std.proofs.lemmas.Bool.Decides.{eqb_tells}
use Rattle.jc_facts.specs.declared.class_facts.ClassFacts.{ClassFacts}
use Rattle.jc_facts.specs.declared.link_error.LinkError.{LinkError}
use Rattle.jc_facts.specs.declared.link_error.LinkError.TheVariants.{ClassCircularityError}
use Rattle.jc_facts.specs.Names.{Bytes}
use Rattle.jc_facts.specs.Options.{first_some, and_then}
use Rattle.jc_facts.specs.world.Search.{supers}
use Rattle.jc_facts.specs.world.World.{World, find_class, size}
use Rattle.jc_facts.specs.world.Loading.{load_fault, fault_of_itself}
use Rattle.jc_index.specs.Ids.{name_at, names}
use Rattle.jc_index.proofs.Numbers.{names-length}
use Rattle.std.proofs.lemmas.List.{take_more, take_all, map-append, length-map, get_or-map}
use Rattle.std.proofs.Math.Bool.{or-false}
use Rattle.jc_loading.specs.declared.faults.State.{State}
use Rattle.jc_loading.specs.declared.faults.State.TheVariants as states
use Rattle.jc_loading.specs.declared.faults.Frame.{Frame}
use Rattle.jc_loading.specs.steps.Entering.{Leads, AreRight, IsRight, IsSettled, IsUnderWay, AllHave, state_of, is_known, is_entered, is_fresh, is_on, bottom, work}
use Rattle.jc_loading.proofs.Paths.{written, along-push, along-pop, along-fault, along-circle, bottom-fault, bottom-push, inside-states}
use Rattle.jc_lemmas.proofs.Bools.{or_without}

-- ---- one state is written

right-written : (W : World) (ss : List State) (k : ℕ) (s : State) → AreRight W ss → k < size W → IsRight W (name_at W k) s → AreRight W (set ss k s)
right-written W ss k s r l h = record { count = length-set ss k s ∙ r.count; right = λ n. go n (eqb_tells k n) }
  where
    at : (n : ℕ) → state_of (set ss k s) n ≡ cond (eqb k n) s (state_of ss n)
    at n = written ss k n s (let e = r.count in omega arith)

    go : (n : ℕ) → ((eqb k n ≡ true) × (k ≡ n)) ⊎ ((eqb k n ≡ false) × (k ≢ n)) → IsRight W (name_at W n) (state_of (set ss k s) n)
    go n (inl e) =
        let q : state_of (set ss k s) n ≡ s = at n ∙ rw e.0 refl in
        subst (λ t. IsRight W (name_at W n) t) (sym q) (subst (λ j. IsRight W (name_at W j) s) e.1 h)
    go n (inr e) =
        let q : state_of (set ss k s) n ≡ state_of ss n = at n ∙ rw e.0 refl in
        subst (λ t. IsRight W (name_at W n) t) (sym q) (r.right n)

-- what is entered after a state was written
entered-written : (ss : List State) (k n : ℕ) (s : State) → k < length ss → is_entered (state_of (set ss k s) n) ≡ true → ((k ≡ n) × (is_entered s ≡ true)) ⊎ ((eqb k n ≡ false) × (is_entered (state_of ss n) ≡ true))
entered-written ss k n s l h = go (eqb_tells k n)
  where
    at : is_entered (cond (eqb k n) s (state_of ss n)) ≡ true
    at = ap is_entered (sym (written ss k n s l)) ∙ h

    go : ((eqb k n ≡ true) × (k ≡ n)) ⊎ ((eqb k n ≡ false) × (k ≢ n)) → ((k ≡ n) × (is_entered s ≡ true)) ⊎ ((eqb k n ≡ false) × (is_entered (state_of ss n) ≡ true))
    go (inl e) = inl (e.1, rw e.0 at at)
    go (inr e) = inr (e.0, rw e.0 at at)

-- ---- the path

on-push : (n : ℕ) (fs : List Frame) (f : Frame) → is_on n (fs ++ f ∷ []) ≡ (is_on n fs || eqb f.class n)
on-push n [] f = or-false (eqb f.class n)
on-push n (g ∷ fs) f = go (eqb g.class n) (is_on n (fs ++ f ∷ [])) (is_on n fs) (eqb f.class n) (on-push n fs f)
  where
    go : (a b c d : Bool) → b ≡ (c || d) → (a || b) ≡ ((a || c) || d)
    go true b c d e = refl
    go false b c d e = e

-- ---- one class more is entered

pub enter : (W : World) (ss : List State) (fs : List Frame) (top : Frame) (above id : ℕ) → IsUnderWay W ss fs top → id < size W → Leads W (name_at W top.class) above (name_at W id)
    → IsUnderWay W (set ss id states.Entered) (fs ++ record { class = top.class; above = above } ∷ []) (record { class = id; above = 0 })
unfolding first_some
enter W ss fs top above id u i l = record {
  right = right-written W ss id states.Entered u.right i tt;
  inside = i;
  leads = along-push W fs (record { class = top.class; above = above }) id u.leads u.inside l;
  before = λ c e. refl;
  entered = λ n h. go n (entered-written ss id n states.Entered (let e = u.right.count in omega arith) h);
}
  where
    go : (n : ℕ) → ((id ≡ n) × (is_entered states.Entered ≡ true)) ⊎ ((eqb id n ≡ false) × (is_entered (state_of ss n) ≡ true)) → (is_on n (fs ++ record { class = top.class; above = above } ∷ []) || eqb id n) ≡ true
    go n (inl e) = or_right (is_on n (fs ++ record { class = top.class; above = above } ∷ [])) (eqb id n) (eq-eqb id n e.0)
    go n (inr e) = or_left (is_on n (fs ++ record { class = top.class; above = above } ∷ [])) (eqb id n) (on-push n fs (record { class = top.class; above = above }) ∙ u.entered n e.1)

-- less is left, since it was fresh
pub enter-work : (ss : List State) (fs : List Frame) (f : Frame) (id : ℕ) → id < length ss → is_fresh (state_of ss id) ≡ true → work (set ss id states.Entered) (fs ++ f ∷ []) < work ss fs
enter-work ss fs f id l h =
    let e : sum_by (λ (s : State). cond (is_fresh s) 1 0) (set ss id states.Entered) + cond (is_fresh (state_of ss id)) 1 0 ≡ sum_by (λ (s : State). cond (is_fresh s) 1 0) ss + 0 =
    sum_by-set (λ (s : State). cond (is_fresh s) 1 0) ss id states.Entered states.Fresh l in
    let q : sum_by (λ (s : State). cond (is_fresh s) 1 0) (set ss id states.Entered) + 1 ≡ sum_by (λ (s : State). cond (is_fresh s) 1 0) ss + 0 = rw h at e in
    omega (arith, length-append fs (f ∷ []))

-- ---- the class at the top loads

pub leave : (W : World) (ss : List State) (fs : List Frame) (f top : Frame) → IsUnderWay W ss (fs ++ f ∷ []) top → load_fault W (name_at W top.class) ≡ None → IsUnderWay W (set ss top.class (states.Known None)) fs f
leave W ss fs f top u h =
    let p = along-pop W fs f top.class u.leads in
    record {
      right = right-written W ss top.class (states.Known None) u.right u.inside h;
      inside = p.1;
      leads = p.0;
      before = λ c e. (let s : Some p.2.class ≡ Some c = sym p.2.found ∙ e in let k : p.2.class ≡ c = cc in subst (λ d. first_some (load_fault W) (take f.above (supers d)) ≡ None) k p.2.before);
      entered = λ n h. go n (entered-written ss top.class n (states.Known None) (let e = u.right.count in let i = u.inside in omega arith) h);
    }
  where
    go : (n : ℕ) → ((top.class ≡ n) × (false ≡ true)) ⊎ ((eqb top.class n ≡ false) × (is_entered (state_of ss n) ≡ true)) → (is_on n fs || eqb f.class n) ≡ true
    go n (inl e) = absurd (let q = e.1 in cc)
    go n (inr e) = sym (on-push n fs f) ∙ or_without (is_on n (fs ++ f ∷ [])) (eqb top.class n) e.0 (u.entered n e.1)

pub leave-work : (ss : List State) (fs : List Frame) (f : Frame) (k : ℕ) → k < length ss → work (set ss k (states.Known None)) fs < work ss (fs ++ f ∷ [])
leave-work ss fs f k l =
    let e : sum_by (λ (s : State). cond (is_fresh s) 1 0) (set ss k (states.Known None)) + cond (is_fresh (state_of ss k)) 1 0 ≡ sum_by (λ (s : State). cond (is_fresh s) 1 0) ss + 0 =
    sum_by-set (λ (s : State). cond (is_fresh s) 1 0) ss k (states.Known None) states.Fresh l in
    omega (arith, length-append fs (f ∷ []))

-- the last one
pub leave-last : (W : World) (ss : List State) (top : Frame) → IsUnderWay W ss [] top → load_fault W (name_at W top.class) ≡ None → IsSettled W (set ss top.class (states.Known None))
leave-last W ss top u h = record {
  right = right-written W ss top.class (states.Known None) u.right u.inside h;
  closed = λ n. go n (is_entered (state_of (set ss top.class (states.Known None)) n)) refl;
}
  where
    none : (n : ℕ) → ((top.class ≡ n) × (false ≡ true)) ⊎ ((eqb top.class n ≡ false) × (is_entered (state_of ss n) ≡ true)) → ⊥
    none n (inl e) = (let q = e.1 in cc)
    none n (inr e) = (let p = u.entered n e.1 in let q = e.0 in cc)

    go : (n : ℕ) (b : Bool) → is_entered (state_of (set ss top.class (states.Known None)) n) ≡ b → b ≡ false
    go n true e = absurd (none n (entered-written ss top.class n (states.Known None) (let e = u.right.count in let i = u.inside in omega arith) e))
    go n false e = refl

-- ---- the class at the top has a fault

pub fail : (W : World) (ss after : List State) (fs : List Frame) (top : Frame) (e : LinkError) → IsUnderWay W ss fs top → load_fault W (name_at W top.class) ≡ Some e → AllHave e ss fs top.class after
    → IsSettled W after × (load_fault W (name_at W (bottom fs top.class)) ≡ Some e)
fail W ss after fs top e u h a = (
  record {
    right = record { count = a.0 ∙ u.right.count; right = λ n. right n (is_on n fs || eqb top.class n) refl };
    closed = λ n. closed n (is_on n fs || eqb top.class n) refl;
  },
  bottom-fault W fs top.class e u.leads h,
)
  where
    right : (n : ℕ) (b : Bool) → (is_on n fs || eqb top.class n) ≡ b → IsRight W (name_at W n) (state_of after n)
    right n true o =
        let q : state_of after n ≡ states.Known (Some e) = a.1 n ∙ rw o refl in
        subst (λ t. IsRight W (name_at W n) t) (sym q) (along-fault W fs top.class n e u.leads h o)
    right n false o =
        let q : state_of after n ≡ state_of ss n = a.1 n ∙ rw o refl in
        subst (λ t. IsRight W (name_at W n) t) (sym q) (u.right.right n)

    open_ : (n : ℕ) (b : Bool) → is_entered (state_of ss n) ≡ b → (is_on n fs || eqb top.class n) ≡ false → b ≡ false
    open_ n true k o = absurd (let p = u.entered n k in cc)
    open_ n false k o = refl

    closed : (n : ℕ) (b : Bool) → (is_on n fs || eqb top.class n) ≡ b → is_entered (state_of after n) ≡ false
    closed n true o = ap is_entered (a.1 n) ∙ rw o refl
    closed n false o = ap is_entered (a.1 n) ∙ rw o (open_ n (is_entered (state_of ss n)) refl o)

-- the way leads from it to a class that is entered
pub back : (W : World) (ss : List State) (fs : List Frame) (top : Frame) (above id : ℕ) → IsUnderWay W ss fs top → Leads W (name_at W top.class) above (name_at W id) → is_entered (state_of ss id) ≡ true → load_fault W (name_at W top.class) ≡ Some ClassCircularityError
back W ss fs top above id u l h = along-circle W fs top.class above id u.leads l (u.entered id h)

-- ---- what the states say of the class that the way leads to

pub entered-known : (s : State) → (s ≡ states.Entered) ⊎ ((fault : Option LinkError) × (s ≡ states.Known fault)) → is_known s ≡ false → is_entered s ≡ true
entered-known s (inl e) k = ap is_entered e
entered-known s (inr e) k = absurd (let p : is_known s ≡ true = ap is_known e.1 in cc)

-- the fault of a class above which all loads
pub top-fault : (W : World) (x : Bytes) (c : ClassFacts) (fault f : Option LinkError) → load_fault W x ≡ and_then (fault_of_itself W) (find_class W x) → Some c ≡ find_class W x → fault ≡ fault_of_itself W c → fault ≡ f → load_fault W x ≡ f
unfolding and_then
top-fault W x c fault f h e o g = h ∙ ap (and_then (fault_of_itself W)) (sym e) ∙ sym o ∙ g

pub no-frames : (fs : List Frame) → length fs ≡ 0 → fs ≡ []
no-frames [] h = refl
no-frames (f ∷ fs) h = absurd (omega arith)

-- the same as `leave`, where the path is taken apart
pub leave-path : (W : World) (ss : List State) (path fs : List Frame) (f top : Frame) (k : ℕ) → path ≡ fs ++ f ∷ [] → k ≡ top.class → IsUnderWay W ss path top → load_fault W (name_at W top.class) ≡ None
    → IsUnderWay W (set ss k (states.Known None)) fs f × (bottom fs f.class ≡ bottom path top.class) × (work (set ss k (states.Known None)) fs < work ss path)
leave-path W ss path fs f top k p q u h =
    let v : IsUnderWay W ss (fs ++ f ∷ []) top = subst (λ gs. IsUnderWay W ss gs top) p u in
    let l : top.class < length ss = let e = u.right.count in let i = u.inside in omega arith in
    rw (p, q) (leave W ss fs f top v h, sym (bottom-push fs f top.class), leave-work ss fs f top.class l)

pub leave-end : (W : World) (ss : List State) (path : List Frame) (top : Frame) (k : ℕ) → path ≡ [] → k ≡ top.class → IsUnderWay W ss path top → load_fault W (name_at W top.class) ≡ None
    → IsSettled W (set ss k (states.Known None)) × (load_fault W (name_at W (bottom path top.class)) ≡ None)
leave-end W ss path top k p q u h =
    let v : IsUnderWay W ss [] top = subst (λ gs. IsUnderWay W ss gs top) p u in
    rw (p, q) (leave-last W ss top v h, h)

-- the same as `fail`, where the path was lent
pub fail-path : (W : World) (ss after : List State) (path lent : List Frame) (top : Frame) (e : LinkError) → lent ≡ path → IsUnderWay W ss path top → load_fault W (name_at W top.class) ≡ Some e → AllHave e ss lent top.class after
    → IsSettled W after × (load_fault W (name_at W (bottom path top.class)) ≡ Some e)
fail-path W ss after path lent top e p u h a = fail W ss after path top e u h (subst (λ gs. AllHave e ss gs top.class after) p a)

pub lent-inside : (W : World) (ss : List State) (path lent : List Frame) (top : Frame) → lent ≡ path → IsUnderWay W ss path top → All (λ (f : Frame). f.class < length ss) lent
lent-inside W ss path lent top p u = subst (λ (gs : List Frame). All (λ (f : Frame). f.class < length ss) gs) (sym p) (inside-states W path top.class (length ss) u.leads u.right.count)

-- ---- the first class is entered

pub start : (W : World) (ss : List State) (k id : ℕ) (path : List Frame) → k ≡ id → path ≡ [] → id < size W → IsSettled W ss → IsUnderWay W (set ss k states.Entered) path (record { class = id; above = 0 })
unfolding first_some
start W ss k id path p q i s = rw (p, q) (record {
  right = right-written W ss id states.Entered s.right i tt;
  inside = i;
  leads = tt;
  before = λ c e. refl;
  entered = λ n h. go n (entered-written ss id n states.Entered (let e = s.right.count in omega arith) h);
})
  where
    go : (n : ℕ) → ((id ≡ n) × (is_entered states.Entered ≡ true)) ⊎ ((eqb id n ≡ false) × (is_entered (state_of ss n) ≡ true)) → eqb id n ≡ true
    go n (inl e) = eq-eqb id n e.0
    go n (inr e) = absurd (let q : is_entered (state_of ss n) ≡ false = s.closed n in let r = e.1 in cc)

-- ---- all classes

pub faults-more : (W : World) (faults : List (Option LinkError)) (n id : ℕ) (fault : Option LinkError) → n < size W → id ≡ n → faults ≡ map (load_fault W) (take n (names W)) → load_fault W (name_at W id) ≡ fault
    → faults ++ fault ∷ [] ≡ map (load_fault W) (take (n + 1) (names W))
faults-more W faults n id fault l q h e =
    let k : n < length (names W) = let m = names-length W in omega arith in
    let f : load_fault W (get_or (names W) n []) ≡ fault = ap (λ j. load_fault W (name_at W j)) (sym q) ∙ e in
    rw (h, take_more (names W) n [] k, map-append (load_fault W) (take n (names W)) (get_or (names W) n [] ∷ []), f) refl

pub faults-all : (W : World) (faults : List (Option LinkError)) (n : ℕ) → size W ≤ n → faults ≡ map (load_fault W) (take n (names W)) → faults ≡ map (load_fault W) (names W)
faults-all W faults n l h = h ∙ ap (map (load_fault W)) (take_all n (names W) (let m = names-length W in omega arith))

pub faults-length : (W : World) (faults : List (Option LinkError)) → faults ≡ map (load_fault W) (names W) → length faults ≡ size W
faults-length W faults h = ap length h ∙ length-map (names W) (load_fault W) ∙ names-length W

pub faults-at : (W : World) (faults : List (Option LinkError)) (n : ℕ) (d : Option LinkError) → faults ≡ map (load_fault W) (names W) → n < size W → get_or faults n d ≡ load_fault W (name_at W n)
faults-at W faults n d h l =
    let k : n < length (names W) = let m = names-length W in omega arith in
    ap (λ fs. get_or fs n d) h ∙ get_or-map (load_fault W) (names W) n [] d k
