-- Entering classes from below: the path of those that are entered.
use Rattle.std.proofs.Common.{◌≡◌, ℕ, ◌<◌, Bool, true, false, cond, ◌||◌, List, [], ◌∷◌, ◌++◌, length, get_or, set, eqb, refl, sym, ◌∙◌, ap, subst, Some, ◌⊎◌, inl, inr, get_or-set_other, ◌≢◌}
use Rattle.std.specs.List.{All}
use Rattle.std.proofs.lemmas.List.Elements.{All-from_recursion}
use Rattle.jc_lemmas.proofs.Listed.{EachOf}
use Rattle.std.proofs.lemmas.Bool.{eqb-true, eq-eqb, or_cases}
use Rattle.std.proofs.lemmas.Bool.Decides.{eqb_tells}
use Rattle.std.proofs.lemmas.Grind.{get_or-set_at}
use Rattle.std.proofs.Math.Bool.{or-true}
use Rattle.jc_facts.specs.declared.link_error.LinkError.{LinkError}
use Rattle.jc_facts.specs.declared.link_error.LinkError.TheVariants.{ClassCircularityError}
use Rattle.jc_facts.specs.Names.{Bytes}
use Rattle.jc_facts.specs.world.World.{World, size}
use Rattle.jc_facts.specs.world.Loading.{load_fault}
use Rattle.jc_index.specs.Ids.{name_at}
use Rattle.jc_loading.specs.declared.faults.State.{State}
use Rattle.jc_loading.specs.declared.faults.State.TheVariants as states
use Rattle.jc_loading.specs.declared.faults.Frame.{Frame}
use Rattle.jc_loading.specs.steps.Entering.{Leads, LeadsAlong, state_of, is_on, bottom}
use Rattle.jc_loading.proofs.Entering.{leads-fault, circle}

-- ---- a state that is written

pub written : (ss : List State) (k n : ℕ) (s : State) → k < length ss → state_of (set ss k s) n ≡ cond (eqb k n) s (state_of ss n)
written ss k n s l = go (eqb_tells k n)
  where
    go : ((eqb k n ≡ true) × (k ≡ n)) ⊎ ((eqb k n ≡ false) × (k ≢ n)) → get_or (set ss k s) n states.Fresh ≡ cond (eqb k n) s (get_or ss n states.Fresh)
    go (inl e) = rw e.0 (get_or-set_at ss k n s states.Fresh (sym e.1) l)
    go (inr e) = rw e.0 (get_or-set_other ss k n s states.Fresh (λ q. e.1 (sym q)))

-- ---- along the path

-- one class more
pub along-push : (W : World) (fs : List Frame) (f : Frame) (top : ℕ) → LeadsAlong W fs f.class → f.class < size W → Leads W (name_at W f.class) f.above (name_at W top) → LeadsAlong W (fs ++ f ∷ []) top
along-push W [] f top h i l = (i, l, tt)
along-push W (g ∷ fs) f top h i l = (h.0, go fs h.1, along-push W fs f top h.2 i l)
  where
    go : (fs : List Frame) → Leads W (name_at W g.class) g.above (name_at W (bottom fs f.class)) → Leads W (name_at W g.class) g.above (name_at W (bottom (fs ++ f ∷ []) top))
    go [] k = k
    go (h ∷ hs) k = k

pub bottom-push : (fs : List Frame) (f : Frame) (top : ℕ) → bottom (fs ++ f ∷ []) top ≡ bottom fs f.class
bottom-push [] f top = refl
bottom-push (g ∷ fs) f top = refl

-- one class less
pub along-pop : (W : World) (fs : List Frame) (f : Frame) (top : ℕ) → LeadsAlong W (fs ++ f ∷ []) top → LeadsAlong W fs f.class × (f.class < size W) × Leads W (name_at W f.class) f.above (name_at W top)
along-pop W [] f top h = (tt, h.0, h.1)
along-pop W (g ∷ fs) f top h =
    let r = along-pop W fs f top h.2 in
    ((h.0, subst (λ n. Leads W (name_at W g.class) g.above (name_at W n)) (bottom-push fs f top) h.1, r.0), r.1, r.2)

-- a fault at the top is one of the bottom
pub bottom-fault : (W : World) (fs : List Frame) (top : ℕ) (e : LinkError) → LeadsAlong W fs top → load_fault W (name_at W top) ≡ Some e → load_fault W (name_at W (bottom fs top)) ≡ Some e
bottom-fault W [] top e h l = l
bottom-fault W (f ∷ fs) top e h l = leads-fault W (name_at W f.class) f.above (name_at W (bottom fs top)) e h.1 (bottom-fault W fs top e h.2 l)

-- a fault at the top is one of all classes of the path too
pub along-fault : (W : World) (fs : List Frame) (top n : ℕ) (e : LinkError) → LeadsAlong W fs top → load_fault W (name_at W top) ≡ Some e → (is_on n fs || eqb top n) ≡ true → load_fault W (name_at W n) ≡ Some e
along-fault W [] top n e h l o = ap (λ k. load_fault W (name_at W k)) (sym (eqb-true top n o)) ∙ l
along-fault W (f ∷ fs) top n e h l o = go (eqb_tells f.class n) (along-fault W fs top n e h.2 l)
  where
    go : ((eqb f.class n ≡ true) × (f.class ≡ n)) ⊎ ((eqb f.class n ≡ false) × (f.class ≢ n)) → ((is_on n fs || eqb top n) ≡ true → load_fault W (name_at W n) ≡ Some e) → load_fault W (name_at W n) ≡ Some e
    go (inl k) r = ap (λ j. load_fault W (name_at W j)) (sym k.1) ∙ bottom-fault W (f ∷ fs) top e h l
    go (inr k) r = r (let q : ((eqb f.class n || is_on n fs) || eqb top n) ≡ true = o in rw k.0 at q)

-- ---- a circle

-- a class that the way leads to from one of the path, from below
record LeadsTo (W : World) (fs : List Frame) (top n : ℕ) : Type 0 where
  above : ℕ
  next : ℕ
  on : (is_on next fs || eqb top next) ≡ true
  leads : Leads W (name_at W n) above (name_at W next)

further : (W : World) (f : Frame) (fs : List Frame) (top n : ℕ) → LeadsTo W fs top n → LeadsTo W (f ∷ fs) top n
further W f fs top n h = record { above = h.above; next = h.next; on = go (eqb f.class h.next); leads = h.leads }
  where
    go : (b : Bool) → ((b || is_on h.next fs) || eqb top h.next) ≡ true
    go true = refl
    go false = h.on

bottom-on : (fs : List Frame) (top : ℕ) → (is_on (bottom fs top) fs || eqb top (bottom fs top)) ≡ true
bottom-on [] top = eq-eqb top top refl
bottom-on (f ∷ fs) top = rw (eq-eqb f.class f.class refl) refl

-- each class of the path leads to one further up
along-on : (W : World) (fs : List Frame) (top n : ℕ) → LeadsAlong W fs top → is_on n fs ≡ true → LeadsTo W fs top n
along-on W [] top n h o = absurd (cc)
along-on W (f ∷ fs) top n h o = go (eqb_tells f.class n) o (along-on W fs top n h.2)
  where
    go : ((eqb f.class n ≡ true) × (f.class ≡ n)) ⊎ ((eqb f.class n ≡ false) × (f.class ≢ n)) → (eqb f.class n || is_on n fs) ≡ true → (is_on n fs ≡ true → LeadsTo W fs top n) → LeadsTo W (f ∷ fs) top n
    go (inl k) q r = further W f fs top n (record { above = f.above; next = bottom fs top; on = bottom-on fs top; leads = subst (λ j. Leads W (name_at W j) f.above (name_at W (bottom fs top))) k.1 h.1 })
    go (inr k) q r = further W f fs top n (r (rw k.0 at q))

-- the way leads from the top back to a class of the path or to the top itself
pub along-circle : (W : World) (fs : List Frame) (top above id : ℕ) → LeadsAlong W fs top → Leads W (name_at W top) above (name_at W id) → (is_on id fs || eqb top id) ≡ true → load_fault W (name_at W top) ≡ Some ClassCircularityError
along-circle W fs top above id h l o = circle W S lead (name_at W top) (top, rw (eq-eqb top top refl) (or-true (is_on top fs)), refl)
  where
    S : Bytes → Type 0
    S x = (n : ℕ) × ((is_on n fs || eqb top n) ≡ true) × (x ≡ name_at W n)

    from : (x : Bytes) (n : ℕ) → x ≡ name_at W n → (is_on n fs ≡ true) ⊎ (eqb top n ≡ true) → (m : ℕ) × (s : Bytes) × S s × Leads W x m s
    from x n e (inl k) =
        let t = along-on W fs top n h k in
        (t.above, name_at W t.next, (t.next, t.on, refl), subst (λ y. Leads W y t.above (name_at W t.next)) (sym e) t.leads)
    from x n e (inr k) =
        let q : name_at W top ≡ x = ap (λ j. name_at W j) (eqb-true top n k) ∙ sym e in
        (above, name_at W id, (id, o, refl), subst (λ y. Leads W y above (name_at W id)) q l)

    lead : (x : Bytes) → S x → (m : ℕ) × (s : Bytes) × S s × Leads W x m s
    lead x s = from x s.0 s.2 (or_cases (is_on s.0 fs) (eqb top s.0) s.1)

-- the classes of the path are there
each-inside : (W : World) (fs : List Frame) (top : ℕ) → LeadsAlong W fs top → EachOf (λ (f : Frame). f.class < size W) fs
each-inside W [] top h = tt
each-inside W (f ∷ fs) top h = (h.0, each-inside W fs top h.2)

pub inside-states : (W : World) (fs : List Frame) (top n : ℕ) → LeadsAlong W fs top → n ≡ size W → All (λ (f : Frame). f.class < n) fs
inside-states W fs top n h e = subst (λ m. All (λ (f : Frame). f.class < m) fs) (sym e) (All-from_recursion (λ (f : Frame). f.class < size W) fs (each-inside W fs top h))
