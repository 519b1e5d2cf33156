-- The loop that adds one seat after the other.
use Rattle.std.proofs.Common.{◌≡◌, ℕ, zero, suc, ◌+◌, ◌<◌, ◌≤◌, Bool, true, false, cond, List, [], ◌∷◌, length, map, take, get_or, set, eqb, refl, sym, ◌∙◌, ap, subst, Option, Some, None, ◌⊎◌, inl, inr, ◌≢◌}
use Rattle.std.specs.Prelude.{IfSome}
use Rattle.std.specs.List.{All}
use Rattle.std.proofs.lemmas.Bool.Decides.{eqb_tells}
use Rattle.std.proofs.lemmas.List.{length-set, take_more, take_all}
use Rattle.std.proofs.lemmas.List.Elements.{recursion_from_All}
use Rattle.jc_facts.specs.Names.{Bytes}
use Rattle.jc_facts.specs.world.World.{World, size}
use Rattle.jc_facts.specs.world.Loading.{load_fault}
use Rattle.jc_lemmas.proofs.Listed.{EachOf, EachOf-map, EachOf-append, each_in}
use Rattle.jc_index.specs.Ids.{name_at}
use Rattle.jc_sides.specs.SharedOf.{SharedOf, IsShared, name_of}
use Rattle.jc_acts.specs.steps.Commons.{kept_of, IsCovered, AreInside, AreAdded, AreWider, Widens, AreCommon}
use Rattle.jc_acts.proofs.Covering.{put}

-- of a seat that is covered, and loads
abbrev pub IsSeen : World → World → List (Option ℕ) → SharedOf → Type 0
IsSeen O N common b = IsCovered O N common (name_of b) × (load_fault N (name_of b) ≡ None)

-- these seats are covered, and those that have been added are
pub record AreDone (O N : World) (seats : List SharedOf) (common added : List (Option ℕ)) : Type 0 where
  pub inside : AreInside O N common
  pub seen : EachOf (IsSeen O N common) seats
  pub others : AreAdded O N common added

empty_place : (os : List (Option ℕ)) (k : ℕ) → All (λ p. p ≡ None) os → kept_of os k ≡ None
empty_place os k h = go os k (recursion_from_All (λ p. p ≡ None) os h)
  where
    go : (os : List (Option ℕ)) (k : ℕ) → EachOf (λ p. p ≡ None) os → get_or os k None ≡ None
    go [] k e = refl
    go (o ∷ os) zero e = e.0
    go (o ∷ os) (suc k) e = go os k e.1

module _ (O N : World) where
  pub starts : (common added : List (Option ℕ)) → length common ≡ size O → length added ≡ size O → All (λ p. p ≡ None) common → All (λ p. p ≡ None) added → AreDone O N [] common added
  starts common added l m e f = record {
    inside = record { count = l; within = λ k. subst (λ o. IfSome o (λ c. c < size N)) (sym (empty_place common k e)) tt };
    seen = tt;
    others = record {
      count = m;
      within = λ k. subst (λ o. IfSome o (λ c. c < size N)) (sym (empty_place added k f)) tt;
      named = λ k c h. absurd (let q = empty_place added k f in let p : Some c ≡ None = sym h ∙ q in cc);
      covered = λ k c h. absurd (let q = empty_place added k f in let p : Some c ≡ None = sym h ∙ q in cc);
      loads = λ k c h. absurd (let q = empty_place added k f in let p : Some c ≡ None = sym h ∙ q in cc);
    };
  }

  -- what is covered stays so
  still : (before after : List (Option ℕ)) (a : Bytes) → load_fault N a ≡ None → AreWider N before after → IsCovered O N before a → IsCovered O N after a
  still before after a l w c = λ k i h. w a l k (c k i h)

  pub goes : (seats : List SharedOf) (n : ℕ) (b : SharedOf) (before after added : List (Option ℕ)) → n < length seats → b ≡ get_or seats n b → IsShared (record { old = O; new = N }) b → load_fault N (name_of b) ≡ None
      → AreDone O N (take n seats) before added → Widens O N (name_of b) before after → AreDone O N (take (n + 1) seats) after (set added b.old (Some b.new))
  goes seats n b before after added l is shared loads done w = record {
    inside = w.inside;
    seen = subst (EachOf (IsSeen O N after)) (sym (take_more seats n b l)) (EachOf-append (IsSeen O N after) (take n seats) (get_or seats n b ∷ []) (EachOf-map (λ c i. (still before after (name_of c) i.1 w.wider i.0, i.1)) (take n seats) done.seen) (subst (IsSeen O N after) is (w.covered, loads), tt));
    others = record {
      count = length-set added b.old (Some b.new) ∙ done.others.count;
      within = λ k. within k (eqb b.old k) (put added b.old k (Some b.new) None inner);
      named = λ k c h. named k c (eqb_tells b.old k) (put added b.old k (Some b.new) None inner) h;
      covered = λ k c h. covered k c (eqb_tells b.old k) (put added b.old k (Some b.new) None inner) h;
      loads = λ k c h. loaded k c (eqb_tells b.old k) (put added b.old k (Some b.new) None inner) h;
    };
  }
    where
      inner : b.old < length added
      inner = subst (λ t. b.old < t) (sym done.others.count) shared.old_below

      within : (k : ℕ) (t : Bool) → kept_of (set added b.old (Some b.new)) k ≡ cond t (Some b.new) (kept_of added k) → IfSome (kept_of (set added b.old (Some b.new)) k) (λ c. c < size N)
      within k true p = subst (λ o. IfSome o (λ c. c < size N)) (sym p) shared.new_below
      within k false p = subst (λ o. IfSome o (λ c. c < size N)) (sym p) (done.others.within k)

      at : (k : ℕ) → eqb b.old k ≡ true → kept_of (set added b.old (Some b.new)) k ≡ cond (eqb b.old k) (Some b.new) (kept_of added k) → kept_of (set added b.old (Some b.new)) k ≡ Some b.new
      at k e p = p ∙ ap (λ t. cond t (Some b.new) (kept_of added k)) e

      off : (k : ℕ) → eqb b.old k ≡ false → kept_of (set added b.old (Some b.new)) k ≡ cond (eqb b.old k) (Some b.new) (kept_of added k) → kept_of (set added b.old (Some b.new)) k ≡ kept_of added k
      off k e p = p ∙ ap (λ t. cond t (Some b.new) (kept_of added k)) e

      named : (k c : ℕ) → ((eqb b.old k ≡ true) × (b.old ≡ k)) ⊎ ((eqb b.old k ≡ false) × (b.old ≢ k)) → kept_of (set added b.old (Some b.new)) k ≡ cond (eqb b.old k) (Some b.new) (kept_of added k) → kept_of (set added b.old (Some b.new)) k ≡ Some c → name_at N c ≡ name_at O k
      named k c (inl e) p h =
          let q : Some b.new ≡ Some c = sym (at k e.0 p) ∙ h in
          let r : b.new ≡ c = cc in
          ap (name_at N) (sym r) ∙ shared.new_name ∙ sym shared.old_name ∙ ap (name_at O) e.1
      named k c (inr e) p h = done.others.named k c (sym (off k e.0 p) ∙ h)

      old_name : (k : ℕ) → b.old ≡ k → name_of b ≡ name_at O k
      old_name k e = sym shared.old_name ∙ ap (name_at O) e

      covered : (k c : ℕ) → ((eqb b.old k ≡ true) × (b.old ≡ k)) ⊎ ((eqb b.old k ≡ false) × (b.old ≢ k)) → kept_of (set added b.old (Some b.new)) k ≡ cond (eqb b.old k) (Some b.new) (kept_of added k) → kept_of (set added b.old (Some b.new)) k ≡ Some c → IsCovered O N after (name_at O k)
      covered k c (inl e) p h = subst (IsCovered O N after) (old_name k e.1) w.covered
      covered k c (inr e) p h = still before after (name_at O k) (done.others.loads k c (sym (off k e.0 p) ∙ h)) w.wider (done.others.covered k c (sym (off k e.0 p) ∙ h))

      loaded : (k c : ℕ) → ((eqb b.old k ≡ true) × (b.old ≡ k)) ⊎ ((eqb b.old k ≡ false) × (b.old ≢ k)) → kept_of (set added b.old (Some b.new)) k ≡ cond (eqb b.old k) (Some b.new) (kept_of added k) → kept_of (set added b.old (Some b.new)) k ≡ Some c → load_fault N (name_at O k) ≡ None
      loaded k c (inl e) p h = subst (λ (z : Bytes). load_fault N z ≡ None) (old_name k e.1) loads
      loaded k c (inr e) p h = done.others.loads k c (sym (off k e.0 p) ∙ h)

  pub gathered : (seats : List SharedOf) (n : ℕ) (common added : List (Option ℕ)) → length seats ≤ n → AreDone O N (take n seats) common added → AreCommon O N (map name_of seats) common
  gathered seats n common added l done = record { inside = done.inside; covered = λ a h. each_in (IsCovered O N common) (map name_of seats) a (named seats (subst (EachOf (IsSeen O N common)) (take_all n seats l) done.seen)) h }
    where
      named : (bs : List SharedOf) → EachOf (IsSeen O N common) bs → EachOf (IsCovered O N common) (map name_of bs)
      named [] h = tt
      named (b ∷ bs) h = (h.0.0, named bs h.1)
