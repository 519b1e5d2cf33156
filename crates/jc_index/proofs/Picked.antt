-- Which method of the superinterfaces is picked, by numbers of classes.
use Rattle.std.proofs.Common.{◌≡◌, ℕ, Bool, true, false, cond, not, ◌||◌, List, [], ◌∷◌, refl, sym, ◌∙◌, ap, subst, Option, Some, None}
use Rattle.std.specs.List.{list_any, Contains}
use Rattle.std.proofs.lemmas.Bool.{not-true}
use Rattle.jc_facts.specs.declared.key.Key.{Key}
use Rattle.jc_facts.specs.Names.{Bytes}
use Rattle.jc_facts.specs.Flags.{abstract_flag}
use Rattle.jc_facts.specs.world.World.{World, DeclaredMember}
use Rattle.jc_facts.specs.world.Loading.{load_fault}
use Rattle.jc_facts.specs.world.Lookup.{is_maximal, only_or, superinterface_choices}
use Rattle.jc_lemmas.proofs.Bools.{contradicts}
use Rattle.jc_lemmas.proofs.Listed.{EachOf, each_from, here}
use Rattle.jc_index.specs.Ids.{name_at}
use Rattle.jc_index.specs.Lookups.{IsChoice}
use Rattle.jc_index.specs.Picks.{methods_above, IsPick, Picks}
use Rattle.jc_index.specs.Sides.{IsSide}
use Rattle.jc_index.specs.declared.ids.Found.{Found}
use Rattle.jc_index.specs.steps.Choosing.{candidate_at, best_at, if_best, maximal_at, if_maximal, has_rival_below, FindsAbove}
use Rattle.jc_index.proofs.Choices.{IsOne, IsListed, one_of, listed, listed_found, only_choice, best, best_one, one_best, best_is}
use Rattle.jc_index.proofs.Strictly.{IsGood, IsTop, is_under, above_good, some_top}

module _ (W : World) (x : Bytes) (loads : load_fault W x ≡ None) (k : Key) where
  -- ---- a pick is a choice

  picked_among : (p : Found) (i : IsPick W x k p) (ms : List DeclaredMember) → best W x loads k ≡ ms → IsChoice W (Some p) (only_or ms (methods_above W x k))
  unfolding only_or
  picked_among p i [] e = (i.method, i.is_in, i.found)
  picked_among p i (m ∷ ms) e =
      subst (λ (ns : List DeclaredMember). IsChoice W (Some p) (only_or ns (methods_above W x k))) e
      (only_choice W x loads k p i.method (best W x loads k) (one_best W x loads k i.method i.is_in (concrete (abstract_flag i.method.member.flags) refl) (not-true (has_rival_below W x k i.method.owner) i.maximal)) (λ n c. (best_one W x loads k n c).0) i.found)
    where
      b : (Contains (methods_above W x k) m) × (abstract_flag m.member.flags ≡ false) × (has_rival_below W x k m.owner ≡ false)
      b = best_one W x loads k m (subst (λ (ns : List DeclaredMember). Contains ns m) (sym e) (here m ms))

      concrete : (a : Bool) → abstract_flag i.method.member.flags ≡ a → a ≡ false
      concrete false q = refl
      concrete true q = absurd (contradicts (abstract_flag m.member.flags) (i.first q m b.0 (ap not b.2)) b.1)

  pub pick_choice : (o : Option Found) → Picks W x k o → IsChoice W o (superinterface_choices W x k)
  unfolding superinterface_choices only_or
  pick_choice None e = rw e refl
  pick_choice (Some p) i = picked_among p i (best W x loads k) refl

  -- ---- what is picked

  pub best_pick : (r : Found) → FindsAbove W x (best_at W x k) (Some r) → Picks W x k (Some r)
  best_pick r h =
      let b = best_is W x loads k h.0 r h.3 in
      let l : IsListed W x loads k h.0 r = listed W x loads k h.0 r h.2 b.0 in
      let a : abstract_flag l.method.member.flags ≡ false = ap abstract_flag (sym l.flags) ∙ b.1 in
      record {
        method = l.method;
        is_in = l.is_in;
        found = listed_found W x loads k h.0 r h.1 l;
        maximal = ap not (ap (has_rival_below W x k) (sym (ap (name_at W) l.number ∙ l.owner)) ∙ b.2);
        first = λ q. absurd (contradicts (abstract_flag l.method.member.flags) q a);
      }

  -- the number of one that is maximally specific
  maximal_is : (n : ℕ) (r : Found) → maximal_at W x k n ≡ Some r → (candidate_at W k n ≡ Some r) × (has_rival_below W x k (name_at W r.owner) ≡ false)
  maximal_is n r e = go (candidate_at W k n) refl e
    where
      at : (f : Found) (b : Bool) → candidate_at W k n ≡ Some f → has_rival_below W x k (name_at W f.owner) ≡ b → cond b None (Some f) ≡ Some r → (candidate_at W k n ≡ Some r) × (has_rival_below W x k (name_at W r.owner) ≡ false)
      at f true q p e = absurd (let clash : None ≡ Some r = e in cc)
      at f false q p e = let i : f ≡ r = cc in (q ∙ e, ap (λ (v : Found). has_rival_below W x k (name_at W v.owner)) (sym i) ∙ p)

      go : (o : Option Found) → candidate_at W k n ≡ o → if_maximal W x k o ≡ Some r → (candidate_at W k n ≡ Some r) × (has_rival_below W x k (name_at W r.owner) ≡ false)
      go None q e = absurd (let clash : None ≡ Some r = e in cc)
      go (Some f) q e = at f (has_rival_below W x k (name_at W f.owner)) q refl e

  -- where none is chosen before others, each that is maximally specific is abstract
  all_abstract : FindsAbove W x (best_at W x k) None → (m : DeclaredMember) → Contains (methods_above W x k) m → is_maximal W (methods_above W x k) m ≡ true → abstract_flag m.member.flags ≡ true
  all_abstract h m c t = go (abstract_flag m.member.flags) refl
    where
      go : (b : Bool) → abstract_flag m.member.flags ≡ b → b ≡ true
      go true e = refl
      go false e =
          let i : IsOne W x loads k m = one_of W x loads k m c in
          let f : Found = record { owner = i.number; flags = m.member.flags } in
          let v : (abstract_flag m.member.flags || has_rival_below W x k (name_at W i.number)) ≡ false =
          ap (λ b. b || has_rival_below W x k (name_at W i.number)) e ∙ ap (has_rival_below W x k) i.name ∙ not-true (has_rival_below W x k m.owner) t
          in
          absurd (let z : None ≡ Some f = sym (h i.number i.below i.above) ∙ ap (if_best W x k) i.candidate ∙ ap (λ b. cond b None (Some f)) v in cc)

  pub maximal_pick : (r : Found) → FindsAbove W x (best_at W x k) None → FindsAbove W x (maximal_at W x k) (Some r) → Picks W x k (Some r)
  maximal_pick r n h =
      let b = maximal_is h.0 r h.3 in
      let l : IsListed W x loads k h.0 r = listed W x loads k h.0 r h.2 b.0 in
      record {
        method = l.method;
        is_in = l.is_in;
        found = listed_found W x loads k h.0 r h.1 l;
        maximal = ap not (ap (has_rival_below W x k) (sym (ap (name_at W) l.number ∙ l.owner)) ∙ b.1);
        first = λ q m c t. all_abstract n m c t;
      }

  -- where there are methods, one is maximally specific
  pub no_pick : IsSide W → FindsAbove W x (maximal_at W x k) None → Picks W x k None
  no_pick side h = go (methods_above W x k) refl
    where
      good : (m : DeclaredMember) → Contains (methods_above W x k) m → IsGood W m.owner
      good m c = let i : IsOne W x loads k m = one_of W x loads k m c in subst (IsGood W) i.name (above_good W x (name_at W i.number) loads i.above)

      go : (ms : List DeclaredMember) → methods_above W x k ≡ ms → ms ≡ []
      go [] e = refl
      go (m ∷ ms) e =
          let t : IsTop W side (m ∷ ms) = some_top W side m ms (subst (EachOf (λ (o : DeclaredMember). IsGood W o.owner)) e (each_from (λ (o : DeclaredMember). IsGood W o.owner) (methods_above W x k) good)) in
          let i : IsOne W x loads k t.one = one_of W x loads k t.one (subst (λ (ns : List DeclaredMember). Contains ns t.one) (sym e) t.is_in) in
          let f : Found = record { owner = i.number; flags = t.one.member.flags } in
          let v : has_rival_below W x k (name_at W i.number) ≡ false = ap (has_rival_below W x k) i.name ∙ ap (λ (ns : List DeclaredMember). list_any (λ o. is_under W side o.owner t.one.owner) ns) e ∙ t.top in
          absurd (let z : None ≡ Some f = sym (h i.number i.below i.above) ∙ ap (if_maximal W x k) i.candidate ∙ ap (λ b. cond b None (Some f)) v in cc)

  -- what is found among the maximally specific ones, where none is chosen before others
  pub found_pick : IsSide W → (o : Option Found) → FindsAbove W x (best_at W x k) None → FindsAbove W x (maximal_at W x k) o → Picks W x k o
  found_pick side None n h = no_pick side h
  found_pick side (Some r) n h = maximal_pick r n h
