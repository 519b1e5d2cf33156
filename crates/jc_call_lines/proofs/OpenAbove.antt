-- Whether all methods that superinterfaces give pass a test: clients can name their classes, or javac makes handles of them.
use Rattle.std.proofs.Common.{◌≡◌, Bool, true, false, cond, not, ◌||◌, ◌&&◌, ◌==◌, List, [], ◌∷◌, refl, sym, ◌∙◌, ap, Option, Some, None, ◌⊎◌, inl, inr}
use Rattle.std.specs.Prelude.{IsTrue}
use Rattle.std.specs.List.{list_all, Contains}
use Rattle.std.proofs.lemmas.Bool.{eqb-true, not-true}
use Rattle.jc_facts.specs.declared.key.Key.{Key}
use Rattle.jc_facts.specs.Flags.{abstract_flag}
use Rattle.jc_facts.specs.Names.{Bytes, same}
use Rattle.jc_facts.specs.world.Loading.{load_fault}
use Rattle.jc_facts.specs.world.Lookup.{only_or, superinterface_choices}
use Rattle.jc_facts.specs.world.World.{World, classes, differ_by_name, DeclaredMember}
use Rattle.jc_facts.proofs.Same.{same_is, same_itself}
use Rattle.jc_index.specs.Ids.{name_at}
use Rattle.jc_index.specs.Picks.{IsPick, methods_above}
use Rattle.jc_index.specs.declared.ids.Found.{Found}
use Rattle.jc_index.specs.steps.Choosing.{candidate_at, best_at, if_best, has_rival_below, FindsAbove}
use Rattle.jc_index.proofs.Aboves.{same_number}
use Rattle.jc_index.proofs.Choices.{IsOne, IsListed, one_of, listed, best, best_one, one_best, best_is, only_one, choices_declared}
use Rattle.jc_calls.specs.Handles.{is_referable}
use Rattle.jc_lemmas.proofs.Bools.{contradicts}
use Rattle.jc_lemmas.proofs.Listed.{EachOf, each_from, each_in, empty_from, list_all-each, here, there, none, cases}
use Rattle.jc_call_lines.specs.steps.Openly.{open_class, is_owner_open, hidden_offer, are_flags_fit, if_unfit, unfit_offer, other_best}

-- ---- lists

pub all_each : {A : Type 0} (p : A → Bool) (xs : List A) → EachOf (λ x. p x ≡ true) xs → list_all p xs ≡ true
all_each p [] h = refl
all_each p (x ∷ xs) h = ap (λ b. b && list_all p xs) h.0 ∙ all_each p xs h.1

not_last : (a : Bool) → (a && false) ≡ false
not_last true = refl
not_last false = refl

pub not_all : {A : Type 0} (p : A → Bool) (xs : List A) (x : A) → Contains xs x → p x ≡ false → list_all p xs ≡ false
not_all p [] x c e = absurd (none x c)
not_all p (y ∷ ys) x c e = go (cases y ys x c) (not_all p ys x)
  where
    go : (y ≡ x) ⊎ Contains ys x → (Contains ys x → p x ≡ false → list_all p ys ≡ false) → (p y && list_all p ys) ≡ false
    go (inl i) more = ap (λ b. b && list_all p ys) (ap p i ∙ e)
    go (inr d) more = ap (λ b. p y && b) (more d e) ∙ not_last (p y)

pub only_last : (a : Bool) → (a && true) ≡ a
only_last true = refl
only_last false = refl

-- ---- of a class that loads

module _ (W : World) (x : Bytes) (loads : load_fault W x ≡ None) (k : Key) where
  -- ---- what is chosen before others

  two_best : (ms : List DeclaredMember) (m n : DeclaredMember) → Contains ms m → Contains ms n → same m.owner n.owner ≡ false → only_or ms (methods_above W x k) ≡ methods_above W x k
  unfolding only_or
  two_best [] m n c d e = absurd (none m c)
  two_best (h ∷ t) m n c d e = go (list_all (λ o. same o.owner h.owner) t) refl
    where
      one : list_all (λ o. same o.owner h.owner) t ≡ true → (o : DeclaredMember) → Contains (h ∷ t) o → o.owner ≡ h.owner
      one q o l = at (cases h t o l)
        where
          at : (h ≡ o) ⊎ Contains t o → o.owner ≡ h.owner
          at (inl i) = ap (λ (v : DeclaredMember). v.owner) (sym i)
          at (inr r) = same_is o.owner h.owner (each_in (λ v. same v.owner h.owner ≡ true) t o (list_all-each (λ v. same v.owner h.owner) t q) r)

      go : (b : Bool) → list_all (λ o. same o.owner h.owner) t ≡ b → cond b (h ∷ []) (methods_above W x k) ≡ methods_above W x k
      go false q = refl
      go true q = absurd (contradicts (same m.owner n.owner) (ap (λ y. same y n.owner) (one q m c) ∙ ap (same h.owner) (one q n d) ∙ same_itself h.owner) e)

  -- the method of a pick that isn't abstract is chosen before others
  picked_best : (p : Found) (i : IsPick W x k p) → abstract_flag p.flags ≡ false → Contains (best W x loads k) i.method
  picked_best p i a = one_best W x loads k i.method i.is_in (ap abstract_flag (sym i.found.flags) ∙ a) (not-true (has_rival_below W x k i.method.owner) i.maximal)

  -- ---- by any test

  module _ (p : DeclaredMember → Bool) where
    -- one of the methods fails it
    pub record Fails : Type 0 where
      pub method : DeclaredMember
      pub is_in : Contains (methods_above W x k) method
      pub fails : p method ≡ false

    -- where any of them may be found
    any_fails : Fails → only_or (best W x loads k) (methods_above W x k) ≡ methods_above W x k → false ≡ list_all p (superinterface_choices W x k)
    unfolding superinterface_choices
    any_fails s e = sym (ap (list_all p) e ∙ not_all p (methods_above W x k) s.method s.is_in s.fails)

    -- the pick is abstract
    pub abstract_fails : Fails → (f : Found) → IsPick W x k f → abstract_flag f.flags ≡ true → false ≡ list_all p (superinterface_choices W x k)
    unfolding only_or
    abstract_fails s f i a = any_fails s (ap (λ ms. only_or ms (methods_above W x k)) (empty_from (best W x loads k) no_best))
      where
        no_best : (m : DeclaredMember) → Contains (best W x loads k) m → ⊥
        no_best m c =
            let b = best_one W x loads k m c in
            contradicts (abstract_flag m.member.flags) (i.first (ap abstract_flag (sym i.found.flags) ∙ a) m b.0 (ap not b.2)) b.1

    -- another one is chosen too
    pub other_fails : Fails → IsTrue (differ_by_name (classes W)) → (f q : Found) → IsPick W x k f → abstract_flag f.flags ≡ false → FindsAbove W x (other_best W x k f.owner) (Some q) → false ≡ list_all p (superinterface_choices W x k)
    other_fails s d f q i a o = go (o.0 == f.owner) refl o.3
      where
        go : (b : Bool) → (o.0 == f.owner) ≡ b → cond b None (best_at W x k o.0) ≡ Some q → false ≡ list_all p (superinterface_choices W x k)
        go true e t = absurd (let clash : None ≡ Some q = t in cc)
        go false e t =
            let b = best_is W x loads k o.0 q t in
            let l : IsListed W x loads k o.0 q = listed W x loads k o.0 q o.2 b.0 in
            let c : Contains (best W x loads k) l.method = one_best W x loads k l.method l.is_in (ap abstract_flag (sym l.flags) ∙ b.1) (ap (has_rival_below W x k) (sym (ap (name_at W) l.number ∙ l.owner)) ∙ b.2) in
            let n : same l.method.owner i.method.owner ≡ false = ap (λ y. same y i.method.owner) (sym l.owner) ∙ ap (same (name_at W o.0)) (sym i.found.owner) ∙ same_number W d o.0 f.owner o.1 i.found.below ∙ e in
            any_fails s (two_best (best W x loads k) l.method i.method c (picked_best f i a) n)

    -- no other one is
    sole : (ms : List DeclaredMember) (y : Bytes) (b : Bool) (m : DeclaredMember) → Contains ms m → ((o : DeclaredMember) → Contains ms o → o.owner ≡ y) → ((o : DeclaredMember) → Contains ms o → p o ≡ b) → list_all p (only_or ms (methods_above W x k)) ≡ b
    unfolding only_or
    sole [] y b m c each tests = absurd (none m c)
    sole (h ∷ t) y b m c each tests =
        ap (λ s. list_all p (cond s (h ∷ []) (methods_above W x k))) (all_each (λ o. same o.owner h.owner) t (each_from (λ o. same o.owner h.owner ≡ true) t alike))
        ∙ only_last (p h) ∙ tests h (here h t)
      where
        alike : (o : DeclaredMember) → Contains t o → same o.owner h.owner ≡ true
        alike o d = ap (λ z. same z h.owner) (each o (there o h t d) ∙ sym (each h (here h t))) ∙ same_itself h.owner

    pub sole_decides : (f : Found) (b : Bool) → IsPick W x k f → abstract_flag f.flags ≡ false → FindsAbove W x (other_best W x k f.owner) None
        → ((o : DeclaredMember) → Contains (methods_above W x k) o → o.owner ≡ name_at W f.owner → p o ≡ b) → b ≡ list_all p (superinterface_choices W x k)
    unfolding superinterface_choices
    sole_decides f b i a n tests = sym (sole (best W x loads k) (name_at W f.owner) b i.method (picked_best f i a) each (λ o c. tests o (best_one W x loads k o c).0 (each o c)))
      where
        each : (o : DeclaredMember) → Contains (best W x loads k) o → o.owner ≡ name_at W f.owner
        each o c = go (j.number == f.owner) refl
          where
            t : (Contains (methods_above W x k) o) × (abstract_flag o.member.flags ≡ false) × (has_rival_below W x k o.owner ≡ false)
            t = best_one W x loads k o c

            j : IsOne W x loads k o
            j = one_of W x loads k o t.0

            r : Found
            r = record { owner = j.number; flags = o.member.flags }

            v : (abstract_flag o.member.flags || has_rival_below W x k (name_at W j.number)) ≡ false
            v = ap (λ z. z || has_rival_below W x k (name_at W j.number)) t.1 ∙ ap (has_rival_below W x k) j.name ∙ t.2

            go : (s : Bool) → (j.number == f.owner) ≡ s → o.owner ≡ name_at W f.owner
            go true q = sym j.name ∙ ap (name_at W) (eqb-true j.number f.owner q)
            go false q = absurd (
                let z : None ≡ Some r = sym (n j.number j.below j.above) ∙ ap (λ s. cond s None (best_at W x k j.number)) q ∙ ap (if_best W x k) j.candidate ∙ ap (λ s. cond s None (Some r)) v in cc)

  -- ---- clients can name the classes that declare the key

  none_hidden : FindsAbove W x (hidden_offer W k) None → (m : DeclaredMember) → Contains (methods_above W x k) m → is_owner_open W m ≡ true
  none_hidden h m c = ap (open_class W) (sym i.name) ∙ go (open_class W (name_at W i.number)) refl
    where
      i : IsOne W x loads k m
      i = one_of W x loads k m c

      f : Found
      f = record { owner = i.number; flags = m.member.flags }

      go : (b : Bool) → open_class W (name_at W i.number) ≡ b → b ≡ true
      go true e = refl
      go false e = absurd (let z : None ≡ Some f = sym (h i.number i.below i.above) ∙ ap (λ b. cond b None (candidate_at W k i.number)) e ∙ i.candidate in cc)

  pub all_can : FindsAbove W x (hidden_offer W k) None → true ≡ list_all (is_owner_open W) (superinterface_choices W x k)
  all_can h = sym (all_each (is_owner_open W) (superinterface_choices W x k) (each_from (λ m. is_owner_open W m ≡ true) (superinterface_choices W x k) (λ m c. none_hidden h m (choices_declared W x k m c))))

  -- they can't name one of them
  pub some_hidden : (r : Found) → FindsAbove W x (hidden_offer W k) (Some r) → Fails (is_owner_open W)
  some_hidden r h = go (open_class W (name_at W h.0)) refl h.3
    where
      go : (b : Bool) → open_class W (name_at W h.0) ≡ b → cond b None (candidate_at W k h.0) ≡ Some r → Fails (is_owner_open W)
      go true e q = absurd (let clash : None ≡ Some r = q in cc)
      go false e q =
          let l : IsListed W x loads k h.0 r = listed W x loads k h.0 r h.2 q in
          record { method = l.method; is_in = l.is_in; fails = ap (open_class W) (sym l.owner) ∙ e }

  pub sole_pick : (f : Found) (b : Bool) → IsPick W x k f → abstract_flag f.flags ≡ false → FindsAbove W x (other_best W x k f.owner) None → b ≡ open_class W (name_at W f.owner) → b ≡ list_all (is_owner_open W) (superinterface_choices W x k)
  sole_pick f b i a n e = sole_decides (is_owner_open W) f b i a n (λ o c q. ap (open_class W) q ∙ sym e)

  -- ---- javac makes handles of the methods

  none_unfit : FindsAbove W x (unfit_offer W k) None → (m : DeclaredMember) → Contains (methods_above W x k) m → is_referable m ≡ true
  none_unfit h m c = go (are_flags_fit m.member.flags) refl
    where
      i : IsOne W x loads k m
      i = one_of W x loads k m c

      f : Found
      f = record { owner = i.number; flags = m.member.flags }

      go : (b : Bool) → are_flags_fit m.member.flags ≡ b → b ≡ true
      go true e = refl
      go false e = absurd (let z : None ≡ Some f = sym (h i.number i.below i.above) ∙ ap if_unfit i.candidate ∙ ap (λ b. cond b None (Some f)) e in cc)

  pub all_fit : FindsAbove W x (unfit_offer W k) None → true ≡ list_all is_referable (superinterface_choices W x k)
  all_fit h = sym (all_each is_referable (superinterface_choices W x k) (each_from (λ m. is_referable m ≡ true) (superinterface_choices W x k) (λ m c. none_unfit h m (choices_declared W x k m c))))

  -- it makes none of one of them
  pub some_unfit : (r : Found) → FindsAbove W x (unfit_offer W k) (Some r) → Fails is_referable
  some_unfit r h = go (candidate_at W k h.0) refl h.3
    where
      go : (o : Option Found) → candidate_at W k h.0 ≡ o → if_unfit o ≡ Some r → Fails is_referable
      go None e q = absurd (let clash : None ≡ Some r = q in cc)
      go (Some f) e q = by (are_flags_fit f.flags) refl q
        where
          by : (b : Bool) → are_flags_fit f.flags ≡ b → cond b None (Some f) ≡ Some r → Fails is_referable
          by true u q = absurd (let clash : None ≡ Some r = q in cc)
          by false u q =
              let l : IsListed W x loads k h.0 f = listed W x loads k h.0 f h.2 e in
              record { method = l.method; is_in = l.is_in; fails = ap are_flags_fit (sym l.flags) ∙ u }

  pub sole_fits : (f : Found) (b : Bool) → IsPick W x k f → abstract_flag f.flags ≡ false → FindsAbove W x (other_best W x k f.owner) None → b ≡ are_flags_fit f.flags → b ≡ list_all is_referable (superinterface_choices W x k)
  sole_fits f b i a n e = sole_decides is_referable f b i a n (λ o c q.
      ap is_referable (only_one W x loads k o i.method c i.is_in (q ∙ i.found.owner)) ∙ ap are_flags_fit (sym i.found.flags) ∙ sym e)
