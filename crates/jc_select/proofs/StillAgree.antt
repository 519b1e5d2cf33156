-- Where the interfaces from a base on are the same as before and stand as before, the parts agree of each key of which these have the same.
use Rattle.std.proofs.Common.{◌≡◌, ◌==◌, ℕ, Bool, true, false, not, cond, ◌||◌, ◌&&◌, List, [], ◌∷◌, refl, sym, ◌∙◌, ap, Option, Some, None, is_some}
use Rattle.std.specs.Bool.{beq}
use Rattle.std.specs.List.{filter, list_any, list_all, Contains}
use Rattle.std.proofs.lemmas.Bool.{and_parts, and_from, eqb-true, eq-eqb}
use Rattle.std.proofs.Math.Bool.{not-not}
use Rattle.jc_facts.specs.declared.key.Key.{Key}
use Rattle.jc_facts.specs.declared.warning.ChainKind.{ChainKind}
use Rattle.jc_facts.specs.declared.warning.ChainKind.TheVariants.{Nothing, Abstract, Concrete}
use Rattle.jc_facts.specs.Flags.{abstract_flag, private_flag, static_flag}
use Rattle.jc_facts.specs.Names.{Bytes}
use Rattle.jc_facts.specs.Options.{some_and}
use Rattle.jc_promises.specs.rule.Warnings.{interfaces_from, is_below_other}
use Rattle.jc_lemmas.proofs.Listed.{each_in, each_from, any_has, any_passes, in_filter, filter_in, list_all-each, here, there}
use Rattle.jc_index.specs.declared.ids.Found.{Found}
use Rattle.jc_index.specs.steps.Choosing.{own_at, if_candidate}
use Rattle.jc_sides.specs.SidesOf.{SidesOf, AreSides}
use Rattle.jc_index.specs.Ids.{name_at, id_of}
use Rattle.jc_select.specs.steps.Changes.{kind_at}
use Rattle.jc_select.specs.steps.Kinds.{is_nothing, kind_of}
use Rattle.jc_select.specs.steps.Parts.{AreNamed, offers_at, abstract_at, alike_below, stays_at, stays_now, stands_at, stands_now, was_at}
use Rattle.jc_select.specs.steps.Warned.{parts_differ}
use Rattle.jc_select.proofs.Collected.{offered_named}
use Rattle.jc_select.proofs.Compared.{number_is_in, numbers_pass, differ_is}
use Rattle.jc_select.proofs.Unchanged.{beq_same}

-- ---- what the kind of a class says

nothing_is : (o : Option Found) → is_nothing (kind_of o) ≡ not (is_some o)
nothing_is None = refl
nothing_is (Some f) = go (abstract_flag f.flags)
  where
    go : (b : Bool) → is_nothing (cond b Abstract Concrete) ≡ false
    go true = refl
    go false = refl

offers_kind : (o p : Option Found) → kind_of o ≡ kind_of p → is_some o ≡ is_some p
offers_kind o p e = sym (not-not (is_some o)) ∙ ap not (sym (nothing_is o) ∙ ap is_nothing e ∙ nothing_is p) ∙ not-not (is_some p)

abbrev is_abstract : ChainKind → Bool
is_abstract Nothing = false
is_abstract Abstract = true
is_abstract Concrete = false

abstract_kind : (o : Option Found) → is_some (if_candidate o) ≡ true → some_and (λ (f : Found). abstract_flag f.flags) o ≡ is_abstract (kind_of (if_candidate o))
abstract_kind None h = absurd (let clash : false ≡ true = h in cc)
abstract_kind (Some f) h = go (private_flag f.flags || static_flag f.flags) h
  where
    last : (b : Bool) → b ≡ is_abstract (cond b Abstract Concrete)
    last true = refl
    last false = refl

    go : (b : Bool) → is_some {T = Found} (cond b None (Some f)) ≡ true → abstract_flag f.flags ≡ is_abstract (kind_of (cond b None (Some f)))
    go true q = absurd (let clash : false ≡ true = q in cc)
    go false q = last (abstract_flag f.flags)

-- ---- lists of numbers

all_filter : (p q : ℕ → Bool) (xs : List ℕ) → list_all p xs ≡ true → list_all p (filter q xs) ≡ true
all_filter p q xs h = numbers_pass p (filter q xs) (each_from (λ n. p n ≡ true) (filter q xs) (λ n i. each_in (λ n. p n ≡ true) xs n (list_all-each p xs h) (in_filter q xs n i).0))

-- no item passes
pub none_pass : (q : ℕ → Bool) (xs : List ℕ) → ((n : ℕ) → Contains xs n → q n ≡ false) → filter q xs ≡ []
none_pass q [] h = refl
none_pass q (x ∷ xs) h = ap (λ b. cond b (x ∷ filter q xs) (filter q xs)) (h x (here x xs)) ∙ none_pass q xs (λ n i. h n (there n x xs i))

module _ (s : SidesOf) (k : Key) (before after : List ℕ) where
  abbrev some : List ℕ
  some = filter (offers_at s.old k) before

  abbrev now : List ℕ
  now = filter (offers_at s.new k) after

  -- those that are there on both sides have the same of the key
  abbrev pub HaveSame : Type 0
  HaveSame = (i j : ℕ) → Contains before i → id_of s.new (name_at s.old i) ≡ Some j → kind_at s.old k i ≡ kind_at s.new k j

  module _ (same : HaveSame) where
    offers_same : (i j : ℕ) → Contains before i → id_of s.new (name_at s.old i) ≡ Some j → offers_at s.old k i ≡ offers_at s.new k j
    offers_same i j h e = offers_kind (if_candidate (own_at s.old k i)) (if_candidate (own_at s.new k j)) (same i j h e)

    abstract_same : (i j : ℕ) → Contains before i → id_of s.new (name_at s.old i) ≡ Some j → offers_at s.old k i ≡ true → abstract_at s.old k i ≡ abstract_at s.new k j
    abstract_same i j h e o =
        abstract_kind (own_at s.old k i) o ∙ ap is_abstract (same i j h e) ∙ sym (abstract_kind (own_at s.new k j) (sym (offers_same i j h e) ∙ o))

    stays : (i : ℕ) → Contains before i → offers_at s.old k i ≡ true → (w : Option ℕ) → id_of s.new (name_at s.old i) ≡ w → stands_now s before after i w ≡ true → stays_now s k some now i w ≡ true
    stays i h o None e q = absurd (let clash : false ≡ true = q in cc)
    stays i h o (Some j) e q =
        let p = and_parts (list_any (λ n. n == j) after) (alike_below s before i j) q in
        let here_now : list_any (λ n. n == j) now ≡ true = any_has (λ n. n == j) now j (filter_in (offers_at s.new k) after j (number_is_in after j p.0) (sym (offers_same i j h e) ∙ o)) (eq-eqb j j refl) in
        and_from (list_any (λ n. n == j) now && beq (abstract_at s.old k i) (abstract_at s.new k j)) (alike_below s some i j)
        (and_from (list_any (λ n. n == j) now) (beq (abstract_at s.old k i) (abstract_at s.new k j)) here_now (beq_same (abstract_at s.old k i) (abstract_at s.new k j) (abstract_same i j h e o)))
        (all_filter (λ o. beq (is_below_other s.old (name_at s.old i) (name_at s.old o)) (is_below_other s.new (name_at s.new j) (name_at s.old o))) (offers_at s.old k) before p.1)

    was : (d : ℕ) → offers_at s.new k d ≡ true → was_at s before d ≡ true → was_at s some d ≡ true
    was d o h =
        let p = any_passes (λ i. some_and (λ n. n == d) (id_of s.new (name_at s.old i))) before h in
        any_has (λ i. some_and (λ n. n == d) (id_of s.new (name_at s.old i))) some p.one (filter_in (offers_at s.old k) before p.one p.is_in (go p.one p.is_in (id_of s.new (name_at s.old p.one)) refl p.passes)) p.passes
      where
        go : (i : ℕ) → Contains before i → (w : Option ℕ) → id_of s.new (name_at s.old i) ≡ w → some_and (λ n. n == d) w ≡ true → offers_at s.old k i ≡ true
        go i h None e q = absurd (let clash : false ≡ true = q in cc)
        go i h (Some j) e q = offers_same i j h e ∙ ap (offers_at s.new k) (eqb-true j d q) ∙ o

    agree : (list_all (stands_at s before after) before && list_all (was_at s before) after) ≡ true → (list_all (stays_at s k some now) some && list_all (was_at s some) now) ≡ true
    agree h =
        let p = and_parts (list_all (stands_at s before after) before) (list_all (was_at s before) after) h in
        and_from (list_all (stays_at s k some now) some) (list_all (was_at s some) now)
        (numbers_pass (stays_at s k some now) some (each_from (λ i. stays_at s k some now i ≡ true) some (λ i c.
        let f = in_filter (offers_at s.old k) before i c in
        stays i f.0 f.1 (id_of s.new (name_at s.old i)) refl (each_in (λ i. stands_at s before after i ≡ true) before i (list_all-each (stands_at s before after) before p.0) f.0))))
        (numbers_pass (was_at s some) now (each_from (λ d. was_at s some d ≡ true) now (λ d c.
        let f = in_filter (offers_at s.new k) after d c in
        was d f.1 (each_in (λ d. was_at s before d ≡ true) after d (list_all-each (was_at s before) after p.1) f.0))))

module _ (s : SidesOf) (are : AreSides s) (x : Bytes) (k : Key) (before after : List ℕ) (named_before : AreNamed s.old (interfaces_from s.old x) before) (named_after : AreNamed s.new (interfaces_from s.new x) after) where
  -- they stand as before, and have the same
  pub alike_agree : (list_all (stands_at s before after) before && list_all (was_at s before) after) ≡ true → HaveSame s k before after → parts_differ s x k ≡ false
  alike_agree h same =
      sym (differ_is s are x k (filter (offers_at s.old k) before) (filter (offers_at s.new k) after) true
      (offered_named s.old are.old_side.differ x k before (filter (offers_at s.old k) before) named_before refl)
      (offered_named s.new are.new_side.differ x k after (filter (offers_at s.new k) after) named_after refl)
      (sym (agree s k before after same h)))

  -- none has anything
  pub none_agree : ((n : ℕ) → Contains before n → kind_at s.old k n ≡ Nothing) → ((n : ℕ) → Contains after n → kind_at s.new k n ≡ Nothing) → parts_differ s x k ≡ false
  none_agree a b =
      let none : (W : _) (n : ℕ) → kind_at W k n ≡ Nothing → offers_at W k n ≡ false = λ W n e. sym (not-not (offers_at W k n)) ∙ ap not (sym (nothing_is (if_candidate (own_at W k n))) ∙ ap is_nothing e) in
      sym (differ_is s are x k [] [] true
      (offered_named s.old are.old_side.differ x k before [] named_before (sym (none_pass (offers_at s.old k) before (λ n h. none s.old n (a n h)))))
      (offered_named s.new are.new_side.differ x k after [] named_after (sym (none_pass (offers_at s.new k) after (λ n h. none s.new n (b n h)))))
      refl)
