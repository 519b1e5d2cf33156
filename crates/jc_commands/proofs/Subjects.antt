-- The subjects of which a verdict on two sides may speak, in order.
--     subjects O N      all of them: each rule, class, key and target
--     covered      a subject whose parts are theirs is one of them
use Rattle.std.proofs.Common.{◌≡◌, true, ℕ, List, [], ◌∷◌, ◌++◌, map, refl, ◌∙◌, ap, subst, Option, Some, None, ◌==◌, ◌⊎◌, inl, inr}
use Rattle.std.specs.List.{Contains, list_any}
use Rattle.std.specs.declared.cmp.Ordering.{Ordering}
use Rattle.std.specs.declared.cmp.Ordering.TheVariants.{Less, Equal, Greater}
use Rattle.std.specs.Ordering.{nat_cmp, is_eq}
use Rattle.std.specs.Option.{option_cmp}
use Rattle.std.specs.Cmp.{IsTotalOrder, then_total, on_total, unsigned_ties}
use Rattle.std.specs.Cmp.Lexicographic.{nat_list_cmp_total, options_total}
use Rattle.std.proofs.lemmas.Bool.{or_cases, eqb-true}
use Rattle.std.proofs.lemmas.Cmp.{nat_cmp_total}
use Rattle.jc_facts.specs.declared.class_facts.ClassFacts.{ClassFacts}
use Rattle.jc_facts.specs.declared.key.Key.{Key}
use Rattle.jc_facts.specs.Names.{Bytes}
use Rattle.jc_facts.specs.KeyOrder.{key_cmp, key_total}
use Rattle.jc_facts.specs.Exactly.{name_order}
use Rattle.jc_promises.specs.rule.Findings.{Subject}
use Rattle.jc_facts.specs.world.World.{World, classes}
use Rattle.jc_lemmas.proofs.Listed.{here, there}
use Rattle.jc_facts.proofs.KeySets.{then_equal}
use Rattle.jc_sides.proofs.Subjects.{subject_order}
use Rattle.jc_trees.proofs.Gathered.{Gathered, gathered, name_tied}
use Rattle.jc_commands.proofs.Declarations.{spread, spread_has, all_keys}
use Rattle.jc_facts.proofs.Mapped.{in_map}

-- ---- subjects that tie are equal

number_tied : (m n : ℕ) → nat_cmp m n ≡ Equal → m ≡ n
number_tied m n e = eqb-true m n (unsigned_ties m n ∙ ap is_eq e)

option_tied : {T : Type 0} (order : T → T → Ordering) → ((x y : T) → order x y ≡ Equal → x ≡ y) → (p q : Option T) → option_cmp order p q ≡ Equal → p ≡ q
option_tied order tied None None e = refl
option_tied order tied None (Some y) e = absurd (let clash : Less ≡ Equal = e in cc)
option_tied order tied (Some x) None e = absurd (let clash : Greater ≡ Equal = e in cc)
option_tied {T} order tied (Some x) (Some y) e = ap (λ (z : T). Some z) (tied x y e)

key_tied : (k l : Key) → key_cmp k l ≡ Equal → k ≡ l
key_tied k l e =
    let p = then_equal (name_order k.name l.name) (name_order k.descriptor l.descriptor) e in
    ap (λ n. record { name = n; descriptor = k.descriptor }) (name_tied k.name l.name p.0) ∙ ap (λ d. record { name = l.name; descriptor = d }) (name_tied k.descriptor l.descriptor p.1)

abbrev pub on_subject : ℕ → Bytes → Option Key → Option Bytes → Subject
on_subject rule x k t = record { rule = rule; «class» = x; key = k; target = t }

subject_tied : (s t : Subject) → subject_order s t ≡ Equal → s ≡ t
subject_tied s t e =
    let a = then_equal (nat_cmp s.rule t.rule) _ e in
    let b = then_equal (name_order s.«class» t.«class») _ a.1 in
    let c = then_equal (option_cmp key_cmp s.key t.key) (option_cmp name_order s.target t.target) b.1 in
    ap (λ r. on_subject r s.«class» s.key s.target) (number_tied s.rule t.rule a.0)
    ∙ ap (λ x. on_subject t.rule x s.key s.target) (name_tied s.«class» t.«class» b.0)
    ∙ ap (λ k. on_subject t.rule t.«class» k s.target) (option_tied key_cmp key_tied s.key t.key c.0)
    ∙ ap (λ x. on_subject t.rule t.«class» t.key x) (option_tied name_order name_tied s.target t.target c.1)

subject_total : IsTotalOrder subject_order
subject_total = then_total (on_total (λ (s : Subject). s.rule) nat_cmp_total) (then_total (on_total (λ (s : Subject). s.«class») nat_list_cmp_total)
    (then_total (on_total (λ (s : Subject). s.key) (options_total key_total)) (on_total (λ (s : Subject). s.target) (options_total nat_list_cmp_total))))

-- ---- the candidates

number_in : (n : ℕ) (xs : List ℕ) → list_any (λ m. m == n) xs ≡ true → Contains xs n
number_in n [] e = absurd (cc)
number_in n (x ∷ xs) e = go (or_cases (x == n) (list_any (λ m. m == n) xs) e) (number_in n xs)
  where
    go : ((x == n) ≡ true) ⊎ (list_any (λ m. m == n) xs ≡ true) → (list_any (λ m. m == n) xs ≡ true → Contains xs n) → Contains (x ∷ xs) n
    go (inl p) r = subst (Contains (x ∷ xs)) (eqb-true x n p) (here x xs)
    go (inr p) r = there n x xs (r p)

-- the rules of findings are 1 to 9, those of collisions 10 to 12, and the groups of notes 0 to 2
abbrev pub rules : List ℕ
rules = 0 ∷ 1 ∷ 2 ∷ 3 ∷ 4 ∷ 5 ∷ 6 ∷ 7 ∷ 8 ∷ 9 ∷ 10 ∷ 11 ∷ 12 ∷ []

pub is_rule : (n : ℕ) → list_any (λ m. m == n) rules ≡ true → Contains rules n
is_rule n e = number_in n rules e

-- one of these, or none
abbrev pub or_none : {T : Type 0} → List T → List (Option T)
or_none {T} xs = None ∷ map (λ (x : T). Some x) xs

pub none_or : {T : Type 0} (xs : List T) (o : Option T) → ((x : T) → o ≡ Some x → Contains xs x) → Contains (or_none xs) o
none_or {T} xs None h = here None (map (λ (x : T). Some x) xs)
none_or {T} xs (Some x) h = there (Some x) None (map (λ (x : T). Some x) xs) (in_map (λ (x : T). Some x) xs x (h x refl))

module _ (O N : World) where
  abbrev pub names : List Bytes
  names = map (λ (c : ClassFacts). c.name) (classes O ++ classes N)

  abbrev pub keys : List Key
  keys = all_keys (classes O ++ classes N)

  abbrev candidates : List Subject
  candidates = spread (λ r. spread (λ x. spread (λ k. map (on_subject r x k) (or_none names)) (or_none keys)) names) rules

  pub name_of : (x : Bytes) (c : ClassFacts) → Contains (classes O ++ classes N) c → c.name ≡ x → Contains names x
  name_of x c m e = subst (Contains names) e (in_map (λ (d : ClassFacts). d.name) (classes O ++ classes N) c m)

  pub subjects : Gathered subject_order candidates
  subjects = gathered subject_order subject_total subject_tied candidates

  pub covered : (s : Subject) → Contains rules s.rule → Contains names s.«class» → Contains (or_none keys) s.key → Contains (or_none names) s.target → Contains subjects.items s
  covered s r x k t = subjects.whole s
      (spread_has (λ r. spread (λ x. spread (λ k. map (on_subject r x k) (or_none names)) (or_none keys)) names) rules s.rule s r
      (spread_has (λ x. spread (λ k. map (on_subject s.rule x k) (or_none names)) (or_none keys)) names s.«class» s x
      (spread_has (λ k. map (on_subject s.rule s.«class» k) (or_none names)) (or_none keys) s.key s k
      (in_map (on_subject s.rule s.«class» s.key) (or_none names) s.target t))))
