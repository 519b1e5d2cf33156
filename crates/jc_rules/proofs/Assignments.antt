-- Assignments in which hidden classes may take part.
use Rattle.std.proofs.Common.{◌≡◌, ℕ, Bool, true, false, cond, ◌&&◌, List, [], ◌∷◌, refl, sym, ◌∙◌, ap, Option, Some, None, is_some}
use Rattle.std.specs.List.{list_all, All}
use Rattle.std.proofs.lemmas.List.Elements.{All-from_recursion, recursion_from_All}
use Rattle.std.proofs.lemmas.Bool.{and_right}
use Rattle.jc_facts.specs.declared.class_facts.ClassFacts.{ClassFacts}
use Rattle.jc_facts.specs.declared.finding.Finding.{Finding}
use Rattle.jc_facts.specs.declared.act.Act.TheVariants.{Assignment}
use Rattle.jc_facts.specs.declared.link_error.LinkError.TheVariants.{VerifyError}
use Rattle.jc_facts.specs.Names.{Bytes, object_name}
use Rattle.jc_facts.specs.Options.{and_then}
use Rattle.jc_promises.specs.rule.Apart.{are_apart, other_seat}
use Rattle.jc_promises.specs.rule.Bases.{is_kept, is_base_class}
use Rattle.jc_promises.specs.rule.Findings.{Subject, assign_finding, handed_finding, takes_part, report}
use Rattle.jc_facts.specs.ByName.{least}
use Rattle.jc_promises.specs.rule.OpenActs.{first_seat}
use Rattle.jc_promises.specs.rule.Exposed.{is_hidden, is_exposed}
use Rattle.jc_facts.specs.world.World.{World, classes}
use Rattle.jc_exposed.specs.declared.exposed.Exposed.{Exposed}
use Rattle.jc_exposed.specs.Exposed.{are_all_exposed, is_wanted}
use Rattle.jc_lemmas.proofs.Bools.{neither_first, neither_last}
use Rattle.jc_lemmas.proofs.Listed.{EachOf-both, list_all-each}
use Rattle.jc_rules.specs.steps.Losses.{IsCovered, may_take_part}
use Rattle.jc_sides.specs.SharedOf.{SharedOf, IsWhere}
use Rattle.jc_sides.specs.SidesOf.{SidesOf}
use Rattle.jc_index.specs.Ids.{name_at}

-- ---- seats

least_none : (test : Bytes → Bool) → ((x : Bytes) → test x ≡ false) → (cs : List ClassFacts) → least test cs ≡ None
unfolding least
least_none test never [] = refl
least_none test never (c ∷ cs) = rw (never c.name) (least_none test never cs)

-- no seat passes a test that nothing passes
pub never_seat : (O N : World) (test : Bytes → Bool) → ((a : Bytes) → test a ≡ false) → first_seat O N test ≡ None
never_seat O N test never = ap (λ b. cond b (Some object_name) (least (λ a. is_base_class O N a && test a) (classes O))) (never object_name) ∙ least_none (λ a. is_base_class O N a && test a) (λ a. and_right (is_base_class O N a) _ (never a)) (classes O)

-- ---- whether a class is kept

pub kept_some : (k : Bool) (s : SidesOf) (x : Bytes) (o : Option SharedOf) → IsWhere k s x o → (b : Bool) → b ≡ true → b ≡ is_some o → k ≡ true
kept_some k s x None w b t e = absurd (let z : true ≡ false = sym t ∙ e in cc)
kept_some k s x (Some c) w b t e = w.0

pub kept_none : (k : Bool) (s : SidesOf) (x : Bytes) (o : Option SharedOf) → IsWhere k s x o → (b : Bool) → b ≡ false → b ≡ is_some o → k ≡ false
kept_none k s x None w b t e = w
kept_none k s x (Some c) w b t e = absurd (let z : false ≡ true = sym t ∙ e in cc)

-- ---- whether all are hidden

-- the members that expose hidden classes are kept, where they are of those that are covered
pub all_wanted : (W : World) (e : Exposed) (ids : List ℕ) → list_all (λ t. is_hidden W (name_at W t)) ids ≡ true → All (IsCovered W e) ids → All (λ t. is_wanted e t ≡ true) ids
all_wanted W e ids h covered =
    All-from_recursion (λ t. is_wanted e t ≡ true) ids (EachOf-both (λ t hidden c. c hidden) ids (list_all-each (λ t. is_hidden W (name_at W t)) ids h) (recursion_from_All (IsCovered W e) ids covered))

pub all_hidden : (W : World) (ids : List ℕ) → list_all (λ t. is_hidden W (name_at W t)) ids ≡ true → All (λ t. is_hidden W (name_at W t) ≡ true) ids
all_hidden W ids h = All-from_recursion (λ t. is_hidden W (name_at W t) ≡ true) ids (list_all-each (λ t. is_hidden W (name_at W t)) ids h)

-- where not all are hidden, no seat is exposed all
pub not_all : (O : World) (ids : List ℕ) (a : Bytes) → list_all (λ t. is_hidden O (name_at O t)) ids ≡ false → are_all_exposed O ids a ≡ false
unfolding is_exposed
not_all O [] a h = absurd (cc)
not_all O (t ∷ ts) a h = go (is_hidden O (name_at O t)) refl h (not_all O ts a)
  where
    go : (b : Bool) → is_hidden O (name_at O t) ≡ b → (b && list_all (λ t. is_hidden O (name_at O t)) ts) ≡ false → (list_all (λ t. is_hidden O (name_at O t)) ts ≡ false → are_all_exposed O ts a ≡ false) → (is_exposed O a (name_at O t) && are_all_exposed O ts a) ≡ false
    go false e q r = rw e refl
    go true e q r = and_right (is_exposed O a (name_at O t)) _ (r q)

module _ (O N : World) (on : Subject) where
  abbrev seated : Option Bytes → Option Finding
  seated o = and_then (λ a. report on Assignment (Some a) VerifyError) o

  pub none_hidden : (ids : List ℕ) → list_all (λ t. is_hidden O (name_at O t)) ids ≡ false → None ≡ and_then (λ a. report on Assignment (Some a) VerifyError) (first_seat O N (are_all_exposed O ids))
  unfolding and_then
  none_hidden ids h = sym (ap seated (never_seat O N (are_all_exposed O ids) (λ a. not_all O ids a h)))

  pub seat_of : (ids : List ℕ) (seat : Bytes) → Some seat ≡ first_seat O N (are_all_exposed O ids) → report on Assignment (Some seat) VerifyError ≡ and_then (λ a. report on Assignment (Some a) VerifyError) (first_seat O N (are_all_exposed O ids))
  unfolding and_then
  seat_of ids seat e = ap seated e

  pub no_seat_of : (ids : List ℕ) → None ≡ first_seat O N (are_all_exposed O ids) → None ≡ and_then (λ a. report on Assignment (Some a) VerifyError) (first_seat O N (are_all_exposed O ids))
  unfolding and_then
  no_seat_of ids e = ap seated e

  -- where no one seat serves both
  module _ (m n : ℕ) (is : on.«class» ≡ name_at O m) where
    abbrev serves : Bytes → Bytes → Bool
    serves x a = is_exposed O a x && is_some (other_seat O N a (name_at O n))

    handed_of : handed_finding O N on (name_at O n) ≡ seated (first_seat O N (serves (name_at O m)))
    unfolding handed_finding
    handed_of = ap (λ x. seated (first_seat O N (serves x))) is

    none_serves : ((a : Bytes) → serves (name_at O m) a ≡ false) → None ≡ handed_finding O N on (name_at O n)
    unfolding and_then
    none_serves h = sym (handed_of ∙ ap seated (never_seat O N (serves (name_at O m)) h))

    pub first_unhidden : is_hidden O (name_at O m) ≡ false → None ≡ handed_finding O N on (name_at O n)
    unfolding is_exposed
    first_unhidden h = none_serves (λ a. rw h refl)

    pub second_unhidden : is_hidden O (name_at O n) ≡ false → None ≡ handed_finding O N on (name_at O n)
    unfolding is_exposed other_seat
    second_unhidden h = none_serves (λ a. and_right (is_exposed O a (name_at O m)) _ (ap is_some (never_seat O N (λ b. is_exposed O b (name_at O n) && are_apart O N a b) (λ b. rw h refl))))

    pub seat_serves : (seat : Bytes) → Some seat ≡ first_seat O N (serves (name_at O m)) → report on Assignment (Some seat) VerifyError ≡ handed_finding O N on (name_at O n)
    unfolding and_then
    seat_serves seat e = ap seated e ∙ sym handed_of

    pub no_seat_serves : None ≡ first_seat O N (serves (name_at O m)) → None ≡ handed_finding O N on (name_at O n)
    unfolding and_then
    no_seat_serves e = ap seated e ∙ sym handed_of

  -- of two classes, by which of them are kept
  module _ (m n : ℕ) where
    finding_of : (b : Bool) → (is_kept O N (name_at O m) && (is_kept O N (name_at O n) && true)) ≡ b
        → assign_finding O N on (name_at O m ∷ name_at O n ∷ []) ≡ cond b (report on Assignment None VerifyError) (and_then (λ a. report on Assignment (Some a) VerifyError) (first_seat O N (λ a. list_all (takes_part O N a) (name_at O m ∷ name_at O n ∷ []))))
    unfolding assign_finding
    finding_of b e = ap (λ w. cond w (report on Assignment None VerifyError) (and_then (λ a. report on Assignment (Some a) VerifyError) (first_seat O N (λ a. list_all (takes_part O N a) (name_at O m ∷ name_at O n ∷ []))))) e

    pub both_kept : is_kept O N (name_at O m) ≡ true → is_kept O N (name_at O n) ≡ true → report on Assignment None VerifyError ≡ assign_finding O N on (name_at O m ∷ name_at O n ∷ [])
    both_kept p q = sym (finding_of true (rw (p, q) refl))

    by_test : (ids : List ℕ) → (is_kept O N (name_at O m) && (is_kept O N (name_at O n) && true)) ≡ false
        → ((a : Bytes) → are_all_exposed O ids a ≡ list_all (takes_part O N a) (name_at O m ∷ name_at O n ∷ []))
        → and_then (λ a. report on Assignment (Some a) VerifyError) (first_seat O N (are_all_exposed O ids)) ≡ assign_finding O N on (name_at O m ∷ name_at O n ∷ [])
    by_test ids e same = ap seated (ap (first_seat O N) (λ i a. same a i)) ∙ sym (finding_of false e)

    pub second_hidden : is_kept O N (name_at O m) ≡ true → is_kept O N (name_at O n) ≡ false → and_then (λ a. report on Assignment (Some a) VerifyError) (first_seat O N (are_all_exposed O (n ∷ []))) ≡ assign_finding O N on (name_at O m ∷ name_at O n ∷ [])
    second_hidden p q = by_test (n ∷ []) (rw (p, q) refl) (λ a. rw (p, q) refl)

    pub first_hidden : is_kept O N (name_at O m) ≡ false → is_kept O N (name_at O n) ≡ true → and_then (λ a. report on Assignment (Some a) VerifyError) (first_seat O N (are_all_exposed O (m ∷ []))) ≡ assign_finding O N on (name_at O m ∷ name_at O n ∷ [])
    first_hidden p q = by_test (m ∷ []) (rw p refl) (λ a. rw (p, q) (and_true (is_exposed O a (name_at O m))))
      where
        and_true : (b : Bool) → (b && true) ≡ (b && (true && true))
        and_true b = refl

    pub both_hidden : is_kept O N (name_at O m) ≡ false → is_kept O N (name_at O n) ≡ false → and_then (λ a. report on Assignment (Some a) VerifyError) (first_seat O N (are_all_exposed O (m ∷ n ∷ []))) ≡ assign_finding O N on (name_at O m ∷ name_at O n ∷ [])
    both_hidden p q = by_test (m ∷ n ∷ []) (rw p refl) (λ a. rw (p, q) refl)

-- nothing is found of a class that is neither kept nor hidden
pub aside : (s : SidesOf) (on : Subject) (x t : Bytes) → may_take_part s x ≡ false → assign_finding s.old s.new on (x ∷ t ∷ []) ≡ None
unfolding assign_finding is_exposed and_then
aside s on x t h =
    let k : is_kept s.old s.new x ≡ false = neither_first (is_kept s.old s.new x) (is_hidden s.old x) h in
    let n : is_hidden s.old x ≡ false = neither_last (is_kept s.old s.new x) (is_hidden s.old x) h in
    ap (λ w. cond (w && (is_kept s.old s.new t && true)) (report on Assignment None VerifyError) (and_then (λ a. report on Assignment (Some a) VerifyError) (first_seat s.old s.new (λ a. list_all (takes_part s.old s.new a) (x ∷ t ∷ []))))) k
    ∙ ap (and_then (λ a. report on Assignment (Some a) VerifyError)) (never_seat s.old s.new (λ a. list_all (takes_part s.old s.new a) (x ∷ t ∷ [])) (λ a. rw (k, n) refl))

pub not_handed : (s : SidesOf) (on : Subject) (t : Bytes) → may_take_part s on.«class» ≡ false → handed_finding s.old s.new on t ≡ None
unfolding handed_finding is_exposed and_then
not_handed s on t h =
    let n : is_hidden s.old on.«class» ≡ false = neither_last (is_kept s.old s.new on.«class») (is_hidden s.old on.«class») h in
    ap (and_then (λ a. report on Assignment (Some a) VerifyError)) (never_seat s.old s.new (λ a. is_exposed s.old a on.«class» && is_some (other_seat s.old s.new a t)) (λ a. rw n refl))
