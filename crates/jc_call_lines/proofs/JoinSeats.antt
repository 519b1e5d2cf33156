-- Clients of some seat that hold values of two classes, and what findings tell of these.
use Rattle.std.proofs.Common.{◌≡◌, ◌<◌, ℕ, Bool, true, false, cond, not, ◌&&◌, ◌||◌, List, [], ◌∷◌, refl, sym, ◌∙◌, ap, subst, Option, None, Some, is_some, eqb}
use Rattle.std.specs.Prelude.{IsTrue}
use Rattle.std.specs.List.{All, Contains, list_all, list_any}
use Rattle.std.proofs.lemmas.Bool.{and_from, and_parts}
use Rattle.std.proofs.lemmas.List.Elements.{All-contains, All-from_recursion, recursion_from_All}
use Rattle.jc_calls.specs.Joins.{is_found, is_join, is_joined, joins_for}
use Rattle.jc_exposed.specs.declared.exposed.Exposed.{Exposed}
use Rattle.jc_exposed.specs.Exposed.{are_all_exposed, is_wanted}
use Rattle.std.specs.Ordering.{is_lt, nat_cmp}
use Rattle.std.specs.Cmp.Lexicographic.{slice_cmp}
use Rattle.jc_facts.specs.ByName.{least, lower}
use Rattle.jc_facts.specs.declared.act.Act.TheVariants.{Assignment}
use Rattle.jc_facts.specs.declared.class_facts.ClassFacts.{ClassFacts}
use Rattle.jc_facts.specs.declared.finding.Finding.{Finding}
use Rattle.jc_facts.specs.declared.link_error.LinkError.TheVariants.{VerifyError}
use Rattle.jc_facts.specs.Flags.{interface_flag}
use Rattle.jc_facts.specs.Names.{Bytes, same, object_name}
use Rattle.jc_facts.specs.Options.{and_then, or_else, some_and}
use Rattle.jc_facts.specs.world.Assignment.{is_class_assignable, is_interface_of}
use Rattle.jc_facts.specs.world.Hierarchy.{in_chain}
use Rattle.jc_facts.specs.world.World.{World, classes, differ_by_name, find_class, size}
use Rattle.jc_index.specs.Ids.{name_at, id_of}
use Rattle.jc_index.specs.Sides.{IsSide}
use Rattle.jc_index.proofs.Aboves.{same_number}
use Rattle.jc_index.proofs.Numbers.{IsClass, class_at, find-None, number_of, id_of-Some}
use Rattle.jc_lemmas.proofs.Bools.{contradicts}
use Rattle.jc_lemmas.proofs.Listed.{EachOf-both, list_all-each, any_has, any_passes, Passes}
use Rattle.jc_promises.proofs.Exposed.{any-found}
use Rattle.jc_promises.specs.rule.Apart.{are_apart, other_seat}
use Rattle.jc_promises.specs.rule.Bases.{is_base_class, is_kept}
use Rattle.jc_promises.specs.rule.Exposed.{is_hidden, is_exposed}
use Rattle.jc_promises.specs.rule.Findings.{Subject, assign_finding, finding_at, handed_finding, report, superclass_lost, takes_part}
use Rattle.jc_promises.specs.rule.OpenActs.{first_seat}
use Rattle.jc_sides.specs.SharedOf.{SharedOf, IsWhere}
use Rattle.jc_sides.specs.SidesOf.{SidesOf}
use Rattle.jc_sound.proofs.OpenActs.{first_seat-passes, least-passes}
use Rattle.jc_worlds.proofs.Chains.{absent_above, none_above}
use Rattle.jc_call_lines.specs.steps.JoinLines.{IsCovered, is_handed, meets_by, share_seat}

-- ---- seats

least_none : (test : Bytes → Bool) → ((x : Bytes) → test x ≡ false) → (cs : List ClassFacts) → least test cs ≡ None
unfolding least
least_none test never [] = refl
least_none test never (c ∷ cs) = rw (never c.name) (least_none test never cs)

-- no seat passes a test that nothing passes
never_seat : (O N : World) (test : Bytes → Bool) → ((a : Bytes) → test a ≡ false) → is_some (first_seat O N test) ≡ false
never_seat O N test never =
    ap is_some (ap (λ b. cond b (Some object_name) (least (λ a. is_base_class O N a && test a) (classes O))) (never object_name) ∙ least_none (λ a. is_base_class O N a && test a) (λ a. none (is_base_class O N a) (test a) (never a)) (classes O))
  where
    none : (b t : Bool) → t ≡ false → (b && t) ≡ false
    none true t e = e
    none false t e = refl

-- the least that passes one test stands among those that pass another one, where it does
least_again : (p q : Bytes → Bool) (cs : List ClassFacts) (a : Bytes) → least p cs ≡ Some a → q a ≡ true → is_some (least q cs) ≡ true
unfolding least
least_again p q [] a e t = absurd (cc)
least_again p q (c ∷ cs) a e t = go (q c.name) refl (p c.name) refl e (least_again p q cs a)
  where
    pick : (o : Option Bytes) → least p cs ≡ o → Some (lower c.name o) ≡ Some a → q c.name ≡ false → (least p cs ≡ Some a → q a ≡ true → is_some (least q cs) ≡ true) → is_some (least q cs) ≡ true
    pick None f k n r = absurd (let z : c.name ≡ a = cc in contradicts (q a) t (subst (λ y. q y ≡ false) z n))
    pick (Some y) f k n r = by (is_lt (slice_cmp nat_cmp y c.name)) refl
      where
        by : (b : Bool) → is_lt (slice_cmp nat_cmp y c.name) ≡ b → is_some (least q cs) ≡ true
        by true w = r (f ∙ (let z : Some (cond true y c.name) ≡ Some a = ap (λ b. Some (cond b y c.name)) (sym w) ∙ k in z)) t
        by false w = absurd (let z : Some (cond false y c.name) ≡ Some a = ap (λ b. Some (cond b y c.name)) (sym w) ∙ k in let u : c.name ≡ a = cc in contradicts (q a) t (subst (λ y. q y ≡ false) u n))

    go : (b : Bool) → q c.name ≡ b → (d : Bool) → p c.name ≡ d → cond d (Some (lower c.name (least p cs))) (least p cs) ≡ Some a → (least p cs ≡ Some a → q a ≡ true → is_some (least q cs) ≡ true)
        → is_some (cond b (Some (lower c.name (least q cs))) (least q cs)) ≡ true
    go true f d g h r = refl
    go false f true g h r = pick (least p cs) refl h f r
    go false f false g h r = r h t

-- a seat that passes one test and another one
seat_again : (O N : World) (p q : Bytes → Bool) (a : Bytes) → first_seat O N p ≡ Some a → q a ≡ true → is_some (first_seat O N q) ≡ true
seat_again O N p q a e t = go (q object_name) refl (p object_name) refl e
  where
    base : is_base_class O N a ≡ true → (is_base_class O N a && q a) ≡ true
    base h = and_from (is_base_class O N a) (q a) h t

    go : (b : Bool) → q object_name ≡ b → (d : Bool) → p object_name ≡ d → cond d (Some object_name) (least (λ a. is_base_class O N a && p a) (classes O)) ≡ Some a
        → is_some (cond b (Some object_name) (least (λ a. is_base_class O N a && q a) (classes O))) ≡ true
    go true f d g h = refl
    go false f true g h = absurd (let z : object_name ≡ a = cc in contradicts (q a) t (subst (λ y. q y ≡ false) z f))
    go false f false g h = least_again (λ a. is_base_class O N a && p a) (λ a. is_base_class O N a && q a) (classes O) a h (base (and_parts (is_base_class O N a) (p a) (least-passes (λ a. is_base_class O N a && p a) (classes O) a h)).0)

-- tests that tell the same
same_seat : (O N : World) (p q : Bytes → Bool) → ((a : Bytes) → p a ≡ q a) → is_some (first_seat O N p) ≡ is_some (first_seat O N q)
same_seat O N p q h = ap (λ test. is_some (first_seat O N test)) (λ i a. h a i)

-- each seat passes a test that java/lang/Object does
root_seat : (O N : World) (p : Bytes → Bool) → p object_name ≡ true → is_some (first_seat O N p) ≡ true
root_seat O N p h = rw h refl

-- ---- whether a class is kept

pub kept_some : (k : Bool) (s : SidesOf) (x : Bytes) (o : Option SharedOf) → IsWhere k s x o → (b : Bool) → b ≡ true → b ≡ is_some o → k ≡ true
kept_some k s x None w b t e = absurd (let z : true ≡ false = sym t ∙ e in cc)
kept_some k s x (Some c) w b t e = w.0

pub kept_none : (k : Bool) (s : SidesOf) (x : Bytes) (o : Option SharedOf) → IsWhere k s x o → (b : Bool) → b ≡ false → b ≡ is_some o → k ≡ false
kept_none k s x None w b t e = w
kept_none k s x (Some c) w b t e = absurd (let z : false ≡ true = sym t ∙ e in cc)

-- ---- whether all are hidden

pub all_wanted : (W : World) (e : Exposed) (ids : List ℕ) → list_all (λ t. is_hidden W (name_at W t)) ids ≡ true → All (IsCovered W e) ids → All (λ t. is_wanted e t ≡ true) ids
all_wanted W e ids h covered =
    All-from_recursion (λ t. is_wanted e t ≡ true) ids (EachOf-both (λ t hidden c. c hidden) ids (list_all-each (λ t. is_hidden W (name_at W t)) ids h) (recursion_from_All (IsCovered W e) ids covered))

pub all_hidden : (W : World) (ids : List ℕ) → list_all (λ t. is_hidden W (name_at W t)) ids ≡ true → All (λ t. is_hidden W (name_at W t) ≡ true) ids
all_hidden W ids h = All-from_recursion (λ t. is_hidden W (name_at W t) ≡ true) ids (list_all-each (λ t. is_hidden W (name_at W t)) ids h)

not_all : (O : World) (ids : List ℕ) (a : Bytes) → list_all (λ t. is_hidden O (name_at O t)) ids ≡ false → are_all_exposed O ids a ≡ false
unfolding is_exposed
not_all O [] a h = absurd (cc)
not_all O (t ∷ ts) a h = go (is_hidden O (name_at O t)) refl h (not_all O ts a)
  where
    last : (b : Bool) → are_all_exposed O ts a ≡ false → (b && are_all_exposed O ts a) ≡ false
    last true e = e
    last false e = refl

    go : (b : Bool) → is_hidden O (name_at O t) ≡ b → (b && list_all (λ t. is_hidden O (name_at O t)) ts) ≡ false → (list_all (λ t. is_hidden O (name_at O t)) ts ≡ false → are_all_exposed O ts a ≡ false) → (is_exposed O a (name_at O t) && are_all_exposed O ts a) ≡ false
    go false e q r = rw e refl
    go true e q r = last (is_exposed O a (name_at O t)) (r q)

-- where not all are hidden, all are exposed to no seat
pub none_shown : (O N : World) (ids : List ℕ) → list_all (λ t. is_hidden O (name_at O t)) ids ≡ false → is_some (first_seat O N (are_all_exposed O ids)) ≡ false
none_shown O N ids h = never_seat O N (are_all_exposed O ids) (λ a. not_all O ids a h)

-- ---- seats that two classes share, by which of them are kept

module _ (s : SidesOf) (m n : ℕ) where
  abbrev x : Bytes
  x = name_at s.old m

  abbrev y : Bytes
  y = name_at s.old n

  pub both_kept : is_kept s.old s.new (name_at s.old m) ≡ true → is_kept s.old s.new (name_at s.old n) ≡ true → true ≡ share_seat s (name_at s.old m ∷ name_at s.old n ∷ [])
  both_kept p q = sym (root_seat s.old s.new (λ a. list_all (takes_part s.old s.new a) (x ∷ y ∷ [])) (rw (p, q) refl))

  pub second_hidden : is_kept s.old s.new (name_at s.old m) ≡ true → is_kept s.old s.new (name_at s.old n) ≡ false → is_some (first_seat s.old s.new (are_all_exposed s.old (n ∷ []))) ≡ share_seat s (name_at s.old m ∷ name_at s.old n ∷ [])
  second_hidden p q = same_seat s.old s.new (are_all_exposed s.old (n ∷ [])) (λ a. list_all (takes_part s.old s.new a) (x ∷ y ∷ [])) (λ a. sym (rw (p, q) refl))

  pub first_hidden : is_kept s.old s.new (name_at s.old m) ≡ false → is_kept s.old s.new (name_at s.old n) ≡ true → is_some (first_seat s.old s.new (are_all_exposed s.old (m ∷ []))) ≡ share_seat s (name_at s.old m ∷ name_at s.old n ∷ [])
  first_hidden p q = same_seat s.old s.new (are_all_exposed s.old (m ∷ [])) (λ a. list_all (takes_part s.old s.new a) (x ∷ y ∷ [])) (λ a. sym (rw (p, q) refl))

  pub both_hidden : is_kept s.old s.new (name_at s.old m) ≡ false → is_kept s.old s.new (name_at s.old n) ≡ false → is_some (first_seat s.old s.new (are_all_exposed s.old (m ∷ n ∷ []))) ≡ share_seat s (name_at s.old m ∷ name_at s.old n ∷ [])
  both_hidden p q = same_seat s.old s.new (are_all_exposed s.old (m ∷ n ∷ [])) (λ a. list_all (takes_part s.old s.new a) (x ∷ y ∷ [])) (λ a. sym (rw (p, q) refl))

  -- where one isn't hidden, no value is handed on
  pub first_seen : is_hidden s.old (name_at s.old m) ≡ false → false ≡ is_handed s (name_at s.old m) (name_at s.old n)
  unfolding is_exposed
  first_seen h = sym (never_seat s.old s.new (λ a. is_exposed s.old a x && is_some (other_seat s.old s.new a y)) (λ a. rw h refl))

  pub second_seen : is_hidden s.old (name_at s.old n) ≡ false → false ≡ is_handed s (name_at s.old m) (name_at s.old n)
  unfolding is_exposed other_seat
  second_seen h = sym (never_seat s.old s.new (λ a. is_exposed s.old a x && is_some (other_seat s.old s.new a y)) (λ a. last (is_exposed s.old a x) (never_seat s.old s.new (λ b. is_exposed s.old b y && are_apart s.old s.new a b) (λ b. rw h refl))))
    where
      last : (b : Bool) {c : Bool} → c ≡ false → (b && c) ≡ false
      last true e = e
      last false e = refl

-- ---- findings

some_then : (on : Subject) (o : Option Bytes) → is_some (and_then (λ a. report on Assignment (Some a) VerifyError) o) ≡ is_some o
unfolding and_then
some_then on None = refl
some_then on (Some a) = refl

either_some : (o p : Option Finding) → is_some (or_else o p) ≡ (is_some o || is_some p)
unfolding or_else
either_some None p = refl
either_some (Some f) p = refl

assigned : (s : SidesOf) (on : Subject) (x t : Bytes) → is_some (assign_finding s.old s.new on (x ∷ t ∷ [])) ≡ share_seat s (x ∷ t ∷ [])
unfolding assign_finding
assigned s on x t = go (is_kept s.old s.new x) refl (is_kept s.old s.new t) refl
  where
    seated : Option Finding
    seated = and_then (λ a. report on Assignment (Some a) VerifyError) (first_seat s.old s.new (λ a. list_all (takes_part s.old s.new a) (x ∷ t ∷ [])))

    by_seat : is_some seated ≡ share_seat s (x ∷ t ∷ [])
    by_seat = some_then on (first_seat s.old s.new (λ a. list_all (takes_part s.old s.new a) (x ∷ t ∷ [])))

    go : (b : Bool) → is_kept s.old s.new x ≡ b → (c : Bool) → is_kept s.old s.new t ≡ c → is_some (cond (is_kept s.old s.new x && (is_kept s.old s.new t && true)) (report on Assignment None VerifyError) seated) ≡ share_seat s (x ∷ t ∷ [])
    go true e true f =
        let k : (is_kept s.old s.new x && (is_kept s.old s.new t && true)) ≡ true = rw (e, f) refl in
        ap (λ (b : Bool). is_some (cond b (report on Assignment None VerifyError) seated)) k ∙ sym (root_seat s.old s.new (λ a. list_all (takes_part s.old s.new a) (x ∷ t ∷ [])) (rw (e, f) refl))
    go true e false f =
        let k : (is_kept s.old s.new x && (is_kept s.old s.new t && true)) ≡ false = rw (e, f) refl in
        ap (λ (b : Bool). is_some (cond b (report on Assignment None VerifyError) seated)) k ∙ by_seat
    go false e c f =
        let k : (is_kept s.old s.new x && (is_kept s.old s.new t && true)) ≡ false = rw e refl in
        ap (λ (b : Bool). is_some (cond b (report on Assignment None VerifyError) seated)) k ∙ by_seat

handed : (s : SidesOf) (on : Subject) (t : Bytes) → is_some (handed_finding s.old s.new on t) ≡ is_handed s on.«class» t
unfolding handed_finding
handed s on t = some_then on (first_seat s.old s.new (λ a. is_exposed s.old a on.«class» && is_some (other_seat s.old s.new a t)))

-- what is told of a class that had t above it, and isn't assignable to it
pub found_is : (s : SidesOf) (x t : Bytes) → in_chain s.old x t ≡ true → is_class_assignable s.new x t ≡ false → is_found s.old s.new x t ≡ (share_seat s (x ∷ t ∷ []) || is_handed s x t)
unfolding finding_at superclass_lost
found_is s x t was now =
    ap (λ b. is_some (cond b (or_else (assign_finding s.old s.new on (x ∷ t ∷ [])) (handed_finding s.old s.new on t)) None)) stands
    ∙ either_some (assign_finding s.old s.new on (x ∷ t ∷ [])) (handed_finding s.old s.new on t)
    ∙ ap (λ b. b || is_some (handed_finding s.old s.new on t)) (assigned s on x t) ∙ ap (λ b. share_seat s (x ∷ t ∷ []) || b) (handed s on t)
  where
    on : Subject
    on = record { rule = 4; «class» = x; key = None; target = Some t }

    parts : (a b c : Bool) → (a || b || c) ≡ false → (a ≡ false) × (b ≡ false) × (c ≡ false)
    parts false false c e = (refl, refl, e)
    parts false true c e = absurd (cc)
    parts true b c e = absurd (cc)

    stands : (not (same x t) && in_chain s.old x t && not (in_chain s.new x t) && not (is_interface_of s.new t)) ≡ true
    stands = let p = parts (same x t) (is_interface_of s.new t) (in_chain s.new x t) now in rw (p.0, was, p.2, p.1) refl

-- ---- where values met

module _ (s : SidesOf) (side : IsSide s.old) (x t : Bytes) (ks : List ℕ) (within : All (λ k. k < size s.old) ks) (all : (k : ℕ) → k < size s.old → in_chain s.old (name_at s.old k) t ≡ true → Contains ks k) where
  abbrev test : ℕ → Bool
  test k = meets_by s x t (name_at s.old k)

  -- one of those below it is the other class
  from_joined : is_joined s.old s.new x t ≡ true → list_any test ks ≡ true
  from_joined h = go (first_seat s.old s.new (joins_for s.old s.new x t)) refl h
    where
      by : (a : Bytes) → first_seat s.old s.new (joins_for s.old s.new x t) ≡ Some a → list_any test ks ≡ true
      by a e =
          let p = and_parts (takes_part s.old s.new a x) (list_any (λ y. takes_part s.old s.new a y.name && is_join s.old x y.name t) (classes s.old)) (first_seat-passes s.old s.new (joins_for s.old s.new x t) a e) in
          let w : Passes (λ (y : ClassFacts). takes_part s.old s.new a y.name && is_join s.old x y.name t) (classes s.old) = any_passes (λ (y : ClassFacts). takes_part s.old s.new a y.name && is_join s.old x y.name t) (classes s.old) p.1 in
          let q = and_parts (takes_part s.old s.new a w.one.name) (is_join s.old x w.one.name t) w.passes in
          let up : in_chain s.old w.one.name t ≡ true = above w.one.name q.1 in
          let k = number_of s.old w.one.name (there w.one.name q.1) in
          let i = id_of-Some s.old w.one.name k.0 k.1 in
          any_has test ks k.0 (all k.0 i.0 (subst (λ z. in_chain s.old z t ≡ true) (sym i.1) up))
          (subst (λ z. meets_by s x t z ≡ true) (sym i.1)
          (and_from (is_join s.old x w.one.name t) (share_seat s (x ∷ w.one.name ∷ [])) q.1
          (seat_again s.old s.new (joins_for s.old s.new x t) (λ a. list_all (takes_part s.old s.new a) (x ∷ w.one.name ∷ [])) a e
          (and_from (takes_part s.old s.new a x) (takes_part s.old s.new a w.one.name && true) p.0 (and_from (takes_part s.old s.new a w.one.name) true q.0 refl)))))
        where
          above : (y : Bytes) → is_join s.old x y t ≡ true → in_chain s.old y t ≡ true
          above y j = (and_parts (in_chain s.old x t) (in_chain s.old y t) (and_parts (in_chain s.old x t && in_chain s.old y t) _ j).0).1

          there : (y : Bytes) → is_join s.old x y t ≡ true → is_some (find_class s.old y) ≡ true
          there y j = go (find_class s.old y) refl
            where
              go : (o : Option ClassFacts) → find_class s.old y ≡ o → is_some o ≡ true
              go (Some c) f = refl
              go None f = absurd (contradicts (in_chain s.old y t) (above y j) (none_above s.old y t f))

      go : (o : Option Bytes) → first_seat s.old s.new (joins_for s.old s.new x t) ≡ o → is_some o ≡ true → list_any test ks ≡ true
      go (Some a) e q = by a e
      go None e q = absurd (cc)

  to_joined : list_any test ks ≡ true → is_joined s.old s.new x t ≡ true
  to_joined h = go (first_seat s.old s.new (λ a. list_all (takes_part s.old s.new a) (x ∷ y ∷ []))) refl q.1
    where
      w : Passes test ks
      w = any_passes test ks h

      y : Bytes
      y = name_at s.old w.one

      q : (is_join s.old x y t ≡ true) × (share_seat s (x ∷ y ∷ []) ≡ true)
      q = and_parts (is_join s.old x y t) (share_seat s (x ∷ y ∷ [])) w.passes

      c : IsClass s.old y
      c = class_at s.old w.one side.differ (All-contains (λ k. k < size s.old) ks w.one within w.is_in)

      by : (a : Bytes) → first_seat s.old s.new (λ a. list_all (takes_part s.old s.new a) (x ∷ y ∷ [])) ≡ Some a → is_joined s.old s.new x t ≡ true
      by a e =
          let p = and_parts (takes_part s.old s.new a x) (takes_part s.old s.new a y && true) (first_seat-passes s.old s.new (λ a. list_all (takes_part s.old s.new a) (x ∷ y ∷ [])) a e) in
          let r = and_parts (takes_part s.old s.new a y) true p.1 in
          seat_again s.old s.new (λ a. list_all (takes_part s.old s.new a) (x ∷ y ∷ [])) (joins_for s.old s.new x t) a e
          (and_from (takes_part s.old s.new a x) (list_any (λ y. takes_part s.old s.new a y.name && is_join s.old x y.name t) (classes s.old)) p.0
          (any-found s.old (λ y. takes_part s.old s.new a y.name && is_join s.old x y.name t) y c.facts c.found
          (subst (λ z. (takes_part s.old s.new a z && is_join s.old x z t) ≡ true) (sym c.name) (and_from (takes_part s.old s.new a y) (is_join s.old x y t) r.0 q.0))))

      go : (o : Option Bytes) → first_seat s.old s.new (λ a. list_all (takes_part s.old s.new a) (x ∷ y ∷ [])) ≡ o → is_some o ≡ true → is_joined s.old s.new x t ≡ true
      go (Some a) e i = by a e
      go None e i = absurd (cc)

  pub joined_is : list_any (λ k. meets_by s x t (name_at s.old k)) ks ≡ is_joined s.old s.new x t
  joined_is = go (list_any test ks) refl (is_joined s.old s.new x t) refl
    where
      go : (b : Bool) → list_any test ks ≡ b → (c : Bool) → is_joined s.old s.new x t ≡ c → list_any test ks ≡ is_joined s.old s.new x t
      go true e c f = e ∙ sym (to_joined e)
      go false e true f = absurd (contradicts (list_any test ks) (from_joined f) e)
      go false e false f = e ∙ sym f

-- ---- whether the new side has it still

module _ (s : SidesOf) (differ : IsTrue (differ_by_name (classes s.old))) (m n : ℕ) (lm : m < size s.old) (ln : n < size s.old) where
  abbrev above : Bytes
  above = name_at s.old n

  number : same (name_at s.old m) (name_at s.old n) ≡ eqb m n
  number = same_number s.old differ m n lm ln

  pub still_itself : eqb m n ≡ true → true ≡ is_class_assignable s.new (name_at s.old m) (name_at s.old n)
  still_itself e = sym (ap (λ b. b || is_interface_of s.new above || in_chain s.new (name_at s.old m) above) (number ∙ e))

  module _ (other : eqb m n ≡ false) where
    rest : is_class_assignable s.new (name_at s.old m) (name_at s.old n) ≡ (is_interface_of s.new above || in_chain s.new (name_at s.old m) above)
    rest = ap (λ b. b || is_interface_of s.new above || in_chain s.new (name_at s.old m) above) (number ∙ other)

    pub still_absent : None ≡ id_of s.new (name_at s.old n) → false ≡ is_class_assignable s.new (name_at s.old m) (name_at s.old n)
    still_absent i =
        let f : find_class s.new above ≡ None = find-None s.new above (sym i) in
        sym (rest ∙ ap (λ o. some_and (λ (c : ClassFacts). interface_flag c.flags) o || in_chain s.new (name_at s.old m) above) f ∙ absent_above s.new (name_at s.old m) above f)

    pub still_interface : (b : Bool) → b ≡ is_interface_of s.new (name_at s.old n) → b ≡ true → true ≡ is_class_assignable s.new (name_at s.old m) (name_at s.old n)
    still_interface b e h = sym (rest ∙ ap (λ q. q || in_chain s.new (name_at s.old m) above) (sym e ∙ h))

    pub still_above : (b r : Bool) (i j : ℕ) → b ≡ is_interface_of s.new (name_at s.old n) → b ≡ false → Some i ≡ id_of s.new (name_at s.old m) → Some j ≡ id_of s.new (name_at s.old n)
        → r ≡ in_chain s.new (name_at s.new i) (name_at s.new j) → r ≡ is_class_assignable s.new (name_at s.old m) (name_at s.old n)
    still_above b r i j e h p q g =
        g ∙ ap (λ x. in_chain s.new x (name_at s.new j)) (id_of-Some s.new (name_at s.old m) i (sym p)).1 ∙ ap (in_chain s.new (name_at s.old m)) (id_of-Some s.new above j (sym q)).1
        ∙ sym (rest ∙ ap (λ z. z || in_chain s.new (name_at s.old m) above) (sym e ∙ h))

    pub still_gone : (b : Bool) → b ≡ is_interface_of s.new (name_at s.old n) → b ≡ false → None ≡ id_of s.new (name_at s.old m) → false ≡ is_class_assignable s.new (name_at s.old m) (name_at s.old n)
    still_gone b e h p =
        sym (rest ∙ ap (λ z. z || in_chain s.new (name_at s.old m) above) (sym e ∙ h) ∙ none_above s.new (name_at s.old m) above (find-None s.new (name_at s.old m) (sym p)))
