-- What the rule on superclasses that left the chain finds.
use Rattle.std.proofs.Common.{◌≡◌, ◌<◌, ◌≤◌, ◌+◌, ◌==◌, ℕ, Bool, true, false, cond, List, [], ◌∷◌, ◌++◌, take, refl, sym, ◌∙◌, ap, subst, Option, Some, None, not, map, ◌&&◌, nat_lt, ◌⊎◌, inl, inr}
use Rattle.std.specs.BTreeSet as sorted
use Rattle.std.specs.Ordering.{nat_cmp}
use Rattle.std.specs.List.{Contains, filter_map, cons_option}
use Rattle.std.proofs.lemmas.Bool.{and_parts, both_ways, ltb-true}
use Rattle.std.specs.declared.cmp.Ordering.TheVariants.{Less}
use Rattle.std.proofs.lemmas.Cmp.{nat_cmp_total}
use Rattle.std.proofs.lemmas.List.{map-append}
use Rattle.std.proofs.lemmas.List.Elements.{filter_map-append, Contains-append_right}
use Rattle.std.proofs.lemmas.Map.Lookups.{exact_unsigned}
use Rattle.std.proofs.lemmas.Map.Views.{btree_set_contains_iff}
use Rattle.jc_facts.specs.declared.finding.Finding.{Finding}
use Rattle.jc_facts.specs.Names.{Bytes, same}
use Rattle.jc_facts.specs.world.World.{World, size}
use Rattle.jc_facts.specs.world.Hierarchy.{in_chain}
use Rattle.jc_facts.specs.world.Assignment.{is_interface_of}
use Rattle.jc_promises.specs.rule.Findings.{Subject, finding_at, finding_by, subject_of}
use Rattle.jc_facts.specs.Orders.{finding_order}
use Rattle.jc_facts.specs.Exactly.{HasExactly}
use Rattle.jc_facts.specs.Exactly.{Before, NamesRise}
use Rattle.jc_facts.proofs.Exact.{Gives}
use Rattle.jc_lemmas.proofs.Listed.{here, there, none, cases, each_from}
use Rattle.jc_facts.proofs.InOrder.{exact_none, exact_given}
use Rattle.jc_facts.proofs.Exactly.{OfNames, grown_start, grown_more, grown_all}
use Rattle.jc_index.proofs.Numbers.{id_of-Some, names-length, names-rise, number_of}
use Rattle.jc_index.specs.Ids.{names, name_at}
use Rattle.jc_index.specs.Sides.{IsSide}
use Rattle.jc_facts.specs.declared.key.Key.{Key}
use Rattle.jc_facts.specs.Options.{some_where}
use Rattle.jc_sound.proofs.FindingLaws.{finding_is_on_its_subject}
use Rattle.jc_rules.specs.steps.Chains.{HasChain, on_target, lost_finding, target_finding, OfChain}
use Rattle.jc_rules.specs.steps.Losses.{loses, may_take_part}
use Rattle.jc_rules.proofs.Assignments.{aside, not_handed}
use Rattle.jc_rules.proofs.ChainLost.{set_has, target_is}
use Rattle.jc_sides.specs.Rules.{IsFinding}
use Rattle.jc_sides.specs.SidesOf.{SidesOf, AreSides}
use Rattle.jc_sides.proofs.Rising.{numbers-rise}
use Rattle.jc_sides.proofs.Subjects.{subject_order, ordered_as, same_name, subject_is, finding_class_before, class_in}
use Rattle.jc_acts.specs.Seats.{loses_class}
use Rattle.jc_worlds.proofs.Chains.{chain_there}
use Rattle.jc_acts.proofs.SeatChains.{keeps}
use Rattle.jc_lemmas.proofs.Options.{passed}
use Rattle.jc_facts.proofs.Options.{or_else-both, some_where-is}

-- ---- the form of the finding

target_there : (s : SidesOf) (on : Subject) → on.rule ≡ 4 → (k : Option Key) (t : Option Bytes) (f : Finding) → finding_by s.old s.new on k t ≡ Some f → (k ≡ None) × ((u : Bytes) × (t ≡ Some u))
target_there s on e None None f h =
    absurd (let z : None ≡ Some f = passed (on.rule == 3) _ _ _ (ap (λ n. n == 3) e) (passed (on.rule == 2) _ _ _ (ap (λ n. n == 2) e) (passed (on.rule == 1) _ _ _ (ap (λ n. n == 1) e) h)) in cc)
target_there s on e None (Some t) f h = (refl, (t, refl))
target_there s on e (Some k) None f h =
    absurd (let z : None ≡ Some f = passed (on.rule == 9) _ _ _ (ap (λ n. n == 9) e) (passed (on.rule == 8) _ _ _ (ap (λ n. n == 8) e) (passed (on.rule == 7) _ _ _ (ap (λ n. n == 7) e)
    (passed (on.rule == 6) _ _ _ (ap (λ n. n == 6) e) (passed (on.rule == 5) _ _ _ (ap (λ n. n == 5) e) h)))) in cc)
target_there s on e (Some k) (Some t) f h = absurd (cc)

of_chain : (s : SidesOf) (x : Bytes) (f : Finding) → OfChain s x f → (t : Bytes) × (target_finding s x t ≡ Some f)
unfolding target_finding finding_at
of_chain s x f h =
    let p = target_there s (subject_of f) h.1.0 f.key f.target f h.1.1 in
    (p.1.0, subst (λ (on : Subject). finding_by s.old s.new on on.key on.target ≡ Some f) (subject_is f (on_target x p.1.0) h.1.0 h.0 p.0 p.1.1) h.1.1)

to_chain : (s : SidesOf) (x t : Bytes) (f : Finding) → target_finding s x t ≡ Some f → (subject_of f ≡ on_target x t) × OfChain s x f
unfolding target_finding
to_chain s x t f h =
    let e : subject_of f ≡ on_target x t = finding_is_on_its_subject s.old s.new (on_target x t) f h in
    (e, (ap (λ (z : Subject). z.«class») e, (ap (λ (z : Subject). z.rule) e, subst (λ (z : Subject). finding_at s.old s.new z ≡ Some f) (sym e) h)))

target_before : (x t u : Bytes) → Before t u → subject_order (on_target x t) (on_target x u) ≡ Less
target_before x t u h = rw (same_name x, h) refl

-- ---- what a finding says

taken_where : (b : Bool) (o : Option Finding) (f : Finding) → cond b o None ≡ Some f → (b ≡ true) × (o ≡ Some f)
taken_where true o f h = (refl, h)
taken_where false o f h = absurd (cc)

-- of the two
pub record SaysLost (s : SidesOf) (x t : Bytes) (f : Finding) : Type 0 where
  pub was : in_chain s.old x t ≡ true
  pub left : not (in_chain s.new x t) ≡ true
  pub found : lost_finding s x t ≡ Some f

pub target_says : (s : SidesOf) (x t : Bytes) (f : Finding) → target_finding s x t ≡ Some f → SaysLost s x t f
target_says s x t f h =
    let w = taken_where (not (same x t) && in_chain s.old x t && not (in_chain s.new x t) && not (is_interface_of s.new t)) (lost_finding s x t) f (sym (target_is s x t) ∙ h) in
    let a = and_parts (not (same x t) && in_chain s.old x t && not (in_chain s.new x t)) (not (is_interface_of s.new t)) w.0 in
    let b = and_parts (not (same x t) && in_chain s.old x t) (not (in_chain s.new x t)) a.0 in
    record { was = (and_parts (not (same x t)) (in_chain s.old x t) b.0).1; left = b.1; found = w.1 }

-- a class that is neither kept nor hidden has no finding
aside_chain : (s : SidesOf) (x : Bytes) → may_take_part s x ≡ false → HasExactly finding_order (OfChain s x) []
aside_chain s x h = exact_none finding_order (OfChain s x) none_found
  where
    none_found : (f : Finding) → OfChain s x f → ⊥
    none_found f p =
        let w = of_chain s x f p in
        let z : None ≡ Some f = sym (or_else-both _ _ (aside s (on_target x w.0) x w.0 h) (not_handed s (on_target x w.0) w.0 h)) ∙ (target_says s x w.0 f w.1).found in
        cc

-- nothing is found of a chain that nothing has left
still_whole : (s : SidesOf) (x : Bytes) → ((t : Bytes) → in_chain s.old x t ≡ true → in_chain s.new x t ≡ true) → HasExactly finding_order (OfChain s x) []
still_whole s x h = exact_none finding_order (OfChain s x) still
  where
    still : (f : Finding) → OfChain s x f → ⊥
    still f p =
        let w = of_chain s x f p in
        let says = target_says s x w.0 f w.1 in
        let stays : in_chain s.new x w.0 ≡ true = h w.0 says.was in
        both_ways (not (in_chain s.new x w.0)) (ap not stays) says.left

whole_chain : (s : SidesOf) (x : Bytes) → loses_class s x ≡ false → HasExactly finding_order (OfChain s x) []
whole_chain s x h = still_whole s x (keeps s x h)

-- nor of a class that doesn't lose
pub lossless_chain : (s : SidesOf) (x : Bytes) → loses s x ≡ false → HasExactly finding_order (OfChain s x) []
lossless_chain s x h = go (may_take_part s x) refl h
  where
    go : (b : Bool) → may_take_part s x ≡ b → (b && loses_class s x) ≡ false → HasExactly finding_order (OfChain s x) []
    go false e p = aside_chain s x e
    go true e p = whole_chain s x p

-- ---- all of the old chain

-- what the set has
pub record IsUp (O : World) (x : Bytes) (k : ℕ) : Type 0 where
  pub below : k < size O
  pub up : in_chain O x (name_at O k) ≡ true

is_up : (O : World) (x : Bytes) (chain : sorted.BTreeSet ℕ) → HasChain O x chain → (k : ℕ) → Contains chain.keys k → IsUp O x k
is_up O x chain h k c =
    let p = and_parts (nat_lt k (size O)) (in_chain O x (name_at O k)) (sym (h.has k) ∙ (btree_set_contains_iff nat_cmp_total exact_unsigned chain k).1 c) in
    record { below = ltb-true k (size O) p.0; up = p.1 }

pub up_at : (O : World) (x : Bytes) (chain : sorted.BTreeSet ℕ) → HasChain O x chain → (front rest : List ℕ) (k : ℕ) → chain.keys ≡ front ++ k ∷ rest → IsUp O x k
up_at O x chain h front rest k e = is_up O x chain h k (subst (λ (ks : List ℕ). Contains ks k) (sym e) (Contains-append_right front (k ∷ rest) k (here k rest)))

-- one more class
pub chain_more : (h : Bytes → Option Finding) (O : World) (front : List ℕ) (k : ℕ) (o : Option Finding) (fs gs : List Finding) → fs ≡ filter_map h (map (name_at O) front) → o ≡ h (name_at O k) → gs ≡ fs ++ cons_option o []
    → gs ≡ filter_map h (map (name_at O) (front ++ k ∷ []))
chain_more h O front k o fs gs e q g =
    g ∙ ap (λ (xs : List Finding). xs ++ cons_option o []) e ∙ ap (λ (p : Option Finding). filter_map h (map (name_at O) front) ++ cons_option p []) q
    ∙ sym (filter_map-append h (map (name_at O) front) (name_at O k ∷ [])) ∙ ap (filter_map h) (sym (map-append (name_at O) front (k ∷ [])))

in_map : (O : World) (ks : List ℕ) (k : ℕ) → Contains ks k → Contains (map (name_at O) ks) (name_at O k)
in_map O [] k c = absurd (none k c)
in_map O (q ∷ ks) k c = go (cases q ks k c) (in_map O ks k)
  where
    go : (q ≡ k) ⊎ Contains ks k → (Contains ks k → Contains (map (name_at O) ks) (name_at O k)) → Contains (name_at O q ∷ map (name_at O) ks) (name_at O k)
    go (inl is) r = subst (λ n. Contains (name_at O q ∷ map (name_at O) ks) (name_at O n)) is (here (name_at O q) (map (name_at O) ks))
    go (inr d) r = there (name_at O k) (name_at O q) (map (name_at O) ks) (r d)

-- the set has each class of the chain
in_set : (O : World) (x t : Bytes) (chain : sorted.BTreeSet ℕ) → HasChain O x chain → in_chain O x t ≡ true → Contains (map (name_at O) chain.keys) t
in_set O x t chain h i =
    let k = number_of O t (chain_there O x t i) in
    let b : k.0 < size O = (id_of-Some O t k.0 k.1).0 in
    let n : name_at O k.0 ≡ t = (id_of-Some O t k.0 k.1).1 in
    let c : sorted.contains nat_cmp chain k.0 ≡ true = set_has O x t chain k.0 h b n ∙ i in
    subst (Contains (map (name_at O) chain.keys)) n (in_map O chain.keys k.0 ((btree_set_contains_iff nat_cmp_total exact_unsigned chain k.0).0 c))

-- what is found of all
pub chain_exact : (s : SidesOf) → IsSide s.old → (x : Bytes) (chain : sorted.BTreeSet ℕ) → HasChain s.old x chain → HasExactly finding_order (OfChain s x) (filter_map (target_finding s x) (map (name_at s.old) chain.keys))
chain_exact s side x chain h =
    exact_given finding_order (target_finding s x) later (OfChain s x) (map (name_at s.old) chain.keys)
    (numbers-rise s.old side chain.keys h.ordered (each_from (λ q. q < size s.old) chain.keys (λ k c. (is_up s.old x chain h k c).below)))
    (λ t f c e. (to_chain s x t f e).1) complete
  where
    later : (t u : Bytes) (f g : Finding) → Before t u → target_finding s x t ≡ Some f → target_finding s x u ≡ Some g → finding_order f g ≡ Less
    later t u f g b e k = ordered_as (on_target x t) (on_target x u) f g (to_chain s x t f e).0 (to_chain s x u g k).0 (target_before x t u b)

    complete : (f : Finding) → OfChain s x f → Gives (target_finding s x) (map (name_at s.old) chain.keys) f
    complete f p =
        let t = of_chain s x f p in
        record { place = t.0; is_in = in_set s.old x t.0 chain h (target_says s x t.0 f t.1).was; gives = t.1 }

-- ---- of all classes

rise_of : (s : SidesOf) → AreSides s → NamesRise (λ x. x) (names s.old)
rise_of s are = names-rise s.old are.old_side.differ

apart : (s : SidesOf) (f g : Finding) → IsFinding 4 s f → IsFinding 4 s g → Before f.«class» g.«class» → finding_order f g ≡ Less
apart s f g p q b = finding_class_before f g (p.0 ∙ sym q.0) b

module _ (s : SidesOf) (are : AreSides s) where
  -- what is found of these classes
  abbrev pub OfThese : List Bytes → Finding → Type 0
  OfThese xs = OfNames (λ f. f.«class») (IsFinding 4 s) xs

  pub start : (fs : List Finding) → fs ≡ [] → HasExactly finding_order (OfThese []) fs
  start = grown_start finding_order (λ f. f.«class») (IsFinding 4 s) (apart s) (names s.old) (rise_of s are)

  -- one more class; the table's world is the old side's
  pub one_more : (W : World) → W ≡ s.old → (n k : ℕ) (fs found gs : List Finding) → n < size W → some_where (nat_lt n (size W)) n ≡ Some k → HasExactly finding_order (OfThese (take n (names s.old))) fs
      → HasExactly finding_order (OfChain s (name_at s.old k)) found → gs ≡ fs ++ found → HasExactly finding_order (OfThese (take (n + 1) (names s.old))) gs
  one_more W v n k fs found gs l is h e g =
      grown_more finding_order (λ f. f.«class») (IsFinding 4 s) (apart s) (names s.old) (rise_of s are) n fs found gs (subst (λ m. n < m) (sym (names-length s.old)) (subst (λ (V : World). n < size V) v l)) h
      (subst (λ (m : ℕ). HasExactly finding_order (OfChain s (name_at s.old m)) found) (some_where-is (nat_lt n (size W)) n k is) e) g

  pub all_classes : (W : World) → W ≡ s.old → (n : ℕ) (fs : List Finding) → size W ≤ n → HasExactly finding_order (OfThese (take n (names s.old))) fs → HasExactly finding_order (IsFinding 4 s) fs
  all_classes W v n fs l h =
      grown_all finding_order (λ f. f.«class») (IsFinding 4 s) (apart s) (names s.old) (rise_of s are) n fs (subst (λ m. m ≤ n) (sym (names-length s.old)) (subst (λ (V : World). size V ≤ n) v l)) (class_in s 4) h
