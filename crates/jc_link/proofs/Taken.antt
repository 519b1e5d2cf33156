-- Which names of clients the classes of a side take.
use Rattle.std.proofs.Common.{◌≡◌, Bool, true, false, ◌||◌, List, [], ◌∷◌, ◌++◌, map, cond, refl, sym, ◌∙◌, ap, subst, Some}
use Rattle.std.specs.Prelude.{is_some, IsTrue}
use Rattle.std.specs.List.{list_any, flat_map}
use Rattle.std.specs.List.Sorted.{IsPermutation}
use Rattle.std.proofs.lemmas.Bool.{and_parts, or_left, or_right}
use Rattle.std.proofs.lemmas.Grind.{flat_map-append}
use Rattle.std.proofs.lemmas.List.{append-nil}
use Rattle.std.proofs.lemmas.List.Folds.{list_any-append}
use Rattle.std.proofs.lemmas.List.Sorted.{list_any-IsPermutation}
use Rattle.std.proofs.Math.Bool.{or-false}
use Rattle.jc_facts.specs.declared.class_facts.ClassFacts.{ClassFacts}
use Rattle.jc_facts.specs.declared.client.ClientClass.{ClientClass}
use Rattle.jc_facts.specs.Names.{Bytes, same, is_name_among, package_name}
use Rattle.jc_facts.specs.world.World.{World, side, class_named, find_class}
use Rattle.jc_facts.specs.world.Search.{supers}
use Rattle.jc_lemmas.proofs.Listed.{EachOf, EachOf-map}
use Rattle.jc_facts.proofs.Same.{same_is, same_itself}
use Rattle.jc_link.specs.Refusals.{name_fault, first_refused}
use Rattle.jc_link.specs.declared.client_names.ClientNames.{ClientNames}
use Rattle.jc_link.specs.declared.client_names.TakenNames.{TakenNames}
use Rattle.jc_link.specs.steps.TakenNames.{is_of, are_of, wanted, own_of, above_of, package_of_class, AreTaken, fault_by, first_by}

-- ---- the names of clients

named : (name : ClientClass → Bytes) (cs : List ClientClass) → EachOf (λ c. is_name_among (map name cs) (name c) ≡ true) cs
named name [] = tt
named name (c ∷ cs) = (
  or_left (same (name c) (name c)) (is_name_among (map name cs) (name c)) (same_itself (name c)),
  EachOf-map (λ d h. or_right (same (name c) (name d)) (is_name_among (map name cs) (name d)) h) cs (named name cs),
)

sorted_named : (name : ClientClass → Bytes) (cs : List ClientClass) (xs : List Bytes) → IsPermutation (map name cs) xs → EachOf (λ c. is_name_among xs (name c) ≡ true) cs
sorted_named name cs xs p = EachOf-map (λ c h. sym (list_any-IsPermutation (λ y. same y (name c)) (map name cs) xs p) ∙ h) cs (named name cs)

each_is_of : (n : ClientNames) (cs : List ClientClass) → EachOf (λ c. is_name_among n.names c.facts.name ≡ true) cs → EachOf (λ c. is_name_among n.packages (package_name c.facts.name) ≡ true) cs → are_of n cs ≡ true
each_is_of n [] h k = refl
each_is_of n (c ∷ cs) h k = rw (h.0, k.0, each_is_of n cs h.1 k.1) refl

pub all_are_of : (n : ClientNames) (cs : List ClientClass) → IsPermutation (map (λ c. c.facts.name) cs) n.names → IsPermutation (map (λ c. package_name c.facts.name) cs) n.packages → IsTrue (are_of n cs)
all_are_of n cs p q = each_is_of n cs (sorted_named (λ c. c.facts.name) cs n.names p) (sorted_named (λ c. package_name c.facts.name) cs n.packages q)

-- ---- what classes take

module _ (ws : List Bytes) (x : Bytes) (h : is_name_among ws x ≡ true) where
  wanted_has : (xs : List Bytes) → is_name_among (wanted ws xs) x ≡ is_name_among xs x
  wanted_has [] = refl
  wanted_has (y ∷ ys) = go (is_name_among ws y) refl (same y x) refl (wanted_has ys)
    where
      go : (a : Bool) → is_name_among ws y ≡ a → (b : Bool) → same y x ≡ b → is_name_among (wanted ws ys) x ≡ is_name_among ys x → is_name_among (cond a (y ∷ wanted ws ys) (wanted ws ys)) x ≡ (b || is_name_among ys x)
      go true e b f r = ap (λ z. z || is_name_among (wanted ws ys) x) f ∙ ap (λ z. b || z) r
      go false e true f r = absurd (let k : is_name_among ws y ≡ true = ap (is_name_among ws) (same_is y x f) ∙ h in cc)
      go false e false f r = r

  taken_has : (names : ClassFacts → List Bytes) (cs : List ClassFacts) → is_name_among (flat_map (λ c. wanted ws (names c)) cs) x ≡ list_any (λ c. is_name_among (names c) x) cs
  taken_has names [] = refl
  taken_has names (c ∷ cs) =
      list_any-append (λ y. same y x) (wanted ws (names c)) (flat_map (λ d. wanted ws (names d)) cs)
      ∙ ap (λ b. b || is_name_among (flat_map (λ d. wanted ws (names d)) cs) x) (wanted_has (names c)) ∙ ap (λ b. is_name_among (names c) x || b) (taken_has names cs)

  -- sorted
  pub sorted_has : (names : ClassFacts → List Bytes) (P R : List ClassFacts) (xs : List Bytes) → IsPermutation (flat_map (λ c. wanted ws (names c)) P ++ flat_map (λ c. wanted ws (names c)) R) xs
      → is_name_among xs x ≡ list_any (λ c. is_name_among (names c) x) (P ++ R ++ [])
  sorted_has names P R xs p =
      sym (list_any-IsPermutation (λ y. same y x) (flat_map (λ c. wanted ws (names c)) P ++ flat_map (λ c. wanted ws (names c)) R) xs p)
      ∙ ap (λ ys. is_name_among ys x) (sym (flat_map-append (λ c. wanted ws (names c)) P R)) ∙ taken_has names (P ++ R)
      ∙ ap (λ cs. list_any (λ c. is_name_among (names c) x) cs) (sym (append-nil (P ++ R)))

one_has : (name : ClassFacts → Bytes) (x : Bytes) (cs : List ClassFacts) → list_any (λ c. is_name_among (name c ∷ []) x) cs ≡ list_any (λ c. same (name c) x) cs
one_has name x [] = refl
one_has name x (c ∷ cs) = rw (or-false (same (name c) x), one_has name x cs) refl

is_there : (x : Bytes) (cs : List ClassFacts) → list_any (λ c. same c.name x) cs ≡ is_some (class_named cs x)
unfolding class_named
is_there x [] = refl
is_there x (c ∷ cs) = go (same c.name x) (is_there x cs)
  where
    go : (b : Bool) → list_any (λ d. same d.name x) cs ≡ is_some (class_named cs x) → (b || list_any (λ d. same d.name x) cs) ≡ is_some (cond b (Some c) (class_named cs x))
    go true r = refl
    go false r = r

pub are_taken : (P R : List ClassFacts) (n : ClientNames) (t : TakenNames) → IsPermutation (flat_map (own_of n) P ++ flat_map (own_of n) R) t.declared
    → IsPermutation (flat_map (above_of n) P ++ flat_map (above_of n) R) t.supers → IsPermutation (flat_map (package_of_class n) P ++ flat_map (package_of_class n) R) t.packages → AreTaken (side P R) n t
unfolding find_class
are_taken P R n t p q r = record {
  declared = λ x h. sorted_has n.names x (and_parts (is_name_among n.names x) (is_name_among n.packages (package_name x)) h).0 (λ c. c.name ∷ []) P R t.declared p ∙ one_has (λ c. c.name) x (P ++ R ++ []) ∙ is_there x (P ++ R ++ []);
  supers = λ x h. sorted_has n.names x (and_parts (is_name_among n.names x) (is_name_among n.packages (package_name x)) h).0 supers P R t.supers q;
  packages = λ x h. sorted_has n.packages (package_name x) (and_parts (is_name_among n.names x) (is_name_among n.packages (package_name x)) h).1 (λ c. package_name c.name ∷ []) P R t.packages r
      ∙ one_has (λ c. package_name c.name) (package_name x) (P ++ R ++ []);
}

-- a list of names that began with nothing and grew twice, sorted
pub grown : (first mid last front back set : List Bytes) → first ≡ [] → mid ≡ first ++ front → last ≡ mid ++ back → IsPermutation last set → IsPermutation (front ++ back) set
grown first mid last front back set e f g p = subst (λ xs. IsPermutation xs set) (g ∙ ap (λ xs. xs ++ back) (f ∙ ap (λ xs. xs ++ front) e)) p

-- ---- the first client that is refused

fault_is : (W : World) (n : ClientNames) (t : TakenNames) (x : Bytes) → AreTaken W n t → is_of n x ≡ true → fault_by t x ≡ name_fault W x
unfolding fault_by name_fault
fault_is W n t x a h = rw (a.declared x h, a.supers x h, a.packages x h) refl

pub first_is : (W : World) (n : ClientNames) (t : TakenNames) (cs : List ClientClass) → AreTaken W n t → IsTrue (are_of n cs) → first_by t cs ≡ first_refused W cs
first_is W n t [] a h = refl
first_is W n t (c ∷ cs) a h =
    let k = and_parts (is_of n c.facts.name) (are_of n cs) h in
    rw (fault_is W n t c.facts.name a k.0, first_is W n t cs a k.1) refl
