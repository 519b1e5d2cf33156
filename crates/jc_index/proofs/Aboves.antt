-- Superinterfaces by numbers.
use Rattle.std.proofs.Common.{◌≡◌, ◌<◌, ◌≤◌, ℕ, zero, suc, Bool, true, false, ◌||◌, ◌==◌, List, [], ◌∷◌, length, get_or, map, refl, sym, ◌∙◌, ap, subst, ◌⊎◌, inl, inr, arith, eqb, Option, Some, None}
use Rattle.std.specs.Prelude.{IsTrue, is_some, nat_lt}
use Rattle.std.specs.List.{All, Any, Contains, list_any, filter_map, cons_option}
use Rattle.std.proofs.lemmas.Bool.{eqb-true, eq-eqb, ltb-true, lt-ltb, cases_lt}
use Rattle.std.proofs.lemmas.List.{get_or-map, length-map, get_or_past}
use Rattle.std.proofs.lemmas.List.Folds.{list_any-append, Any-from_list_any}
use Rattle.std.proofs.lemmas.List.Elements.{All-contains, All-from_recursion, All-weaker, All-contains_itself}
use Rattle.std.specs.Cmp.{both_ways}
use Rattle.jc_facts.specs.declared.class_facts.ClassFacts.{ClassFacts}
use Rattle.jc_facts.specs.Names.{Bytes, same}
use Rattle.jc_facts.specs.Options.{some_and, and_then}
use Rattle.jc_facts.specs.world.World.{World, find_class, size, classes, differ_by_name}
use Rattle.jc_facts.specs.world.Search.{descend}
use Rattle.jc_facts.specs.world.Hierarchy.{chain, chain_step, of_super, each, interfaces_step, with_interfaces, names_in, interfaces_of, superinterfaces, is_superinterface}
use Rattle.jc_facts.proofs.Same.{same_is, same_itself}
use Rattle.jc_lemmas.proofs.Listed.{here, there, cases, none, any_has}
use Rattle.jc_worlds.proofs.Descent.{descend-absent, descend-none_left, descend-found}
use Rattle.jc_lemmas.proofs.Lists.{any_weaker}
use Rattle.jc_facts.proofs.World.{find-name}
use Rattle.jc_worlds.proofs.Interfaces.{levels_suffice, above_is_one_step}
use Rattle.jc_index.specs.Ids.{names, name_at, id_of, superclass_of}
use Rattle.jc_index.specs.steps.Reach.{next_of, IsLedTo, AllLedTo}
use Rattle.jc_index.specs.Above.{leads_to, leads_by, AreAbove, AreRows}
use Rattle.jc_index.specs.steps.Named.{named_by, edges_of}
use Rattle.jc_index.proofs.Numbers.{IsClass, is_class, class_at, superclass_is, find-None, id_of-Some, id_of-name_at, id-find, names-length, number_of}
use Rattle.jc_facts.proofs.Hierarchy.{names_in-each}

-- ---- what interfaces lead to, level by level

module _ (W : World) where
  -- y is reached from x by so many levels of interfaces
  led : ℕ → Bytes → Bytes → Bool
  led n x y = names_in (descend W [] [] interfaces_step n x) y

  led-absent : (n : ℕ) (x y : Bytes) → find_class W x ≡ None → led n x y ≡ false
  unfolding led
  led-absent n x y e = ap (λ cs. names_in cs y) (descend-absent W [] [] interfaces_step n x e)

  led-found : (n : ℕ) (x y : Bytes) (c : ClassFacts) → find_class W x ≡ Some c → led (suc n) x y ≡ (same c.name y || list_any (λ i. led n i y) c.interfaces)
  unfolding led interfaces_step
  led-found n x y c e =
      ap (λ cs. names_in cs y) (descend-found W [] [] interfaces_step n x c e) ∙ ap (λ b. same c.name y || b) (names_in-each (descend W [] [] interfaces_step n) c.interfaces y)

  led-none : (x y : Bytes) → led zero x y ≡ false
  unfolding led
  led-none x y = go (find_class W x) refl
    where
      go : (o : Option ClassFacts) → find_class W x ≡ o → names_in (descend W [] [] interfaces_step zero x) y ≡ false
      go None e = ap (λ cs. names_in cs y) (descend-absent W [] [] interfaces_step zero x e)
      go (Some c) e = ap (λ cs. names_in cs y) (descend-none_left W [] [] interfaces_step x c e)

  -- from where something is reached there is a class
  led-from : (n : ℕ) (x y : Bytes) → led n x y ≡ true → is_some (find_class W x) ≡ true
  led-from n x y h = go (find_class W x) refl
    where
      go : (o : Option ClassFacts) → find_class W x ≡ o → is_some o ≡ true
      go None e = absurd (let c : false ≡ true = sym (led-absent n x y e) ∙ h in cc)
      go (Some c) e = refl

  -- from what is reached, what it names is reached
  led-on : (n : ℕ) (x y z : Bytes) (c : ClassFacts) → led n x y ≡ true → find_class W y ≡ Some c → Contains c.interfaces z → is_some (find_class W z) ≡ true → led (suc n) x z ≡ true
  led-on zero x y z c h e k f = absurd (let q : false ≡ true = sym (led-none x y) ∙ h in cc)
  led-on (suc n) x y z c h e k f = go (find_class W x) refl (λ i p. led-on n i y z c p e k f)
    where
      itself : led (suc n) z z ≡ true
      itself = by (find_class W z) refl f
        where
          by : (o : Option ClassFacts) → find_class W z ≡ o → is_some o ≡ true → led (suc n) z z ≡ true
          by None p q = absurd (let q2 : false ≡ true = q in cc)
          by (Some d) p q = led-found n z z d p ∙ ap (λ b. b || list_any (λ i. led n i z) d.interfaces) (ap (λ w. same w z) (find-name W z d p) ∙ same_itself z)

      go : (o : Option ClassFacts) → find_class W x ≡ o → ((i : Bytes) → led n i y ≡ true → led (suc n) i z ≡ true) → led (suc (suc n)) x z ≡ true
      go None p more = absurd (let q : false ≡ true = sym (led-absent (suc n) x y p) ∙ h in cc)
      go (Some d) p more = led-found (suc n) x z d p ∙ any_or (same d.name z) (by (same d.name y) refl (sym (led-found n x y d p) ∙ h))
        where
          any_or : (b : Bool) → list_any (λ i. led (suc n) i z) d.interfaces ≡ true → (b || list_any (λ i. led (suc n) i z) d.interfaces) ≡ true
          any_or true q = refl
          any_or false q = q

          by : (b : Bool) → same d.name y ≡ b → (b || list_any (λ i. led n i y) d.interfaces) ≡ true → list_any (λ i. led (suc n) i z) d.interfaces ≡ true
          by true s q =
              let is : d ≡ c = (let w : Some d ≡ Some c = sym p ∙ ap (find_class W) (sym (find-name W x d p) ∙ same_is d.name y s) ∙ e in cc) in
              any_has (λ i. led (suc n) i z) d.interfaces z (subst (λ (g : ClassFacts). Contains g.interfaces z) (sym is) k) itself
          by false s q = any_weaker (λ i. led n i y) (λ i. led (suc n) i z) more d.interfaces q

  -- the same at every depth
  whole : (x y : Bytes) → led (size W) x y ≡ names_in (with_interfaces W x) y
  unfolding led
  whole x y = (levels_suffice W (size W) (omega arith) x y).1

  whole_next : (x y : Bytes) → led (suc (size W)) x y ≡ names_in (with_interfaces W x) y
  unfolding led
  whole_next x y = (levels_suffice W (suc (size W)) (omega arith) x y).1

  pub leads-on : (x y z : Bytes) (c : ClassFacts) → names_in (with_interfaces W x) y ≡ true → find_class W y ≡ Some c → Contains c.interfaces z → is_some (find_class W z) ≡ true
      → names_in (with_interfaces W x) z ≡ true
  leads-on x y z c h e k f = sym (whole_next x z) ∙ led-on (size W) x y z c (whole x y ∙ h) e k f

  pub leads-itself : (x : Bytes) (c : ClassFacts) → find_class W x ≡ Some c → names_in (with_interfaces W x) x ≡ true
  leads-itself x c e = (above_is_one_step W x x c e).1 ∙ ap (λ b. b || list_any (λ i. names_in (with_interfaces W i) x) c.interfaces) (ap (λ w. same w x) (find-name W x c e) ∙ same_itself x)

-- ---- the graph of interfaces

-- a number that is found for a name of the list, and which it is
pub record IsNumberOf (W : World) (xs : List Bytes) (k : ℕ) : Type 0 where
  pub name : Bytes
  pub is_in : Contains xs name
  pub numbered : id_of W name ≡ Some k

module _ (W : World) where
  number_in : (xs : List Bytes) (k : ℕ) → Contains (filter_map (id_of W) xs) k → IsNumberOf W xs k
  number_in [] k c = absurd (none k c)
  number_in (x ∷ xs) k c = go (id_of W x) refl c (number_in xs k)
    where
      further : IsNumberOf W xs k → IsNumberOf W (x ∷ xs) k
      further r = record { name = r.name; is_in = there r.name x xs r.is_in; numbered = r.numbered }

      go : (o : Option ℕ) → id_of W x ≡ o → Contains (cons_option o (filter_map (id_of W) xs)) k → (Contains (filter_map (id_of W) xs) k → IsNumberOf W xs k) → IsNumberOf W (x ∷ xs) k
      go None e c more = further (more c)
      go (Some j) e c more = by (cases j (filter_map (id_of W) xs) k c)
        where
          by : (j ≡ k) ⊎ Contains (filter_map (id_of W) xs) k → IsNumberOf W (x ∷ xs) k
          by (inl is) = record { name = x; is_in = here x xs; numbered = e ∙ ap Some is }
          by (inr d) = further (more d)

  in_numbers : (xs : List Bytes) (x : Bytes) (k : ℕ) → Contains xs x → id_of W x ≡ Some k → Contains (filter_map (id_of W) xs) k
  in_numbers [] x k c e = absurd (none x c)
  in_numbers (y ∷ ys) x k c e = go (cases y ys x c) (in_numbers ys x k)
    where
      go2 : (o : Option ℕ) → Contains (filter_map (id_of W) ys) k → Contains (cons_option o (filter_map (id_of W) ys)) k
      go2 None d = d
      go2 (Some j) d = there k j (filter_map (id_of W) ys) d

      go : (y ≡ x) ⊎ Contains ys x → (Contains ys x → id_of W x ≡ Some k → Contains (filter_map (id_of W) ys) k) → Contains (cons_option (id_of W y) (filter_map (id_of W) ys)) k
      go (inl is) more = let q : id_of W y ≡ Some k = ap (id_of W) is ∙ e in subst (λ (o : Option ℕ). Contains (cons_option o (filter_map (id_of W) ys)) k) (sym q) (here k (filter_map (id_of W) ys))
      go (inr d) more = go2 (id_of W y) (more d e)

  numbers_within : (xs : List Bytes) → All (λ k. k < size W) (filter_map (id_of W) xs)
  numbers_within xs = All-weaker (Contains (filter_map (id_of W) xs)) (λ k. k < size W) (λ k c. let r = number_in xs k c in (id_of-Some W r.name k r.numbered).0) (filter_map (id_of W) xs) (All-contains_itself (filter_map (id_of W) xs))

  named_within : (o : Option ClassFacts) → All (λ k. k < size W) (named_by W o)
  named_within None = All-from_recursion (λ k. k < size W) [] tt
  named_within (Some c) = numbers_within c.interfaces

  edges_count : length (edges_of W) ≡ size W
  edges_count = length-map (names W) (λ x. named_by W (find_class W x)) ∙ names-length W

  -- what a number names is there
  next_within : (n : ℕ) → All (λ k. k < size W) (next_of (edges_of W) n)
  next_within n = go (cases_lt n (size W))
    where
      go : (n < size W) ⊎ (size W ≤ n) → All (λ k. k < size W) (next_of (edges_of W) n)
      go (inl l) = subst (λ (ks : List ℕ). All (λ k. k < size W) ks) (sym (get_or-map (λ x. named_by W (find_class W x)) (names W) n [] [] (subst (λ m. n < m) (sym (names-length W)) l))) (named_within (find_class W (name_at W n)))
      go (inr past) = subst (λ (ks : List ℕ). All (λ k. k < size W) ks) (sym (get_or_past (edges_of W) n [] (subst (λ m. m ≤ n) (sym edges_count) past))) (All-from_recursion (λ k. k < size W) [] tt)

  -- what the number n names
  pub next-is : (n : ℕ) → n < size W → next_of (edges_of W) n ≡ named_by W (find_class W (name_at W n))
  next-is n l = get_or-map (λ x. named_by W (find_class W x)) (names W) n [] [] (subst (λ m. n < m) (sym (names-length W)) l)

  pub edges-length : length (edges_of W) ≡ size W
  edges-length = length-map (names W) (λ x. named_by W (find_class W x)) ∙ names-length W

  all_mapped : {A : Type 0} (P : A → Type 0) (f : Bytes → A) (h : (x : Bytes) → P (f x)) (xs : List Bytes) → All P (map f xs)
  all_mapped P f h xs i d l = subst P (sym (get_or-map f xs i [] d (subst (λ m. i < m) (length-map xs f) l))) (h (get_or xs i []))

  pub edges-within : All (λ ids. All (λ id. id < length (edges_of W)) ids) (edges_of W)
  edges-within = all_mapped (λ (ids : List ℕ). All (λ id. id < length (edges_of W)) ids) (λ x. named_by W (find_class W x))
      (λ x. subst (λ m. All (λ id. id < m) (named_by W (find_class W x))) (sym edges-length) (named_within (find_class W x))) (names W)

  -- ---- rows

  -- what is led to from a number is exactly what its class leads to
  module _ (d : IsTrue (differ_by_name (classes W))) (n : ℕ) (l : n < size W) (ids : List ℕ) (s : IsLedTo (edges_of W) n ids) where
    passes : ℕ → Bool
    passes k = leads_by W (name_at W n) (name_at W k)

    cls : IsClass W (name_at W n)
    cls = class_at W n d l

    led_by : (y : Bytes) → leads_by W (name_at W n) y ≡ leads_to W cls.facts y
    led_by y = ap (λ o. some_and (λ c. leads_to W c y) o) cls.found

    first_is : next_of (edges_of W) n ≡ filter_map (id_of W) cls.facts.interfaces
    first_is = next-is n l ∙ ap (named_by W) cls.found

    -- what the class names, it leads to
    first_passes : All (λ k. passes k ≡ true) (next_of (edges_of W) n)
    unfolding passes
    first_passes = subst (λ (ks : List ℕ). All (λ k. passes k ≡ true) ks) (sym first_is)
        (All-weaker (Contains (filter_map (id_of W) cls.facts.interfaces)) (λ k. passes k ≡ true) one (filter_map (id_of W) cls.facts.interfaces) (All-contains_itself (filter_map (id_of W) cls.facts.interfaces)))
      where
        one : (k : ℕ) → Contains (filter_map (id_of W) cls.facts.interfaces) k → passes k ≡ true
        one k c =
            let r = number_in cls.facts.interfaces k c in
            let is : name_at W k ≡ r.name = (id_of-Some W r.name k r.numbered).1 in
            let found = is_class W r.name (sym (id-find W r.name) ∙ ap is_some r.numbered) in
            led_by (name_at W k) ∙ any_has (λ i. names_in (with_interfaces W i) (name_at W k)) cls.facts.interfaces r.name r.is_in
            (ap (names_in (with_interfaces W r.name)) is ∙ leads-itself W r.name found.facts found.found)

    -- and what those name
    more_pass : (k : ℕ) → passes k ≡ true → All (λ j. passes j ≡ true) (next_of (edges_of W) k)
    unfolding passes
    more_pass k h = go (cases_lt k (size W))
      where
        go : (k < size W) ⊎ (size W ≤ k) → All (λ j. passes j ≡ true) (next_of (edges_of W) k)
        go (inr past) = subst (λ (ks : List ℕ). All (λ j. passes j ≡ true) ks) (sym (get_or_past (edges_of W) k [] (subst (λ m. m ≤ k) (sym edges-length) past))) (All-from_recursion (λ j. passes j ≡ true) [] tt)
        go (inl inside) =
            let r = class_at W k d inside in
            subst (λ (ks : List ℕ). All (λ j. passes j ≡ true) ks) (sym (next-is k inside ∙ ap (named_by W) r.found))
            (All-weaker (Contains (filter_map (id_of W) r.facts.interfaces)) (λ j. passes j ≡ true) (one r.facts r.found) (filter_map (id_of W) r.facts.interfaces)
            (All-contains_itself (filter_map (id_of W) r.facts.interfaces)))
          where
            one : (c : ClassFacts) → find_class W (name_at W k) ≡ Some c → (j : ℕ) → Contains (filter_map (id_of W) c.interfaces) j → passes j ≡ true
            one c e j k2 =
                let m = number_in c.interfaces j k2 in
                let is : name_at W j ≡ m.name = (id_of-Some W m.name j m.numbered).1 in
                led_by (name_at W j)
                ∙ any_weaker (λ i. names_in (with_interfaces W i) (name_at W k)) (λ i. names_in (with_interfaces W i) (name_at W j))
                (λ i p. ap (names_in (with_interfaces W i)) is ∙ leads-on W i (name_at W k) m.name c p e m.is_in (sym (id-find W m.name) ∙ ap is_some m.numbered)) cls.facts.interfaces (sym (led_by (name_at W k)) ∙ h)

    -- what a class of the list names is in the list
    step_in : (x z : Bytes) (i j : ℕ) (c : ClassFacts) → id_of W x ≡ Some i → find_class W x ≡ Some c → Contains c.interfaces z → id_of W z ≡ Some j → Contains ids i → Contains ids j
    step_in x z i j c ex e k ez h =
        let at = id_of-Some W x i ex in
        let is : next_of (edges_of W) i ≡ filter_map (id_of W) c.interfaces = next-is i at.0 ∙ ap (λ y. named_by W (find_class W y)) at.1 ∙ ap (named_by W) e in
        All-contains (Contains ids) (next_of (edges_of W) i) j (s.further i h) (subst (λ (ks : List ℕ). Contains ks j) (sym is) (in_numbers c.interfaces z j k ez))

    -- what is reached from a number of the list is in the list
    reached : (m : ℕ) (x y : Bytes) (i k : ℕ) → id_of W x ≡ Some i → id_of W y ≡ Some k → Contains ids i → led W m x y ≡ true → Contains ids k
    reached zero x y i k ex ey h p = absurd (let c : false ≡ true = sym (led-none W x y) ∙ p in cc)
    reached (suc m) x y i k ex ey h p = go (is_class W x (sym (id-find W x) ∙ ap is_some ex)) (λ z j. reached m z y j k)
      where
        go : IsClass W x → ((z : Bytes) (j : ℕ) → id_of W z ≡ Some j → id_of W y ≡ Some k → Contains ids j → led W m z y ≡ true → Contains ids k) → Contains ids k
        go r more = by (same r.facts.name y) refl (sym (led-found W m x y r.facts r.found) ∙ p)
          where
            through : Any (λ z. led W m z y ≡ true) r.facts.interfaces → Contains ids k
            through a =
                let z = number_of W a.1 (led-from W m a.1 y a.4) in
                more a.1 z.0 z.1 ey (step_in x a.1 i z.0 r.facts ex r.found (a.0, a.2, a.3) z.1 h) a.4

            by : (b : Bool) → same r.facts.name y ≡ b → (b || list_any (λ z. led W m z y) r.facts.interfaces) ≡ true → Contains ids k
            by true q t = let is : Some i ≡ Some k = sym ex ∙ ap (id_of W) (sym r.name ∙ same_is r.facts.name y q) ∙ ey in subst (λ n. Contains ids n) (let e : i ≡ k = cc in e) h
            by false q t = through (Any-from_list_any (λ z. led W m z y) r.facts.interfaces t)

    held : (k : ℕ) → k < size W → passes k ≡ true → Contains ids k
    unfolding passes
    held k m h = through (Any-from_list_any (λ i. names_in (with_interfaces W i) (name_at W k)) cls.facts.interfaces (sym (led_by (name_at W k)) ∙ h))
      where
        through : Any (λ i. names_in (with_interfaces W i) (name_at W k) ≡ true) cls.facts.interfaces → Contains ids k
        through a =
            let p : led W (size W) a.1 (name_at W k) ≡ true = whole W a.1 (name_at W k) ∙ a.4 in
            let z = number_of W a.1 (led-from W (size W) a.1 (name_at W k) p) in
            reached (size W) a.1 (name_at W k) z.0 k z.1 (id_of-name_at W k d m)
            (All-contains (Contains ids) (next_of (edges_of W) n) z.0 s.first (subst (λ (ks : List ℕ). Contains ks z.0) (sym first_is) (in_numbers cls.facts.interfaces a.1 z.0 (a.0, a.2, a.3) z.1))) p

    -- and nothing that isn't there
    row_within : (k : ℕ) → Contains ids k → k < size W
    row_within k h = ltb-true k (size W) (s.least (λ j. nat_lt j (size W)) (inside (next_of (edges_of W) n) (next_within n)) (λ j p. inside (next_of (edges_of W) j) (next_within j)) k h)
      where
        inside : (ks : List ℕ) → All (λ j. j < size W) ks → All (λ j. nat_lt j (size W) ≡ true) ks
        inside ks a = All-weaker (λ j. j < size W) (λ j. nat_lt j (size W) ≡ true) (λ j q. lt-ltb j (size W) q) ks a

    row_exact : (k : ℕ) → k < size W → list_any (λ m. m == k) ids ≡ leads_by W (name_at W n) (name_at W k)
    unfolding passes
    row_exact k m =
        both_ways (list_any (λ j. j == k) ids) (passes k) (λ h. s.least passes first_passes more_pass k (there_is (Any-from_list_any (λ j. j == k) ids h)))
        (λ h. any_has (λ j. j == k) ids k (held k m h) (eq-eqb k k refl))
      where
        there_is : Any (λ j. (j == k) ≡ true) ids → Contains ids k
        there_is a = subst (λ j. Contains ids j) (eqb-true a.1 k a.4) (a.0, a.2, a.3)

    pub row-above : AreAbove W (name_at W n) ids
    row-above = record {
      within = All-weaker (Contains ids) (λ k. k < size W) row_within ids (All-contains_itself ids);
      exact = row_exact;
    }

  pub rows_exact : IsTrue (differ_by_name (classes W)) → (rows : List (List ℕ)) → AllLedTo (edges_of W) rows → AreRows W rows
  rows_exact d rows h = record {
    count = h.count ∙ edges-length;
    above = λ n l. row-above d n l (get_or rows n []) (h.led n (subst (λ j. n < j) (sym edges-length) l));
  }

-- ---- a walk up the superclasses

-- one of the first n classes of the chain of x leads to y
abbrev pub any_up : World → ℕ → Bytes → Bytes → Bool
any_up W n x y = list_any (λ c. leads_to W c y) (descend W [] [] chain_step n x)

module _ (W : World) where
  in_interfaces : (cs : List ClassFacts) (y : Bytes) → names_in (interfaces_of W cs) y ≡ list_any (λ c. leads_to W c y) cs
  unfolding interfaces_of
  in_interfaces [] y = refl
  in_interfaces (c ∷ cs) y =
      list_any-append (λ z. same z.name y) (each (with_interfaces W) c.interfaces) (interfaces_of W cs)
      ∙ ap (λ b. b || names_in (interfaces_of W cs) y) (names_in-each (with_interfaces W) c.interfaces y) ∙ ap (λ b. leads_to W c y || b) (in_interfaces cs y)

  pub superinterface-is : (x y : Bytes) → is_superinterface W x y ≡ any_up W (size W) x y
  unfolding superinterfaces chain
  superinterface-is x y = in_interfaces (chain W x) y

  module _ (d : IsTrue (differ_by_name (classes W))) (a : ℕ) (l : a < size W) (y : Bytes) where
    at : IsClass W (name_at W a)
    at = class_at W a d l

    one_up : (n : ℕ) → any_up W (suc n) (name_at W a) y ≡ (leads_by W (name_at W a) y || list_any (λ c. leads_to W c y) (of_super (descend W [] [] chain_step n) at.facts.superclass))
    unfolding chain_step
    one_up n =
        ap (list_any (λ c. leads_to W c y)) (descend-found W [] [] chain_step n (name_at W a) at.facts at.found)
        ∙ ap (λ b. b || list_any (λ c. leads_to W c y) (of_super (descend W [] [] chain_step n) at.facts.superclass)) (sym (ap (some_and (λ c. leads_to W c y)) at.found))

    pub any-none_left : any_up W 0 (name_at W a) y ≡ false
    any-none_left = ap (list_any (λ c. leads_to W c y)) (descend-none_left W [] [] chain_step (name_at W a) at.facts at.found)

    pub any-here : (m : ℕ) → 0 < m → leads_by W (name_at W a) y ≡ true → any_up W m (name_at W a) y ≡ true
    any-here zero l h = absurd (omega arith)
    any-here (suc n) l h = one_up n ∙ ap (λ b. b || list_any (λ c. leads_to W c y) (of_super (descend W [] [] chain_step n) at.facts.superclass)) h

    further : (n : ℕ) → leads_by W (name_at W a) y ≡ false → any_up W (suc n) (name_at W a) y ≡ list_any (λ c. leads_to W c y) (of_super (descend W [] [] chain_step n) at.facts.superclass)
    further n h = one_up n ∙ ap (λ b. b || list_any (λ c. leads_to W c y) (of_super (descend W [] [] chain_step n) at.facts.superclass)) h

    pub any-top : (m : ℕ) → 0 < m → leads_by W (name_at W a) y ≡ false → None ≡ superclass_of W (name_at W a) → any_up W m (name_at W a) y ≡ false
    unfolding and_then
    any-top zero l h e = absurd (omega arith)
    any-top (suc n) l h e = further n h ∙ go at.facts.superclass (e ∙ superclass_is W (name_at W a) at.facts (sym at.found))
      where
        go : (s : Option Bytes) → None ≡ and_then (id_of W) s → list_any (λ c. leads_to W c y) (of_super (descend W [] [] chain_step n) s) ≡ false
        go None q = refl
        go (Some x) q = ap (list_any (λ c. leads_to W c y)) (descend-absent W [] [] chain_step n x (find-None W x (sym q)))

    one_above : (n t : ℕ) → leads_by W (name_at W a) y ≡ false → Some t ≡ superclass_of W (name_at W a) → any_up W (suc n) (name_at W a) y ≡ any_up W n (name_at W t) y
    unfolding and_then
    one_above n t h e = further n h ∙ go at.facts.superclass (e ∙ superclass_is W (name_at W a) at.facts (sym at.found))
      where
        go : (s : Option Bytes) → Some t ≡ and_then (id_of W) s → list_any (λ c. leads_to W c y) (of_super (descend W [] [] chain_step n) s) ≡ any_up W n (name_at W t) y
        go None q = absurd (let clash : Some t ≡ None = q in cc)
        go (Some x) q = ap (λ (z : Bytes). any_up W n z y) (sym (id_of-Some W x t (sym q)).1)

    pub any-above : (m n t : ℕ) → suc n ≡ m → leads_by W (name_at W a) y ≡ false → Some t ≡ superclass_of W (name_at W a) → any_up W m (name_at W a) y ≡ any_up W n (name_at W t) y
    any-above m n t s h e = subst (λ k. any_up W k (name_at W a) y ≡ any_up W n (name_at W t) y) s (one_above n t h e)

  -- two numbers are one where their names are
  pub same_number : IsTrue (differ_by_name (classes W)) → (a b : ℕ) → a < size W → b < size W → same (name_at W a) (name_at W b) ≡ eqb a b
  same_number d a b l m = both_ways (same (name_at W a) (name_at W b)) (eqb a b) forth back
    where
      forth : same (name_at W a) (name_at W b) ≡ true → eqb a b ≡ true
      forth h = let p : Some a ≡ Some b = sym (id_of-name_at W a d l) ∙ ap (id_of W) (same_is (name_at W a) (name_at W b) h) ∙ id_of-name_at W b d m in eq-eqb a b cc

      back : eqb a b ≡ true → same (name_at W a) (name_at W b) ≡ true
      back h = ap (λ k. same (name_at W a) (name_at W k)) (sym (eqb-true a b h)) ∙ same_itself (name_at W a)
