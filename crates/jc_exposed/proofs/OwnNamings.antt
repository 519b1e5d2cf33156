-- The keys of members that name wanted classes, class by class.
use Rattle.std.proofs.Common.{◌≡◌, ◌<◌, ◌≤◌, ◌+◌, ◌==◌, ◌⊎◌, inl, inr, ℕ, zero, suc, arith, Bool, true, false, List, [], ◌∷◌, ◌++◌, length, get_or, refl, sym, ◌∙◌, ap, subst, Some, ◌||◌, ◌&&◌, slice_index_or}
use Rattle.std.specs.List.{list_any}
use Rattle.std.proofs.lemmas.Bool.{cases_lt, eq-eqb}
use Rattle.std.proofs.lemmas.List.{get_or_append_left, length-append}
use Rattle.std.proofs.lemmas.List.Folds.{list_any-append}
use Rattle.std.proofs.Math.Seq.{get_or-append_seam}
use Rattle.jc_desc.specs.Classes.{descriptor_names}
use Rattle.jc_facts.specs.declared.class_facts.ClassFacts.{ClassFacts}
use Rattle.jc_facts.specs.declared.class_facts.Member.{Member}
use Rattle.jc_facts.specs.declared.key.Key.{Key}
use Rattle.jc_facts.specs.Names.{Bytes, key_of}
use Rattle.jc_facts.specs.world.World.{World, find_class, size}
use Rattle.jc_facts.proofs.Mapped.{any-map}
use Rattle.jc_index.specs.Ids.{name_at}
use Rattle.jc_acts.specs.Touched.{flag_at}
use Rattle.jc_exposed.specs.Exposing.{AreNamings, AreOwnRows, every}
use Rattle.jc_exposed.specs.Named.{Lists}
use Rattle.jc_exposed.specs.Namings.{Gives}
use Rattle.jc_exposed.specs.declared.namings.Naming.{Naming}

any_and : {A : Type 0} (p : A → Bool) (b : Bool) (xs : List A) → list_any (λ x. p x && b) xs ≡ (list_any p xs && b)
any_and p b [] = refl
any_and p b (x ∷ xs) = ap (λ c. (p x && b) || c) (any_and p b xs) ∙ distribute (p x) (list_any p xs) b
  where
    distribute : (x y b : Bool) → ((x && b) || (y && b)) ≡ ((x || y) && b)
    distribute true true true = refl
    distribute true true false = refl
    distribute true false true = refl
    distribute true false false = refl
    distribute false y b = refl

-- a flag that is set is one of the list's
pub flag_inside : (flags : List Bool) (t : ℕ) → flag_at flags t ≡ true → t < length flags
flag_inside [] t e = absurd (let clash : false ≡ true = e in cc)
flag_inside (b ∷ flags) zero e = omega arith
flag_inside (b ∷ flags) (suc t) e = let l = flag_inside flags t e in omega (arith, l)

-- flags of which the one of this number is set
pub flag_next : (flags now : List Bool) (n id : ℕ) (b : Bool) → b ≡ (n == id) → now ≡ flags ++ b ∷ [] → (length flags ≡ n) × (id < n → flag_at flags id ≡ true) → (length now ≡ n + 1) × (id < n + 1 → flag_at now id ≡ true)
flag_next flags now n id b q e f = subst (λ bs. (length bs ≡ n + 1) × (id < n + 1 → flag_at bs id ≡ true)) (sym e) (length-append flags (b ∷ []) ∙ ap (λ m. m + 1) f.0, λ m. step m (cases_lt id n))
  where
    step : id < n + 1 → (id < n) ⊎ (n ≤ id) → flag_at (flags ++ b ∷ []) id ≡ true
    step m (inl l) = get_or_append_left flags (b ∷ []) false id (subst (λ k. id < k) (sym f.0) l) ∙ f.1 l
    step m (inr l) =
        let k : id ≡ n = omega (arith, l, m) in
        ap (λ j. get_or (flags ++ b ∷ []) j false) (k ∙ sym f.0) ∙ get_or-append_seam flags b [] false ∙ q ∙ eq-eqb n id (sym k)

module _ (W : World) (flags : List Bool) where
  pub own_member : (d : Bytes) (k : Key) (ids : List ℕ) (ns : List Naming) → length flags ≡ size W → Lists W (flag_at flags) (descriptor_names d) ids → Gives every (λ g t. list_any (λ id. (id == t) && g k) ids) ns
      → Gives (flag_at flags) (λ g t. descriptor_names d (name_at W t) && g k) ns
  own_member d k ids ns l named gives = record {
    exact = λ g t o. gives.exact g t refl ∙ any_and (λ id. id == t) (g k) ids ∙ ap (λ b. b && g k) (named.exact t (subst (λ n. t < n) l (flag_inside flags t o)) o);
  }

module _ (W : World) (on : ℕ → Bool) where
  abbrev pub names_one : List Member → (Key → Bool) → ℕ → Bool
  names_one ms g t = list_any (λ m. descriptor_names m.descriptor (name_at W t) && g (key_of m)) ms

  pub own_class : (d : ClassFacts) (xs ys zs : List Naming) → zs ≡ xs ++ ys → Gives on (names_one d.fields) xs → Gives on (names_one d.methods) ys → AreNamings W on d zs
  own_class d xs ys zs e f h = record {
    exact = λ g t o.
        ap (list_any (λ n. (n.exposed == t) && g n.key)) e ∙ list_any-append (λ n. (n.exposed == t) && g n.key) xs ys
        ∙ ap (λ b. b || list_any (λ n. (n.exposed == t) && g n.key) ys) (f.exact g t o) ∙ ap (λ b. names_one d.fields g t || b) (h.exact g t o)
        ∙ sym (any-map (λ k. descriptor_names k.descriptor (name_at W t) && g k) key_of (d.fields ++ d.methods) ∙ list_any-append (λ m. descriptor_names m.descriptor (name_at W t) && g (key_of m)) d.fields d.methods);
  }

  pub rows_start : (rows : List (List Naming)) → rows ≡ [] → AreOwnRows W on 0 rows
  rows_start rows e = record { count = ap length e; each = λ k l. absurd (omega (arith, l)) }

  pub rows_next : (n id : ℕ) (rows now : List (List Naming)) (row : List Naming) → id ≡ n → now ≡ rows ++ row ∷ [] → ((d : ClassFacts) → Some d ≡ find_class W (name_at W id) → AreNamings W on d row) → AreOwnRows W on n rows → AreOwnRows W on (n + 1) now
  rows_next n id rows now row i e f r = subst (AreOwnRows W on (n + 1)) (sym e) (record {
    count = length-append rows (row ∷ []) ∙ ap (λ m. m + 1) r.count;
    each = λ k l. step k l (cases_lt k n);
  })
    where
      step : (k : ℕ) → k < n + 1 → (k < n) ⊎ (n ≤ k) → (d : ClassFacts) → Some d ≡ find_class W (name_at W k) → AreNamings W on d (slice_index_or (rows ++ row ∷ []) k [])
      step k m (inl l) d g = subst (AreNamings W on d) (sym (get_or_append_left rows (row ∷ []) [] k (subst (λ m. k < m) (sym r.count) l))) (r.each k l d g)
      step k m (inr l) d g =
          let q : k ≡ n = omega (arith, l, m) in
          subst (AreNamings W on d) (sym (ap (λ j. get_or (rows ++ row ∷ []) j []) (q ∙ sym r.count) ∙ get_or-append_seam rows row [] [])) (f d (g ∙ ap (λ j. find_class W (name_at W j)) (q ∙ sym i)))
