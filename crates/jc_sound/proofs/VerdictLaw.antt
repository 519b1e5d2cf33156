-- There is at most one verdict.
use Rattle.std.proofs.Common.{◌≡◌, ◌≤◌, suc, List, [], ◌∷◌, length, refl, sym, ◌∙◌, ap, subst, ◌⊎◌, inl, inr, arith}
use Rattle.std.specs.List.{Contains}
use Rattle.std.specs.declared.cmp.Ordering.{Ordering}
use Rattle.std.specs.declared.cmp.Ordering.TheVariants.{Less, Equal}
use Rattle.std.specs.Cmp.{IsTotalOrder, then_total, on_total}
use Rattle.std.specs.Cmp.Lexicographic.{nat_list_cmp_total, options_total}
use Rattle.std.proofs.lemmas.Cmp.{nat_cmp_total, tied_itself}
use Rattle.std.proofs.lemmas.List.Elements.{All-contains, All-from_recursion, Contains-append_cases, Contains-append_left, Contains-append_right, Contains-push, Contains-push_cases}
use Rattle.jc_facts.specs.declared.finding.Finding.{Finding}
use Rattle.jc_facts.specs.declared.verdict.Collision.{Collision}
use Rattle.jc_facts.specs.declared.verdict.Note.{Note}
use Rattle.jc_facts.specs.declared.verdict.Verdict.{Verdict}
use Rattle.jc_facts.specs.KeyOrder.{key_total}
use Rattle.jc_facts.specs.Orders.{finding_order, collision_order, note_order, group_of, noted_class, noted_key}
use Rattle.jc_facts.specs.Exactly.{Rises, HasExactly}
use Rattle.jc_sound.specs.Findings.{VerdictIsOne}
use Rattle.jc_lemmas.proofs.Listed.{EachOf}

-- ---- the orders are total

pub finding_total : IsTotalOrder finding_order
finding_total = then_total (on_total (λ (f : Finding). f.rule) nat_cmp_total) (then_total (on_total (λ (f : Finding). f.«class») nat_list_cmp_total)
    (then_total (on_total (λ (f : Finding). f.key) (options_total key_total)) (on_total (λ (f : Finding). f.target) (options_total nat_list_cmp_total))))

pub collision_total : IsTotalOrder collision_order
collision_total = then_total (on_total (λ (c : Collision). c.rule) nat_cmp_total) (then_total (on_total (λ (c : Collision). c.«class») nat_list_cmp_total) (on_total (λ (c : Collision). c.key) key_total))

pub note_total : IsTotalOrder note_order
note_total = then_total (on_total group_of nat_cmp_total) (then_total (on_total noted_class nat_list_cmp_total) (on_total noted_key (options_total key_total)))

-- ---- lists in order with the same items are equal

module _ {A : Type 0} (order : A → A → Ordering) (total : IsTotalOrder order) where
  never_both : (x y : A) → order x y ≡ Less → order y x ≡ Less → ⊥
  never_both x y p q =
      let t : order x x ≡ Less = total.trans x y x p q in
      let e : order x x ≡ Equal = tied_itself total x in
      let z : Less ≡ Equal = sym t ∙ e in cc

  never_itself : (x : A) → order x x ≡ Less → ⊥
  never_itself x p = never_both x x p p

  none_in : (x : A) → Contains [] x → ⊥
  none_in x c = let h = c.1 in absurd (omega arith)

  first_in : (x : A) (xs : List A) → Contains (x ∷ xs) x
  first_in x xs = Contains-append_left (x ∷ []) xs x (Contains-push [] x)

  cases : (x : A) (xs : List A) (z : A) → Contains (x ∷ xs) z → (x ≡ z) ⊎ Contains xs z
  cases x xs z c = go (Contains-append_cases (x ∷ []) xs z c)
    where
      one : Contains (x ∷ []) z → x ≡ z
      one d = by (Contains-push_cases [] x z d)
        where
          by : Contains [] z ⊎ (x ≡ z) → x ≡ z
          by (inl p) = absurd (none_in z p)
          by (inr p) = p

      go : Contains (x ∷ []) z ⊎ Contains xs z → (x ≡ z) ⊎ Contains xs z
      go (inl p) = inl (one p)
      go (inr p) = inr p

  after : (x : A) (xs : List A) (z : A) → EachOf (λ y. order x y ≡ Less) xs → Contains xs z → order x z ≡ Less
  after x xs z h c = All-contains (λ y. order x y ≡ Less) xs z (All-from_recursion (λ y. order x y ≡ Less) xs h) c

  -- the same items, both in order
  pub same_lists : (xs ys : List A) → Rises order xs → Rises order ys → ((z : A) → Contains xs z → Contains ys z) → ((z : A) → Contains ys z → Contains xs z) → xs ≡ ys
  unfolding Rises
  same_lists [] [] r s f g = refl
  same_lists [] (y ∷ ys) r s f g = absurd (none_in y (g y (first_in y ys)))
  same_lists (x ∷ xs) [] r s f g = absurd (none_in x (f x (first_in x xs)))
  same_lists (x ∷ xs) (y ∷ ys) r s f g = join heads (same_lists xs ys r.1 s.1 down up)
    where
      heads : x ≡ y
      heads = go (cases y ys x (f x (first_in x xs))) (cases x xs y (g y (first_in y ys)))
        where
          go : (y ≡ x) ⊎ Contains ys x → (x ≡ y) ⊎ Contains xs y → x ≡ y
          go (inl p) q = sym p
          go (inr p) (inl q) = q
          go (inr p) (inr q) = absurd (never_both x y (after x xs y r.0 q) (after y ys x s.0 p))

      down : (z : A) → Contains xs z → Contains ys z
      down z c = go (cases y ys z (f z (Contains-append_right (x ∷ []) xs z c)))
        where
          go : (y ≡ z) ⊎ Contains ys z → Contains ys z
          go (inl p) = absurd (never_itself x (subst (λ w. order x w ≡ Less) (sym (heads ∙ p)) (after x xs z r.0 c)))
          go (inr p) = p

      up : (z : A) → Contains ys z → Contains xs z
      up z c = go (cases x xs z (g z (Contains-append_right (y ∷ []) ys z c)))
        where
          go : (x ≡ z) ⊎ Contains xs z → Contains xs z
          go (inl p) = absurd (never_itself y (subst (λ w. order y w ≡ Less) (sym (sym heads ∙ p)) (after y ys z s.0 c)))
          go (inr p) = p

      join : x ≡ y → xs ≡ ys → x ∷ xs ≡ y ∷ ys
      join p q = cc

  -- a list whose items another has too isn't the longer one
  pub no_longer : (xs ys : List A) → Rises order xs → Rises order ys → ((z : A) → Contains xs z → Contains ys z) → length xs ≤ length ys
  unfolding Rises
  no_longer [] ys r s f = omega arith
  no_longer (x ∷ xs) [] r s f = absurd (none_in x (f x (first_in x xs)))
  no_longer (x ∷ xs) (y ∷ ys) r s f = go (cases y ys x (f x (first_in x xs))) (λ has. no_longer xs ys r.1 s.1 has) (λ has. no_longer (x ∷ xs) ys r s.1 has)
    where
      beside_it : y ≡ x → (z : A) → Contains xs z → Contains ys z
      beside_it is z c = by (cases y ys z (f z (Contains-append_right (x ∷ []) xs z c)))
        where
          by : (y ≡ z) ⊎ Contains ys z → Contains ys z
          by (inl p) = absurd (never_itself x (subst (λ w. order x w ≡ Less) (sym (sym is ∙ p)) (after x xs z r.0 c)))
          by (inr p) = p

      later : Contains ys x → (z : A) → Contains (x ∷ xs) z → Contains ys z
      later d z c = by (cases y ys z (f z c)) (cases x xs z c)
        where
          by : (y ≡ z) ⊎ Contains ys z → (x ≡ z) ⊎ Contains xs z → Contains ys z
          by (inr p) q = p
          by (inl p) (inl q) = absurd (never_itself y (subst (λ w. order y w ≡ Less) (q ∙ sym p) (after y ys x s.0 d)))
          by (inl p) (inr q) = absurd (never_both y x (after y ys x s.0 d) (subst (λ w. order x w ≡ Less) (sym p) (after x xs z r.0 q)))

      go : (y ≡ x) ⊎ Contains ys x → (((z : A) → Contains xs z → Contains ys z) → length xs ≤ length ys) → (((z : A) → Contains (x ∷ xs) z → Contains ys z) → suc (length xs) ≤ length ys) → suc (length xs) ≤ suc (length ys)
      go (inl is) rest all = let l = rest (beside_it is) in omega arith
      go (inr d) rest all = let l = all (later d) in omega arith

  pub exactly_one : (S : A → Type 0) (xs ys : List A) → HasExactly order S xs → HasExactly order S ys → xs ≡ ys
  exactly_one S xs ys a b = same_lists xs ys a.in_order b.in_order (λ z c. b.complete z (All-contains S xs z a.sound c)) (λ z c. a.complete z (All-contains S ys z b.sound c))

verdict_of : List Finding → List Collision → List Note → Verdict
verdict_of f c n = record { findings = f; collisions = c; notes = n }

pub verdict_is_one : VerdictIsOne
unfolding verdict_of
verdict_is_one O N v w a b =
    let f = exactly_one finding_order finding_total _ v.findings w.findings a.findings b.findings in
    let c = exactly_one collision_order collision_total _ v.collisions w.collisions a.collisions b.collisions in
    let n = exactly_one note_order note_total _ v.notes w.notes a.notes b.notes in
    ap (λ (x : List Finding). verdict_of x v.collisions v.notes) f ∙ (ap (λ (x : List Collision). verdict_of w.findings x v.notes) c ∙ ap (λ (x : List Note). verdict_of w.findings w.collisions x) n)
