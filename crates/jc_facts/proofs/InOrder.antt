-- Lists in order, put together from lists in order.
use Rattle.std.proofs.Common.{◌≡◌, Bool, true, false, cond, List, [], ◌∷◌, ◌++◌, refl, Option, Some, None, ◌⊎◌, inl, inr}
use Rattle.std.specs.List.{Contains, filter, filter_map, cons_option}
use Rattle.std.specs.declared.cmp.Ordering.{Ordering}
use Rattle.std.specs.declared.cmp.Ordering.TheVariants.{Less}
use Rattle.std.proofs.lemmas.List.Elements.{All-weaker, All-contains_itself, All-from_recursion, recursion_from_All, Contains-append_left, Contains-append_right}
use Rattle.jc_facts.specs.Names.{Bytes}
use Rattle.jc_facts.specs.Exactly.{Before, NamesRise}
use Rattle.jc_facts.specs.Exactly.{Rises, HasExactly}
use Rattle.jc_facts.proofs.Exact.{Gives, given, given_back}
use Rattle.jc_lemmas.proofs.Listed.{each_in, here, there, EachOf, EachOf-map, EachOf-append, each_from, filter-each}

module _ {A : Type 0} (order : A → A → Ordering) where
  pub rises_append : (xs ys : List A) → Rises order xs → Rises order ys → ((x y : A) → Contains xs x → Contains ys y → order x y ≡ Less) → Rises order (xs ++ ys)
  unfolding Rises
  rises_append [] ys r s before = s
  rises_append (x ∷ xs) ys r s before = (
    EachOf-append (λ y. order x y ≡ Less) xs ys r.0 (each_from (λ y. order x y ≡ Less) ys (λ y c. before x y (here x xs) c)),
    rises_append xs ys r.1 s (λ z y c d. before z y (there z x xs c) d),
  )

  -- those that pass a test rise as all do
  pub Rises-filter : (test : A → Bool) (xs : List A) → Rises order xs → Rises order (filter test xs)
  unfolding Rises
  Rises-filter test [] r = tt
  Rises-filter test (x ∷ xs) r = go (test x) (Rises-filter test xs r.1)
    where
      go : (b : Bool) → Rises order (filter test xs) → Rises order (cond b (x ∷ filter test xs) (filter test xs))
      go true s = (filter-each (λ y. order x y ≡ Less) test xs r.0, s)
      go false s = s

  -- nothing stands
  pub exact_none : (P : A → Type 0) → ((x : A) → P x → ⊥) → HasExactly order P []
  unfolding Rises
  exact_none P never = record { in_order = tt; sound = All-from_recursion P [] tt; complete = λ x p. absurd (never x p) }

  -- the same stands
  pub exact_same : (P Q : A → Type 0) (xs : List A) → ((x : A) → P x → Q x) → ((x : A) → Q x → P x) → HasExactly order P xs → HasExactly order Q xs
  exact_same P Q xs to from h = record { in_order = h.in_order; sound = All-weaker P Q to xs h.sound; complete = λ x q. h.complete x (from x q) }

  -- one kind of things, and then another
  pub exact_append : (P Q : A → Type 0) (xs ys : List A) → HasExactly order P xs → HasExactly order Q ys → ((x y : A) → P x → Q y → order x y ≡ Less)
      → HasExactly order (λ z. P z ⊎ Q z) (xs ++ ys)
  exact_append P Q xs ys h k before = record {
    in_order = rises_append xs ys h.in_order k.in_order (λ x y c d. before x y (each_in P xs x p c) (each_in Q ys y q d));
    sound = All-from_recursion (λ z. P z ⊎ Q z) (xs ++ ys) (EachOf-append (λ z. P z ⊎ Q z) xs ys (EachOf-map (λ x a. inl a) xs p) (EachOf-map (λ y b. inr b) ys q));
    complete = λ z w. in_either z w;
  }
    where
      p : EachOf P xs
      p = recursion_from_All P xs h.sound

      q : EachOf Q ys
      q = recursion_from_All Q ys k.sound

      in_either : (z : A) → P z ⊎ Q z → Contains (xs ++ ys) z
      in_either z (inl a) = Contains-append_left xs ys z (h.complete z a)
      in_either z (inr b) = Contains-append_right xs ys z (k.complete z b)

-- what a test gives of each of the names, which rise
module _ {F : Type 0} (order : F → F → Ordering) (h : Bytes → Option F) (later : (x y : Bytes) (f g : F) → Before x y → h x ≡ Some f → h y ≡ Some g → order f g ≡ Less) where
  after : (x : Bytes) (f : F) → h x ≡ Some f → (xs : List Bytes) → EachOf (λ y. Before x y) xs → EachOf (λ g. order f g ≡ Less) (filter_map h xs)
  after x f e [] b = tt
  after x f e (y ∷ ys) b = go (h y) refl (after x f e ys b.1)
    where
      go : (o : Option F) → h y ≡ o → EachOf (λ g. order f g ≡ Less) (filter_map h ys) → EachOf (λ g. order f g ≡ Less) (cons_option o (filter_map h ys))
      go None q r = r
      go (Some g) q r = (later x y f g b.0 e q, r)

  pub given_rise : (xs : List Bytes) → NamesRise (λ x. x) xs → Rises order (filter_map h xs)
  unfolding Rises
  given_rise [] r = tt
  given_rise (x ∷ xs) r = go (h x) refl (given_rise xs r.1)
    where
      go : (o : Option F) → h x ≡ o → Rises order (filter_map h xs) → Rises order (cons_option o (filter_map h xs))
      go None e s = s
      go (Some f) e s = (after x f e xs r.0, s)

  pub exact_given : (Stand : F → Type 0) (xs : List Bytes) → NamesRise (λ x. x) xs → ((x : Bytes) (f : F) → Contains xs x → h x ≡ Some f → Stand f) → ((f : F) → Stand f → Gives h xs f)
      → HasExactly order Stand (filter_map h xs)
  exact_given Stand xs r sound complete = record {
    in_order = given_rise xs r;
    sound = All-weaker (Contains (filter_map h xs)) Stand (λ f c. let g = given_back h xs f c in sound g.place f g.is_in g.gives) (filter_map h xs) (All-contains_itself (filter_map h xs));
    complete = λ f s. let g = complete f s in given h xs g.place f g.is_in g.gives;
  }
