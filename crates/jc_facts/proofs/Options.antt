-- Options tried one after another.
use Rattle.std.proofs.Common.{◌≡◌, Bool, true, false, sym, refl, Option, Some, None, List, [], ◌∷◌, ◌⊎◌, inl, inr}
use Rattle.jc_facts.specs.Options.{or_else, first_some, some_where}
use Rattle.jc_facts.specs.Names.{Bytes}
use Rattle.jc_lemmas.proofs.Listed.{EachOf}
use Rattle.jc_facts.specs.file.Attributes.{◌|>>◌}

pub or_else-none : {A : Type 0} (o p : Option A) → or_else o p ≡ None → (o ≡ None) × (p ≡ None)
unfolding or_else
or_else-none None p h = (refl, h)
or_else-none (Some e) p h = absurd (cc)

pub or_else-both : {A : Type 0} (o p : Option A) → o ≡ None → p ≡ None → or_else o p ≡ None
unfolding or_else
or_else-both None p h k = k
or_else-both (Some x) p h k = absurd (cc)

pub first_some-none : {A : Type 0} (f : Bytes → Option A) (xs : List Bytes) → first_some f xs ≡ None → EachOf (λ s. f s ≡ None) xs
unfolding first_some
first_some-none f [] h = tt
first_some-none f (x ∷ xs) h = let q = or_else-none (f x) (first_some f xs) h in (q.0, first_some-none f xs q.1)

pub none_or_else : {A : Type 0} (o : Option A) → or_else None o ≡ o
unfolding or_else
none_or_else o = refl

pub some_or_else : {A : Type 0} (x : A) (o : Option A) → or_else (Some x) o ≡ Some x
unfolding or_else
some_or_else x o = refl

pub or_else-assoc : {A : Type 0} (o p q : Option A) → or_else (or_else o p) q ≡ or_else o (or_else p q)
unfolding or_else
or_else-assoc None p q = refl
or_else-assoc (Some x) p q = refl

pub or_else-last : {A : Type 0} (o : Option A) → or_else o None ≡ o
unfolding or_else
or_else-last None = refl
or_else-last (Some x) = refl

pub or_else-cases : {A : Type 0} (o p : Option A) (x : A) → or_else o p ≡ Some x → (o ≡ Some x) ⊎ (p ≡ Some x)
unfolding or_else
or_else-cases None p x e = inr e
or_else-cases (Some y) p x e = inl e

pub some_then : {A B : Type 0} (o : Option A) (f : A → Option B) (y : B) → (o |>> f) ≡ Some y → (x : A) × (o ≡ Some x) × (f x ≡ Some y)
some_then None f y e = absurd cc
some_then (Some x) f y e = (x, refl, e)

-- what is there under a test
pub some_where-is : {A : Type 0} (b : Bool) (x y : A) → some_where b x ≡ Some y → y ≡ x
some_where-is true x y e = let q : x ≡ y = cc in sym q
some_where-is false x y e = absurd (cc)
