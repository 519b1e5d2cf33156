-- Choices of which nothing comes.
use Rattle.std.proofs.Common.{◌≡◌, Bool, true, false, cond, List, [], ◌∷◌, refl, Some, None}
use Rattle.std.specs.List.{All}
use Rattle.std.proofs.lemmas.List.Elements.{recursion_from_All}

pub where_none : {A : Type 0} (b : Bool) (x : A) → b ≡ false → cond b (Some x) None ≡ None
where_none true x e = absurd (cc)
where_none false x e = refl

-- a list of things none of which stands
pub none_listed : {A : Type 0} (P : A → Type 0) → ((x : A) → P x → ⊥) → (xs : List A) → All P xs → xs ≡ []
none_listed P never [] h = refl
none_listed P never (x ∷ xs) h = absurd (never x (recursion_from_All P (x ∷ xs) h).0)
