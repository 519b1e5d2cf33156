-- Lists of which each item is mapped.
use Rattle.std.proofs.Common.{◌≡◌, List, [], ◌∷◌, map, refl, ap}

pub map_twice : {A B C : Type 0} (f : B → C) (g : A → B) (xs : List A) → map (λ x. f (g x)) xs ≡ map f (map g xs)
map_twice {A} {B} {C} f g [] = refl
map_twice {A} {B} {C} f g (x ∷ xs) = ap (λ (zs : List C). f (g x) ∷ zs) (map_twice f g xs)
