-- What a test gives of each place of a list, in order, is exactly what stands there.
use Rattle.std.proofs.Common.{◌≡◌, List, [], ◌∷◌, refl, Option, Some, None, ◌⊎◌, inl, inr}
use Rattle.std.specs.List.{filter_map, cons_option, Contains}
use Rattle.jc_lemmas.proofs.Listed.{here, there, cases, none}

-- a place of the list gives the thing
pub record Gives {X F : Type 0} (h : X → Option F) (xs : List X) (f : F) : Type 0 where
  pub place : X
  pub is_in : Contains xs place
  pub gives : h place ≡ Some f

module _ {X F : Type 0} (h : X → Option F) where
  -- a place of the list gives what it gives
  pub given : (xs : List X) (x : X) (f : F) → Contains xs x → h x ≡ Some f → Contains (filter_map h xs) f
  given [] x f k e = absurd (none x k)
  given (y ∷ xs) x f k e = go (cases y xs x k) (given xs x f)
    where
      rest : List F
      rest = filter_map h xs

      go2 : (o : Option F) → Contains rest f → Contains (cons_option o rest) f
      go2 None c = c
      go2 (Some g) c = there f g rest c

      go : (y ≡ x) ⊎ Contains xs x → (Contains xs x → h x ≡ Some f → Contains rest f) → Contains (cons_option (h y) rest) f
      go (inl p) r = let q : h y ≡ Some f = rw p e in rw q (here f rest)
      go (inr c) r = go2 (h y) (r c e)

  -- and there is nothing else
  pub given_back : (xs : List X) (f : F) → Contains (filter_map h xs) f → Gives h xs f
  given_back [] f k = absurd (none f k)
  given_back (y ∷ xs) f k = go (h y) refl k (given_back xs f)
    where
      rest : List F
      rest = filter_map h xs

      further : Gives h xs f → Gives h (y ∷ xs) f
      further g = record { place = g.place; is_in = there g.place y xs g.is_in; gives = g.gives }

      go2 : (g : F) → h y ≡ Some g → (g ≡ f) ⊎ Contains rest f → (Contains rest f → Gives h xs f) → Gives h (y ∷ xs) f
      go2 g e (inl p) r = record { place = y; is_in = here y xs; gives = rw (← p) e }
      go2 g e (inr c) r = further (r c)

      go : (o : Option F) → h y ≡ o → Contains (cons_option o rest) f → (Contains rest f → Gives h xs f) → Gives h (y ∷ xs) f
      go None e c r = further (r c)
      go (Some g) e c r = go2 g e (cases g rest f c) r
