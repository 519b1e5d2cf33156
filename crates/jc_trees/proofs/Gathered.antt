-- A list in order of what is among candidates.
--     gathered order total tied cs      what is in cs, in order and once
--     name_tied      names that tie are equal
use Rattle.std.proofs.Common.{◌≡◌, List, [], ◌∷◌, refl, sym, ◌∙◌, ap, subst, ◌⊎◌, inl, inr}
use Rattle.std.specs.List.{Contains}
use Rattle.std.specs.declared.cmp.Ordering.{Ordering}
use Rattle.std.specs.declared.cmp.Ordering.TheVariants.{Less, Equal, Greater}
use Rattle.std.specs.Ordering.{ordering_reverse, is_eq}
use Rattle.std.specs.Cmp.{IsTotalOrder}
use Rattle.std.proofs.lemmas.Map.Text.{is_eq-slice_cmp}
use Rattle.jc_facts.specs.Exactly.{Rises, name_order}
use Rattle.jc_facts.specs.Names.{Bytes}
use Rattle.jc_facts.proofs.Same.{same_is}
use Rattle.jc_lemmas.proofs.Listed.{EachOf, EachOf-map, here, there, none, cases, each_in, each_from}

pub name_tied : (x y : Bytes) → name_order x y ≡ Equal → x ≡ y
name_tied x y e = same_is x y (sym (is_eq-slice_cmp x y) ∙ ap is_eq e)

-- what is in the list, in order and once
pub record Gathered {S : Type 0} (order : S → S → Ordering) (cs : List S) : Type 0 where
  pub items : List S
  pub in_order : Rises order items
  pub whole : (s : S) → Contains cs s → Contains items s
  pub only : (s : S) → Contains items s → Contains cs s

module _ {S : Type 0} (order : S → S → Ordering) (total : IsTotalOrder order) (tied : (x y : S) → order x y ≡ Equal → x ≡ y) where
  abbrev put_by : Ordering → S → S → List S → List S → List S
  put_by Less x y ys rest = x ∷ y ∷ ys
  put_by Equal x y ys rest = y ∷ ys
  put_by Greater x y ys rest = y ∷ rest

  -- x at its place, where it isn't there
  abbrev put : S → List S → List S
  put x [] = x ∷ []
  put x (y ∷ ys) = put_by (order x y) x y ys (put x ys)

  turned : (x y : S) → order x y ≡ Greater → order y x ≡ Less
  turned x y e = total.antisymm y x ∙ ap ordering_reverse e

  put_each : (P : S → Type 0) (x : S) (ys : List S) → P x → EachOf P ys → EachOf P (put x ys)
  put_each P x [] p h = (p, tt)
  put_each P x (y ∷ ys) p h = go (order x y) (put_each P x ys p h.1)
    where
      go : (o : Ordering) → EachOf P (put x ys) → EachOf P (put_by o x y ys (put x ys))
      go Less r = (p, h)
      go Equal r = h
      go Greater r = (h.0, r)

  put_rises : (x : S) (ys : List S) → Rises order ys → Rises order (put x ys)
  unfolding Rises
  put_rises x [] r = (tt, tt)
  put_rises x (y ∷ ys) r = go (order x y) refl (put_rises x ys r.1)
    where
      go : (o : Ordering) → order x y ≡ o → Rises order (put x ys) → Rises order (put_by o x y ys (put x ys))
      go Less e s = ((e, EachOf-map (λ z l. total.trans x y z e l) ys r.0), r)
      go Equal e s = r
      go Greater e s = (put_each (λ z. order y z ≡ Less) x ys (turned x y e) r.0, s)

  put_first : (x : S) (ys : List S) → Contains (put x ys) x
  put_first x [] = here x []
  put_first x (y ∷ ys) = go (order x y) refl (put_first x ys)
    where
      go : (o : Ordering) → order x y ≡ o → Contains (put x ys) x → Contains (put_by o x y ys (put x ys)) x
      go Less e c = here x (y ∷ ys)
      go Equal e c = subst (Contains (y ∷ ys)) (sym (tied x y e)) (here y ys)
      go Greater e c = there x y (put x ys) c

  put_keeps : (x : S) (ys : List S) (z : S) → Contains ys z → Contains (put x ys) z
  put_keeps x [] z c = absurd (none z c)
  put_keeps x (y ∷ ys) z c = go (order x y) (cases y ys z c) (put_keeps x ys z)
    where
      go : (o : Ordering) → (y ≡ z) ⊎ Contains ys z → (Contains ys z → Contains (put x ys) z) → Contains (put_by o x y ys (put x ys)) z
      go Less k r = there z x (y ∷ ys) c
      go Equal k r = c
      go Greater (inl is) r = subst (Contains (y ∷ put x ys)) is (here y (put x ys))
      go Greater (inr d) r = there z y (put x ys) (r d)

  put_only : (x : S) (ys : List S) (z : S) → Contains (put x ys) z → (x ≡ z) ⊎ Contains ys z
  put_only x ys z c = each_in (λ w. (x ≡ w) ⊎ Contains ys w) (put x ys) z (put_each (λ w. (x ≡ w) ⊎ Contains ys w) x ys (inl refl) (each_from (λ w. (x ≡ w) ⊎ Contains ys w) ys (λ w d. inr d))) c

  more : (c : S) (cs : List S) → Gathered order cs → Gathered order (c ∷ cs)
  more c cs g = record {
    items = put c g.items;
    in_order = put_rises c g.items g.in_order;
    whole = λ s m. into s (cases c cs s m);
    only = λ s m. out s (put_only c g.items s m);
  }
    where
      into : (s : S) → (c ≡ s) ⊎ Contains cs s → Contains (put c g.items) s
      into s (inl is) = subst (Contains (put c g.items)) is (put_first c g.items)
      into s (inr m) = put_keeps c g.items s (g.whole s m)

      out : (s : S) → (c ≡ s) ⊎ Contains g.items s → Contains (c ∷ cs) s
      out s (inl is) = subst (Contains (c ∷ cs)) is (here c cs)
      out s (inr m) = there s c cs (g.only s m)

  pub gathered : (cs : List S) → Gathered order cs
  unfolding Rises
  gathered [] = record { items = []; in_order = tt; whole = λ s m. absurd (none s m); only = λ s m. absurd (none s m) }
  gathered (c ∷ cs) = more c cs (gathered cs)
