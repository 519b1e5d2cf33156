-- What the classes above a client may name as an interface, and what stands in chains above.
use Rattle.std.proofs.Common.{◌≡◌, Bool, true, false, List, [], ◌∷◌, ◌++◌, refl, sym, ◌∙◌, ap, subst, Option, Some, None, ◌||◌, ◌&&◌, ◌⊎◌, inl, inr}
use Rattle.std.proofs.lemmas.Bool.{and_from, or_cases, or_left, or_right}
use Rattle.std.specs.List.{list_any}
use Rattle.std.proofs.lemmas.List.{append-nil}
use Rattle.jc_facts.specs.declared.class_facts.ClassFacts.{ClassFacts}
use Rattle.jc_facts.specs.Names.{Bytes, same, object_name, is_name_among}
use Rattle.jc_facts.specs.world.World.{World, find_class, is_client}
use Rattle.jc_facts.specs.world.Search.{supers, supers_of}
use Rattle.jc_facts.specs.world.Hierarchy.{chain, of_super, each, with_interfaces, interfaces_of, superinterfaces, in_chain}
use Rattle.jc_facts.specs.world.Loading.{load_fault}
use Rattle.jc_promises.specs.client.Meets.{may_name}
use Rattle.jc_lemmas.proofs.Listed.{EachOf}
use Rattle.jc_facts.proofs.World.{find-name}
use Rattle.jc_facts.proofs.Same.{same_is}
use Rattle.jc_worlds.proofs.Loaded.{loads-induction}
use Rattle.jc_worlds.proofs.Unrolled.{above, in_chain-step, own_chain, with_interfaces-unroll, superinterfaces-unroll, chain-unroll}
use Rattle.jc_worlds.proofs.Bare.{bare_chain}
use Rattle.jc_lemmas.proofs.Lists.{any_left, any_cases, any_right}

module _ (W : World) (i : Bytes) where
  unfoldable pub test : ClassFacts → Bool
  test c = is_client W c.name && is_name_among c.interfaces i

  -- from the superclass
  pub may_name-super : (y s : Bytes) (c : ClassFacts) → find_class W y ≡ Some c → load_fault W y ≡ None → c.superclass ≡ Some s → may_name W s i ≡ true → may_name W y i ≡ true
  unfolding test superinterfaces
  may_name-super y s c e h q m = go (any_cases test (chain W s) (superinterfaces W s) m)
    where
      ch : chain W y ≡ c ∷ chain W s
      ch = chain-unroll W y c e h ∙ ap (λ o. c ∷ of_super (chain W) o) q

      si : superinterfaces W y ≡ each (with_interfaces W) c.interfaces ++ superinterfaces W s
      si = superinterfaces-unroll W y c e h ∙ ap (λ o. each (with_interfaces W) c.interfaces ++ interfaces_of W (of_super (chain W) o)) q

      go : (list_any test (chain W s) ≡ true) ⊎ (list_any test (superinterfaces W s) ≡ true) → list_any test (chain W y ++ superinterfaces W y) ≡ true
      go (inl p) = any_left test (chain W y) (superinterfaces W y) (ap (list_any test) ch ∙ or_right (test c) (list_any test (chain W s)) p)
      go (inr p) = any_right test (chain W y) (superinterfaces W y) (ap (list_any test) si ∙ any_right test (each (with_interfaces W) c.interfaces) (superinterfaces W s) p)

  -- from an interface, whose superclass names nothing and is no client
  pub may_name-interface : (root : ClassFacts) → find_class W object_name ≡ Some root → root.superclass ≡ None → root.interfaces ≡ [] → is_client W object_name ≡ false
      → (y s : Bytes) (c e : ClassFacts) → find_class W y ≡ Some c → load_fault W y ≡ None → find_class W s ≡ Some e → load_fault W s ≡ None → e.superclass ≡ Some object_name
      → (list_any test (with_interfaces W s) ≡ true → list_any test (each (with_interfaces W) c.interfaces) ≡ true) → may_name W s i ≡ true → may_name W y i ≡ true
  unfolding test superinterfaces interfaces_of each
  may_name-interface root fr rs ri rc y s c e f h fs hs q among m = any_right test (chain W y) (superinterfaces W y) (ap (list_any test) (superinterfaces-unroll W y c f h) ∙ any_left test (each (with_interfaces W) c.interfaces) (interfaces_of W (of_super (chain W) c.superclass)) (among (ap (list_any test) (with_interfaces-unroll W s e fs hs) ∙ go (any_cases test (chain W s) (superinterfaces W s) m))))
    where
      rch : chain W object_name ≡ root ∷ []
      rch = bare_chain W object_name root fr rs ri

      ch : chain W s ≡ e ∷ root ∷ []
      ch = chain-unroll W s e fs hs ∙ ap (λ o. e ∷ of_super (chain W) o) q ∙ ap (λ cs. e ∷ cs) rch

      empty : interfaces_of W (root ∷ []) ≡ []
      empty = rw ri refl

      si : superinterfaces W s ≡ each (with_interfaces W) e.interfaces
      si = superinterfaces-unroll W s e fs hs ∙ ap (λ o. each (with_interfaces W) e.interfaces ++ interfaces_of W (of_super (chain W) o)) q ∙ ap (λ cs. each (with_interfaces W) e.interfaces ++ interfaces_of W cs) rch ∙ ap (λ cs. each (with_interfaces W) e.interfaces ++ cs) empty ∙ append-nil (each (with_interfaces W) e.interfaces)

      no_root : test root ≡ false
      no_root = ap (λ n. is_client W n && is_name_among root.interfaces i) (find-name W object_name root fr) ∙ ap (λ b. b && is_name_among root.interfaces i) rc

      two : (a b : Bool) → b ≡ false → (a || (b || false)) ≡ true → a ≡ true
      two true b e h = refl
      two false true e h = absurd (cc)
      two false false e h = h

      go : (list_any test (chain W s) ≡ true) ⊎ (list_any test (superinterfaces W s) ≡ true) → (test e || list_any test (each (with_interfaces W) e.interfaces)) ≡ true
      go (inl p) = or_left (test e) (list_any test (each (with_interfaces W) e.interfaces)) (two (test e) (test root) no_root (ap (list_any test) (sym ch) ∙ p))
      go (inr p) = or_right (test e) (list_any test (each (with_interfaces W) e.interfaces)) (ap (list_any test) (sym si) ∙ p)

  -- a client names what it names
  pub may_name-own : (y : Bytes) (c : ClassFacts) → find_class W y ≡ Some c → load_fault W y ≡ None → is_client W y ≡ true → is_name_among c.interfaces i ≡ true → may_name W y i ≡ true
  unfolding test
  may_name-own y c e h k a =
      any_left test (chain W y) (superinterfaces W y) (ap (list_any test) (chain-unroll W y c e h) ∙ or_left (test c) (list_any test (of_super (chain W) c.superclass)) (and_from (is_client W c.name) (is_name_among c.interfaces i) (ap (is_client W) (find-name W y c e) ∙ k) a))

-- the superclass of a class in the chain is in it
pub chain_up : (W : World) (y s : Bytes) (c : ClassFacts) → find_class W y ≡ Some c → load_fault W y ≡ None → c.superclass ≡ Some s → load_fault W s ≡ None
    → (t : Bytes) → load_fault W t ≡ None → in_chain W t y ≡ true → in_chain W t s ≡ true
chain_up W y s c e h q hs = loads-induction W (λ t. in_chain W t y ≡ true → in_chain W t s ≡ true) (λ t d f l r i. by t d f l r (or_cases (same d.name y) (above (λ z. in_chain W z y) d.superclass) (sym (in_chain-step W t y d l f) ∙ i)))
  where
    up : (o : Option Bytes) (is : List Bytes) → EachOf (λ t. in_chain W t y ≡ true → in_chain W t s ≡ true) (supers_of o is) → above (λ z. in_chain W z y) o ≡ true → above (λ z. in_chain W z s) o ≡ true
    up None is r p = absurd (cc)
    up (Some z) is r p = r.0 p

    at : in_chain W y s ≡ true
    at = in_chain-step W y s c h e ∙ or_right (same c.name s) (above (λ z. in_chain W z s) c.superclass) (ap (above (λ z. in_chain W z s)) q ∙ own_chain W s hs)

    by : (t : Bytes) (d : ClassFacts) → find_class W t ≡ Some d → load_fault W t ≡ None → EachOf (λ t. in_chain W t y ≡ true → in_chain W t s ≡ true) (supers d) → (same d.name y ≡ true) ⊎ (above (λ z. in_chain W z y) d.superclass ≡ true) → in_chain W t s ≡ true
    by t d f l r (inl p) = subst (λ z. in_chain W z s ≡ true) (sym (same_is d.name y p) ∙ find-name W t d f) at
    by t d f l r (inr p) = in_chain-step W t s d l f ∙ or_right (same d.name s) (above (λ z. in_chain W z s) d.superclass) (up d.superclass d.interfaces r p)
