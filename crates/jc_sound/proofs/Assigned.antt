-- Where no finding stands, values of the classes that take part can be assigned as before: of kept ones, and of hidden ones that are exposed to seats.
use Rattle.std.proofs.Common.{lit≤, ◌≡◌, Bool, true, false, cond, List, [], ◌∷◌, refl, Option, Some, None, is_some, not, ◌&&◌, ◌⊎◌, inl, inr}
use Rattle.std.specs.List.{list_all}
use Rattle.std.proofs.lemmas.Bool.{both_ways, and_from}
use Rattle.jc_facts.specs.declared.class_facts.ClassFacts.{ClassFacts}
use Rattle.jc_facts.specs.declared.finding.Finding.{Finding}
use Rattle.jc_facts.specs.declared.act.Act.TheVariants.{Assignment}
use Rattle.jc_facts.specs.declared.link_error.LinkError.TheVariants.{VerifyError}
use Rattle.jc_facts.specs.Names.{Bytes, same}
use Rattle.jc_facts.specs.Options.{or_else, and_then}
use Rattle.jc_facts.specs.world.World.{World, find_class, class_named, with_clients}
use Rattle.jc_facts.specs.world.Search.{supers}
use Rattle.jc_facts.specs.world.Hierarchy.{in_chain}
use Rattle.jc_facts.specs.world.Assignment.{is_interface_of}
use Rattle.jc_promises.specs.rule.Findings.{Subject, finding_at, interface_became_class, superclass_lost, assign_finding, handed_finding, takes_part, report}
use Rattle.jc_promises.specs.rule.Bases.{is_kept}
use Rattle.jc_promises.specs.rule.OpenActs.{first_seat}
use Rattle.jc_promises.specs.rule.Exposed.{is_exposed}
use Rattle.jc_promises.specs.rule.Apart.{are_apart, other_seat}
use Rattle.jc_facts.proofs.Options.{or_else-none}
use Rattle.jc_lemmas.proofs.Listed.{EachOf}
use Rattle.jc_worlds.proofs.Chains.{in_chain-agree}
use Rattle.jc_worlds.proofs.Sides.{sides, size-grows}
use Rattle.jc_sound.proofs.Standing.{Quiet, at_class}
use Rattle.jc_sound.proofs.OpenActs.{IsSeat, first_seat-none}

-- no seat of clients sees all of these take part, where the finding isn't there
pub assign_finding-none : (O N : World) (s : Subject) (xs : List Bytes) → assign_finding O N s xs ≡ None → (a : Bytes) → IsSeat O N a → list_all (takes_part O N a) xs ≡ false
unfolding assign_finding and_then
assign_finding-none O N s xs h a i = go (list_all (is_kept O N) xs) h
  where
    of_seat : Option Bytes → Option Finding
    of_seat o = and_then (λ a. report s Assignment (Some a) VerifyError) o

    seat : (o : Option Bytes) → first_seat O N (λ a. list_all (takes_part O N a) xs) ≡ o → of_seat o ≡ None → list_all (takes_part O N a) xs ≡ false
    seat None e q = first_seat-none O N (λ a. list_all (takes_part O N a) xs) e a i
    seat (Some b) e q = absurd (cc)

    go : (b : Bool) → cond b (report s Assignment None VerifyError) (of_seat (first_seat O N (λ a. list_all (takes_part O N a) xs))) ≡ None → list_all (takes_part O N a) xs ≡ false
    go true q = absurd (cc)
    go false q = seat (first_seat O N (λ a. list_all (takes_part O N a) xs)) refl q

-- no class is exposed to one seat, and t to another that is apart from it, where the finding isn't there
pub handed_finding-none : (O N : World) (s : Subject) (t : Bytes) → handed_finding O N s t ≡ None → (a b : Bytes) → IsSeat O N a → IsSeat O N b → is_exposed O a s.class ≡ true → is_exposed O b t ≡ true → are_apart O N a b ≡ true → ⊥
unfolding handed_finding other_seat and_then
handed_finding-none O N s t h a b i j p q r =
    both_ways (test a) (first_seat-none O N test (none (first_seat O N test) h) a i) (and_from (is_exposed O a s.class) (is_some (other_seat O N a t)) p (there (other_seat O N a t) refl))
  where
    test : Bytes → Bool
    test a = is_exposed O a s.class && is_some (other_seat O N a t)

    none : (o : Option Bytes) → and_then (λ a. report s Assignment (Some a) VerifyError) o ≡ None → o ≡ None
    none None e = refl
    none (Some a) e = absurd (cc)

    there : (o : Option Bytes) → other_seat O N a t ≡ o → is_some o ≡ true
    there (Some c) e = refl
    there None e = absurd (both_ways (is_exposed O b t && are_apart O N a b) (first_seat-none O N (λ b. is_exposed O b t && are_apart O N a b) e b j) (and_from (is_exposed O b t) (are_apart O N a b) q r))

not_where : (b : Bool) (o : Option Finding) → cond b o None ≡ None → (o ≡ None → ⊥) → b ≡ false
not_where false o h n = refl
not_where true o h n = absurd (n h)

-- the subject of the finding on x, which has lost t
abbrev lost : Bytes → Bytes → Subject
lost x t = record { rule = 4; class = x; key = None; target = Some t }

module _ (O N : World) (quiet : Quiet O N) where
  -- who stands in the chain of another one, where a finding would stand if it left, does so still, or is an interface now
  chain_stays : (x t : Bytes) → (assign_finding O N (lost x t) (x ∷ t ∷ []) ≡ None → handed_finding O N (lost x t) t ≡ None → ⊥) → same x t ≡ false → in_chain O x t ≡ true → (in_chain N x t ≡ true) ⊎ (is_interface_of N t ≡ true)
  unfolding finding_at superclass_lost
  chain_stays x t stands d i = go (in_chain N x t) refl (is_interface_of N t) refl
    where
      found : Option Finding
      found = or_else (assign_finding O N (lost x t) (x ∷ t ∷ [])) (handed_finding O N (lost x t) t)

      none : (not (same x t) && in_chain O x t && not (in_chain N x t) && not (is_interface_of N t)) ≡ false
      none = not_where (not (same x t) && in_chain O x t && not (in_chain N x t) && not (is_interface_of N t)) found (quiet.none (lost x t) (quiet.first 4 (lit≤ tt)))
          (λ e. let p = or_else-none (assign_finding O N (lost x t) (x ∷ t ∷ [])) (handed_finding O N (lost x t) t) e in stands p.0 p.1)

      go : (u : Bool) → in_chain N x t ≡ u → (v : Bool) → is_interface_of N t ≡ v → (in_chain N x t ≡ true) ⊎ (is_interface_of N t ≡ true)
      go true e v f = inl e
      go false e true f = inr f
      go false e false f = absurd (both_ways (not (same x t) && in_chain O x t && not (in_chain N x t) && not (is_interface_of N t)) none
          (and_from (not (same x t) && in_chain O x t && not (in_chain N x t)) (not (is_interface_of N t))
          (and_from (not (same x t) && in_chain O x t) (not (in_chain N x t)) (and_from (not (same x t)) (in_chain O x t) (rw d refl) i) (rw e refl)) (rw f refl)))

  -- where both take part for one seat
  pub part_chain : (a : Bytes) → IsSeat O N a → (x t : Bytes) → takes_part O N a x ≡ true → takes_part O N a t ≡ true → same x t ≡ false → in_chain O x t ≡ true → (in_chain N x t ≡ true) ⊎ (is_interface_of N t ≡ true)
  part_chain a is_seat x t p q = chain_stays x t (λ e f. both_ways (takes_part O N a x && (takes_part O N a t && true)) (assign_finding-none O N (lost x t) (x ∷ t ∷ []) e a is_seat)
      (and_from (takes_part O N a x) (takes_part O N a t && true) p (and_from (takes_part O N a t) true q refl)))

  -- and where they are exposed to two seats that are apart
  pub handed_chain : (a b : Bytes) → IsSeat O N a → IsSeat O N b → (x t : Bytes) → is_exposed O a x ≡ true → is_exposed O b t ≡ true → are_apart O N a b ≡ true → same x t ≡ false → in_chain O x t ≡ true → (in_chain N x t ≡ true) ⊎ (is_interface_of N t ≡ true)
  handed_chain a b i j x t p q r = chain_stays x t (λ e f. handed_finding-none O N (lost x t) t f a b i j p q r)

  -- an interface that takes part is one still
  pub part_interface : (a : Bytes) → IsSeat O N a → (x : Bytes) → takes_part O N a x ≡ true → is_interface_of O x ≡ true → is_interface_of N x ≡ true
  unfolding finding_at interface_became_class
  part_interface a is_seat x p i = go (is_interface_of N x) refl
    where
      s : Subject
      s = at_class 3 x

      stands : assign_finding O N s (x ∷ []) ≡ None → ⊥
      stands e = both_ways (takes_part O N a x && true) (assign_finding-none O N s (x ∷ []) e a is_seat) (and_from (takes_part O N a x) true p refl)

      go : (b : Bool) → is_interface_of N x ≡ b → b ≡ true
      go true e = refl
      go false e = absurd (both_ways (is_interface_of O x && not (is_interface_of N x))
          (not_where (is_interface_of O x && not (is_interface_of N x)) (assign_finding O N s (x ∷ [])) (quiet.none s (quiet.first 3 (lit≤ tt))) stands)
          (and_from (is_interface_of O x) (not (is_interface_of N x)) i (rw e refl)))

-- a library class has the same above it in a world of clients, also one that doesn't load
pub in_chain-same : (N : World) (cs : List ClassFacts) (bare : N.clients ≡ []) (unused : (x : Bytes) (c : ClassFacts) → find_class N x ≡ Some c → EachOf (λ s. class_named cs s ≡ None) (supers c))
    → (x t : Bytes) → class_named cs x ≡ None → in_chain N x t ≡ in_chain (with_clients N cs) x t
in_chain-same N cs bare unused x t k = in_chain-agree N (with_clients N cs) (λ z. class_named cs z ≡ None) (sides N cs bare unused) (size-grows N cs bare) x t k
