-- Two clients that load, directly below two library classes: where the clients differ, the classes are apart, and else they are one class.
use Rattle.std.proofs.Common.{◌≡◌, true, false, List, refl, sym, ◌∙◌, ap, subst, Option, Some, None, not, ◌&&◌}
use Rattle.std.proofs.lemmas.Bool.{and_from, not-false}
use Rattle.jc_facts.specs.declared.class_facts.ClassFacts.{ClassFacts}
use Rattle.jc_facts.specs.Names.{Bytes, same, is_name_among, in_same_package}
use Rattle.jc_facts.specs.Flags.{public_flag}
use Rattle.jc_facts.specs.Options.{and_then}
use Rattle.jc_facts.specs.world.World.{World, find_class, class_named, with_clients}
use Rattle.jc_facts.specs.world.Search.{supers, supers_of}
use Rattle.jc_facts.specs.world.Mentioned.{permitted}
use Rattle.jc_facts.specs.world.Loading.{load_fault, fault_of_itself, fault_of_superclass, error_of_superclass, sealed_by}
use Rattle.jc_promises.specs.client.Names.{is_client_name}
use Rattle.jc_promises.specs.rule.Apart.{permits_of, has_other, permit_two, are_apart}
use Rattle.jc_promises.specs.rule.Bases.{allowed}
use Rattle.jc_facts.proofs.Options.{or_else-none}
use Rattle.jc_facts.proofs.Same.{same_is}
use Rattle.jc_facts.proofs.World.{names, EachOf-class_named}
use Rattle.jc_lemmas.proofs.Bools.{neither_last}
use Rattle.jc_lemmas.proofs.Listed.{EachOf}
use Rattle.jc_worlds.proofs.Clients.{Fits, find-client}
use Rattle.jc_worlds.proofs.Loaded.{loads-found, loads-parts}
use Rattle.jc_worlds.proofs.Sides.{find-library}
use Rattle.jc_sound.proofs.ClientLoads.{any_among, taken_superclass}
use Rattle.jc_sound.proofs.ClientNames.{allowed_if_permitted}

-- in the world V of these clients one that loads is directly below the library class a
pub record HasBelow (V : World) (cs : List ClassFacts) (a : Bytes) : Type 0 where
  pub client : ClassFacts
  pub named : class_named cs client.name ≡ Some client
  pub loaded : load_fault V client.name ≡ None
  pub above : client.superclass ≡ Some a
  pub is_library : class_named cs a ≡ None

module _ (O N : World) (cs : List ClassFacts) (fo : Fits O cs) (client_names : EachOf (λ n. is_client_name O N n ≡ true) (names cs)) where
  abbrev VO : World
  VO = with_clients O cs

  abbrev Below : Bytes → Type 0
  Below a = HasBelow (with_clients O cs) cs a

  -- the permitted names of the class have the client among them, which is allowed
  permits_it : (a : Bytes) (p : Below a) (xs : List Bytes) → permits_of O a ≡ Some xs → (is_name_among xs p.client.name ≡ true) × (allowed O N p.client.name ≡ true)
  unfolding fault_of_itself fault_of_superclass and_then
  permits_it a p xs e = let t = loads-found VO a (first c.superclass p.above parts.0) in by t.0 t.1
    where
      c : ClassFacts
      c = p.client

      parts : EachOf (λ s. load_fault VO s ≡ None) (supers c) × (fault_of_itself VO c ≡ None)
      parts = loads-parts VO c.name c (find-client O cs fo c.name c p.named) p.loaded

      first : (o : Option Bytes) → o ≡ Some a → EachOf (λ s. load_fault VO s ≡ None) (supers_of o c.interfaces) → load_fault VO a ≡ None
      first None q h = absurd (cc)
      first (Some z) q h = let k : z ≡ a = cc in subst (λ z. load_fault VO z ≡ None) k h.0

      refused : (d : ClassFacts) → find_class VO a ≡ Some d → error_of_superclass VO c d ≡ None
      refused d f =
          let q : and_then (fault_of_superclass VO c) c.superclass ≡ None = (or_else-none (and_then (fault_of_superclass VO c) c.superclass) _ parts.1).0 in
          let r : fault_of_superclass VO c a ≡ None = sym (ap (and_then (fault_of_superclass VO c)) p.above) ∙ q in
          sym (ap (and_then (error_of_superclass VO c)) f) ∙ r

      by : (d : ClassFacts) → find_class VO a ≡ Some d → (is_name_among xs p.client.name ≡ true) × (allowed O N p.client.name ≡ true)
      by d f =
          let o : find_class O a ≡ Some d = find-library O cs fo.bare a p.is_library ∙ f in
          let x : d.permits ≡ Some xs = sym (ap (and_then (λ c. c.permits)) o) ∙ e in
          let s : sealed_by c d.name (Some xs) ≡ false = subst (λ m. sealed_by c d.name m ≡ false) x (taken_superclass VO c d (refused d f)).permits in
          let m : is_name_among xs c.name ≡ true = not-false (is_name_among xs c.name) (neither_last (not (public_flag c.flags) && not (in_same_package c.name d.name)) (not (is_name_among xs c.name)) s) in
          (m, allowed_if_permitted O N c.name (EachOf-class_named (λ n. is_client_name O N n ≡ true) cs c.name c p.named client_names) a d o (subst (λ w. is_name_among (permitted w) c.name ≡ true) (sym x) m))

  pub below_apart : (a b : Bytes) (p : Below a) (q : Below b) → same p.client.name q.client.name ≡ false → are_apart O N a b ≡ true
  unfolding are_apart
  below_apart a b p q d = go (permits_of O a) refl (permits_of O b) refl
    where
      go : (v : Option (List Bytes)) → permits_of O a ≡ v → (w : Option (List Bytes)) → permits_of O b ≡ w → permit_two O N v w ≡ true
      go None e w f = refl
      go (Some xs) e None f = refl
      go (Some xs) e (Some ys) f =
          let m = permits_it a p xs e in
          let n = permits_it b q ys f in
          any_among (λ x. allowed O N x && has_other O N x ys) xs p.client.name m.0
          (and_from (allowed O N p.client.name) (has_other O N p.client.name ys) m.1
          (any_among (λ y. allowed O N y && not (same p.client.name y)) ys q.client.name n.0 (and_from (allowed O N q.client.name) (not (same p.client.name q.client.name)) n.1 (ap not d))))

  pub below_one : (a b : Bytes) (p : Below a) (q : Below b) → same p.client.name q.client.name ≡ true → a ≡ b
  below_one a b p q e =
      let n : p.client.name ≡ q.client.name = same_is p.client.name q.client.name e in
      let c : p.client ≡ q.client = let w : Some p.client ≡ Some q.client = sym p.named ∙ ap (class_named cs) n ∙ q.named in cc in
      let s : Some a ≡ Some b = sym p.above ∙ ap (λ c. c.superclass) c ∙ q.above in
      cc
