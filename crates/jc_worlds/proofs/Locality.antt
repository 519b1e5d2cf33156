-- Each step reads the search at the names above the class alone.
use Rattle.std.proofs.Common.{◌≡◌, List, [], ◌∷◌, refl, ap, Option, Some, None}
use Rattle.jc_facts.specs.declared.class_facts.ClassFacts.{ClassFacts}
use Rattle.jc_facts.specs.declared.key.Key.{Key}
use Rattle.jc_facts.specs.Names.{Bytes}
use Rattle.jc_facts.specs.world.Search.{supers_of}
use Rattle.jc_facts.specs.Options.{first_some, and_then}
use Rattle.jc_facts.specs.world.Hierarchy.{of_super, chain_step, each, interfaces_step}
use Rattle.jc_facts.specs.world.Lookup.{field_step}
use Rattle.jc_lemmas.proofs.Listed.{EachOf}
use Rattle.jc_worlds.proofs.Descent.{IsLocal}

pub of_interfaces : (P : Bytes → Type 0) (s : Option Bytes) (is : List Bytes) → EachOf P (supers_of s is) → EachOf P is
of_interfaces P None is h = h
of_interfaces P (Some s) is h = h.1

pub each-same : (f g : Bytes → List ClassFacts) (xs : List Bytes) → EachOf (λ s. f s ≡ g s) xs → each f xs ≡ each g xs
unfolding each
each-same f g [] h = refl
each-same f g (x ∷ xs) h = rw (h.0, each-same f g xs h.1) refl

pub first_some-same : {A : Type 0} (f g : Bytes → Option A) (xs : List Bytes) → EachOf (λ s. f s ≡ g s) xs → first_some f xs ≡ first_some g xs
unfolding first_some
first_some-same f g [] h = refl
first_some-same f g (x ∷ xs) h = rw (h.0, first_some-same f g xs h.1) refl

pub and_then-same : {A : Type 0} (f g : Bytes → Option A) (s : Option Bytes) (is : List Bytes) → EachOf (λ s. f s ≡ g s) (supers_of s is) → and_then f s ≡ and_then g s
unfolding and_then
and_then-same f g None is h = refl
and_then-same f g (Some s) is h = h.0

of_super-same : (f g : Bytes → List ClassFacts) (s : Option Bytes) (is : List Bytes) → EachOf (λ s. f s ≡ g s) (supers_of s is) → of_super f s ≡ of_super g s
of_super-same f g None is h = refl
of_super-same f g (Some s) is h = h.0

pub chain_step-local : IsLocal chain_step
unfolding chain_step
chain_step-local f g c h = ap (λ r. c ∷ r) (of_super-same f g c.superclass c.interfaces h)

pub interfaces_step-local : IsLocal interfaces_step
unfolding interfaces_step
interfaces_step-local f g c h = ap (λ r. c ∷ r) (each-same f g c.interfaces (of_interfaces (λ s. f s ≡ g s) c.superclass c.interfaces h))

pub field_step-local : (k : Key) → IsLocal (field_step k)
unfolding field_step
field_step-local k f g c h =
    rw (first_some-same f g c.interfaces (of_interfaces (λ s. f s ≡ g s) c.superclass c.interfaces h), and_then-same f g c.superclass c.interfaces h) refl
