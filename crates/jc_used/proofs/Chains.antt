-- Clients up their superclasses.
use Rattle.std.proofs.Common.{◌≡◌, ◌<◌, ◌+◌, ◌-◌, ℕ, zero, suc, List, [], ◌∷◌, ◌++◌, refl, sym, ap, ◌∙◌, None, Some, arith}
use Rattle.std.proofs.lemmas.List.{append_assoc, append-nil}
use Rattle.jc_facts.specs.declared.class_facts.ClassFacts.{ClassFacts}
use Rattle.jc_facts.specs.Options.{and_then}
use Rattle.jc_facts.specs.world.World.{class_named}
use Rattle.jc_used.specs.Above.{chain_to}

one_up : (cs : List ClassFacts) (n i : ℕ) (c : ClassFacts) → i < n → chain_to cs (n - i) (Some c) ≡ c ∷ chain_to cs (n - (i + 1)) (and_then (class_named cs) c.superclass)
one_up cs n i c h = let e : n - i ≡ suc (n - (i + 1)) = omega (arith, h) in rw e refl

pub one_more : (cs : List ClassFacts) (n i : ℕ) (before : List ClassFacts) (c : ClassFacts) (whole : List ClassFacts) → i < n → before ++ chain_to cs (n - i) (Some c) ≡ whole
    → (before ++ c ∷ []) ++ chain_to cs (n - (i + 1)) (and_then (class_named cs) c.superclass) ≡ whole
one_more cs n i before c whole h e = append_assoc before (c ∷ []) (chain_to cs (n - (i + 1)) (and_then (class_named cs) c.superclass)) ∙ ap (λ (x : List ClassFacts). before ++ x) (sym (one_up cs n i c h)) ∙ e

no_more : (cs : List ClassFacts) (n : ℕ) → chain_to cs n None ≡ []
no_more cs zero = refl
no_more cs (suc n) = refl

pub ends_above : (cs : List ClassFacts) (n : ℕ) (before whole : List ClassFacts) → before ++ chain_to cs n None ≡ whole → before ≡ whole
ends_above cs n before whole e = sym (append-nil before) ∙ ap (λ (x : List ClassFacts). before ++ x) (sym (no_more cs n)) ∙ e
