-- What has left a chain, and what is found of a class and one of its old chain.
use Rattle.std.proofs.Common.{◌≡◌, ℕ, ◌<◌, Bool, true, false, cond, not, ◌&&◌, refl, sym, ◌∙◌, ap, Option, None, nat_lt}
use Rattle.std.specs.BTreeSet as sorted
use Rattle.std.specs.Ordering.{nat_cmp}
use Rattle.std.proofs.lemmas.Bool.{lt-ltb}
use Rattle.std.proofs.Math.Bool.{and-false}
use Rattle.jc_facts.specs.declared.finding.Finding.{Finding}
use Rattle.jc_facts.specs.Names.{Bytes, same}
use Rattle.jc_facts.specs.Options.{some_and}
use Rattle.jc_facts.specs.Flags.{interface_flag}
use Rattle.jc_facts.specs.world.World.{World, find_class, size}
use Rattle.jc_facts.specs.world.Hierarchy.{in_chain}
use Rattle.jc_facts.specs.world.Assignment.{is_interface_of}
use Rattle.jc_promises.specs.rule.Findings.{finding_at, superclass_lost}
use Rattle.jc_worlds.proofs.Chains.{absent_above, none_above}
use Rattle.jc_index.specs.Ids.{name_at}
use Rattle.jc_sides.specs.BrokenOf.{BrokenOf, found}
use Rattle.jc_sides.specs.SidesOf.{SidesOf}
use Rattle.jc_rules.specs.steps.Chains.{HasChain, on_target, lost_finding, target_finding, has_left_chain}

-- the set has the class where the chain has
pub set_has : (N : World) (x t : Bytes) (chain : sorted.BTreeSet ℕ) (k : ℕ) → HasChain N x chain → k < size N → name_at N k ≡ t → sorted.contains nat_cmp chain k ≡ in_chain N x t
set_has N x t chain k h l n = h.has k ∙ ap (λ (b : Bool). b && in_chain N x (name_at N k)) (lt-ltb k (size N) l) ∙ ap (in_chain N x) n

-- the chain of a class that is absent has none
pub empty_chain : (N : World) (x : Bytes) (chain : sorted.BTreeSet ℕ) → find_class N x ≡ None → sorted.IsOrdered nat_cmp chain → ((k : ℕ) → sorted.contains nat_cmp chain k ≡ false) → HasChain N x chain
empty_chain N x chain a o e = record { ordered = o; has = λ k. e k ∙ sym (ap (λ (b : Bool). nat_lt k (size N) && b) (none_above N x (name_at N k) a) ∙ and-false (nat_lt k (size N))) }

pub gone_has_left : (s : SidesOf) (x t : Bytes) → find_class s.new t ≡ None → true ≡ has_left_chain s x t
gone_has_left s x t a = sym (ap (λ b. not b && not (is_interface_of s.new t)) (absent_above s.new x t a) ∙ ap (λ o. not (some_and (λ c. interface_flag c.flags) o)) a)

pub left_if : (s : SidesOf) (x t : Bytes) (r i : Bool) → r ≡ in_chain s.new x t → r ≡ false → i ≡ is_interface_of s.new t → not i ≡ has_left_chain s x t
left_if s x t r i e f q = ap not q ∙ sym (ap (λ b. not b && not (is_interface_of s.new t)) (sym e ∙ f))

pub left_not : (s : SidesOf) (x t : Bytes) (r : Bool) → r ≡ in_chain s.new x t → r ≡ true → not r ≡ has_left_chain s x t
left_not s x t r e f = ap not f ∙ sym (ap (λ b. not b && not (is_interface_of s.new t)) (sym e ∙ f))

module _ (s : SidesOf) (x t : Bytes) where
  pub target_is : target_finding s x t ≡ cond (not (same x t) && in_chain s.old x t && not (in_chain s.new x t) && not (is_interface_of s.new t)) (lost_finding s x t) None
  unfolding target_finding finding_at superclass_lost
  target_is = refl

  pub of_same : same x t ≡ true → None ≡ target_finding s x t
  of_same h = sym (target_is ∙ ap (λ b. cond (not b && in_chain s.old x t && not (in_chain s.new x t) && not (is_interface_of s.new t)) (lost_finding s x t) None) h)

  pub of_stay : (b : Bool) → b ≡ false → b ≡ has_left_chain s x t → None ≡ target_finding s x t
  of_stay b f e = sym (target_is ∙ ap (λ w. cond w (lost_finding s x t) None) (two (not (same x t) && in_chain s.old x t) (not (in_chain s.new x t)) (not (is_interface_of s.new t)) (sym e ∙ f)))
    where
      two : (p q r : Bool) → (q && r) ≡ false → (p && q && r) ≡ false
      two true q r h = h
      two false q r h = refl

  pub of_left : (b : Bool) → b ≡ true → b ≡ has_left_chain s x t → same x t ≡ false → in_chain s.old x t ≡ true → (o : Option Finding) (said : Option BrokenOf) → o ≡ found (on_target x t) said → found (on_target x t) said ≡ lost_finding s x t → o ≡ target_finding s x t
  of_left b f e d w o said q a = q ∙ a ∙ sym (target_is ∙ ap (λ z. cond z (lost_finding s x t) None) (all (not (same x t)) (in_chain s.old x t) (not (in_chain s.new x t)) (not (is_interface_of s.new t)) (ap not d) w (sym e ∙ f)))
    where
      all : (p q r v : Bool) → p ≡ true → q ≡ true → (r && v) ≡ true → (p && q && r && v) ≡ true
      all true true r v g h k = k
      all false q r v g h k = absurd (cc)
      all true false r v g h k = absurd (cc)
