-- What the rule on interfaces that are none any more finds.
use Rattle.std.proofs.Common.{◌≡◌, ℕ, Bool, true, false, cond, not, ◌||◌, ◌&&◌, [], ◌∷◌, refl, sym, ◌∙◌, ap, Some, None}
use Rattle.std.specs.List.{list_all}
use Rattle.jc_facts.specs.declared.class_facts.ClassFacts.{ClassFacts}
use Rattle.jc_facts.specs.declared.act.Act.TheVariants.{Assignment}
use Rattle.jc_facts.specs.declared.link_error.LinkError.TheVariants.{VerifyError}
use Rattle.jc_facts.specs.Flags.{interface_flag}
use Rattle.jc_facts.specs.Names.{Bytes}
use Rattle.jc_facts.specs.Options.{and_then, some_and}
use Rattle.jc_promises.specs.rule.Bases.{is_kept}
use Rattle.jc_promises.specs.rule.Findings.{Subject, finding_at, interface_became_class, assign_finding, takes_part, report}
use Rattle.jc_promises.specs.rule.OpenActs.{first_seat}
use Rattle.jc_promises.specs.rule.Exposed.{is_exposed}
use Rattle.jc_facts.specs.world.Assignment.{is_interface_of}
use Rattle.jc_facts.specs.world.World.{World, find_class}
use Rattle.jc_exposed.specs.Exposed.{are_all_exposed}
use Rattle.jc_sides.specs.Rules.{on_class, class_finding}
use Rattle.jc_sides.specs.SidesOf.{SidesOf}
use Rattle.jc_index.specs.Ids.{name_at}

-- ---- whether a class was an interface and is none

pub flag_is : (W : World) (x : Bytes) (d : ClassFacts) (r : Bool) → Some d ≡ find_class W x → r ≡ interface_flag d.flags → r ≡ is_interface_of W x
flag_is W x d r e q = q ∙ ap (some_and (λ c. interface_flag c.flags)) e

pub lost_there : (o n r : Bool) → o ≡ true → r ≡ n → not r ≡ (o && not n)
lost_there true n r e q = ap not q
lost_there false n r e q = absurd (cc)

pub lost_gone : (o n : Bool) → o ≡ true → n ≡ false → true ≡ (o && not n)
lost_gone true false e q = refl
lost_gone true true e q = absurd (cc)
lost_gone false n e q = absurd (cc)

pub absent : (W : World) (x : Bytes) → find_class W x ≡ None → is_interface_of W x ≡ false
absent W x e = ap (some_and (λ c. interface_flag c.flags)) e

-- ---- what is found of a class

module _ (s : SidesOf) (x : Bytes) where
  abbrev on : Subject
  on = on_class 3 x

  abbrev lost : Bool
  lost = is_interface_of s.old x && not (is_interface_of s.new x)

  finding_is : class_finding 3 s x ≡ cond lost (assign_finding s.old s.new on (x ∷ [])) None
  unfolding class_finding finding_at interface_became_class
  finding_is = refl

  pub not_lost : (b : Bool) → b ≡ false → b ≡ lost → None ≡ class_finding 3 s x
  not_lost b f e = sym (finding_is ∙ ap (λ w. cond w (assign_finding s.old s.new on (x ∷ [])) None) (sym e ∙ f))

  -- of a class that was lost
  module _ (b : Bool) (t : b ≡ true) (e : b ≡ lost) where
    is_found : class_finding 3 s x ≡ assign_finding s.old s.new on (x ∷ [])
    is_found = finding_is ∙ ap (λ w. cond w (assign_finding s.old s.new on (x ∷ [])) None) (sym e ∙ t)

    pub of_kept : is_kept s.old s.new x ≡ true → report on Assignment None VerifyError ≡ class_finding 3 s x
    unfolding assign_finding
    of_kept k = sym (is_found ∙ ap (λ w. cond (w && true) (report on Assignment None VerifyError) (and_then (λ a. report on Assignment (Some a) VerifyError) (first_seat s.old s.new (λ a. list_all (takes_part s.old s.new a) (x ∷ []))))) k)

    module _ (k : is_kept s.old s.new x ≡ false) where
      by_seat : class_finding 3 s x ≡ and_then (λ a. report on Assignment (Some a) VerifyError) (first_seat s.old s.new (λ a. list_all (takes_part s.old s.new a) (x ∷ [])))
      unfolding assign_finding
      by_seat = is_found ∙ ap (λ w. cond (w && true) (report on Assignment None VerifyError) (and_then (λ a. report on Assignment (Some a) VerifyError) (first_seat s.old s.new (λ a. list_all (takes_part s.old s.new a) (x ∷ []))))) k

      -- the seats of a hidden class
      seats_of : (n : ℕ) → name_at s.old n ≡ x → first_seat s.old s.new (are_all_exposed s.old (n ∷ [])) ≡ first_seat s.old s.new (λ a. list_all (takes_part s.old s.new a) (x ∷ []))
      seats_of n is = ap (first_seat s.old s.new) (λ i a. same a i)
        where
          same : (a : Bytes) → (is_exposed s.old a (name_at s.old n) && true) ≡ ((is_kept s.old s.new x || is_exposed s.old a x) && true)
          same a = rw (k, is) refl

      pub of_unkept : (n : ℕ) → name_at s.old n ≡ x → and_then (λ a. report on Assignment (Some a) VerifyError) (first_seat s.old s.new (are_all_exposed s.old (n ∷ []))) ≡ class_finding 3 s x
      of_unkept n is = ap (and_then (λ a. report on Assignment (Some a) VerifyError)) (seats_of n is) ∙ sym by_seat
