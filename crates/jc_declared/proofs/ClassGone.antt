-- Why clients can't use a class, and what the rule on classes that are gone finds.
use Rattle.std.proofs.Common.{◌≡◌, Bool, true, false, cond, refl, sym, ◌∙◌, ap, Option, Some, None, not, ◌&&◌}
use Rattle.jc_facts.specs.declared.act.Act.TheVariants.{ClassRef}
use Rattle.jc_facts.specs.declared.link_error.LinkError.{LinkError}
use Rattle.jc_facts.specs.declared.link_error.LinkError.TheVariants.{NoClassDefFoundError, ClassCircularityError, IllegalAccessError}
use Rattle.jc_promises.specs.rule.Findings.{gone_error, fault_or, finding_at, class_gone, report_where}
use Rattle.jc_facts.specs.Flags.{public_flag}
use Rattle.jc_facts.specs.world.Loading.{load_fault, load_step}
use Rattle.jc_facts.specs.Names.{Bytes}
use Rattle.jc_facts.specs.Options.{some_and}
use Rattle.jc_facts.specs.world.World.{class_is, World, find_class, size}
use Rattle.jc_promises.specs.rule.Bases.{is_class_usable}
use Rattle.jc_facts.specs.world.Modules.{is_visible}
use Rattle.jc_worlds.proofs.Descent.{descend-absent}
use Rattle.jc_declared.specs.steps.Classes.{why_unusable}
use Rattle.jc_sides.specs.BrokenOf.{BrokenOf, broken_if, found}
use Rattle.jc_sides.specs.Rules.{on_class, class_finding}
use Rattle.jc_sides.specs.SidesOf.{SidesOf}
use Rattle.jc_sides.proofs.BrokenActs.{found_where}
use Rattle.jc_index.specs.Ids.{id_of}
use Rattle.jc_index.proofs.Numbers.{find-None}

-- ---- why a class can't be used

module _ (W : World) (x : Bytes) where
  pub absent : id_of W x ≡ None → why_unusable W x ≡ Some NoClassDefFoundError
  unfolding is_class_usable gone_error load_fault
  absent h =
      let a : find_class W x ≡ None = find-None W x h in
      let l : load_fault W x ≡ Some NoClassDefFoundError = descend-absent W (Some NoClassDefFoundError) (Some ClassCircularityError) (load_step W) (size W) x a in
      rw a (ap (λ o. Some (fault_or IllegalAccessError o)) l)

  pub unloaded : (e : LinkError) → load_fault W x ≡ Some e → why_unusable W x ≡ Some e
  unfolding is_class_usable gone_error
  unloaded e h = rw h (go (some_and (λ c. is_visible W x && public_flag c.flags) (find_class W x)))
    where
      go : (b : Bool) → cond (b && false) None (Some e) ≡ Some e
      go true = refl
      go false = refl

  pub hidden : load_fault W x ≡ None → class_is W (λ c. is_visible W x && public_flag c.flags) x ≡ false → why_unusable W x ≡ Some IllegalAccessError
  unfolding is_class_usable gone_error
  hidden l p = rw (l, p) refl

  pub usable : load_fault W x ≡ None → class_is W (λ c. is_visible W x && public_flag c.flags) x ≡ true → why_unusable W x ≡ None
  unfolding is_class_usable gone_error
  usable l p = rw (l, p) refl

-- ---- the finding

module _ (s : SidesOf) (x : Bytes) where
  gone_is : class_finding 1 s x ≡ report_where (is_class_usable s.old x && not (is_class_usable s.new x)) (on_class 1 x) ClassRef (gone_error s.new x)
  unfolding class_finding finding_at class_gone
  gone_is = refl

  pub still : None ≡ why_unusable s.new x → None ≡ class_finding 1 s x
  still h = sym (gone_is ∙ go (is_class_usable s.old x) (is_class_usable s.new x) (sym h))
    where
      go : (a b : Bool) → cond b None (Some (gone_error s.new x)) ≡ None → report_where (a && not b) (on_class 1 x) ClassRef (gone_error s.new x) ≡ None
      go true true h = refl
      go false true h = refl
      go a false h = absurd (cc)

  pub gone : (was : Bool) (e : LinkError) (o : Option BrokenOf) → was ≡ is_class_usable s.old x → Some e ≡ why_unusable s.new x → o ≡ broken_if was ClassRef e → found (on_class 1 x) o ≡ class_finding 1 s x
  gone was e o u h r =
      ap (found (on_class 1 x)) r ∙ found_where (on_class 1 x) was ClassRef e ∙ ap (λ b. report_where b (on_class 1 x) ClassRef e) u ∙ sym (gone_is ∙ go (is_class_usable s.old x) (is_class_usable s.new x) (sym h))
    where
      go : (a b : Bool) → cond b None (Some (gone_error s.new x)) ≡ Some e → report_where (a && not b) (on_class 1 x) ClassRef (gone_error s.new x) ≡ report_where a (on_class 1 x) ClassRef e
      go a true h = absurd (cc)
      go true false h = let k : gone_error s.new x ≡ e = cc in ap (report_where true (on_class 1 x) ClassRef) k
      go false false h = refl
