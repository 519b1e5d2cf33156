-- What a class that is gone breaks: each client that could name it can't.
use Rattle.std.proofs.Common.{◌≡◌, Bool, true, false, List, refl, sym, ◌∙◌, ap, subst, Option, Some, None, not, ◌&&◌, ◌==◌}
use Rattle.std.proofs.lemmas.Bool.{and_parts, both_ways, not-true}
use Rattle.jc_facts.specs.declared.class_facts.ClassFacts.{ClassFacts}
use Rattle.jc_facts.specs.declared.client.Item.TheVariants as item
use Rattle.jc_facts.specs.declared.act.Act.{Act}
use Rattle.jc_facts.specs.declared.act.Act.TheVariants.{ClassRef}
use Rattle.jc_facts.specs.declared.finding.Finding.{Finding}
use Rattle.jc_facts.specs.declared.key.Key.{Key}
use Rattle.jc_facts.specs.declared.link_error.LinkError.{LinkError}
use Rattle.jc_facts.specs.declared.link_error.LinkError.TheVariants.{IllegalAccessError}
use Rattle.jc_facts.specs.Names.{Bytes, in_same_package}
use Rattle.jc_facts.specs.world.Types.{is_array_text}
use Rattle.jc_facts.specs.Options.{or_else, and_then}
use Rattle.jc_facts.specs.world.World.{World, find_class, class_named, with_clients}
use Rattle.jc_facts.specs.world.Access.{is_class_accessible}
use Rattle.jc_facts.specs.world.Loading.{load_fault, fault_where}
use Rattle.jc_facts.specs.client.Outcome.{outcome, class_fault, class_step}
use Rattle.jc_facts.specs.client.Valid.{facts_of}
use Rattle.jc_promises.specs.client.Names.{is_client_name}
use Rattle.jc_promises.specs.rule.Bases.{is_class_usable}
use Rattle.jc_promises.specs.rule.Findings.{Subject, finding_at, finding_by, class_gone, report_where, gone_error, fault_or}
use Rattle.jc_sound.specs.Findings.{ClassGoneBreaks}
use Rattle.jc_lemmas.proofs.Listed.{EachOf}
use Rattle.jc_lemmas.proofs.Options.{passed, taken}
use Rattle.jc_facts.proofs.World.{names, find-name, EachOf-class_named}
use Rattle.jc_promises.proofs.Pairs.{side_valid}
use Rattle.jc_worlds.proofs.Loaded.{loads-found}
use Rattle.jc_worlds.proofs.Sides.{find-library, load_fault-side}
use Rattle.jc_facts.specs.world.Modules.{is_visible}
use Rattle.jc_worlds.proofs.Clients.{Fits, client_module}
use Rattle.jc_worlds.proofs.VisibleFrom.{accessible_parts, visible_from-client}
use Rattle.jc_worlds.proofs.Packages.{same_package_apart}
use Rattle.jc_sound.proofs.Standing.{IsUsable, usable_parts, usable_from, usable_accessible}
use Rattle.jc_sound.proofs.ClientNames.{free_new, free_parts, fits_old, fits_new}
use Rattle.jc_sound.proofs.Scope.{scope_names}
use Rattle.jc_sound.proofs.SoundnessLaws.{client_there}
use Rattle.jc_worlds.proofs.ValidFacts.{fit_of}
use Rattle.jc_sound.proofs.Context.{named_class}

-- ---- what the finding says

pub report_where-some : (b : Bool) (s : Subject) (a : Act) (e : LinkError) (f : Finding) → report_where b s a e ≡ Some f → (b ≡ true) × (s.class ≡ f.class) × (e ≡ f.error)
report_where-some false s a e f h = absurd (cc)
report_where-some true s a e f h =
    let r : Finding = record { rule = s.rule; «class» = s.class; key = s.key; target = s.target; act = a; seat = None; error = e } in
    let w : r ≡ f = cc in
    (refl, ap (λ (z : Finding). z.class) w, ap (λ (z : Finding). z.error) w)

by_class_gone : (O N : World) (s : Subject) (k : Option Key) (t : Option Bytes) (f : Finding) → s.rule ≡ 1 → finding_by O N s k t ≡ Some f → class_gone O N s ≡ Some f
by_class_gone O N s None None f e h = taken (s.rule == 1) _ _ _ (ap (λ n. n == 1) e) h
by_class_gone O N s None (Some t) f e h = absurd (let z : None ≡ Some f = passed (s.rule == 4) _ _ _ (ap (λ n. n == 4) e) h in cc)
by_class_gone O N s (Some k) None f e h =
    absurd (let z : None ≡ Some f = passed (s.rule == 9) _ _ _ (ap (λ n. n == 9) e) (passed (s.rule == 8) _ _ _ (ap (λ n. n == 8) e) (passed (s.rule == 7) _ _ _ (ap (λ n. n == 7) e)
    (passed (s.rule == 6) _ _ _ (ap (λ n. n == 6) e) (passed (s.rule == 5) _ _ _ (ap (λ n. n == 5) e) h)))) in cc)
by_class_gone O N s (Some k) (Some t) f e h = absurd (cc)

-- ---- what its class breaks

module _ (O N : World) (cs : List ClassFacts) (fo : Fits O cs) (fn : Fits N cs) (client_names : EachOf (λ n. is_client_name O N n ≡ true) (names cs))
    (y : Bytes) (c : ClassFacts) (client : class_named cs y ≡ Some c) (x : Bytes) (plain : is_array_text x ≡ false) (was : is_class_usable O x ≡ true) (gone : is_class_usable N x ≡ false) where
  abbrev VO : World
  VO = with_clients O cs

  abbrev VN : World
  VN = with_clients N cs

  -- of the class d, where it is there
  abbrev access : World → ClassFacts → Option LinkError
  access V d = fault_where (not (is_class_accessible V y d)) IllegalAccessError

  u : IsUsable O x
  u = usable_parts O x was

  library : class_named cs x ≡ None
  library = go (class_named cs x) refl
    where
      go : (o : Option ClassFacts) → class_named cs x ≡ o → o ≡ None
      go None e = refl
      go (Some d) e = absurd (let z : None ≡ Some u.class = sym (fo.undeclared x d e) ∙ u.is_there in cc)

  named : (V : World) → class_step V y x ≡ class_fault V y x
  unfolding class_step
  named V = rw (named_class x plain) refl

  fault_is : (V : World) (o : Option LinkError) (p : Option ClassFacts) → load_fault V x ≡ o → find_class V x ≡ p → class_fault V y x ≡ or_else o (and_then (access V) p)
  unfolding class_fault
  fault_is V o p l f = rw (l, f) refl

  -- it could be named
  old : class_step VO y x ≡ None
  unfolding or_else and_then
  old =
      named VO ∙ fault_is VO None (Some u.class) (sym (load_fault-side O cs fo.bare fo.unused x library) ∙ u.loaded) (sym (find-library O cs fo.bare x library) ∙ u.is_there)
      ∙ rw (usable_accessible O x u y) refl

  new_load : load_fault VN x ≡ load_fault N x
  new_load = sym (load_fault-side N cs fn.bare fn.unused x library)

  -- it can't be loaded
  unloaded : (e : LinkError) → load_fault N x ≡ Some e → class_fault VN y x ≡ Some (fault_or IllegalAccessError (load_fault N x))
  unfolding or_else
  unloaded e h = fault_is VN (Some e) (find_class VN x) (new_load ∙ h) refl ∙ ap (λ o. Some (fault_or IllegalAccessError o)) (sym h)

  -- or isn't accessible
  hidden : load_fault N x ≡ None → class_fault VN y x ≡ Some (fault_or IllegalAccessError (load_fault N x))
  unfolding or_else and_then
  hidden h =
      let there = loads-found N x h in
      let apart = free_parts N y (free_new O N y (EachOf-class_named (λ n. is_client_name O N n ≡ true) cs y c client client_names)) in
      let other : in_same_package y there.0.name ≡ false = same_package_apart N y x there.0 apart.apart there.1 in
      let hid : is_class_accessible N y there.0 ≡ false = shut there.0 there.1 other (is_class_accessible N y there.0) refl in
      fault_is VN None (Some there.0) (new_load ∙ h) (sym (find-library N cs fn.bare x library) ∙ there.1)
      ∙ rw hid (ap (λ o. Some (fault_or IllegalAccessError o)) (sym h))
    where
      shut : (d : ClassFacts) → find_class N x ≡ Some d → in_same_package y d.name ≡ false → (b : Bool) → is_class_accessible N y d ≡ b → b ≡ false
      shut d f q false a = refl
      shut d f q true a =
          let p = accessible_parts N y d q a in
          let v : is_visible N x ≡ true = subst (λ z. is_visible N z ≡ true) (find-name N x d f) (sym (visible_from-client N y d.name (client_module N cs fn y c client)) ∙ p.0) in
          absurd (both_ways (is_class_usable N x) gone (usable_from N x d f v p.1 h))

  new : class_step VN y x ≡ Some (gone_error N x)
  unfolding gone_error
  new = named VN ∙ go (load_fault N x) refl
    where
      go : (o : Option LinkError) → load_fault N x ≡ o → class_fault VN y x ≡ Some (fault_or IllegalAccessError (load_fault N x))
      go None e = hidden e
      go (Some f) e = unloaded f e

  pub breaks : (outcome VO y (item.Class x) ≡ None) × (outcome VN y (item.Class x) ≡ Some (gone_error N x))
  unfolding outcome
  breaks = (old, new)

-- ---- the law

pub class_gone_breaks : ClassGoneBreaks
unfolding finding_at class_gone
class_gone_breaks O N old_bare new_bare vp vo s f is_1 stands cs scope c is_in =
    subst (λ (e : LinkError). Broken f.class e) says.2 (subst (λ (x : Bytes). Broken x (gone_error N s.class)) says.1 broken)
  where
    Broken : Bytes → LinkError → Type 0
    Broken x e = (outcome (with_clients O (facts_of cs)) c.facts.name (item.Class x) ≡ None) × (outcome (with_clients N (facts_of cs)) c.facts.name (item.Class x) ≡ Some e)

    says : ((is_class_usable O s.class && not (is_class_usable N s.class)) ≡ true) × (s.class ≡ f.class) × (gone_error N s.class ≡ f.error)
    says = report_where-some (is_class_usable O s.class && not (is_class_usable N s.class)) s ClassRef (gone_error N s.class) f (by_class_gone O N s s.key s.target f is_1 stands)

    parts : (is_class_usable O s.class ≡ true) × (not (is_class_usable N s.class) ≡ true)
    parts = and_parts (is_class_usable O s.class) (not (is_class_usable N s.class)) says.0

    plain : is_array_text s.class ≡ false
    plain =
        let u = usable_parts O s.class parts.0 in
        let v = side_valid O old_bare vp vo s.class u.class u.is_there in
        subst (λ (z : Bytes). is_array_text z ≡ false) (find-name O s.class u.class u.is_there) (fit_of u.class v).name

    client_names : EachOf (λ n. is_client_name O N n ≡ true) (names (facts_of cs))
    client_names = scope_names O N cs scope

    broken : Broken s.class (gone_error N s.class)
    broken =
        let t = client_there cs c is_in in
        breaks O N (facts_of cs) (fits_old O N (facts_of cs) old_bare client_names) (fits_new O N (facts_of cs) new_bare client_names) client_names c.facts.name t.0 t.1 s.class plain parts.0 (not-true (is_class_usable N s.class) parts.1)
