-- Releases that clients can be planned for, and the fresh package.
use Rattle.std.proofs.Common.{◌≡◌, Bool, true, false, List, [], ◌∷◌, refl, sym, ◌∙◌, ap, Option, Some, None, is_some, ◌||◌, codes, nat_eq}
use Rattle.std.proofs.lemmas.List.Folds.{list_any-append}
use Rattle.std.specs.List.{list_any, starts_with}
use Rattle.jc_facts.specs.declared.class_facts.ClassFacts.{ClassFacts}
use Rattle.jc_facts.specs.declared.class_facts.Member.{Member}
use Rattle.jc_facts.specs.Names.{Bytes, object_name}
use Rattle.jc_facts.specs.Flags.{public_flag}
use Rattle.jc_facts.specs.Options.{some_and}
use Rattle.jc_facts.specs.world.World.{World, find_class, classes, class_named, own_method_of}
use Rattle.jc_facts.specs.client.Outcome.{init_key}
use Rattle.jc_facts.specs.file.Valid.{IsValidClass}
use Rattle.jc_facts.specs.world.Mentioned.{mentions, all_mentions, mentioned}
use Rattle.jc_promises.specs.plan.PlannedNames.{in_package, fresh_package}
use Rattle.jc_complete.specs.Completeness.{CanPlan}
use Rattle.jc_lemmas.proofs.Bools.{neither_first, neither_last}
use Rattle.jc_promises.proofs.Pairs.{side_valid, old_root, new_there, new_root, new_platform_valid}
use Rattle.jc_complete.proofs.PlanGround.{Root, Planned, Ready}
use Rattle.jc_complete.proofs.PlanPackage.{IsFree, first_is_free}
use Rattle.jc_complete.proofs.PlanNames.{free_name, free_allowed, not_permitted}
use Rattle.jc_worlds.proofs.VisibleFrom.{platform_visible}

-- what all names of classes hold
pub any_mentions : (p : Bytes → Bool) (cs : List ClassFacts) → list_any p (all_mentions cs) ≡ list_any (λ c. list_any p (mentions c)) cs
any_mentions p [] = refl
any_mentions p (c ∷ cs) = list_any-append p (mentions c) (all_mentions cs) ∙ ap (λ b. list_any p (mentions c) || b) (any_mentions p cs)

found_init : (test : Member → Bool) (o : Option Member) → some_and test o ≡ true → (m : Member) × (o ≡ Some m) × (test m ≡ true)
found_init test None h = absurd (cc)
found_init test (Some m) h = (m, refl, h)

module _ (O N : World) (c : CanPlan O N) where
  abbrev w : Bytes
  w = fresh_package O N

  free : IsFree (mentioned O N) w
  free = first_is_free (mentioned O N) c.few

  abbrev root : ClassFacts
  root = c.pair.root.root

  init : (m : Member) × (own_method_of root (init_key (codes "()V")) ≡ Some m) × (public_flag m.flags ≡ true)
  init = found_init (λ m. public_flag m.flags) (own_method_of root (init_key (codes "()V"))) c.open_root.init

  abbrev is_root : Root root
  is_root = record {
    superclass = c.pair.root.superclass;
    interfaces = c.pair.root.interfaces;
    fields = c.pair.root.fields;
    public = c.pair.root.public;
    class = c.pair.root.class;
    not_final = c.open_root.not_final;
    permits = c.open_root.permits;
    init = init.0;
    declares = init.1;
    init_public = init.2;
  }

  side_ready : (W : World) → W.clients ≡ [] → is_some (class_named W.platform object_name) ≡ true → find_class W object_name ≡ Some root → ((x : Bytes) (d : ClassFacts) → find_class W x ≡ Some d → IsValidClass d)
      → list_any (λ c. list_any (λ x. starts_with nat_eq x (in_package w [])) (mentions c)) (classes W) ≡ false → Planned root w W
  side_ready W bare has there valid n = record {
    bare = bare;
    valid = valid;
    there = there;
    visible = platform_visible W object_name has;
    free = free_allowed (mentioned O N) w free W bare n;
    unpermitted = λ l h. not_permitted (mentioned O N) w free W bare n l;
  }

  unused : (list_any (λ x. starts_with nat_eq x (in_package w [])) (all_mentions (classes O)) || list_any (λ x. starts_with nat_eq x (in_package w [])) (all_mentions (classes N))) ≡ false
  unused = sym (list_any-append (λ x. starts_with nat_eq x (in_package w [])) (all_mentions (classes O)) (all_mentions (classes N))) ∙ free.free

  -- they are
  pub ready_of : Ready O N (fresh_package O N)
  ready_of = record {
    root = root;
    is_root = is_root;
    name = free_name (mentioned O N) w free;
    old = side_ready O c.pair.run.old_bare (ap is_some c.pair.root.is_there) (old_root O N c.pair) (side_valid O c.pair.run.old_bare c.pair.platform_valid c.pair.old_valid) (sym (any_mentions (λ x. starts_with nat_eq x (in_package w [])) (classes O)) ∙ neither_first (list_any (λ x. starts_with nat_eq x (in_package w [])) (all_mentions (classes O))) (list_any (λ x. starts_with nat_eq x (in_package w [])) (all_mentions (classes N))) unused);
    new = side_ready N c.pair.run.new_bare (ap is_some (new_there O N c.pair)) (new_root O N c.pair) (side_valid N c.pair.run.new_bare (new_platform_valid O N c.pair) c.pair.new_valid) (sym (any_mentions (λ x. starts_with nat_eq x (in_package w [])) (classes N)) ∙ neither_last (list_any (λ x. starts_with nat_eq x (in_package w [])) (all_mentions (classes O))) (list_any (λ x. starts_with nat_eq x (in_package w [])) (all_mentions (classes N))) unused);
  }
