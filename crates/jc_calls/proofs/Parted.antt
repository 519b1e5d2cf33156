-- What it says of a class and a superclass that the one is lost to the other, where values met.
use Rattle.std.proofs.Common.{◌≡◌, true, false, not, ◌&&◌, ◌||◌, ◌⊎◌, inl, inr, Option, None, Some, is_some, refl}
use Rattle.std.proofs.lemmas.Bool.{and_parts, not-true, or_cases, or_left, or_right}
use Rattle.std.specs.List.{list_any}
use Rattle.jc_facts.specs.declared.class_facts.ClassFacts.{ClassFacts}
use Rattle.jc_facts.specs.Names.{Bytes}
use Rattle.jc_facts.specs.world.Assignment.{is_class_assignable}
use Rattle.jc_facts.specs.world.Hierarchy.{in_chain}
use Rattle.jc_facts.specs.world.Loading.{load_fault, loads}
use Rattle.jc_facts.specs.world.World.{World, classes}
use Rattle.jc_promises.specs.rule.Bases.{is_class_usable, is_kept}
use Rattle.jc_promises.specs.rule.Exposed.{is_exposed, is_hidden}
use Rattle.jc_promises.specs.rule.Findings.{takes_part}
use Rattle.jc_promises.specs.rule.OpenActs.{first_seat}
use Rattle.jc_lemmas.proofs.Listed.{Passes, any_passes}
use Rattle.jc_lemmas.proofs.Options.{none_where}
use Rattle.jc_sound.proofs.OpenActs.{first_seat-passes}
use Rattle.jc_sound.proofs.Standing.{usable_parts}
use Rattle.jc_calls.specs.Joins.{is_found, is_join, is_joined, join_lost, joins_for}

-- both load with the old side, the one above the other; clients may hold values of the one, which aren't assignable to the other any more
pub record IsParted (O N : World) (x t : Bytes) : Type 0 where
  pub hidden : is_hidden O t ≡ true
  pub target_loads : load_fault O t ≡ None
  pub held : (is_kept O N x || is_hidden O x) ≡ true
  pub class_loads : load_fault O x ≡ None
  pub above : in_chain O x t ≡ true
  pub left : is_class_assignable N x t ≡ false

hidden_loads : (O : World) (x : Bytes) → is_hidden O x ≡ true → load_fault O x ≡ None
unfolding is_hidden
hidden_loads O x h = none_where (load_fault O x) (and_parts (loads O x) (not (is_class_usable O x)) h).0

kept_loads : (O N : World) (x : Bytes) → is_kept O N x ≡ true → load_fault O x ≡ None
unfolding is_kept
kept_loads O N x h = (usable_parts O x (and_parts (is_class_usable O x) (is_class_usable N x) h).0).loaded

exposed_hidden : (O : World) (a x : Bytes) → is_exposed O a x ≡ true → is_hidden O x ≡ true
unfolding is_exposed
exposed_hidden O a x h = (and_parts (is_hidden O x) _ h).0

pub parted : (O N : World) (x t : Bytes) → join_lost O N x t ≡ true → IsParted O N x t
unfolding join_lost
parted O N x t h = go (first_seat O N (joins_for O N x t)) refl c.1
  where
    a : ((is_hidden O t && is_joined O N x t && not (is_class_assignable N x t)) ≡ true) × (not (is_found O N x t) ≡ true)
    a = and_parts (is_hidden O t && is_joined O N x t && not (is_class_assignable N x t)) (not (is_found O N x t)) h

    b : ((is_hidden O t && is_joined O N x t) ≡ true) × (not (is_class_assignable N x t) ≡ true)
    b = and_parts (is_hidden O t && is_joined O N x t) (not (is_class_assignable N x t)) a.0

    c : (is_hidden O t ≡ true) × (is_joined O N x t ≡ true)
    c = and_parts (is_hidden O t) (is_joined O N x t) b.0

    made : (is_kept O N x || is_hidden O x) ≡ true → load_fault O x ≡ None → in_chain O x t ≡ true → IsParted O N x t
    made p l i = record { hidden = c.0; target_loads = hidden_loads O t c.0; held = p; class_loads = l; above = i; left = not-true (is_class_assignable N x t) b.1 }

    by : (p : Bytes) → first_seat O N (joins_for O N x t) ≡ Some p → IsParted O N x t
    by p e = part (or_cases (is_kept O N x) (is_exposed O p x) d.0)
      where
        d : (takes_part O N p x ≡ true) × (list_any (λ y. takes_part O N p y.name && is_join O x y.name t) (classes O) ≡ true)
        d = and_parts (takes_part O N p x) (list_any (λ y. takes_part O N p y.name && is_join O x y.name t) (classes O)) (first_seat-passes O N (joins_for O N x t) p e)

        w : Passes (λ (y : ClassFacts). takes_part O N p y.name && is_join O x y.name t) (classes O)
        w = any_passes (λ (y : ClassFacts). takes_part O N p y.name && is_join O x y.name t) (classes O) d.1

        above : in_chain O x t ≡ true
        above =
            let j = (and_parts (takes_part O N p w.one.name) (is_join O x w.one.name t) w.passes).1 in
            let k = and_parts (in_chain O x t && in_chain O w.one.name t) _ j in
            (and_parts (in_chain O x t) (in_chain O w.one.name t) k.0).0

        part : (is_kept O N x ≡ true) ⊎ (is_exposed O p x ≡ true) → IsParted O N x t
        part (inl k) = made (or_left (is_kept O N x) (is_hidden O x) k) (kept_loads O N x k) above
        part (inr q) = let q : is_hidden O x ≡ true = exposed_hidden O p x q in made (or_right (is_kept O N x) (is_hidden O x) q) (hidden_loads O x q) above

    go : (o : Option Bytes) → first_seat O N (joins_for O N x t) ≡ o → is_some o ≡ true → IsParted O N x t
    go (Some p) e i = by p e
    go None e i = absurd (cc)
