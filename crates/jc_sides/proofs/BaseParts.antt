-- What is known of a steady class, a base class and a base interface.
use Rattle.std.proofs.Common.{◌≡◌, Bool, true, false, not, refl, ◌∙◌, ap, Option, Some, None, ◌||◌, ◌&&◌, is_some}
use Rattle.std.proofs.lemmas.Bool.{and_parts, and_from, or_left, not-true}
use Rattle.jc_lemmas.proofs.Bools.{and_false, neither_first, neither_last}
use Rattle.jc_facts.specs.declared.class_facts.ClassFacts.{ClassFacts}
use Rattle.jc_facts.specs.Names.{Bytes}
use Rattle.jc_facts.specs.Flags.{interface_flag, final_flag}
use Rattle.jc_facts.specs.Options.{some_and}
use Rattle.jc_facts.specs.world.World.{find_class, class_is}
use Rattle.jc_facts.specs.world.Loading.{load_fault}
use Rattle.jc_facts.specs.world.Assignment.{is_interface_of}
use Rattle.jc_promises.specs.rule.Bases.{is_class_usable, is_kept, became_class, newly_sealed, is_steady, is_class_closed, is_extendable, is_implementable, is_base_class, is_base_interface, has_init, is_open}
use Rattle.jc_facts.specs.world.Inheritance.{public_or_protected}
use Rattle.jc_sides.specs.SidesOf.{SidesOf}
use Rattle.jc_sound.proofs.Standing.{usable_parts, class_is-there}

-- it is there and loads on both sides
pub record IsOnBoth (s : SidesOf) (x : Bytes) : Type 0 where
  pub there : is_some (find_class s.old x) ≡ true
  pub loads : load_fault s.old x ≡ None
  pub loads_now : load_fault s.new x ≡ None

pub kept_parts : (s : SidesOf) (x : Bytes) → is_kept s.old s.new x ≡ true → IsOnBoth s x
unfolding is_kept
kept_parts s x h =
    let q = and_parts (is_class_usable s.old x) (is_class_usable s.new x) h in
    record { there = ap is_some (usable_parts s.old x q.0).is_there; loads = (usable_parts s.old x q.0).loaded; loads_now = (usable_parts s.new x q.1).loaded }

pub record IsSteadyClass (s : SidesOf) (x : Bytes) : Type 0 where
  pub both : IsOnBoth s x
  pub kept : is_kept s.old s.new x ≡ true
  pub stayed : became_class s.old s.new x ≡ false

pub steady_parts : (s : SidesOf) (x : Bytes) → is_steady s.old s.new x ≡ true → IsSteadyClass s x
unfolding is_steady
steady_parts s x h =
    let p = and_parts (is_kept s.old s.new x) (not (became_class s.old s.new x)) h in
    record { both = kept_parts s x p.0; kept = p.0; stayed = not-true (became_class s.old s.new x) p.1 }

-- ---- base interfaces

pub record IsBaseInterface (s : SidesOf) (x : Bytes) : Type 0 where
  pub both : IsOnBoth s x
  pub interface : is_interface_of s.old x ≡ true
  pub interface_now : is_interface_of s.new x ≡ true

implementable_kind : (s : SidesOf) (x : Bytes) → is_implementable s.old s.new x ≡ true → is_interface_of s.old x ≡ true
unfolding is_implementable
implementable_kind s x h =
    let p = and_parts (is_class_usable s.old x) (class_is s.old (λ c. interface_flag c.flags && is_open s.old s.new c) x) h in
    let c = class_is-there s.old (λ c. interface_flag c.flags && is_open s.old s.new c) x p.1 in
    ap (some_and (λ d. interface_flag d.flags)) c.1 ∙ (and_parts (interface_flag c.0.flags) (is_open s.old s.new c.0) c.2).0

still : (k o n : Bool) → (k && o && not n) ≡ false → k ≡ true → o ≡ true → n ≡ true
still true true true h a b = refl
still true true false h a b = absurd (cc)
still true false n h a b = absurd (cc)
still false o n h a b = absurd (cc)

interface_stays : (s : SidesOf) (x : Bytes) → is_kept s.old s.new x ≡ true → became_class s.old s.new x ≡ false → is_interface_of s.old x ≡ true → is_interface_of s.new x ≡ true
unfolding became_class
interface_stays s x k t i = still (is_kept s.old s.new x) (is_interface_of s.old x) (is_interface_of s.new x) t k i

pub base_interface_parts : (s : SidesOf) (x : Bytes) → is_base_interface s.old s.new x ≡ true → IsBaseInterface s x
unfolding is_base_interface
base_interface_parts s x h =
    let p = and_parts (is_implementable s.old s.new x && is_steady s.old s.new x) (not (is_class_closed s.old s.new x)) h in
    let q = and_parts (is_implementable s.old s.new x) (is_steady s.old s.new x) p.0 in
    let t = steady_parts s x q.1 in
    let i = implementable_kind s x q.0 in
    record { both = t.both; interface = i; interface_now = interface_stays s x t.kept t.stayed i }

-- ---- base classes

pub record IsBaseClass (s : SidesOf) (x : Bytes) : Type 0 where
  pub both : IsOnBoth s x
  pub kind : is_interface_of s.old x ≡ false

extendable_kind : (s : SidesOf) (x : Bytes) → is_extendable s.old s.new x ≡ true → is_interface_of s.old x ≡ false
unfolding is_extendable
extendable_kind s x h =
    let p = and_parts (is_class_usable s.old x) (class_is s.old (λ c. not (interface_flag c.flags) && not (final_flag c.flags) && has_init c public_or_protected && is_open s.old s.new c) x) h in
    let c = class_is-there s.old (λ c. not (interface_flag c.flags) && not (final_flag c.flags) && has_init c public_or_protected && is_open s.old s.new c) x p.1 in
    let q = and_parts (not (interface_flag c.0.flags) && not (final_flag c.0.flags) && has_init c.0 public_or_protected) (is_open s.old s.new c.0) c.2 in
    let r = and_parts (not (interface_flag c.0.flags) && not (final_flag c.0.flags)) (has_init c.0 public_or_protected) q.0 in
    let t = and_parts (not (interface_flag c.0.flags)) (not (final_flag c.0.flags)) r.0 in
    ap (some_and (λ d. interface_flag d.flags)) c.1 ∙ not-true (interface_flag c.0.flags) t.0

pub base_class_parts : (s : SidesOf) (x : Bytes) → is_base_class s.old s.new x ≡ true → IsBaseClass s x
unfolding is_base_class
base_class_parts s x h =
    let p = and_parts (is_extendable s.old s.new x && is_steady s.old s.new x) (not (is_class_closed s.old s.new x)) h in
    let q = and_parts (is_extendable s.old s.new x) (is_steady s.old s.new x) p.0 in
    record { both = (steady_parts s x q.1).both; kind = extendable_kind s x q.0 }

-- what shuts clients out of a base class
abbrev shuts : SidesOf → ClassFacts → ClassFacts → Bool
shuts s c d = final_flag d.flags || (interface_flag d.flags && not (interface_flag c.flags)) || newly_sealed s.old s.new c d

apart : (i j : Bool) → (i && not j) ≡ false → j ≡ false → i ≡ false
apart true true p q = absurd (cc)
apart true false p q = p
apart false j p q = refl

-- a base class is no interface now
pub no_interface_now : (s : SidesOf) (x : Bytes) → is_base_class s.old s.new x ≡ true → is_interface_of s.new x ≡ false
unfolding is_base_class is_class_closed
no_interface_now s x h =
    let p = and_parts (is_extendable s.old s.new x && is_steady s.old s.new x) (not (is_class_closed s.old s.new x)) h in
    let q = and_parts (is_extendable s.old s.new x) (is_steady s.old s.new x) p.0 in
    let n : class_is s.old (λ c. class_is s.new (shuts s c) x) x ≡ false =
    and_false (is_steady s.old s.new x && (is_extendable s.old s.new x || is_implementable s.old s.new x)) (class_is s.old (λ c. class_is s.new (shuts s c) x) x) (not-true (is_class_closed s.old s.new x) p.1) (and_from (is_steady s.old s.new x) (is_extendable s.old s.new x || is_implementable s.old s.new x) q.1 (or_left (is_extendable s.old s.new x) (is_implementable s.old s.new x) q.0)) in
    let r = base_class_parts s x h in
    go (find_class s.old x) (find_class s.new x) r.both.there r.kind n
  where
    go : (a b : Option ClassFacts) → is_some a ≡ true → some_and (λ c. interface_flag c.flags) a ≡ false → some_and (λ c. some_and (shuts s c) b) a ≡ false → some_and (λ c. interface_flag c.flags) b ≡ false
    go None b t k n = absurd (let clash : false ≡ true = t in cc)
    go (Some c) None t k n = refl
    go (Some c) (Some d) t k n =
        apart (interface_flag d.flags) (interface_flag c.flags) (neither_last (final_flag d.flags) (interface_flag d.flags && not (interface_flag c.flags)) (neither_first (final_flag d.flags || (interface_flag d.flags && not (interface_flag c.flags))) (newly_sealed s.old s.new c d) n)) k
