-- Classes of which clients can hold values load on both sides; the seats of hidden ones; and interfaces above classes.
--     some_seat, seat_of_some      where a seat passes there is a first one, and the first one passes
--     with_some, some_with      a seat to which the one class is exposed and with which the other takes part
use Rattle.std.proofs.Common.{◌≡◌, Bool, true, not, refl, sym, ◌∙◌, ap, subst, List, Option, Some, None, is_some, is_none, ◌&&◌, ◌⊎◌, inl, inr}
use Rattle.std.specs.List.{list_any}
use Rattle.std.proofs.lemmas.Bool.{and_parts, and_from, or_cases, or_left}
use Rattle.jc_facts.specs.declared.class_facts.ClassFacts.{ClassFacts}
use Rattle.jc_facts.specs.Names.{Bytes, same, object_name}
use Rattle.jc_facts.specs.Flags.{interface_flag}
use Rattle.jc_facts.specs.Options.{some_and}
use Rattle.jc_promises.specs.rule.Bases.{is_class_usable, is_kept, is_base_class}
use Rattle.jc_promises.specs.rule.Exposed.{is_hidden, references, exposes, is_exposed}
use Rattle.jc_promises.specs.rule.Findings.{takes_part}
use Rattle.jc_promises.specs.rule.OpenActs.{first_seat}
use Rattle.jc_facts.specs.world.Loading.{load_fault}
use Rattle.jc_facts.specs.world.Assignment.{is_interface_of}
use Rattle.jc_facts.specs.world.Hierarchy.{superinterfaces, is_superinterface}
use Rattle.jc_facts.specs.world.World.{World, find_class, class_named}
use Rattle.jc_dropped.specs.Dropped.{is_exposed_to_some, stays_exposed, is_held, is_exposed_with}
use Rattle.jc_lemmas.proofs.Bools.{contradicts}
use Rattle.jc_lemmas.proofs.Listed.{any_passes, each_in}
use Rattle.jc_lemmas.proofs.Options.{none_where}
use Rattle.jc_facts.proofs.Same.{same_is}
use Rattle.jc_facts.proofs.World.{find-name}
use Rattle.jc_worlds.proofs.Above.{superinterfaces-each}
use Rattle.jc_worlds.proofs.Clients.{Fits}
use Rattle.jc_worlds.proofs.Loaded.{loads-found}
use Rattle.jc_sound.proofs.OpenActs.{IsSeat, first_seat-passes, first_seat-none}
use Rattle.jc_sound.proofs.Standing.{usable_parts}
use Rattle.jc_complete.proofs.PlanBase.{base_parts}
use Rattle.jc_complete.proofs.PlanRules.{first_seat-is}

-- a class that is exposed is hidden
pub exposed_hidden : (O N : World) (x : Bytes) → is_exposed_to_some O N x ≡ true → is_hidden O x ≡ true
unfolding is_exposed
exposed_hidden O N x h = go (first_seat O N (λ a. is_exposed O a x)) refl h
  where
    go : (o : Option Bytes) → first_seat O N (λ a. is_exposed O a x) ≡ o → is_some o ≡ true → is_hidden O x ≡ true
    go None e k = absurd (cc)
    go (Some a) e k = (and_parts (is_hidden O x) (list_any (exposes O a x) (references O)) (first_seat-passes O N (λ a. is_exposed O a x) a e)).0

pub stays_loaded : (O N : World) (x : Bytes) → stays_exposed O N x ≡ true → (load_fault O x ≡ None) × (load_fault N x ≡ None)
unfolding stays_exposed is_hidden
stays_loaded O N x h =
    let p = and_parts (is_exposed_to_some O N x) (is_none (load_fault N x)) h in
    let q = and_parts (is_none (load_fault O x)) (not (is_class_usable O x)) (exposed_hidden O N x p.0) in
    (none_where (load_fault O x) q.0, none_where (load_fault N x) p.1)

pub held_loads : (O N : World) (x : Bytes) → is_held O N x ≡ true → (load_fault O x ≡ None) × (load_fault N x ≡ None)
unfolding is_held is_kept
held_loads O N x h = go (or_cases (is_kept O N x) (stays_exposed O N x) h)
  where
    go : (is_kept O N x ≡ true) ⊎ (stays_exposed O N x ≡ true) → (load_fault O x ≡ None) × (load_fault N x ≡ None)
    go (inl k) = let u = and_parts (is_class_usable O x) (is_class_usable N x) k in ((usable_parts O x u.0).loaded, (usable_parts N x u.1).loaded)
    go (inr e) = stays_loaded O N x e

-- ---- seats

pub some_seat : (O N : World) (test : Bytes → Bool) (a : Bytes) → IsSeat O N a → test a ≡ true → is_some (first_seat O N test) ≡ true
some_seat O N test a seat passes = go (first_seat O N test) refl
  where
    go : (o : Option Bytes) → first_seat O N test ≡ o → is_some o ≡ true
    go (Some b) e = refl
    go None e = absurd (contradicts (test a) passes (first_seat-none O N test e a seat))

pub seat_of_some : (O N : World) (test : Bytes → Bool) → is_some (first_seat O N test) ≡ true → (a : Bytes) × IsSeat O N a × (test a ≡ true)
seat_of_some O N test h = go (first_seat O N test) refl h
  where
    there : (a : Bytes) → (a ≡ object_name) ⊎ (is_base_class O N a ≡ true) → IsSeat O N a
    there a (inl e) = inl e
    there a (inr b) = let p = base_parts O N a b in inr (b, (p.was.class, p.was.is_there))

    go : (o : Option Bytes) → first_seat O N test ≡ o → is_some o ≡ true → (a : Bytes) × IsSeat O N a × (test a ≡ true)
    go None e k = absurd (cc)
    go (Some a) e k = let s = first_seat-is O N test a e in (a, there a s.0, s.1)

-- a seat to which t is exposed and with which x takes part
pub with_some : (O N : World) (x t : Bytes) → is_exposed_with O N x t ≡ true → (a : Bytes) × IsSeat O N a × (is_exposed O a t ≡ true) × (takes_part O N a x ≡ true)
unfolding is_exposed_with
with_some O N x t h =
    let s = seat_of_some O N (λ a. is_exposed O a t && takes_part O N a x) h in
    let p = and_parts (is_exposed O s.0 t) (takes_part O N s.0 x) s.2 in
    (s.0, s.1, p.0, p.1)

pub some_with : (O N : World) (x t a : Bytes) → IsSeat O N a → is_exposed O a t ≡ true → takes_part O N a x ≡ true → is_exposed_with O N x t ≡ true
unfolding is_exposed_with
some_with O N x t a seat e p = some_seat O N (λ a. is_exposed O a t && takes_part O N a x) a seat (and_from (is_exposed O a t) (takes_part O N a x) e p)

-- a kept class takes part with each seat
pub exposed_with : (O N : World) (x t : Bytes) → is_kept O N x ≡ true → is_exposed_to_some O N t ≡ true → is_exposed_with O N x t ≡ true
exposed_with O N x t kept h =
    let s = seat_of_some O N (λ a. is_exposed O a t) h in
    some_with O N x t s.0 s.1 s.2 (or_left (is_kept O N x) (is_exposed O s.0 x) kept)

-- ---- interfaces

-- an interface above a class that loads
pub above_is_interface : (W : World) (x t : Bytes) → load_fault W x ≡ None → is_superinterface W x t ≡ true → is_interface_of W t ≡ true
above_is_interface W x t l h =
    let p = any_passes (λ (c : ClassFacts). same c.name t) (superinterfaces W x) h in
    let i : is_interface_of W p.one.name ≡ true = each_in (λ (c : ClassFacts). is_interface_of W c.name ≡ true) (superinterfaces W x) p.one (superinterfaces-each W (λ (c : ClassFacts). is_interface_of W c.name ≡ true) named x l) p.is_in in
    subst (λ z. is_interface_of W z ≡ true) (same_is p.one.name t p.passes) i
  where
    named : (y : Bytes) (c : ClassFacts) → find_class W y ≡ Some c → load_fault W y ≡ None → interface_flag c.flags ≡ true → is_interface_of W c.name ≡ true
    named y c f k i = ap (some_and (λ (d : ClassFacts). interface_flag d.flags)) (ap (find_class W) (find-name W y c f) ∙ f) ∙ i

-- of a hidden class of the old side no client has the name
pub no_client : (O N : World) (cs : List ClassFacts) (fo : Fits O cs) (t : Bytes) → is_exposed_to_some O N t ≡ true → class_named cs t ≡ None
unfolding is_hidden
no_client O N cs fo t h = go (class_named cs t) refl
  where
    c : (c : ClassFacts) × (find_class O t ≡ Some c)
    c = loads-found O t (none_where (load_fault O t) (and_parts (is_none (load_fault O t)) (not (is_class_usable O t)) (exposed_hidden O N t h)).0)

    go : (o : Option ClassFacts) → class_named cs t ≡ o → o ≡ None
    go None e = refl
    go (Some d) e = absurd (let clash : None ≡ Some c.0 = sym (fo.undeclared t d e) ∙ c.1 in cc)
