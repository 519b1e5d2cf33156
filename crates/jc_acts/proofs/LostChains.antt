-- What the chain of a class lost that the new side doesn't have, or that is the same on both sides.
use Rattle.std.proofs.Common.{◌≡◌, ◌<◌, ◌-◌, ℕ, suc, Bool, true, false, not, ◌||◌, ◌&&◌, List, [], ◌∷◌, refl, sym, ◌∙◌, ap, Some, None, arith}
use Rattle.std.specs.List.{list_any}
use Rattle.std.proofs.lemmas.Bool.{and_parts, not-true, or_right}
use Rattle.std.proofs.Math.Bool.{and-true}
use Rattle.jc_facts.specs.declared.class_facts.ClassFacts.{ClassFacts}
use Rattle.jc_facts.specs.Names.{Bytes, same}
use Rattle.jc_facts.specs.world.World.{World, find_class, size}
use Rattle.jc_facts.specs.world.Hierarchy.{chain, in_chain, names_in}
use Rattle.jc_facts.specs.world.Loading.{load_fault, loads}
use Rattle.jc_facts.proofs.Same.{same_itself}
use Rattle.jc_worlds.proofs.Chains.{none_above}
use Rattle.jc_index.specs.Ids.{name_at}
use Rattle.jc_index.proofs.Numbers.{is_none-None}
use Rattle.jc_sides.specs.SidesOf.{SidesOf, AreSides}
use Rattle.jc_acts.specs.Seats.{loses_class, may_be_closed}
use Rattle.jc_acts.specs.Touched.{left_chain_of, AreSet, flag_at}
use Rattle.jc_acts.proofs.Untouched.{looks_alike}
use Rattle.jc_acts.proofs.Upwards.{any-from, any-here}

-- one that is absent on the new side lost itself
pub gone_loses : (s : SidesOf) (id : ℕ) (c : ClassFacts) → id < size s.old → Some c ≡ find_class s.old (name_at s.old id) → find_class s.new (name_at s.old id) ≡ None → true ≡ loses_class s (name_at s.old id)
gone_loses s id c l f a =
    let test : ClassFacts → Bool = λ d. not (in_chain s.new (name_at s.old id) d.name) in
    let e : size s.old ≡ suc (size s.old - 1) = omega arith in
    sym (any-from s.old test id (size s.old) refl ∙ any-here s.old test (size s.old) (size s.old - 1) id (Some id) c e refl f (ap not (none_above s.new (name_at s.old id) c.name a)))

-- no class of a list is outside of it
all_in : (cs ds : List ClassFacts) → ((y : Bytes) → names_in ds y ≡ true → names_in cs y ≡ true) → list_any (λ d. not (names_in cs d.name)) ds ≡ false
all_in cs [] h = refl
all_in cs (d ∷ ds) h = rw (h d.name (ap (λ b. b || names_in ds d.name) (same_itself d.name))) (all_in cs ds (λ y q. h y (or_right (same d.name y) _ q)))

-- the same chain has lost none
pub same_loses : (s : SidesOf) (x : Bytes) → chain s.old x ≡ chain s.new x → false ≡ loses_class s x
same_loses s x e = sym (ap (λ ds. list_any (λ d. not (in_chain s.new x d.name)) ds) e ∙ all_in (chain s.new x) (chain s.new x) (λ y q. q))

-- nor has that of a class that loads still and of which nothing changed
pub unchanged_loses : (s : SidesOf) → AreSides s → (x : Bytes) (b : Bool) → b ≡ true → b ≡ (not (may_be_closed s x) && loads s.new x) → false ≡ loses_class s x
unchanged_loses s are x b t e =
    let p = and_parts (not (may_be_closed s x)) (loads s.new x) (sym e ∙ t) in
    same_loses s x (looks_alike s are x (not-true (may_be_closed s x) p.0) (is_none-None (load_fault s.new x) p.1)).chain

-- flags that are set by two tests which tell the same
pub set_as : (W : World) (p q : Bytes → Bool) (before after : List Bool) → ((y : Bytes) → p y ≡ q y) → AreSet W p before after → AreSet W q before after
set_as W p q before after same s = record { count = s.count; each = λ n l. s.each n l ∙ ap (λ b. flag_at before n || b) (same (name_at W n)) }

-- all of a chain
pub all_left : (W : World) (x : Bytes) (before after : List Bool) → AreSet W (λ y. in_chain W x y && true) before after → AreSet W (in_chain W x) before after
all_left W x before after s = set_as W (λ y. in_chain W x y && true) (in_chain W x) before after (λ y. and-true (in_chain W x y)) s

-- all of the chain of a class that is absent on the new side left it
pub gone_left : (s : SidesOf) (x : Bytes) (before after : List Bool) → find_class s.new x ≡ None → AreSet s.old (in_chain s.old x) before after → AreSet s.old (λ y. left_chain_of s y x) before after
gone_left s x before after a set =
    set_as s.old (in_chain s.old x) (λ y. left_chain_of s y x) before after (λ y. sym (ap (λ b. in_chain s.old x y && not b) (none_above s.new x y a) ∙ and-true (in_chain s.old x y))) set
