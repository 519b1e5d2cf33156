-- A client with an allowed name shares no package, and so no nest, with a class of the side.
use Rattle.std.proofs.Common.{◌≡◌, Bool, true, false, cond, refl, sym, ◌∙◌, ap, Option, Some, None, is_some, not, ◌&&◌, nat_le, length}
use Rattle.std.proofs.lemmas.Bool.{and_parts, not-true, both_ways}
use Rattle.std.specs.Str.{is_utf8}
use Rattle.jc_facts.specs.declared.class_facts.ClassFacts.{ClassFacts}
use Rattle.jc_facts.specs.Names.{Bytes, package_name, in_same_package, is_name_among}
use Rattle.jc_facts.specs.world.World.{World, find_class, classes}
use Rattle.jc_facts.specs.world.Access.{host_of, are_nestmates}
use Rattle.jc_facts.specs.client.Allowed.{is_allowed_name, has_package}
use Rattle.jc_facts.specs.world.Mentioned.{is_named_above}
use Rattle.jc_facts.proofs.Same.{same_is, same_itself}
use Rattle.jc_lemmas.proofs.Options.{none_from}
use Rattle.jc_facts.proofs.World.{any-named}

pub record AllowedParts (W : World) (x : Bytes) : Type 0 where
  pub absent : find_class W x ≡ None
  pub unused : is_named_above W x ≡ false
  pub apart : has_package W x ≡ false

pub allowed_parts : (W : World) (x : Bytes) → is_allowed_name W x ≡ true → AllowedParts W x
unfolding is_allowed_name
allowed_parts W x h =
    let a = and_parts (not (is_some (find_class W x)) && not (is_named_above W x) && not (has_package W x) && nat_le (length x) 4090) (is_utf8 x) h in
    let b = and_parts (not (is_some (find_class W x)) && not (is_named_above W x) && not (has_package W x)) (nat_le (length x) 4090) a.0 in
    let c = and_parts (not (is_some (find_class W x)) && not (is_named_above W x)) (not (has_package W x)) b.0 in
    let d = and_parts (not (is_some (find_class W x))) (not (is_named_above W x)) c.0 in
    record { absent = none_from (find_class W x) (not-true (is_some (find_class W x)) d.0); unused = not-true (is_named_above W x) d.1; apart = not-true (has_package W x) c.1 }

pub same_package_is : (x y : Bytes) → in_same_package x y ≡ true → package_name x ≡ package_name y
same_package_is x y h = same_is (package_name x) (package_name y) h

-- no class of the side is of the client's package
pub package_apart : (W : World) (x y : Bytes) (d : ClassFacts) → has_package W x ≡ false → find_class W y ≡ Some d → package_name x ≡ package_name d.name → ⊥
unfolding find_class
package_apart W x y d h e p =
    let q : in_same_package d.name x ≡ true = rw p (same_itself (package_name d.name)) in
    both_ways (has_package W x) h (any-named (λ c. in_same_package c.name x) (classes W) y d e q)

pub same_package_apart : (W : World) (x y : Bytes) (d : ClassFacts) → has_package W x ≡ false → find_class W y ≡ Some d → in_same_package x d.name ≡ false
same_package_apart W x y d h e = go (in_same_package x d.name) refl
  where
    go : (b : Bool) → in_same_package x d.name ≡ b → b ≡ false
    go true p = absurd (package_apart W x y d h e (same_package_is x d.name p))
    go false p = refl

-- a nest host is of the class's package
pub host-package : (W : World) (x : Bytes) → package_name (host_of W x) ≡ package_name x
unfolding host_of
host-package W x = by_class (find_class W x)
  where
    pick : Bytes → Bool → Bool → Bytes
    pick h a b = cond (a && b) h x

    by_test : (h : Bytes) (a b : Bool) → in_same_package x h ≡ a → package_name (pick h a b) ≡ package_name x
    by_test h true true e = sym (same_package_is x h e)
    by_test h true false e = refl
    by_test h false b e = refl

    named : Bytes → Option ClassFacts → Bytes
    named h o = elim o [ None ↦ x | Some d ↦ cond (in_same_package x h && is_name_among d.nest_members x) h x ]

    by_named : (h : Bytes) (o : Option ClassFacts) → package_name (named h o) ≡ package_name x
    by_named h None = refl
    by_named h (Some d) = by_test h (in_same_package x h) (is_name_among d.nest_members x) refl

    host : Option Bytes → Bytes
    host o = elim o [ None ↦ x | Some h ↦ named h (find_class W h) ]

    by_host : (o : Option Bytes) → package_name (host o) ≡ package_name x
    by_host None = refl
    by_host (Some h) = by_named h (find_class W h)

    class : Option ClassFacts → Bytes
    class o = elim o [ None ↦ x | Some c ↦ host c.nest_host ]

    by_class : (o : Option ClassFacts) → package_name (class o) ≡ package_name x
    by_class None = refl
    by_class (Some c) = by_host c.nest_host

-- classes of different packages are in different nests
pub same_nest-package : (W : World) (x y : Bytes) → are_nestmates W x y ≡ true → package_name x ≡ package_name y
same_nest-package W x y h = sym (host-package W x) ∙ ap package_name (same_is (host_of W x) (host_of W y) h) ∙ host-package W y
