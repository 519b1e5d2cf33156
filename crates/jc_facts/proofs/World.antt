-- Finding a class by its name.
use Rattle.std.proofs.Common.{◌≡◌, suc, Bool, true, false, cond, List, [], ◌∷◌, length, refl, sym, ◌∙◌, ap, subst, Some, ◌++◌, is_some, is_none, None, ◌||◌}
use Rattle.jc_facts.specs.declared.class_facts.ClassFacts.{ClassFacts}
use Rattle.jc_facts.specs.Names.{Bytes, same}
use Rattle.jc_facts.specs.world.World.{World, class_named, differ_by_name, find_class, size, classes}
use Rattle.jc_lemmas.proofs.Listed.{EachOf, EachOf-both, each_of}
use Rattle.jc_facts.proofs.Same.{same_is, same_itself}
use Rattle.std.specs.List.{list_any}
use Rattle.std.proofs.lemmas.Bool.{and_parts, or_left, or_right}

abbrev pub names : List ClassFacts → List Bytes
names [] = []
names (c ∷ cs) = c.name ∷ names cs

pub length-names : (cs : List ClassFacts) → length (names cs) ≡ length cs
length-names [] = refl
length-names (c ∷ cs) = ap suc (length-names cs)

-- the class found has the name
pub class_named-name : (cs : List ClassFacts) (x : Bytes) (c : ClassFacts) → class_named cs x ≡ Some c → c.name ≡ x
unfolding class_named
class_named-name [] x c e = cc
class_named-name (d ∷ cs) x c e = go (same d.name x) refl (class_named-name cs x c) e
  where
    go : (b : Bool) → same d.name x ≡ b → (class_named cs x ≡ Some c → c.name ≡ x) → cond b (Some d) (class_named cs x) ≡ Some c → c.name ≡ x
    go true p r q = let k : d ≡ c = cc in ap (λ t. t.name) (sym k) ∙ same_is d.name x p
    go false p r q = r q

-- what holds of each class's name holds of the name of a class that is found
pub EachOf-class_named : (P : Bytes → Type 0) (cs : List ClassFacts) (x : Bytes) (c : ClassFacts) → class_named cs x ≡ Some c → EachOf P (names cs) → P x
unfolding class_named
EachOf-class_named P [] x c e h = absurd (cc)
EachOf-class_named P (d ∷ cs) x c e h = go (same d.name x) refl (λ q. EachOf-class_named P cs x c q h.1) e
  where
    go : (b : Bool) → same d.name x ≡ b → (class_named cs x ≡ Some c → P x) → cond b (Some d) (class_named cs x) ≡ Some c → P x
    go true p r q = subst P (same_is d.name x p) h.0
    go false p r q = r q

pub find-name : (W : World) (x : Bytes) (c : ClassFacts) → find_class W x ≡ Some c → c.name ≡ x
unfolding find_class
find-name W x c e = class_named-name (classes W) x c e

pub found_name : (W : World) (x : Bytes) (c : ClassFacts) → Some c ≡ find_class W x → c.name ≡ x
found_name W x c e = find-name W x c (sym e)

pub EachOf-find : (P : Bytes → Type 0) (W : World) (x : Bytes) (c : ClassFacts) → find_class W x ≡ Some c → EachOf P (names (classes W)) → P x
unfolding find_class
EachOf-find P W x c e h = EachOf-class_named P (classes W) x c e h

pub size-names : (W : World) → length (names (classes W)) ≡ size W
unfolding size
size-names W = length-names (classes W)

pub class_named-first : (cs ds : List ClassFacts) (x : Bytes) → is_some (class_named cs x) ≡ true → class_named (cs ++ ds) x ≡ class_named cs x
unfolding class_named
class_named-first [] ds x h = absurd (cc)
class_named-first (c ∷ cs) ds x h = go (same c.name x) h (class_named-first cs ds x)
  where
    go : (b : Bool) → is_some (cond b (Some c) (class_named cs x)) ≡ true → (is_some (class_named cs x) ≡ true → class_named (cs ++ ds) x ≡ class_named cs x) → cond b (Some c) (class_named (cs ++ ds) x) ≡ cond b (Some c) (class_named cs x)
    go true q r = refl
    go false q r = r q

-- what the platform has under a name the world has
pub find-platform : (W : World) (x : Bytes) → is_some (class_named W.platform x) ≡ true → find_class W x ≡ class_named W.platform x
unfolding find_class
find-platform W x h =
    let first = class_named-first W.platform W.release x h in
    class_named-first (W.platform ++ W.release) W.clients x (ap is_some first ∙ h) ∙ first

pub class_named-each : (P : ClassFacts → Type 0) (cs : List ClassFacts) (x : Bytes) (c : ClassFacts) → EachOf P cs → class_named cs x ≡ Some c → P c
unfolding class_named
class_named-each P [] x c h e = absurd (cc)
class_named-each P (d ∷ cs) x c h e = go (same d.name x) e (class_named-each P cs x c h.1)
  where
    go : (b : Bool) → cond b (Some d) (class_named cs x) ≡ Some c → (class_named cs x ≡ Some c → P c) → P c
    go true q r = let k : d ≡ c = cc in subst P k h.0
    go false q r = r q

pub class_named-front : (cs ds : List ClassFacts) (x : Bytes) → class_named ds x ≡ None → class_named (cs ++ ds) x ≡ class_named cs x
unfolding class_named
class_named-front [] ds x h = h
class_named-front (c ∷ cs) ds x h = rw (class_named-front cs ds x h) refl

-- the world has the class under its name
abbrev pub IsOf : World → ClassFacts → Type 0
IsOf W c = find_class W c.name ≡ Some c

-- a class that is found by its name is one that passes
pub any-named : (p : ClassFacts → Bool) (cs : List ClassFacts) (x : Bytes) (c : ClassFacts) → class_named cs x ≡ Some c → p c ≡ true → list_any p cs ≡ true
unfolding class_named
any-named p [] x c e h = absurd (cc)
any-named p (d ∷ cs) x c e h = go (same d.name x) e (any-named p cs x c)
  where
    go : (b : Bool) → cond b (Some d) (class_named cs x) ≡ Some c → (class_named cs x ≡ Some c → p c ≡ true → list_any p cs ≡ true) → (p d || list_any p cs) ≡ true
    go true q r = let k : d ≡ c = cc in or_left (p d) (list_any p cs) (ap p k ∙ h)
    go false q r = or_right (p d) (list_any p cs) (r q h)

-- where no two classes have one name, each is the class of its name
pub each_named : (cs : List ClassFacts) → differ_by_name cs ≡ true → EachOf (λ c. class_named cs c.name ≡ Some c) cs
unfolding differ_by_name class_named
each_named [] h = tt
each_named (c ∷ cs) h = (
  ap (λ (b : Bool). cond b (Some c) (class_named cs c.name)) (same_itself c.name),
  EachOf-both further cs (each_named cs parts.1) (each_of (λ d. c ≡ c) (λ d. refl) cs),
)
  where
    parts : (is_none (class_named cs c.name) ≡ true) × (differ_by_name cs ≡ true)
    parts = and_parts (is_none (class_named cs c.name)) (differ_by_name cs) h

    further : (d : ClassFacts) → class_named cs d.name ≡ Some d → c ≡ c → cond (same c.name d.name) (Some c) (class_named cs d.name) ≡ Some d
    further d e u = go (same c.name d.name) refl
      where
        go : (b : Bool) → same c.name d.name ≡ b → cond b (Some c) (class_named cs d.name) ≡ Some d
        go true s = absurd (let z : false ≡ true = sym (ap is_none (ap (class_named cs) (same_is c.name d.name s) ∙ e)) ∙ parts.0 in cc)
        go false s = e
