-- Lists of classes of which one is a part of the other, and what lies behind both.
use Rattle.std.proofs.Common.{◌≡◌, Bool, true, false, cond, List, [], ◌∷◌, ◌++◌, ◌||◌, refl, sym, ◌∙◌, ap, Option, Some, None, is_some}
use Rattle.std.specs.List.{Contains, list_any, filter}
use Rattle.std.proofs.lemmas.Bool.{both_ways}
use Rattle.std.proofs.lemmas.List.Elements.{Contains-append_left, Contains-append_right}
use Rattle.jc_facts.specs.declared.class_facts.ClassFacts.{ClassFacts}
use Rattle.jc_facts.specs.Names.{Bytes, same}
use Rattle.jc_facts.specs.world.World.{class_named}
use Rattle.jc_facts.proofs.Same.{same_is}
use Rattle.jc_facts.proofs.World.{class_named-first}
use Rattle.jc_lemmas.proofs.Listed.{EachOf, EachOf-map, EachOf-append, each_from, each_in, any_passes, any_has}
use Rattle.jc_worlds.proofs.Absent.{class_named-back}

-- ---- what both have

-- lists that have the same class of a name, before others
pub same_front : (cs ds es : List ClassFacts) (x : Bytes) → class_named cs x ≡ class_named ds x → class_named (cs ++ es) x ≡ class_named (ds ++ es) x
same_front cs ds es x e = go (class_named cs x) refl
  where
    go : (o : Option ClassFacts) → class_named cs x ≡ o → class_named (cs ++ es) x ≡ class_named (ds ++ es) x
    go None u = class_named-back cs es x u ∙ sym (class_named-back ds es x (sym e ∙ u))
    go (Some c) u = class_named-first cs es x (ap is_some u) ∙ e ∙ sym (class_named-first ds es x (ap is_some (sym e ∙ u)))

-- those of the classes whose names pass are found as among all
pub class_named-filter : (S : Bytes → Bool) (cs : List ClassFacts) (x : Bytes) → S x ≡ true → class_named (filter (λ c. S c.name) cs) x ≡ class_named cs x
unfolding class_named
class_named-filter S [] x s = refl
class_named-filter S (c ∷ cs) x s = go (same c.name x) refl (S c.name) refl (class_named-filter S cs x s)
  where
    go : (b : Bool) → same c.name x ≡ b → (t : Bool) → S c.name ≡ t → class_named (filter (λ c. S c.name) cs) x ≡ class_named cs x
        → class_named (cond t (c ∷ filter (λ c. S c.name) cs) (filter (λ c. S c.name) cs)) x ≡ cond b (Some c) (class_named cs x)
    go true e true p r = ap (λ (t : Bool). cond t (Some c) (class_named (filter (λ c. S c.name) cs) x)) e
    go true e false p r = absurd (both_ways (S c.name) p (ap S (same_is c.name x e) ∙ s))
    go false e true p r = ap (λ (t : Bool). cond t (Some c) (class_named (filter (λ c. S c.name) cs) x)) e ∙ r
    go false e false p r = r

-- ---- a part

-- each of the first is one of the second
abbrev pub Within : List ClassFacts → List ClassFacts → Type 0
Within ds cs = EachOf (Contains ds) cs

pub within_behind : (ds cs es : List ClassFacts) → Within ds cs → Within (ds ++ es) (cs ++ es)
within_behind ds cs es w =
    EachOf-append (Contains (ds ++ es)) cs es
    (EachOf-map (λ c k. Contains-append_left ds es c k) cs w)
    (each_from (Contains (ds ++ es)) es (λ c k. Contains-append_right ds es c k))

-- what none of the larger list passes, none of the part does
pub within_not : (p : ClassFacts → Bool) (ds cs : List ClassFacts) → Within ds cs → list_any p ds ≡ false → list_any p cs ≡ false
within_not p ds cs w h = go (list_any p cs) refl
  where
    go : (b : Bool) → list_any p cs ≡ b → b ≡ false
    go true e =
        let f = any_passes p cs e in
        absurd (both_ways (list_any p ds) h (any_has p ds f.one (each_in (Contains ds) cs f.one w f.is_in) f.passes))
    go false e = refl

-- a name is found where a class has it
pub named_any : (cs : List ClassFacts) (x : Bytes) → is_some (class_named cs x) ≡ list_any (λ c. same c.name x) cs
unfolding class_named
named_any [] x = refl
named_any (c ∷ cs) x = go (same c.name x) (named_any cs x)
  where
    go : (b : Bool) → is_some (class_named cs x) ≡ list_any (λ c. same c.name x) cs → is_some (cond b (Some c) (class_named cs x)) ≡ (b || list_any (λ c. same c.name x) cs)
    go true r = refl
    go false r = r
