-- A key of which there is a warning is declared above the class, on one of the sides.
use Rattle.std.proofs.Common.{◌≡◌, Bool, true, false, not, cond, List, [], ◌∷◌, ◌++◌, refl, sym, ◌∙◌, ap, Option, Some, None, is_some, ◌||◌, ◌⊎◌, inl, inr}
use Rattle.std.specs.List.{list_any, filter}
use Rattle.std.proofs.lemmas.Bool.{or_left, or_right}
use Rattle.jc_facts.specs.declared.class_facts.ClassFacts.{ClassFacts}
use Rattle.jc_facts.specs.declared.class_facts.Member.{Member}
use Rattle.jc_facts.specs.declared.key.Key.{Key}
use Rattle.jc_facts.specs.declared.warning.ChainKind.{ChainKind}
use Rattle.jc_facts.specs.declared.warning.ChainKind.TheVariants.{Nothing, Abstract, Concrete}
use Rattle.jc_facts.specs.declared.warning.WarnKind.{WarnKind}
use Rattle.jc_facts.specs.Names.{Bytes}
use Rattle.jc_facts.specs.Options.{some_and}
use Rattle.jc_facts.specs.world.Inheritance.{offers, is_inheritable}
use Rattle.jc_promises.specs.rule.Selection.{declares_abstract, first_kind, chain_kind}
use Rattle.jc_promises.specs.rule.Warnings.{interfaces_from, part, parts_agree, warn_kind, warning_at}
use Rattle.jc_facts.specs.world.Assignment.{is_interface_of}
use Rattle.jc_facts.specs.world.Hierarchy.{chain}
use Rattle.jc_facts.specs.world.World.{World, own_field_of, own_method_of}
use Rattle.jc_lemmas.proofs.Lists.{any_left, any_right}
use Rattle.jc_sound.specs.Findings.{declares_key}
use Rattle.jc_select.specs.steps.Kinds.{is_nothing}
use Rattle.jc_select.proofs.KindsWarned.{warned_parts}

-- one of a chain offers the key
kind-something : (k : Key) (cs : List ClassFacts) → is_nothing (first_kind k cs) ≡ false → list_any (offers k) cs ≡ true
unfolding first_kind
kind-something k [] e = absurd (let clash : true ≡ false = e in cc)
kind-something k (c ∷ cs) e = go (offers k c) (declares_abstract k c) e (kind-something k cs)
  where
    go : (a b : Bool) → is_nothing (cond a (cond b Abstract Concrete) (first_kind k cs)) ≡ false → (is_nothing (first_kind k cs) ≡ false → list_any (offers k) cs ≡ true) → (a || list_any (offers k) cs) ≡ true
    go true b q r = refl
    go false b q r = r q

chain_offers : (W : World) (x : Bytes) (k : Key) → is_nothing (chain_kind W x k) ≡ false → list_any (offers k) (chain W x) ≡ true
unfolding chain_kind
chain_offers W x k h = go (is_interface_of W x) h
  where
    go : (b : Bool) → is_nothing (cond b Nothing (first_kind k (chain W x))) ≡ false → list_any (offers k) (chain W x) ≡ true
    go true q = absurd (let clash : true ≡ false = q in cc)
    go false q = kind-something k (chain W x) q

-- parts that differ aren't both empty
none_left : (k : Key) (xs : List ClassFacts) → list_any (offers k) xs ≡ false → filter (offers k) xs ≡ []
none_left k [] h = refl
none_left k (c ∷ cs) h = go (offers k c) h (none_left k cs)
  where
    go : (b : Bool) → (b || list_any (offers k) cs) ≡ false → (list_any (offers k) cs ≡ false → filter (offers k) cs ≡ []) → cond b (c ∷ filter (offers k) cs) (filter (offers k) cs) ≡ []
    go true q r = absurd (let clash : true ≡ false = q in cc)
    go false q r = r q

one_left : (O N : World) (x : Bytes) (k : Key) → not (parts_agree O N k (part O x k) (part N x k)) ≡ true → (list_any (offers k) (interfaces_from O x) ≡ true) ⊎ (list_any (offers k) (interfaces_from N x) ≡ true)
unfolding part parts_agree
one_left O N x k h = go (list_any (offers k) (interfaces_from O x)) refl (list_any (offers k) (interfaces_from N x)) refl
  where
    go : (a : Bool) → list_any (offers k) (interfaces_from O x) ≡ a → (b : Bool) → list_any (offers k) (interfaces_from N x) ≡ b → (list_any (offers k) (interfaces_from O x) ≡ true) ⊎ (list_any (offers k) (interfaces_from N x) ≡ true)
    go true e b f = inl e
    go false e true f = inr f
    go false e false f = absurd (
        let z : not (parts_agree O N k [] []) ≡ true =
        sym (ap (λ p. not (parts_agree O N k p (filter (offers k) (interfaces_from N x)))) (none_left k (interfaces_from O x) e) ∙ ap (λ p. not (parts_agree O N k [] p)) (none_left k (interfaces_from N x) f)) ∙ h in
        let clash : false ≡ true = z in cc)

-- the classes and interfaces from x upwards on both sides
abbrev pub from_both : World → World → Bytes → List ClassFacts
from_both O N x = (chain O x ++ interfaces_from O x) ++ (chain N x ++ interfaces_from N x)

offered_declared : (k : Key) (c : ClassFacts) → offers k c ≡ true → declares_key k c ≡ true
offered_declared k c h = or_right (is_some (own_field_of c k)) (is_some (own_method_of c k)) (go (own_method_of c k) h)
  where
    go : (o : Option Member) → some_and is_inheritable o ≡ true → is_some o ≡ true
    go None q = q
    go (Some m) q = refl

each_declared : (k : Key) (cs : List ClassFacts) → list_any (offers k) cs ≡ true → list_any (declares_key k) cs ≡ true
each_declared k [] h = h
each_declared k (c ∷ cs) h = go (offers k c) refl h (each_declared k cs)
  where
    go : (b : Bool) → offers k c ≡ b → (b || list_any (offers k) cs) ≡ true → (list_any (offers k) cs ≡ true → list_any (declares_key k) cs ≡ true) → (declares_key k c || list_any (declares_key k) cs) ≡ true
    go true e q r = or_left (declares_key k c) (list_any (declares_key k) cs) (offered_declared k c e)
    go false e q r = or_right (declares_key k c) (list_any (declares_key k) cs) (r q)

pub warned_declared : (O N : World) (x : Bytes) (k : Key) (d : WarnKind) → warning_at O N x k ≡ Some d → list_any (declares_key k) (from_both O N x) ≡ true
warned_declared O N x k d h = each_declared k (from_both O N x) (by (chain_kind O x k) refl (chain_kind N x k) refl (not (parts_agree O N k (part O x k) (part N x k))) refl (warned_parts (record { old = O; new = N }) x k d h).kind)
  where
    old : list_any (offers k) (chain O x ++ interfaces_from O x) ≡ true → list_any (offers k) (from_both O N x) ≡ true
    old = any_left (offers k) (chain O x ++ interfaces_from O x) (chain N x ++ interfaces_from N x)

    new : list_any (offers k) (chain N x ++ interfaces_from N x) ≡ true → list_any (offers k) (from_both O N x) ≡ true
    new = any_right (offers k) (chain O x ++ interfaces_from O x) (chain N x ++ interfaces_from N x)

    parts : (list_any (offers k) (interfaces_from O x) ≡ true) ⊎ (list_any (offers k) (interfaces_from N x) ≡ true) → list_any (offers k) (from_both O N x) ≡ true
    parts (inl e) = old (any_right (offers k) (chain O x) (interfaces_from O x) e)
    parts (inr e) = new (any_right (offers k) (chain N x) (interfaces_from N x) e)

    old_chain : (a : ChainKind) → chain_kind O x k ≡ a → is_nothing a ≡ false → list_any (offers k) (from_both O N x) ≡ true
    old_chain a e q = old (any_left (offers k) (chain O x) (interfaces_from O x) (chain_offers O x k (ap is_nothing e ∙ q)))

    new_chain : (a : ChainKind) → chain_kind N x k ≡ a → is_nothing a ≡ false → list_any (offers k) (from_both O N x) ≡ true
    new_chain a e q = new (any_left (offers k) (chain N x) (interfaces_from N x) (chain_offers N x k (ap is_nothing e ∙ q)))

    by : (a : ChainKind) → chain_kind O x k ≡ a → (b : ChainKind) → chain_kind N x k ≡ b → (differ : Bool) → not (parts_agree O N k (part O x k) (part N x k)) ≡ differ → warn_kind a b differ ≡ Some d → list_any (offers k) (from_both O N x) ≡ true
    by Concrete e b f differ g q = old_chain Concrete e refl
    by Abstract e b f differ g q = old_chain Abstract e refl
    by Nothing e Abstract f differ g q = new_chain Abstract f refl
    by Nothing e Concrete f differ g q = new_chain Concrete f refl
    by Nothing e Nothing f true g q = parts (one_left O N x k g)
    by Nothing e Nothing f false g q = absurd (let clash : None ≡ Some d = q in cc)
