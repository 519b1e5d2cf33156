-- Searches along lists of classes.
use Rattle.std.proofs.Common.{◌≡◌, ℕ, ◌+◌, ◌-◌, ◌<◌, not, Bor, take, Bool, true, false, cond, List, [], ◌∷◌, ◌++◌, length, drop, get_or, refl, sym, ◌∙◌, ap, Option, Some, None, ◌&&◌}
use Rattle.std.specs.Prelude.{is_none, is_some}
use Rattle.std.specs.Option.{option_copied}
use Rattle.std.proofs.lemmas.List.{append-nil, at_drop_more, take_rest}
use Rattle.jc_facts.specs.declared.class_facts.ClassFacts.{ClassFacts}
use Rattle.jc_facts.specs.Names.{Bytes, same}
use Rattle.jc_facts.specs.world.World.{side, find_class, class_named, differ_by_name}
use Rattle.jc_facts.specs.Options.{or_else}

named-both : (xs ys : List ClassFacts) (x : Bytes) → class_named (xs ++ ys) x ≡ or_else (class_named xs x) (class_named ys x)
unfolding class_named or_else
named-both [] ys x = refl
named-both (c ∷ xs) ys x = go (same c.name x) (named-both xs ys x)
  where
    go : (b : Bool) → class_named (xs ++ ys) x ≡ or_else (class_named xs x) (class_named ys x) → cond b (Some c) (class_named (xs ++ ys) x) ≡ or_else (cond b (Some c) (class_named xs x)) (class_named ys x)
    go true r = refl
    go false r = r

-- a side has the class of the platform, or else that of the release
pub find_either : (platform release : List ClassFacts) (x : Bytes) → or_else (class_named platform x) (class_named release x) ≡ find_class (side platform release) x
unfolding find_class
find_either platform release x =
    sym (named-both platform release x) ∙ ap (λ (cs : List ClassFacts). class_named cs x) (sym (append-nil (platform ++ release)))

pub find_first : (platform release : List ClassFacts) (x : Bytes) (c : ClassFacts) → Some c ≡ class_named platform x → Some c ≡ find_class (side platform release) x
unfolding or_else
find_first platform release x c e = ap (λ (o : Option ClassFacts). or_else o (class_named release x)) e ∙ find_either platform release x

pub find_second : (platform release : List ClassFacts) (x : Bytes) → None ≡ class_named platform x → class_named release x ≡ find_class (side platform release) x
unfolding or_else
find_second platform release x e = ap (λ (o : Option ClassFacts). or_else o (class_named release x)) e ∙ find_either platform release x

-- the names from a place on differ where that of the place is none of the later ones, and those differ
differ_next : (cs : List ClassFacts) (n : ℕ) (c : ClassFacts) → n < length cs → c ≡ get_or cs n c
    → differ_by_name (drop n cs) ≡ (is_none (class_named (drop (n + 1) cs) c.name) && differ_by_name (drop (n + 1) cs))
unfolding differ_by_name
differ_next cs n c l e = at_drop_more differ_by_name cs n c l ∙ ap (λ (d : ClassFacts). is_none (class_named (drop (n + 1) cs) d.name) && differ_by_name (drop (n + 1) cs)) (sym e)

copied_some : {A : Type 0} (o : Option (Bor A)) → is_some (option_copied o) ≡ is_some o
copied_some None = refl
copied_some (Some x) = refl

is_none-not : {A : Type 0} (o : Option A) → is_none o ≡ not (is_some o)
is_none-not None = refl
is_none-not (Some x) = refl

-- the same where the answer of the search along the later ones is b
pub differ_by : (cs : List ClassFacts) (n : ℕ) (c : ClassFacts) (x : Bytes) (o : Option (Bor ClassFacts)) (b : Bool) → n < length cs → c ≡ get_or cs n c → x ≡ c.name
    → option_copied o ≡ class_named (take (length cs - (n + 1)) (drop (n + 1) cs)) x → b ≡ is_some o → differ_by_name (drop n cs) ≡ (not b && differ_by_name (drop (n + 1) cs))
differ_by cs n c x o b l e name found is =
    let later : List ClassFacts = drop (n + 1) cs in
    let there : is_some (class_named later c.name) ≡ b =
    ap (λ (y : Bytes). is_some (class_named later y)) (sym name) ∙ ap (λ (ds : List ClassFacts). is_some (class_named ds x)) (sym (take_rest cs (n + 1)))
    ∙ ap is_some (sym found) ∙ copied_some o ∙ sym is
    in
    differ_next cs n c l e ∙ ap (λ (t : Bool). t && differ_by_name later) (is_none-not (class_named later c.name) ∙ ap not there)
