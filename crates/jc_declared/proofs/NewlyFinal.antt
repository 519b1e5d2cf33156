-- Methods that are final now: what the lookup finds of them on the old side.
use Rattle.std.proofs.Common.{◌≡◌, ℕ, Bool, true, false, not, ◌||◌, ◌&&◌, List, [], ◌∷◌, refl, sym, ◌∙◌, ap, Option, Some, None, ◌⊎◌, inl, inr}
use Rattle.std.specs.List.{list_any, Contains}
use Rattle.std.proofs.lemmas.Bool.{and_parts, both_ways, not-true}
use Rattle.std.proofs.lemmas.List.Elements.{recursion_from_All}
use Rattle.jc_facts.specs.declared.key.Key.{Key}
use Rattle.jc_facts.specs.Names.{Bytes}
use Rattle.jc_desc.specs.Names.{is_init_name, is_clinit_name}
use Rattle.jc_facts.specs.Flags.{public_flag, protected_flag, no_static_flag}
use Rattle.jc_facts.specs.world.World.{World, DeclaredMember}
use Rattle.jc_facts.specs.world.Hierarchy.{chain}
use Rattle.jc_facts.specs.world.Loading.{load_fault}
use Rattle.jc_facts.specs.world.Lookup.{method_choices, or_choices, first_declared, superinterface_choices}
use Rattle.jc_promises.specs.rule.Bases.{is_key_of_method}
use Rattle.jc_facts.specs.world.Inheritance.{declares_as_final, is_final_in_chain, public_or_protected}
use Rattle.jc_promises.specs.rule.Findings.{finds_overridable, first_passes}
use Rattle.jc_lemmas.proofs.Bools.{neither_last}
use Rattle.jc_lemmas.proofs.Listed.{EachOf, none, cases, each_in}
use Rattle.jc_worlds.specs.Agreement.{LooksTheSame}
use Rattle.jc_worlds.specs.Choices.{IsPublicInstance}
use Rattle.jc_worlds.proofs.ChoiceLaws.{inherited_are_public}
use Rattle.jc_sides.specs.SidesOf.{SidesOf}
use Rattle.jc_index.specs.Sides.{IsSide}
use Rattle.jc_index.specs.Lookups.{IsChoice}
use Rattle.jc_index.proofs.Sides.{classes_valid}
use Rattle.jc_index.specs.declared.ids.Found.{Found as Answer}

-- ---- what the lookup finds

abbrev passes : DeclaredMember → Bool
passes m = no_static_flag m.member.flags && public_or_protected m.member

-- where all pass alike, one passes where the first does
passes_alike : (ms : List DeclaredMember) → EachOf (λ m. passes m ≡ true) ms → (m : DeclaredMember) → Contains ms m → passes m ≡ first_passes passes ms
passes_alike [] h m c = absurd (none m c)
passes_alike (n ∷ ns) h m c = each_in (λ m. passes m ≡ true) (n ∷ ns) m h c ∙ sym h.0

only_one : (n m : DeclaredMember) → Contains (n ∷ []) m → m ≡ n
only_one n m c = go (cases n [] m c)
  where
    go : (n ≡ m) ⊎ Contains [] m → m ≡ n
    go (inl is) = sym is
    go (inr d) = absurd (none m d)

public_passes : (m : DeclaredMember) → IsPublicInstance m → passes m ≡ true
public_passes m p = rw (p.0, p.1) refl

public_each : (ms : List DeclaredMember) → EachOf IsPublicInstance ms → EachOf (λ m. passes m ≡ true) ms
public_each [] h = tt
public_each (m ∷ ms) h = (public_passes m h.0, public_each ms h.1)

chosen : (W : World) → IsSide W → (x : Bytes) (k : Key) → load_fault W x ≡ None → is_key_of_method k ≡ true → (m : DeclaredMember) → Contains (method_choices W x k) m → passes m ≡ finds_overridable W x k
unfolding method_choices or_choices
chosen W s x k l h m c = go (first_declared k (chain W x)) c
  where
    go : (o : Option DeclaredMember) → Contains (or_choices o (superinterface_choices W x k)) m → passes m ≡ first_passes passes (or_choices o (superinterface_choices W x k))
    go None d = passes_alike (superinterface_choices W x k) (public_each (superinterface_choices W x k) (recursion_from_All IsPublicInstance (superinterface_choices W x k) (inherited_are_public W (classes_valid W s) x k l (neither_last (is_init_name k.name) (is_clinit_name k.name) (not-true (is_init_name k.name || is_clinit_name k.name) h))))) m d
    go (Some n) d = ap passes (only_one n m d)

-- whatever the table's lookup chooses
pub choice_passes : (W : World) → IsSide W → (x : Bytes) (k : Key) → load_fault W x ≡ None → is_key_of_method k ≡ true → (f : Answer) → IsChoice W (Some f) (method_choices W x k)
    → (no_static_flag f.flags && (public_flag f.flags || protected_flag f.flags)) ≡ finds_overridable W x k
choice_passes W s x k l h f i =
    ap (λ (n : ℕ). no_static_flag n && (public_flag n || protected_flag n)) i.2.flags ∙ chosen W s x k l h i.0 i.1

pub choice_none : (W : World) (x : Bytes) (k : Key) → IsChoice W None (method_choices W x k) → finds_overridable W x k ≡ false
choice_none W x k e = ap (first_passes passes) e

-- where all lookups are as they were, no key is
pub not_newly : (s : SidesOf) (x : Bytes) (k : Key) → LooksTheSame s.old s.new x → (a b o : Bool) → (a && b && is_final_in_chain s.new x k && not (is_final_in_chain s.old x k) && o) ≡ true → ⊥
unfolding is_final_in_chain
not_newly s x k same a b o h =
    let p = and_parts (a && b && is_final_in_chain s.new x k && not (is_final_in_chain s.old x k)) o h in
    let q = and_parts (a && b && is_final_in_chain s.new x k) (not (is_final_in_chain s.old x k)) p.0 in
    both_ways (is_final_in_chain s.new x k) (sym alike ∙ not-true (is_final_in_chain s.old x k) q.1) (and_parts (a && b) (is_final_in_chain s.new x k) q.0).1
  where
    alike : is_final_in_chain s.old x k ≡ is_final_in_chain s.new x k
    alike = ap (list_any (declares_as_final k)) same.chain

-- the tests in the order of the definition, and in that of the code
pub row : (m b f g o : Bool) → b ≡ true → (m && b && f && g && o) ≡ ((m && g && f) && o)
row true true true true o h = refl
row true true true false o h = refl
row true true false true o h = refl
row true true false false o h = refl
row false true f g o h = refl
row m false f g o h = absurd (cc)
