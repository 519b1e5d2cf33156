-- The keys of which chains have otherwise, on a walk up both.
use Rattle.std.proofs.Common.{◌≡◌, ◌<◌, ◌++◌, ℕ, suc, Bool, true, false, cond, ◌||◌, List, refl, sym, ◌∙◌, ap, Option, Some, None}
use Rattle.std.specs.Prelude.{IfSome}
use Rattle.std.proofs.lemmas.List.Folds.{list_any-append}
use Rattle.jc_facts.specs.declared.key.Key.{Key}
use Rattle.jc_facts.specs.declared.warning.ChainKind.{ChainKind}
use Rattle.jc_facts.specs.declared.warning.ChainKind.TheVariants.{Nothing, Abstract, Concrete}
use Rattle.jc_facts.specs.file.Valid.{has_key}
use Rattle.jc_facts.specs.Names.{Bytes, same_key}
use Rattle.jc_facts.specs.world.Inheritance.{offers}
use Rattle.jc_promises.specs.rule.Selection.{first_kind, declares_abstract}
use Rattle.jc_facts.specs.world.Hierarchy.{chain}
use Rattle.jc_facts.specs.world.World.{World, size}
use Rattle.jc_lemmas.proofs.Bools.{neither_first, neither_last}
use Rattle.jc_selection.proofs.ChainKinds.{kind_or}
use Rattle.jc_index.proofs.Numbers.{IsClass, class_at}
use Rattle.jc_sides.specs.SidesOf.{SidesOf, AreSides}
use Rattle.jc_index.specs.Ids.{name_at, superclass_of}
use Rattle.jc_index.specs.Sides.{IsSide}
use Rattle.jc_select.specs.steps.Changes.{kind_at, HasChanged, HasNone, HasNoMore}
use Rattle.jc_select.specs.steps.Kinds.{kind_from}
use Rattle.jc_select.proofs.Chains.{own_is, kind_step, kinds_from, kind_out, kind_end}

-- no key of the longer list is one of the parts
pub not_listed : (k : Key) (front back all : List Key) → all ≡ front ++ back → has_key k all ≡ false → (has_key k front ≡ false) × (has_key k back ≡ false)
not_listed k front back all e h =
    let p : (has_key k front || has_key k back) ≡ false = sym (ap (has_key k) e ∙ list_any-append (same_key k) front back) ∙ h in
    (neither_first (has_key k front) (has_key k back) p, neither_last (has_key k front) (has_key k back) p)

over : (a b : Bool) (r : ChainKind) → cond a (cond b Abstract Concrete) r ≡ kind_or (cond a (cond b Abstract Concrete) Nothing) r
over true true r = refl
over true false r = refl
over false b r = refl

-- what the class has, or else those above it
pub one_up : (W : World) → IsSide W → (k : Key) (m n id : ℕ) (next : Option ℕ) → id < size W → m ≡ suc n → next ≡ Some id → kind_from W k m next ≡ kind_or (kind_at W k id) (kind_from W k n (superclass_of W (name_at W id)))
one_up W side k m n id next l q e =
    let c : IsClass W (name_at W id) = class_at W id side.differ l in
    let rest : ChainKind = kind_from W k n (superclass_of W (name_at W id)) in
    kind_step W k m n id next c.facts q e c.found ∙ over (offers k c.facts) (declares_abstract k c.facts) rest ∙ ap (λ a. kind_or a rest) (sym (own_is W k id c.facts c.found))

-- ---- a chain of which all is added

-- of other keys than these, the classes passed have nothing
pub record IsPassing (W : World) (first : Option ℕ) (levels left : ℕ) (next : Option ℕ) (before keys : List Key) : Type 0 where
  pub below : IfSome next (λ id. id < size W)
  pub ahead : (k : Key) → has_key k keys ≡ false → (has_key k before ≡ false) × (kind_from W k levels first ≡ kind_from W k left next)

pub passing_start : (W : World) (first : Option ℕ) (levels left : ℕ) (keys : List Key) → IfSome first (λ id. id < size W) → left ≡ levels → IsPassing W first levels left first keys keys
passing_start W first levels left keys l e = record { below = l; ahead = λ k n. (n, ap (λ m. kind_from W k m first) (sym e)) }

pub passing_more : (W : World) → IsSide W → (first : Option ℕ) (levels left more id : ℕ) (next up : Option ℕ) (before keys now : List Key) → left ≡ suc more → next ≡ Some id → id < size W → up ≡ superclass_of W (name_at W id)
    → IfSome up (λ id. id < size W) → HasNone W id keys now → IsPassing W first levels left next before keys → IsPassing W first levels more up before now
passing_more W side first levels left more id next up before keys now q e l u b none h = record {
  below = b;
  ahead = λ k n.
      let o = none k n in
      let p = h.ahead k o.0 in (
        p.0,
        p.1 ∙ one_up W side k left more id next l q e ∙ ap (λ a. kind_or a (kind_from W k more (superclass_of W (name_at W id)))) o.1 ∙ ap (kind_from W k more) (sym u),
      );
}

pub passing_out : (W : World) (first : Option ℕ) (levels left : ℕ) (next : Option ℕ) (before keys : List Key) → next ≡ None → IsPassing W first levels left next before keys → HasNoMore W first levels before keys
passing_out W first levels left next before keys e h = λ k n. let p = h.ahead k n in (p.0, p.1 ∙ kind_out W k left next e)

pub passing_end : (W : World) (first : Option ℕ) (levels left : ℕ) (next : Option ℕ) (before keys : List Key) → left ≡ 0 → IsPassing W first levels left next before keys → HasNoMore W first levels before keys
passing_end W first levels left next before keys e h = λ k n. let p = h.ahead k n in (p.0, p.1 ∙ kind_end W k left next e)

-- ---- both chains at once

-- of other keys than these the chains of x have the same, where what is ahead has
pub record IsOnWay (s : SidesOf) (x : Bytes) (m n : ℕ) (before now : Option ℕ) (keys : List Key) : Type 0 where
  pub old_below : IfSome before (λ id. id < size s.old)
  pub new_below : IfSome now (λ id. id < size s.new)
  pub ahead : (k : Key) → has_key k keys ≡ false → kind_from s.old k m before ≡ kind_from s.new k n now → first_kind k (chain s.old x) ≡ first_kind k (chain s.new x)

pub way_start : (s : SidesOf) (x : Bytes) (i j m n : ℕ) (keys : List Key) → i < size s.old → j < size s.new → name_at s.old i ≡ x → name_at s.new j ≡ x → m ≡ size s.old → n ≡ size s.new → IsOnWay s x m n (Some i) (Some j) keys
way_start s x i j m n keys li lj ei ej q r = record {
  old_below = li;
  new_below = lj;
  ahead = λ k o e.
      ap (λ y. first_kind k (chain s.old y)) (sym ei) ∙ kinds_from s.old i m k q ∙ e ∙ sym (kinds_from s.new j n k r) ∙ ap (λ y. first_kind k (chain s.new y)) ej;
}

pub way_more : (s : SidesOf) → AreSides s → (x : Bytes) (m n more less i j : ℕ) (before now up over : Option ℕ) (keys changed all : List Key) → m ≡ suc more → n ≡ suc less → before ≡ Some i → now ≡ Some j → i < size s.old → j < size s.new
    → up ≡ superclass_of s.old (name_at s.old i) → over ≡ superclass_of s.new (name_at s.new j) → IfSome up (λ id. id < size s.old) → IfSome over (λ id. id < size s.new)
    → HasChanged s i j changed → all ≡ keys ++ changed → IsOnWay s x m n before now keys → IsOnWay s x more less up over all
way_more s are x m n more less i j before now up over keys changed all q r ei ej li lj u v bu bv c g h = record {
  old_below = bu;
  new_below = bv;
  ahead = λ k o e.
      let p = not_listed k keys changed all g o in
      let rest : kind_from s.old k more (superclass_of s.old (name_at s.old i)) ≡ kind_from s.new k less (superclass_of s.new (name_at s.new j)) = ap (kind_from s.old k more) (sym u) ∙ e ∙ ap (kind_from s.new k less) v in
      h.ahead k p.0
      (one_up s.old are.old_side k m more i before li q ei
      ∙ ap (λ a. kind_or a (kind_from s.old k more (superclass_of s.old (name_at s.old i)))) (c k p.1) ∙ ap (kind_or (kind_at s.new k j)) rest
      ∙ sym (one_up s.new are.new_side k n less j now lj r ej));
}
