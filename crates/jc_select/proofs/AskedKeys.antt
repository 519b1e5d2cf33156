-- The keys of which something may be warned.
use Rattle.std.proofs.Common.{◌≡◌, ◌<◌, ◌+◌, ◌++◌, ℕ, Bool, true, false, cond, ◌&&◌, ◌⊎◌, inl, inr, List, [], ◌∷◌, length, take, get_or, refl, sym, ◌∙◌, ap, subst, Some, None}
use Rattle.std.specs.Prelude.{slice_index_or}
use Rattle.std.specs.List.{list_all}
use Rattle.std.proofs.lemmas.Bool.{or_cases}
use Rattle.std.proofs.lemmas.List.{take_more}
use Rattle.std.proofs.lemmas.List.Elements.{recursion_from_All}
use Rattle.jc_facts.specs.declared.key.Key.{Key}
use Rattle.jc_facts.specs.declared.warning.ChainKind.TheVariants.{Nothing}
use Rattle.jc_facts.specs.declared.warning.WarnKind.{WarnKind}
use Rattle.jc_facts.specs.file.Valid.{has_key}
use Rattle.jc_facts.specs.Names.{Bytes}
use Rattle.jc_facts.specs.world.World.{World, size}
use Rattle.jc_promises.specs.rule.Bases.{is_base_class, is_base_interface}
use Rattle.jc_promises.specs.rule.Selection.{first_kind, chain_kind}
use Rattle.jc_promises.specs.rule.Warnings.{is_base, interfaces_from, warn_kind, warning_at}
use Rattle.jc_facts.specs.world.Assignment.{is_interface_of}
use Rattle.jc_facts.specs.world.Hierarchy.{chain}
use Rattle.jc_lemmas.proofs.Listed.{EachOf, EachOf-append, each_in}
use Rattle.jc_acts.specs.Seats.{may_be_closed}
use Rattle.jc_sides.specs.Rules.{HasEachKey}
use Rattle.jc_sides.specs.SidesOf.{SidesOf, AreSides}
use Rattle.jc_sides.proofs.BaseParts.{base_class_parts, base_interface_parts, no_interface_now}
use Rattle.jc_select.specs.steps.Asked.{HaveThose, ChainsAgree, PartsAgree}
use Rattle.jc_select.specs.steps.Changes.{kind_at, HasNone, HaveNone, AreChanges}
use Rattle.jc_select.specs.steps.Parts.{AreNamed, stands_at, was_at}
use Rattle.jc_select.specs.steps.Warned.{warned, parts_differ}
use Rattle.jc_select.proofs.ChainKeys.{not_listed}
use Rattle.jc_select.proofs.StillAgree.{alike_agree, none_agree}
use Rattle.jc_select.proofs.Unchanged.{of_none}
use Rattle.jc_select.proofs.KindsWarned.{some_kind, warned_parts}
use Rattle.jc_selection.proofs.Selected.{no_change}

-- ---- loops over classes

-- one more class
pub take_each : (P : ℕ → Type 0) (ids : List ℕ) (n x : ℕ) → n < length ids → x ≡ get_or ids n x → EachOf P (take n ids) → P x → EachOf P (take (n + 1) ids)
take_each P ids n x l is h p = subst (EachOf P) (sym (take_more ids n x l)) (EachOf-append P (take n ids) (get_or ids n x ∷ []) h (subst P is p, tt))

pub none_start : (W : World) (ids : List ℕ) (keys : List Key) → HaveNone W (take 0 ids) keys keys
none_start W ids keys = λ k e. (e, tt)

pub none_more : (W : World) (ids : List ℕ) (n x : ℕ) (before keys now : List Key) → n < length ids → x ≡ get_or ids n x → HaveNone W (take n ids) before keys → HasNone W x keys now → HaveNone W (take (n + 1) ids) before now
none_more W ids n x before keys now l is h g = λ k e. let p = g k e in let q = h k p.0 in (q.0, take_each (λ i. kind_at W k i ≡ Nothing) ids n x l is q.1 p.1)

pub those_start : (changes : List (List Key)) (ids : List ℕ) (keys : List Key) → HaveThose changes (take 0 ids) keys keys
those_start changes ids keys = λ k e. (e, tt)

pub those_more : (changes : List (List Key)) (ids : List ℕ) (n x : ℕ) (before keys now : List Key) → n < length ids → x ≡ get_or ids n x → HaveThose changes (take n ids) before keys → now ≡ keys ++ slice_index_or changes x [] → HaveThose changes (take (n + 1) ids) before now
those_more changes ids n x before keys now l is h g = λ k e.
    let p = not_listed k keys (slice_index_or changes x []) now g e in
    let q = h k p.0 in
    (q.0, take_each (λ i. has_key k (slice_index_or changes i []) ≡ false) ids n x l is q.1 p.1)

-- ---- the parts

module _ (s : SidesOf) (are : AreSides s) (x : Bytes) (before after : List ℕ) (named_before : AreNamed s.old (interfaces_from s.old x) before) (named_after : AreNamed s.new (interfaces_from s.new x) after) where
  -- the interfaces stand as before
  pub parts_alike : (changes : List (List Key)) → AreChanges s changes → (first keys : List Key) → (list_all (stands_at s before after) before && list_all (was_at s before) after) ≡ true → HaveThose changes before first keys → PartsAgree s x keys
  parts_alike changes c first keys h t = λ k e.
      alike_agree s are x k before after named_before named_after h (λ i j m w.
      c.right i j (each_in (λ n. n < size s.old) before i (recursion_from_All (λ n. n < size s.old) before named_before.within) m) w k
      (each_in (λ n. has_key k (slice_index_or changes n []) ≡ false) before i (t k e).1 m))

  -- they don't
  pub parts_apart : (first some keys : List Key) → HaveNone s.old before first some → HaveNone s.new after some keys → PartsAgree s x keys
  parts_apart first some keys a b = λ k e.
      let q = b k e in
      none_agree s are x k before after named_before named_after
      (λ n m. each_in (λ n. kind_at s.old k n ≡ Nothing) before n (a k q.0).1 m)
      (λ n m. each_in (λ n. kind_at s.new k n ≡ Nothing) after n q.1 m)

-- ---- a base is an interface on both sides or on none

kind_alike : (s : SidesOf) (x : Bytes) → is_base s.old s.new x ≡ true → is_interface_of s.old x ≡ is_interface_of s.new x
kind_alike s x h = go (or_cases (is_base_class s.old s.new x) (is_base_interface s.old s.new x) h)
  where
    go : (is_base_class s.old s.new x ≡ true) ⊎ (is_base_interface s.old s.new x ≡ true) → is_interface_of s.old x ≡ is_interface_of s.new x
    go (inl b) = (base_class_parts s x b).kind ∙ sym (no_interface_now s x b)
    go (inr b) = let p = base_interface_parts s x b in p.interface ∙ sym p.interface_now

-- ---- all of them

unwarned : (s : SidesOf) (x : Bytes) (k : Key) → is_base s.old s.new x ≡ true → first_kind k (chain s.old x) ≡ first_kind k (chain s.new x) → parts_differ s x k ≡ false → (d : WarnKind) → warn_kind (chain_kind s.old x k) (chain_kind s.new x k) (parts_differ s x k) ≡ Some d → ⊥
unfolding chain_kind
unwarned s x k base c p d e =
    let same : chain_kind s.old x k ≡ chain_kind s.new x k = ap (λ b. cond b Nothing (first_kind k (chain s.old x))) (kind_alike s x base) ∙ ap (λ a. cond (is_interface_of s.new x) Nothing a) c in
    let none : warn_kind (chain_kind s.old x k) (chain_kind s.new x k) (parts_differ s x k) ≡ None =
    ap (λ b. warn_kind (chain_kind s.old x k) (chain_kind s.new x k) b) p ∙ ap (λ a. warn_kind a (chain_kind s.new x k) false) same ∙ no_change (chain_kind s.new x k) in
    let clash : None ≡ Some d = sym none ∙ e in cc

pub each_asked : (s : SidesOf) (x : Bytes) → is_base s.old s.new x ≡ true → (front back all : List Key) → ChainsAgree s x front → PartsAgree s x back → all ≡ front ++ back → HasEachKey (warned s x) all
each_asked s x base front back all c p g k w e = go (has_key k all) refl
  where
    go : (b : Bool) → has_key k all ≡ b → b ≡ true
    go true q = refl
    go false q = absurd (
        let t = not_listed k front back all g q in
        let d = some_kind x k (warning_at s.old s.new x k) w e in
        unwarned s x k base (c k t.0) (p k t.1) d.0 (warned_parts s x k d.0 d.1).kind)

-- where nothing changed there is none
pub none_asked : (s : SidesOf) → AreSides s → (x : Bytes) → is_base s.old s.new x ≡ true → may_be_closed s x ≡ false → (keys : List Key) → HasEachKey (warned s x) keys
none_asked s are x base free keys k w e = absurd (let clash : false ≡ true = of_none s x are base free k w e in cc)
