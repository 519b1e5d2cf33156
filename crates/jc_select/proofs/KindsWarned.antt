-- Warnings: of which keys they are, and their order.
use Rattle.std.proofs.Common.{◌≡◌, ℕ, Bool, true, false, cond, option_map, List, refl, sym, ◌∙◌, ap, subst, Option, Some, None, ◌&&◌}
use Rattle.std.specs.Option.{IsSome}
use Rattle.std.specs.declared.cmp.Ordering.TheVariants.{Less}
use Rattle.std.specs.Cmp.Lexicographic.{nat_list_cmp_total}
use Rattle.std.proofs.lemmas.Bool.{and_parts, and_from}
use Rattle.std.proofs.lemmas.Cmp.{tied_itself}
use Rattle.jc_facts.specs.declared.key.Key.{Key}
use Rattle.jc_facts.specs.Exactly.{Before}
use Rattle.jc_facts.specs.KeyOrder.{key_cmp}
use Rattle.jc_facts.specs.Names.{Bytes}
use Rattle.jc_promises.specs.rule.Bases.{is_key_of_method}
use Rattle.jc_index.proofs.Numbers.{names-in}
use Rattle.jc_sides.specs.Limit.{IsWithin}
use Rattle.jc_sides.specs.Rules.{IsItemRule}
use Rattle.jc_sides.specs.SidesOf.{SidesOf}
use Rattle.jc_sides.proofs.BaseParts.{IsOnBoth, kept_parts}
use Rattle.jc_sides.proofs.ItemRules.{kept_where}
use Rattle.jc_sides.proofs.NamedAbove.{base_unkept}
use Rattle.jc_promises.specs.rule.Selection.{chain_kind}
use Rattle.jc_promises.specs.rule.Warnings.{is_base, warn_kind, warning_at, warning_order, AreWarnings, WarningStands}
use Rattle.jc_facts.specs.declared.warning.Warning.{Warning}
use Rattle.jc_facts.specs.declared.warning.WarnKind.{WarnKind}
use Rattle.jc_select.specs.steps.Warned.{warned, warning_of, parts_differ}

-- ---- a key of which there is a warning

pub some_kind : (x : Bytes) (k : Key) (o : Option WarnKind) (w : Warning) → warning_of x k o ≡ Some w → (d : WarnKind) × (o ≡ Some d) × (w ≡ record { «class» = x; key = k; kind = d })
some_kind x k None w e = absurd (let clash : None ≡ Some w = e in cc)
some_kind x k (Some d) w e = (d, refl, let u : Some (record { «class» = x; key = k; kind = d }) ≡ Some w = e in cc)

-- the test and what is warned of
pub record IsWarned (s : SidesOf) (x : Bytes) (k : Key) (d : WarnKind) : Type 0 where
  pub covered : is_base s.old s.new x ≡ true
  pub method : is_key_of_method k ≡ true
  pub kind : warn_kind (chain_kind s.old x k) (chain_kind s.new x k) (parts_differ s x k) ≡ Some d

pub warned_parts : (s : SidesOf) (x : Bytes) (k : Key) (d : WarnKind) → warning_at s.old s.new x k ≡ Some d → IsWarned s x k d
unfolding warning_at
warned_parts s x k d h = go (is_key_of_method k && is_base s.old s.new x) refl h
  where
    go : (b : Bool) → (is_key_of_method k && is_base s.old s.new x) ≡ b → cond b (warn_kind (chain_kind s.old x k) (chain_kind s.new x k) (parts_differ s x k)) None ≡ Some d → IsWarned s x k d
    go true e q = let p = and_parts (is_key_of_method k) (is_base s.old s.new x) e in record { covered = p.1; method = p.0; kind = q }
    go false e q = absurd (let clash : None ≡ Some d = q in cc)

-- a base loads on both sides
pub base_loads : (s : SidesOf) (x : Bytes) → is_base s.old s.new x ≡ true → IsOnBoth s x
base_loads s x h = kept_parts s x (kept_where (λ s x. is_base s.old s.new x) base_unkept s x h)

-- ---- the rule

moved : (s : SidesOf) (x : Bytes) (k : Key) (d : WarnKind) (w : Warning) → warning_at s.old s.new x k ≡ Some d → w ≡ record { «class» = x; key = k; kind = d } → (w.«class» ≡ x) × (w.key ≡ k) × WarningStands s.old s.new w
moved s x k d w h e = (
  ap (λ (w : Warning). w.«class») e,
  ap (λ (w : Warning). w.key) e,
  subst (λ (w : Warning). WarningStands s.old s.new w) (sym e) h,
)

stands : (s : SidesOf) (x : Bytes) (k : Key) (w : Warning) → warned s x k ≡ Some w → (w.«class» ≡ x) × (w.key ≡ k) × WarningStands s.old s.new w
stands s x k w e = let d = some_kind x k (warning_at s.old s.new x k) w e in moved s x k d.0 w d.1 d.2

itself : (s : SidesOf) (w : Warning) → WarningStands s.old s.new w → warned s w.«class» w.key ≡ Some w
itself s w h = ap (warning_of w.«class» w.key) h

key_before : (v w : Warning) → v.«class» ≡ w.«class» → key_cmp v.key w.key ≡ Less → warning_order v w ≡ Less
key_before v w a h = rw (a, tied_itself nat_list_cmp_total w.«class», h) refl

class_before : (v w : Warning) → Before v.«class» w.«class» → warning_order v w ≡ Less
class_before v w h = rw h refl

pub is_rule : IsItemRule warning_order (λ (w : Warning). w.«class») warned (λ s w. WarningStands s.old s.new w) (λ s x. is_base s.old s.new x)
is_rule = record {
  stands = λ s x k w e. let t = stands s x k w e in (t.0, t.2);
  made = λ s w h. (w.key, itself s w h);
  by_key = λ s x k l v w b e f. let t = stands s x k v e in let u = stands s x l w f in keys_before k l v w b (t.0 ∙ sym u.0) t.1 u.1;
  by_class = λ s v w p q b. class_before v w b;
  kept = λ s x c. kept_where (λ s x. is_base s.old s.new x) base_unkept s x c;
  on_covered = λ s are w h. let c = (warned_parts s w.«class» w.key w.kind h).covered in (names-in s.old w.«class» (base_loads s w.«class» c).there, c);
}
  where
    keys_before : (k l : Key) (v w : Warning) → key_cmp k l ≡ Less → v.«class» ≡ w.«class» → v.key ≡ k → w.key ≡ l → warning_order v w ≡ Less
    keys_before k l v w b a p q = key_before v w a (subst (λ (j : Key). key_cmp v.key j ≡ Less) (sym q) (subst (λ (i : Key). key_cmp i l ≡ Less) (sym p) b))

-- ---- what the code says

pub not_method : (s : SidesOf) (x : Bytes) (k : Key) → is_key_of_method k ≡ false → None ≡ warning_at s.old s.new x k
unfolding warning_at
not_method s x k h = sym (ap (λ b. cond (b && is_base s.old s.new x) (warn_kind (chain_kind s.old x k) (chain_kind s.new x k) (parts_differ s x k)) None) h)

pub is_changed : (s : SidesOf) (x : Bytes) (k : Key) (o : Option WarnKind) → is_key_of_method k ≡ true → is_base s.old s.new x ≡ true → o ≡ warn_kind (chain_kind s.old x k) (chain_kind s.new x k) (parts_differ s x k) → o ≡ warning_at s.old s.new x k
unfolding warning_at
is_changed s x k o mk base h = h ∙ sym (ap (λ b. cond b (warn_kind (chain_kind s.old x k) (chain_kind s.new x k) (parts_differ s x k)) None) (and_from (is_key_of_method k) (is_base s.old s.new x) mk base))

-- ---- within a limit

-- without a limit there is a list
pub always : {V : Type 0} (items : V → List Warning) (s : SidesOf) (o : Option V) → IsWithin warning_order (WarningStands s.old s.new) None (option_map items o) → IsSome o
always items s (Some v) h = refl
always items s None h = absurd (let clash : false ≡ true = h.many in cc)

-- it is the one
pub exact_of : {V : Type 0} (items : V → List Warning) (s : SidesOf) (most : Option ℕ) (o : Option V) (v : V) → o ≡ Some v → IsWithin warning_order (WarningStands s.old s.new) most (option_map items o) → AreWarnings s.old s.new (items v)
exact_of items s most o v e h = (subst (λ p. IsWithin warning_order (WarningStands s.old s.new) most (option_map items p)) e h).0
