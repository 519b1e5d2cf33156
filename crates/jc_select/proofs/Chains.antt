-- What a chain has of a key, along a walk up the superclasses.
use Rattle.std.proofs.Common.{◌≡◌, ℕ, suc, Bool, true, false, cond, not, ◌||◌, ◌&&◌, refl, sym, ◌∙◌, ap, Option, Some, None}
use Rattle.jc_facts.specs.declared.class_facts.ClassFacts.{ClassFacts}
use Rattle.jc_facts.specs.declared.class_facts.Member.{Member}
use Rattle.jc_facts.specs.declared.key.Key.{Key}
use Rattle.jc_facts.specs.Flags.{abstract_flag, private_flag, static_flag, interface_flag}
use Rattle.jc_facts.specs.Names.{Bytes}
use Rattle.jc_facts.specs.Options.{some_and, and_then}
use Rattle.jc_facts.specs.world.Inheritance.{offers, is_inheritable}
use Rattle.jc_facts.specs.world.Assignment.{is_interface_of}
use Rattle.jc_facts.specs.world.Hierarchy.{chain}
use Rattle.jc_facts.specs.world.World.{World, find_class, size, own_method_of}
use Rattle.jc_index.specs.steps.Choosing.{as_found, if_candidate, candidate_at}
use Rattle.jc_index.specs.Ids.{name_at, superclass_of}
use Rattle.jc_index.specs.steps.Walking.{chain_from}
use Rattle.jc_index.proofs.Walking.{from-step, from-none, from-nothing}
use Rattle.jc_facts.specs.declared.warning.ChainKind.{ChainKind}
use Rattle.jc_facts.specs.declared.warning.ChainKind.TheVariants.{Nothing, Abstract, Concrete}
use Rattle.jc_promises.specs.rule.Selection.{declares_abstract, first_kind, chain_kind}
use Rattle.jc_select.specs.steps.Kinds.{kind_of, kind_from, is_nothing}

-- what the class itself has
abbrev pub own_kind : Key → ClassFacts → ChainKind
own_kind k c = cond (offers k c) (cond (declares_abstract k c) Abstract Concrete) Nothing

flags_kind : (p s : Bool) (n f : ℕ) → kind_of (cond (p || s) None (Some (record { owner = n; flags = f }))) ≡ cond (not s && not p) (cond (abstract_flag f) Abstract Concrete) Nothing
flags_kind true true n f = refl
flags_kind true false n f = refl
flags_kind false true n f = refl
flags_kind false false n f = refl

-- by what the table finds
pub own_is : (W : World) (k : Key) (n : ℕ) (c : ClassFacts) → find_class W (name_at W n) ≡ Some c → kind_of (candidate_at W k n) ≡ own_kind k c
unfolding and_then
own_is W k n c f = ap (λ (o : Option ClassFacts). kind_of (if_candidate (as_found n (and_then (λ c. own_method_of c k) o)))) f ∙ go (own_method_of c k)
  where
    go : (o : Option Member) → kind_of (if_candidate (as_found n o)) ≡ cond (some_and is_inheritable o) (cond (some_and (λ (m : Member). abstract_flag m.flags) o) Abstract Concrete) Nothing
    go None = refl
    go (Some m) = flags_kind (private_flag m.flags) (static_flag m.flags) n m.flags

joined : (a b : Bool) (r : ChainKind) → is_nothing (cond a (cond b Abstract Concrete) Nothing) ≡ false → cond a (cond b Abstract Concrete) r ≡ cond a (cond b Abstract Concrete) Nothing
joined true b r h = refl
joined false b r h = absurd (let clash : true ≡ false = h in cc)

passed : (a b : Bool) (r : ChainKind) → is_nothing (cond a (cond b Abstract Concrete) Nothing) ≡ true → cond a (cond b Abstract Concrete) r ≡ r
passed true true r h = absurd (let clash : false ≡ true = h in cc)
passed true false r h = absurd (let clash : false ≡ true = h in cc)
passed false b r h = refl

pub kinds_from : (W : World) (id m : ℕ) (k : Key) → m ≡ size W → first_kind k (chain W (name_at W id)) ≡ kind_from W k m (Some id)
unfolding chain chain_from
kinds_from W id m k e = rw e refl

pub kind_step : (W : World) (k : Key) (m n id : ℕ) (next : Option ℕ) (c : ClassFacts) → m ≡ suc n → next ≡ Some id → find_class W (name_at W id) ≡ Some c
    → kind_from W k m next ≡ cond (offers k c) (cond (declares_abstract k c) Abstract Concrete) (kind_from W k n (superclass_of W (name_at W id)))
unfolding first_kind
kind_step W k m n id next c q e f = ap (kind_from W k m) e ∙ ap (first_kind k) (from-step W m n id c q f)

-- the class has something
pub kind_here : (W : World) (k : Key) (m n id : ℕ) (next : Option ℕ) (c : ClassFacts) (r : ChainKind) → m ≡ suc n → next ≡ Some id → find_class W (name_at W id) ≡ Some c → r ≡ kind_of (candidate_at W k id) → is_nothing r ≡ false → kind_from W k m next ≡ r
kind_here W k m n id next c r q e f h t =
    let o : r ≡ own_kind k c = h ∙ own_is W k id c f in
    kind_step W k m n id next c q e f ∙ joined (offers k c) (declares_abstract k c) (kind_from W k n (superclass_of W (name_at W id))) (sym (ap is_nothing o) ∙ t) ∙ sym o

-- the class has nothing
pub kind_above : (W : World) (k : Key) (m n id : ℕ) (next up : Option ℕ) (c : ClassFacts) (r : ChainKind) → m ≡ suc n → next ≡ Some id → find_class W (name_at W id) ≡ Some c → r ≡ kind_of (candidate_at W k id) → is_nothing r ≡ true
    → up ≡ superclass_of W (name_at W id) → kind_from W k m next ≡ kind_from W k n up
kind_above W k m n id next up c r q e f h t u =
    let o : r ≡ own_kind k c = h ∙ own_is W k id c f in
    kind_step W k m n id next c q e f ∙ passed (offers k c) (declares_abstract k c) (kind_from W k n (superclass_of W (name_at W id))) (sym (ap is_nothing o) ∙ t) ∙ ap (kind_from W k n) (sym u)

pub kind_out : (W : World) (k : Key) (m : ℕ) (next : Option ℕ) → next ≡ None → kind_from W k m next ≡ Nothing
unfolding first_kind
kind_out W k m next e = ap (kind_from W k m) e ∙ ap (first_kind k) (from-nothing W m)

pub kind_end : (W : World) (k : Key) (m : ℕ) (next : Option ℕ) → m ≡ 0 → kind_from W k m next ≡ Nothing
unfolding first_kind
kind_end W k m next e = ap (λ n. kind_from W k n next) e ∙ ap (first_kind k) (from-none W next)

-- ---- a class and an interface

pub of_interface : (W : World) (x : Bytes) (k : Key) (c : ClassFacts) (b : Bool) → Some c ≡ find_class W x → b ≡ interface_flag c.flags → b ≡ true → Nothing ≡ chain_kind W x k
unfolding chain_kind
of_interface W x k c b f e t =
    let j : is_interface_of W x ≡ true = ap (some_and (λ (c : ClassFacts). interface_flag c.flags)) (sym f) ∙ sym e ∙ t in
    sym (ap (λ t. cond t Nothing (first_kind k (chain W x))) j)

pub of_class : (W : World) (x : Bytes) (k : Key) (c : ClassFacts) (b : Bool) (r : ChainKind) → Some c ≡ find_class W x → b ≡ interface_flag c.flags → b ≡ false → r ≡ first_kind k (chain W x) → r ≡ chain_kind W x k
unfolding chain_kind
of_class W x k c b r f e t h =
    let j : is_interface_of W x ≡ false = ap (some_and (λ (c : ClassFacts). interface_flag c.flags)) (sym f) ∙ sym e ∙ t in
    h ∙ sym (ap (λ t. cond t Nothing (first_kind k (chain W x))) j)
