-- Signatures by key, and keys of members.
use Rattle.std.proofs.Common.{◌≡◌, ◌+◌, ◌-◌, ℕ, Bool, true, false, cond, ◌||◌, List, [], ◌∷◌, ◌++◌, length, drop, refl, sym, ◌∙◌, ap, Bor, Option, Some, is_some}
use Rattle.std.specs.BTreeMap as tree
use Rattle.std.specs.List.{find as first_where}
use Rattle.std.specs.Option.{option_map, option_eq}
use Rattle.std.specs.Ordering.{is_eq}
use Rattle.std.proofs.lemmas.List.Folds.{list_any-append}
use Rattle.jc_facts.specs.declared.class_facts.ClassFacts.{ClassFacts}
use Rattle.jc_facts.specs.declared.class_facts.Member.{Member}
use Rattle.jc_facts.specs.declared.class_facts.Signed.{Signed}
use Rattle.jc_facts.specs.declared.key.Key.{Key}
use Rattle.jc_facts.specs.file.Valid.{has_key, keys_of}
use Rattle.jc_facts.specs.KeyOrder.{key_cmp, key_ties, same_key_equiv}
use Rattle.jc_facts.specs.Names.{is_key, key_of, same_key}
use Rattle.jc_sig.specs.Notes.{declares}
use Rattle.jc_sig.specs.steps.OnRecords.{signed_at, signed_in}

-- ---- one signature more

option_cond : (b : Bool) (x : Bor Signed) (o : Option (Bor Signed)) → option_map (λ s. s.now) (cond b (Some x) o) ≡ cond b (Some x.now) (option_map (λ s. s.now) o)
option_cond true x o = refl
option_cond false x o = refl

pub added : (s : Signed) (x : Bor Signed) (k : Key) (old new : tree.BTreeMap Key (Bor Signed)) → x.now ≡ s → s.key ≡ Some k → tree.Updates key_cmp old new k (Some x) → (q : Key)
    → signed_in new q ≡ cond (option_eq same_key s.key (Some q)) (Some s) (signed_in old q)
added s x k old new v w u q =
    ap (option_map (λ (g : Bor Signed). g.now)) (u.0 q)
    ∙ option_cond (is_eq (key_cmp k q)) x (tree.get key_cmp old q)
    ∙ ap (λ (b : Bool). cond b (Some x.now) (signed_in old q)) (sym (key_ties k q))
    ∙ ap (λ (g : Signed). cond (same_key k q) (Some g) (signed_in old q)) v
    ∙ ap (λ (o : Option Key). cond (option_eq same_key o (Some q)) (Some s) (signed_in old q)) (sym w)

-- ---- from the last signature on

-- the map has what the last ones have
abbrev pub HasLast : List Signed → ℕ → tree.BTreeMap Key (Bor Signed) → Type 0
HasLast ss n map = (q : Key) → signed_in map q ≡ signed_at (drop (length ss - n) ss) q

-- ---- members

some_cond : (b : Bool) (m : Member) (o : Option Member) → is_some (cond b (Some m) o) ≡ (b || is_some o)
some_cond true m o = refl
some_cond false m o = refl

-- what has a member of the key has the key
own : (ms : List Member) (k : Key) → is_some (first_where (is_key k) ms) ≡ has_key k (keys_of ms)
own [] k = refl
own (m ∷ ms) k =
    some_cond (is_key k m) m (first_where (is_key k) ms)
    ∙ ap (λ (b : Bool). b || is_some (first_where (is_key k) ms)) (same_key_equiv.symm (key_of m) k)
    ∙ ap (λ (b : Bool). same_key k (key_of m) || b) (own ms k)

pub declares_is : (c : ClassFacts) (k : Key) → declares c (Some k) ≡ has_key k (keys_of c.fields ++ keys_of c.methods)
declares_is c k =
    ap (λ (b : Bool). b || is_some (first_where (is_key k) c.methods)) (own c.fields k)
    ∙ ap (λ (b : Bool). has_key k (keys_of c.fields) || b) (own c.methods k)
    ∙ sym (list_any-append (same_key k) (keys_of c.fields) (keys_of c.methods))
