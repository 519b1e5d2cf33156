-- The row of what a class itself declares.
use Rattle.std.proofs.Common.{◌≡◌, ℕ, ◌≤◌, ◌<◌, ◌+◌, suc, Bool, true, false, List, [], ◌∷◌, ◌++◌, length, map, drop, get_or, refl, sym, ◌∙◌, ap, subst, Option, Some, None, arith}
use Rattle.std.specs.Prelude.{cond, nat_eq, slice_get, ◌&&◌}
use Rattle.std.specs.List.{find as first_where}
use Rattle.std.proofs.lemmas.Bool.{eqb-true, eq-eqb, ne_eqb, and_parts}
use Rattle.std.proofs.lemmas.List.{get_or_default, append-nil}
use Rattle.std.proofs.Math.ListN.{drop_of_length-le}
use Rattle.jc_facts.specs.declared.class_facts.ClassFacts.{ClassFacts}
use Rattle.jc_facts.specs.declared.class_facts.Member.{Member}
use Rattle.jc_facts.specs.declared.key.Key.{Key}
use Rattle.jc_facts.specs.Names.{Bytes, same, is_key, key_of}
use Rattle.jc_facts.specs.Options.{and_then}
use Rattle.jc_facts.specs.world.World.{World, find_class, size, own_field_of, declared_method, found_in}
use Rattle.jc_facts.proofs.Same.{same_is, same_itself}
use Rattle.jc_index.specs.Ids.{name_at}
use Rattle.jc_index.specs.Lookups.{IsAnswer}
use Rattle.jc_index.specs.declared.ids.Found.{Found}
use Rattle.jc_rows.specs.declared.row.RowItem.{RowItem}
use Rattle.jc_rows.specs.Keys.{AreDistinct, numbered_keys}
use Rattle.jc_rows.specs.Rows.{entry, IsRow}
use Rattle.jc_rows.specs.WithRows.{has_rows}
use Rattle.jc_rows.specs.steps.Merging.{IsRowOf}
use Rattle.jc_rows.specs.steps.Numbering.{AreNumbers, HasNumbers, items_of}
use Rattle.jc_rows.specs.steps.Fronts.{own_field, own_method}
use Rattle.jc_rows.proofs.KeyLists.{numbered_keys-distinct}

pub numbers-length : (keys : List Key) (ms : List Member) (ns : List ℕ) → AreNumbers keys ms ns → length ns ≡ length ms
numbers-length keys ms ns a = go ns ms (ap length a)
  where
    go : (xs : List ℕ) (ys : List Member) → length (map (slice_get keys) xs) ≡ length (map (λ (m : Member). Some (key_of m)) ys) → length xs ≡ length ys
    go [] [] e = refl
    go [] (y ∷ ys) e = absurd (omega (arith, e))
    go (x ∷ xs) [] e = absurd (omega (arith, e))
    go (x ∷ xs) (y ∷ ys) e = ap suc (go xs ys (omega (arith, e)))

pub items_all : (class : ℕ) (ns : List ℕ) (ms : List Member) (done : List RowItem) (at : ℕ) → length ms ≤ at → done ++ items_of class (drop at ns) (drop at ms) ≡ items_of class ns ms → done ≡ items_of class ns ms
items_all class ns ms done at l h =
    sym (ap (λ (ys : List Member). done ++ items_of class (drop at ns) ys) (drop_of_length-le ms l) ∙ ap (λ (xs : List RowItem). done ++ xs) (none (drop at ns)) ∙ append-nil done) ∙ h
  where
    none : (xs : List ℕ) → items_of class xs [] ≡ []
    none [] = refl
    none (x ∷ xs) = refl

-- ---- the members by their keys

module _ (W : World) (keys : List Key) where
  module _ (distinct : AreDistinct keys) (class : ℕ) (c : ClassFacts) (l : class < size W) (name : name_at W class ≡ c.name) (n : ℕ) (k : Key) (numbered : slice_get keys n ≡ Some k) where
    one : (m : ℕ) (f : Member) → slice_get keys m ≡ Some (key_of f) → nat_eq m n ≡ is_key k f
    one m f e = go (nat_eq m n) (is_key k f) refl refl
      where
        named : m ≡ n → key_of f ≡ k
        named q = let p : Some (key_of f) ≡ Some k = sym e ∙ ap (slice_get keys) q ∙ numbered in cc

        keyed : is_key k f ≡ true → key_of f ≡ k
        keyed q =
            let p = and_parts (same f.name k.name) (same f.descriptor k.descriptor) q in
            ap (λ (x : Bytes). record { name = x; descriptor = f.descriptor }) (same_is f.name k.name p.0)
            ∙ ap (λ (x : Bytes). record { name = k.name; descriptor = x }) (same_is f.descriptor k.descriptor p.1)

        is_own : key_of f ≡ k → is_key k f ≡ true
        is_own q = subst (λ (j : Key). is_key j f ≡ true) q (ap (λ (b : Bool). b && same f.descriptor f.descriptor) (same_itself f.name) ∙ same_itself f.descriptor)

        go : (a b : Bool) → nat_eq m n ≡ a → is_key k f ≡ b → a ≡ b
        go true true p q = refl
        go true false p q = sym (is_own (named (eqb-true m n p))) ∙ q
        go false true p q = sym p ∙ eq-eqb m n (distinct m n k (e ∙ ap (λ (j : Key). Some j) (keyed q)) numbered)
        go false false p q = refl

    own : (ms : List Member) (ns : List ℕ) → AreNumbers keys ms ns → IsAnswer W (entry (items_of class ns ms) n) (found_in c (first_where (is_key k) ms))
    unfolding found_in
    own [] [] a = tt
    own [] (m ∷ ns) a = absurd (let e : suc (length ns) ≡ 0 = numbers-length keys [] (m ∷ ns) a in omega (arith, e))
    own (f ∷ ms) [] a = absurd (let e : 0 ≡ suc (length ms) = numbers-length keys (f ∷ ms) [] a in omega (arith, e))
    own (f ∷ ms) (m ∷ ns) a = subst (λ (b : Bool). IsAnswer W (cond b (Some (record { owner = class; flags = f.flags })) (entry (items_of class ns ms) n)) (found_in c (cond (is_key k f) (Some f) (first_where (is_key k) ms)))) (sym (one m f (first a)))
        (go (is_key k f) (own ms ns (others a)))
      where
        first : AreNumbers keys (f ∷ ms) (m ∷ ns) → slice_get keys m ≡ Some (key_of f)
        first e = let h : slice_get keys m ∷ map (slice_get keys) ns ≡ Some (key_of f) ∷ map (λ (g : Member). Some (key_of g)) ms = e in cc

        others : AreNumbers keys (f ∷ ms) (m ∷ ns) → AreNumbers keys ms ns
        others e = let h : slice_get keys m ∷ map (slice_get keys) ns ≡ Some (key_of f) ∷ map (λ (g : Member). Some (key_of g)) ms = e in cc

        go : (b : Bool) → IsAnswer W (entry (items_of class ns ms) n) (found_in c (first_where (is_key k) ms))
            → IsAnswer W (cond b (Some (record { owner = class; flags = f.flags })) (entry (items_of class ns ms) n)) (found_in c (cond b (Some f) (first_where (is_key k) ms)))
        go true h = record { below = l; owner = name; flags = refl }
        go false h = h

  -- a number that is no key's is no own member's
  no_own : (class n : ℕ) → slice_get keys n ≡ None → (ms : List Member) (ns : List ℕ) → AreNumbers keys ms ns → entry (items_of class ns ms) n ≡ None
  no_own class n none [] [] a = refl
  no_own class n none [] (m ∷ ns) a = absurd (let e : suc (length ns) ≡ 0 = numbers-length keys [] (m ∷ ns) a in omega (arith, e))
  no_own class n none (f ∷ ms) [] a = refl
  no_own class n none (f ∷ ms) (m ∷ ns) a = ap (λ (b : Bool). cond b (Some (record { owner = class; flags = f.flags })) (entry (items_of class ns ms) n)) (ne_eqb m n other) ∙ no_own class n none ms ns others
    where
      h : slice_get keys m ∷ map (slice_get keys) ns ≡ Some (key_of f) ∷ map (λ (g : Member). Some (key_of g)) ms
      h = a

      others : AreNumbers keys ms ns
      others = cc

      other : m ≡ n → ⊥
      other e = let q : None ≡ Some (key_of f) = sym none ∙ ap (slice_get keys) (sym e) ∙ (cc) in cc

-- ---- the two rows

module _ (W : World) (x : Bytes) (c : ClassFacts) (f : find_class W x ≡ Some c) (named : c.name ≡ x) (class : ℕ) (l : class < size W) (name : name_at W class ≡ x) (ns : List ℕ) (row : List RowItem) where
  pub fields_row : AreNumbers (numbered_keys W) c.fields ns → IsRowOf (items_of class ns c.fields) row → IsRow W (own_field W x) row
  unfolding and_then
  fields_row a r = record {
    rises = r.rises;
    found = λ n k e.
        subst (λ (o : Option Found). IsAnswer W o (own_field W x k)) (sym (r.entries n))
        (subst (IsAnswer W (entry (items_of class ns c.fields) n)) (sym (ap (and_then (λ d. found_in d (own_field_of d k))) f)) (own W (numbered_keys W) (numbered_keys-distinct W) class c l (name ∙ sym named) n k e c.fields ns a));
    within = λ n e. r.entries n ∙ no_own W (numbered_keys W) class n e c.fields ns a;
  }

  pub methods_row : AreNumbers (numbered_keys W) c.methods ns → IsRowOf (items_of class ns c.methods) row → IsRow W (own_method W x) row
  unfolding and_then
  methods_row a r = record {
    rises = r.rises;
    found = λ n k e.
        subst (λ (o : Option Found). IsAnswer W o (own_method W x k)) (sym (r.entries n))
        (subst (IsAnswer W (entry (items_of class ns c.methods) n)) (sym (ap (and_then (declared_method k)) f)) (own W (numbered_keys W) (numbered_keys-distinct W) class c l (name ∙ sym named) n k e c.methods ns a));
    within = λ n e. r.entries n ∙ no_own W (numbered_keys W) class n e c.methods ns a;
  }

-- the numbers that a class has
pub numbers_at : (W : World) (members : ClassFacts → List Member) (numbers : List (List ℕ)) → HasNumbers W (numbered_keys W) members numbers → (class i : ℕ) → i ≡ class → class < size W → has_rows W (name_at W class) ≡ true → (c : ClassFacts) → find_class W (name_at W class) ≡ Some c
    → (ns : List ℕ) → ns ≡ get_or numbers i ns → AreNumbers (numbered_keys W) (members c) ns
numbers_at W members numbers h class i e l r c f ns g =
    subst (AreNumbers (numbered_keys W) (members c))
    (sym (g ∙ ap (λ (j : ℕ). get_or numbers j ns) e ∙ get_or_default numbers class ns [] (let k = h.count in omega (arith, k, l)))) (h.right class c l (ap (λ (b : Bool). cond b (find_class W (name_at W class)) None) r ∙ f))
