-- The numbered keys are those that some class with rows declares.
use Rattle.std.proofs.Common.{◌≡◌, Bool, true, false, List, [], ◌∷◌, ◌++◌, refl, sym, ◌∙◌, ap, subst, Option, Some, None, ◌||◌}
use Rattle.std.specs.Prelude.{cond, is_some, ◌&&◌}
use Rattle.std.specs.List.{list_any, Contains}
use Rattle.std.proofs.lemmas.List.Folds.{list_any-append}
use Rattle.std.proofs.Math.Bool.{or-false, or-true}
use Rattle.std.specs.Cmp.{both_ways}
use Rattle.jc_facts.specs.declared.class_facts.ClassFacts.{ClassFacts}
use Rattle.jc_facts.specs.declared.class_facts.Member.{Member}
use Rattle.jc_facts.specs.declared.key.Key.{Key}
use Rattle.jc_facts.specs.Names.{Bytes, same_key, is_key, key_of}
use Rattle.jc_facts.specs.world.World.{differ_by_name, World, classes, class_named, find_class, own_field_of, own_method_of}
use Rattle.jc_facts.specs.file.Valid.{has_key}
use Rattle.jc_facts.proofs.Keys.{flip}
use Rattle.jc_facts.proofs.World.{class_named-each, each_named, find-name}
use Rattle.jc_lemmas.proofs.Bools.{or_assoc}
use Rattle.jc_lemmas.proofs.Listed.{each_in, each_from, any_passes, any_has}
use Rattle.jc_lemmas.proofs.Lists.{found_any}
use Rattle.jc_index.specs.Ids.{names}
use Rattle.jc_index.proofs.Numbers.{names-in}
use Rattle.jc_rows.specs.Keys.{with_key, with_keys, with_keys_of, with_all_keys, class_with_rows, numbered_keys, declares_with_rows}
use Rattle.jc_rows.specs.WithRows.{has_rows}
use Rattle.jc_index.proofs.HashedKeys.{key_is}

-- ---- keys that are added

module _ (q : Key) where
  has-key : (keys : List Key) (k : Key) → has_key q (with_key keys k) ≡ (has_key q keys || same_key q k)
  has-key keys k = go (list_any (same_key k) keys) refl
    where
      there : list_any (same_key k) keys ≡ true → (b : Bool) → same_key q k ≡ b → has_key q keys ≡ (has_key q keys || b)
      there h true e = subst (λ (j : Key). has_key j keys ≡ true) (sym (key_is q k e)) h ∙ sym (or-true (has_key q keys))
      there h false e = sym (or-false (has_key q keys))

      go : (b : Bool) → list_any (same_key k) keys ≡ b → has_key q (cond b keys (keys ++ k ∷ [])) ≡ (has_key q keys || same_key q k)
      go true h = there h (same_key q k) refl
      go false h = list_any-append (same_key q) keys (k ∷ []) ∙ ap (λ (b : Bool). has_key q keys || b) (or-false (same_key q k))

  has-keys : (keys : List Key) (ms : List Member) → has_key q (with_keys keys ms) ≡ (has_key q keys || list_any (is_key q) ms)
  has-keys keys [] = sym (or-false (has_key q keys))
  has-keys keys (m ∷ ms) =
      has-keys (with_key keys (key_of m)) ms
      ∙ ap (λ (b : Bool). b || list_any (is_key q) ms) (has-key keys (key_of m) ∙ ap (λ (b : Bool). has_key q keys || b) (flip q (key_of m)))
      ∙ or_assoc (has_key q keys) (is_key q m) (list_any (is_key q) ms)

  -- the class declares the key
  abbrev pub declares : ClassFacts → Bool
  declares c = is_some (own_field_of c q) || is_some (own_method_of c q)

  abbrev pub some_declares : Option ClassFacts → Bool
  some_declares None = false
  some_declares (Some c) = declares c

  has-class : (keys : List Key) (o : Option ClassFacts) → has_key q (with_keys_of keys o) ≡ (has_key q keys || some_declares o)
  has-class keys None = sym (or-false (has_key q keys))
  has-class keys (Some c) =
      has-keys (with_keys keys c.fields) c.methods
      ∙ ap (λ (b : Bool). b || list_any (is_key q) c.methods) (has-keys keys c.fields)
      ∙ or_assoc (has_key q keys) (list_any (is_key q) c.fields) (list_any (is_key q) c.methods)
      ∙ ap (λ (b : Bool). has_key q keys || (b || list_any (is_key q) c.methods)) (found_any (is_key q) c.fields)
      ∙ ap (λ (b : Bool). has_key q keys || (is_some (own_field_of c q) || b)) (found_any (is_key q) c.methods)

  has-all : (W : World) (keys : List Key) (xs : List Bytes) → has_key q (with_all_keys W keys xs) ≡ (has_key q keys || list_any (λ x. some_declares (class_with_rows W x)) xs)
  has-all W keys [] = sym (or-false (has_key q keys))
  has-all W keys (x ∷ xs) =
      has-all W (with_keys_of keys (class_with_rows W x)) xs
      ∙ ap (λ (b : Bool). b || list_any (λ y. some_declares (class_with_rows W y)) xs) (has-class keys (class_with_rows W x))
      ∙ or_assoc (has_key q keys) (some_declares (class_with_rows W x)) (list_any (λ y. some_declares (class_with_rows W y)) xs)

-- ---- classes by their names

module _ (W : World) (differ : differ_by_name (classes W) ≡ true) (k : Key) where
  -- a class is met under its own name
  by_name : (c : ClassFacts) → Contains (classes W) c → find_class W c.name ≡ Some c
  unfolding find_class
  by_name c i = each_in (λ d. class_named (classes W) d.name ≡ Some d) (classes W) c (each_named (classes W) differ) i

  found_in : (x : Bytes) (c : ClassFacts) → find_class W x ≡ Some c → Contains (classes W) c
  unfolding find_class
  found_in x c e = class_named-each (Contains (classes W)) (classes W) x c (each_from (Contains (classes W)) (classes W) (λ d i. i)) e

  -- the test of a class is that of what is found under its name, where it has rows
  declared_at : (b : Bool) (o : Option ClassFacts) (c : ClassFacts) → o ≡ Some c → some_declares k (cond b o None) ≡ (b && declares k c)
  declared_at true o c e = ap (some_declares k) e
  declared_at false o c e = refl

  found_in_classes : (x : Bytes) → some_declares k (class_with_rows W x) ≡ true → list_any (declares_with_rows W k) (classes W) ≡ true
  found_in_classes x h = go (find_class W x) refl
    where
      none : (b : Bool) (o : Option ClassFacts) → o ≡ None → some_declares k (cond b o None) ≡ false
      none true o e = ap (some_declares k) e
      none false o e = refl

      go : (o : Option ClassFacts) → find_class W x ≡ o → list_any (declares_with_rows W k) (classes W) ≡ true
      go None e = absurd (let z : true ≡ false = sym h ∙ none (has_rows W x) (find_class W x) e in cc)
      go (Some c) e =
          any_has (declares_with_rows W k) (classes W) c (found_in x c e)
          (ap (λ (y : Bytes). has_rows W y && declares k c) (find-name W x c e) ∙ sym (declared_at (has_rows W x) (find_class W x) c e) ∙ h)

  by_names : list_any (λ x. some_declares k (class_with_rows W x)) (names W) ≡ list_any (declares_with_rows W k) (classes W)
  by_names = both_ways (list_any (λ x. some_declares k (class_with_rows W x)) (names W)) (list_any (declares_with_rows W k) (classes W)) down up
    where
      down : list_any (λ x. some_declares k (class_with_rows W x)) (names W) ≡ true → list_any (declares_with_rows W k) (classes W) ≡ true
      down h = let p = any_passes (λ x. some_declares k (class_with_rows W x)) (names W) h in found_in_classes p.one p.passes

      up : list_any (declares_with_rows W k) (classes W) ≡ true → list_any (λ x. some_declares k (class_with_rows W x)) (names W) ≡ true
      up h =
          let p = any_passes (declares_with_rows W k) (classes W) h in
          let e : find_class W p.one.name ≡ Some p.one = by_name p.one p.is_in in
          any_has (λ x. some_declares k (class_with_rows W x)) (names W) p.one.name (names-in W p.one.name (ap is_some e)) (declared_at (has_rows W p.one.name) (find_class W p.one.name) p.one e ∙ p.passes)

  -- a key is numbered exactly where a class that has rows declares a field or a method of it
  pub numbered_keys-declared : has_key k (numbered_keys W) ≡ list_any (declares_with_rows W k) (classes W)
  unfolding numbered_keys
  numbered_keys-declared = has-all k W [] (names W) ∙ by_names
