-- What a class inherits from interfaces, by numbers.
use Rattle.std.proofs.Common.{◌≡◌, ℕ, Bool, true, false, not, cond, ◌||◌, ◌&&◌, List, [], ◌∷◌, refl, sym, ◌∙◌, ap, Option, Some, None, is_some}
use Rattle.std.specs.List.{list_any, Contains}
use Rattle.jc_facts.specs.declared.class_facts.ClassFacts.{ClassFacts}
use Rattle.jc_facts.specs.declared.class_facts.Member.{Member}
use Rattle.jc_facts.specs.declared.key.Key.{Key}
use Rattle.jc_facts.specs.Names.{Bytes}
use Rattle.jc_facts.specs.Flags.{private_flag, static_flag, interface_flag}
use Rattle.jc_facts.specs.Options.{and_then, some_and}
use Rattle.jc_facts.specs.world.World.{World, find_class, own_method_of, found_in, DeclaredMember}
use Rattle.jc_facts.specs.world.Lookup.{are_none, declared_by}
use Rattle.jc_facts.specs.world.Hierarchy.{superinterfaces}
use Rattle.jc_facts.specs.world.Loading.{load_fault}
use Rattle.jc_facts.specs.world.Assignment.{is_interface_of}
use Rattle.jc_facts.specs.world.Inheritance.{offers, is_inheritable, itself_and, inherits}
use Rattle.jc_lemmas.proofs.Listed.{none}
use Rattle.jc_lemmas.proofs.Lists.{IsCons}
use Rattle.jc_worlds.proofs.Offers.{declared_by-some, declared_by-offers}
use Rattle.jc_index.specs.Ids.{name_at}
use Rattle.jc_index.specs.Lookups.{IsChoice}
use Rattle.jc_index.specs.declared.ids.Found.{Found}
use Rattle.jc_method.specs.FoundKeys.{finds_method}
use Rattle.jc_method.specs.Inheriting.{inherits_from}
use Rattle.jc_rows.specs.Rows.{lookup_choices}
use Rattle.jc_rows.specs.steps.Fronts.{front_by}
use Rattle.jc_rows.proofs.Unfound.{own_none, parts, none_declared}
use Rattle.jc_index.specs.steps.Choosing.{as_found, if_candidate, candidate_at, FindsAbove}
use Rattle.jc_index.proofs.Choices.{any_choice}

-- a list that contains something
cons_of : (ms : List DeclaredMember) (m : DeclaredMember) → Contains ms m → IsCons ms
cons_of [] m c = absurd (none m c)
cons_of (n ∷ ns) m c = record { head = n; tail = ns; is = refl }

-- some superinterface offers the method exactly where one is found
pub offered : (W : World) (x : Bytes) → load_fault W x ≡ None → (k : Key) (o : Option Found) → FindsAbove W x (candidate_at W k) o → is_some o ≡ list_any (offers k) (superinterfaces W x)
offered W x l k o h = go o (any_choice W x l k o h)
  where
    without : declared_by k (superinterfaces W x) ≡ [] → (b : Bool) → list_any (offers k) (superinterfaces W x) ≡ b → false ≡ b
    without e false p = refl
    without e true p =
        let c : IsCons (declared_by k (superinterfaces W x)) = declared_by-some k (superinterfaces W x) p in
        absurd (let ms : List DeclaredMember = c.head ∷ c.tail in let z : [] ≡ ms = sym e ∙ c.is in cc)

    go : (o : Option Found) → IsChoice W o (declared_by k (superinterfaces W x)) → is_some o ≡ list_any (offers k) (superinterfaces W x)
    go None e = without e (list_any (offers k) (superinterfaces W x)) refl
    go (Some r) c = sym (declared_by-offers k (superinterfaces W x) (cons_of (declared_by k (superinterfaces W x)) c.0 c.1))

-- a class offers the method exactly where it has a candidate
offers_at : (k : Key) (n : ℕ) (c : ClassFacts) (o : Option Member) → is_some (if_candidate (as_found n o)) ≡ some_and is_inheritable o
offers_at k n c None = refl
offers_at k n c (Some m) = go (private_flag m.flags) (static_flag m.flags)
  where
    go : (p s : Bool) → is_some {T = Found} (cond (p || s) None (Some (record { owner = n; flags = m.flags }))) ≡ (not s && not p)
    go true true = refl
    go true false = refl
    go false true = refl
    go false false = refl

module _ (W : World) (k : Key) (n : ℕ) where
  chosen : (i a b : Bool) → cond i (a || b) b ≡ ((i && a) || b)
  chosen true a b = refl
  chosen false a b = refl

  whole : inherits_from W (name_at W n) k ≡ ((is_interface_of W (name_at W n) && is_some (candidate_at W k n)) || list_any (offers k) (superinterfaces W (name_at W n)))
  unfolding inherits and_then
  whole = go (find_class W (name_at W n)) refl
    where
      go : (o : Option ClassFacts) → find_class W (name_at W n) ≡ o
          → cond (some_and (λ c. interface_flag c.flags) o) (list_any (offers k) (itself_and (superinterfaces W (name_at W n)) o)) (list_any (offers k) (superinterfaces W (name_at W n)))
          ≡ ((some_and (λ c. interface_flag c.flags) o && is_some (if_candidate (as_found n (and_then (λ c. own_method_of c k) o)))) || list_any (offers k) (superinterfaces W (name_at W n)))
      go None e = refl
      go (Some c) e =
          chosen (interface_flag c.flags) (offers k c) (list_any (offers k) (superinterfaces W (name_at W n)))
          ∙ ap (λ b. (interface_flag c.flags && b) || list_any (offers k) (superinterfaces W (name_at W n))) (sym (offers_at k n c (own_method_of c k)))

  -- the interface itself
  pub inherits_own : (b : Bool) → b ≡ (is_interface_of W (name_at W n) && is_some (candidate_at W k n)) → b ≡ true → inherits_from W (name_at W n) k ≡ true
  inherits_own b p e = whole ∙ ap (λ v. v || list_any (offers k) (superinterfaces W (name_at W n))) (sym p ∙ e)

  -- a superinterface
  pub inherits_above : (b : Bool) (o : Option Found) → b ≡ (is_interface_of W (name_at W n) && is_some (candidate_at W k n)) → b ≡ false → load_fault W (name_at W n) ≡ None → FindsAbove W (name_at W n) (candidate_at W k) o
      → inherits_from W (name_at W n) k ≡ is_some o
  inherits_above b o p e l h = whole ∙ ap (λ v. v || list_any (offers k) (superinterfaces W (name_at W n))) (sym p ∙ e) ∙ sym (offered W (name_at W n) l k o h)

-- ---- what an interface inherits is found

module _ (W : World) (k : Key) (x : Bytes) where
  unoffered : (c : ClassFacts) (o : Option Member) → found_in c o ≡ None → some_and is_inheritable o ≡ false
  unfolding found_in
  unoffered c None e = refl
  unoffered c (Some m) e = absurd (cc)

  not_above : declared_by k (superinterfaces W x) ≡ [] → (b : Bool) → list_any (offers k) (superinterfaces W x) ≡ b → b ≡ false
  not_above e false p = refl
  not_above e true p =
      let c : IsCons (declared_by k (superinterfaces W x)) = declared_by-some k (superinterfaces W x) p in
      absurd (let ms : List DeclaredMember = c.head ∷ c.tail in let z : [] ≡ ms = sym e ∙ c.is in cc)

  nothing_inherited : is_interface_of W x ≡ true → lookup_choices W x k ≡ [] → inherits W x k ≡ false
  unfolding inherits
  nothing_inherited kind e = go (find_class W x) refl
    where
      above : list_any (offers k) (superinterfaces W x) ≡ false
      above = not_above (none_declared W k x (parts W k x e).1) (list_any (offers k) (superinterfaces W x)) refl

      front : front_by true W x k ≡ None
      front = ap (λ (b : Bool). front_by b W x k) (sym kind) ∙ (parts W k x e).0

      go : (o : Option ClassFacts) → find_class W x ≡ o → list_any (offers k) (itself_and (superinterfaces W x) o) ≡ false
      go None f = refl
      go (Some c) f = ap (λ (b : Bool). b || list_any (offers k) (superinterfaces W x)) (unoffered c (own_method_of c k) (own_none W k x c f front)) ∙ above

  pub inherits_is_found : is_interface_of W x ≡ true → inherits W x k ≡ true → finds_method W x k ≡ true
  inherits_is_found kind h = go (lookup_choices W x k) refl
    where
      go : (ms : List DeclaredMember) → lookup_choices W x k ≡ ms → not (are_none ms) ≡ true
      go (m ∷ ms) e = refl
      go [] e = absurd (let z : false ≡ true = sym (nothing_inherited kind e) ∙ h in cc)
