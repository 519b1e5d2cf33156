-- Rows of the chain of a class and of java/lang/Object.
use Rattle.std.proofs.Common.{◌≡◌, ℕ, ◌≤◌, ◌+◌, Bool, true, false, List, [], ◌∷◌, ◌++◌, length, drop, refl, sym, ◌∙◌, ap, subst, Option, Some, None, arith}
use Rattle.std.specs.Prelude.{cond, nat_eq, ◌&&◌}
use Rattle.std.proofs.lemmas.Bool.{eqb-true}
use Rattle.std.proofs.lemmas.List.{append-nil}
use Rattle.std.proofs.lemmas.List.Elements.{recursion_from_All}
use Rattle.std.proofs.Math.ListN.{drop_of_length-le}
use Rattle.jc_facts.specs.declared.class_facts.ClassFacts.{ClassFacts}
use Rattle.jc_facts.specs.declared.key.Key.{Key}
use Rattle.jc_facts.specs.Names.{Bytes, object_name}
use Rattle.jc_facts.specs.Flags.{public_flag, no_static_flag, interface_flag}
use Rattle.jc_facts.specs.Options.{or_else, and_then, some_and}
use Rattle.jc_facts.specs.world.Assignment.{is_interface_of}
use Rattle.jc_facts.specs.world.World.{World, find_class, declared_method, DeclaredMember}
use Rattle.jc_facts.specs.world.Hierarchy.{chain, of_super}
use Rattle.jc_facts.specs.world.Loading.{load_fault}
use Rattle.jc_facts.specs.world.Lookup.{first_declared, public_method_of_object, if_public_instance}
use Rattle.jc_facts.specs.world.Search.{supers, supers_of}
use Rattle.jc_facts.proofs.Options.{or_else-both, or_else-last, none_or_else, some_or_else}
use Rattle.jc_lemmas.proofs.Listed.{EachOf}
use Rattle.jc_worlds.proofs.Unrolled.{chain-unroll}
use Rattle.jc_index.specs.Ids.{id_of, name_at}
use Rattle.jc_index.specs.Lookups.{IsAnswer}
use Rattle.jc_index.specs.Sides.{IsSide}
use Rattle.jc_index.proofs.Numbers.{id_of-Some, find-None}
use Rattle.jc_index.specs.declared.ids.Found.{Found}
use Rattle.jc_rows.specs.declared.row.RowItem.{RowItem}
use Rattle.jc_rows.specs.Rows.{RisesFrom, entry, IsRow}
use Rattle.jc_rows.specs.WithRows.{has_rows}
use Rattle.jc_rows.specs.steps.Merging.{IsMerged}
use Rattle.jc_rows.specs.steps.Gathering.{row_named, HasAbove}
use Rattle.jc_rows.specs.steps.Fronts.{front_by, front_method, own_method, chain_method, if_open, item_list, open_items}
use Rattle.jc_rows.proofs.Entries.{entry-append, entry-below, rises-more}
use Rattle.jc_rows.proofs.FieldLaw.{both}
use Rattle.jc_rows.proofs.WithRows.{rows-object}

-- ---- items that stay

open-rises : (n : ℕ) (row : List RowItem) → RisesFrom n row → RisesFrom n (open_items row)
open-rises n [] r = tt
open-rises n (i ∷ is) r = go (if_open i.found) (open-rises (i.key + 1) is r.1)
  where
    go : (o : Option Found) → RisesFrom (i.key + 1) (open_items is) → RisesFrom n (item_list i.key o ++ open_items is)
    go None h = rises-more n (i.key + 1) (open_items is) (omega (arith, r.0)) h
    go (Some f) h = (r.0, h)

-- of a row that rises
open-entry : (m : ℕ) (row : List RowItem) (n : ℕ) → RisesFrom m row → entry (open_items row) n ≡ and_then if_open (entry row n)
unfolding and_then
open-entry m [] n r = refl
open-entry m (i ∷ is) n r = entry-append (item_list i.key (if_open i.found)) (open_items is) n ∙ go (nat_eq i.key n) refl (if_open i.found) refl (open-entry (i.key + 1) is n r.1)
  where
    go : (b : Bool) → nat_eq i.key n ≡ b → (o : Option Found) → if_open i.found ≡ o → entry (open_items is) n ≡ and_then if_open (entry is n) → or_else (entry (item_list i.key o) n) (entry (open_items is) n) ≡ and_then if_open (cond b (Some i.found) (entry is n))
    go true e None f h =
        let z : i.key ≡ n = eqb-true i.key n e in
        none_or_else (entry (open_items is) n) ∙ h ∙ ap (and_then if_open) (entry-below (i.key + 1) n is (omega (arith, z)) r.1) ∙ sym f
    go true e (Some g) f h = ap (λ (b : Bool). or_else (cond b (Some g) None) (entry (open_items is) n)) e ∙ some_or_else g (entry (open_items is) n) ∙ sym f
    go false e None f h = none_or_else (entry (open_items is) n) ∙ h
    go false e (Some g) f h = ap (λ (b : Bool). or_else (cond b (Some g) None) (entry (open_items is) n)) e ∙ none_or_else (entry (open_items is) n) ∙ h

module _ (W : World) where
  -- two rows, merged
  pub merged : (f g : Key → Option DeclaredMember) (first second row : List RowItem) → IsRow W f first → IsRow W g second → IsMerged first second row → IsRow W (λ k. or_else (f k) (g k)) row
  merged f g first second row a b m = record {
    rises = m.rises;
    found = λ n k e. subst (λ (o : Option Found). IsAnswer W o (or_else (f k) (g k))) (sym (m.entries n)) (both W (entry first n) (entry second n) (f k) (g k) (a.found n k e) (b.found n k e));
    within = λ n e. m.entries n ∙ or_else-both (entry first n) (entry second n) (a.within n e) (b.within n e);
  }

  pub same_row : (f g : Key → Option DeclaredMember) (row : List RowItem) → ((k : Key) → f k ≡ g k) → IsRow W f row → IsRow W g row
  same_row f g row e r = record { rises = r.rises; found = λ n k q. subst (IsAnswer W (entry row n)) (e k) (r.found n k q); within = r.within }

  -- ---- chains

  module _ (x : Bytes) (c : ClassFacts) (f : find_class W x ≡ Some c) (h : load_fault W x ≡ None) where
    step : (k : Key) → chain_method W x k ≡ or_else (own_method W x k) (first_declared k (of_super (chain W) c.superclass))
    unfolding first_declared and_then
    step k = ap (first_declared k) (chain-unroll W x c f h) ∙ ap (λ (o : Option ClassFacts). or_else (and_then (declared_method k) o) (first_declared k (of_super (chain W) c.superclass))) (sym f)

    pub chain-None : (own_row : List RowItem) → c.superclass ≡ None → IsRow W (own_method W x) own_row → IsRow W (chain_method W x) own_row
    unfolding first_declared
    chain-None own_row s r = same_row (own_method W x) (chain_method W x) own_row (λ k. sym (step k ∙ ap (λ (o : Option Bytes). or_else (own_method W x k) (first_declared k (of_super (chain W) o))) s ∙ or_else-last (own_method W x k))) r

    -- the row of the superclass
    superclass_row : (rows : List (List RowItem)) (z : Bytes) → c.superclass ≡ Some z → HasAbove (λ y. IsRow W (chain_method W y)) W rows x → IsRow W (chain_method W z) (row_named W rows z)
    superclass_row rows z s a = go c.superclass s (recursion_from_All (λ y. IsRow W (chain_method W y) (row_named W rows y)) (supers c) (a c f))
      where
        go : (o : Option Bytes) → o ≡ Some z → EachOf (λ y. IsRow W (chain_method W y) (row_named W rows y)) (supers_of o c.interfaces) → IsRow W (chain_method W z) (row_named W rows z)
        go None e h = absurd (let clash : None ≡ Some z = e in cc)
        go (Some y) e h = let q : y ≡ z = cc in subst (λ (v : Bytes). IsRow W (chain_method W v) (row_named W rows v)) q h.0

    pub chain-Some : (own_row : List RowItem) (rows : List (List RowItem)) (z : Bytes) (up whole : List RowItem) → c.superclass ≡ Some z → up ≡ row_named W rows z → HasAbove (λ y. IsRow W (chain_method W y)) W rows x → IsRow W (own_method W x) own_row → IsMerged own_row up whole
        → IsRow W (chain_method W x) whole
    chain-Some own_row rows z up whole s u a r m =
        same_row (λ k. or_else (own_method W x k) (chain_method W z k)) (chain_method W x) whole (λ k. sym (step k ∙ ap (λ (o : Option Bytes). or_else (own_method W x k) (first_declared k (of_super (chain W) o))) s))
        (merged (own_method W x) (chain_method W z) own_row up whole r (subst (IsRow W (chain_method W z)) (sym u) (superclass_row rows z s a)) m)

  -- ---- interfaces

  pub front-interface : (x : Bytes) (c : ClassFacts) → Some c ≡ find_class W x → interface_flag c.flags ≡ true → (own_row object row : List RowItem) → IsRow W (own_method W x) own_row → IsRow W (public_method_of_object W) object → IsMerged own_row object row
      → IsRow W (front_method W x) row
  front-interface x c f i own_row object row r o m =
      let q : is_interface_of W x ≡ true = ap (some_and (λ d. interface_flag d.flags)) (sym f) ∙ i in
      same_row (λ k. or_else (own_method W x k) (public_method_of_object W k)) (front_method W x) row (λ k. ap (λ (b : Bool). front_by b W x k) (sym q)) (merged (own_method W x) (public_method_of_object W) own_row object row r o m)

  -- ---- the public instance methods

  lifts : (o : Option Found) (m : Option DeclaredMember) → IsAnswer W o m → IsAnswer W (and_then if_open o) (and_then if_public_instance m)
  unfolding and_then if_public_instance
  lifts None None a = tt
  lifts None (Some m) a = absurd a
  lifts (Some f) None a = absurd a
  lifts (Some f) (Some m) a =
      subst (λ (g : ℕ). IsAnswer W (cond (public_flag f.flags && no_static_flag f.flags) (Some f) None) (cond (public_flag g && no_static_flag g) (Some m) None)) a.flags (go (public_flag f.flags && no_static_flag f.flags))
    where
      go : (b : Bool) → IsAnswer W (cond b (Some f) None) (cond b (Some m) None)
      go true = a
      go false = tt

  pub object_is : (row made : List RowItem) → made ≡ open_items row → IsRow W (own_method W object_name) row → IsRow W (public_method_of_object W) made
  unfolding public_method_of_object and_then
  object_is row made e r = subst (IsRow W (public_method_of_object W)) (sym e) (record {
    rises = open-rises 0 row r.rises;
    found = λ n k q. subst (λ (o : Option Found). IsAnswer W o (public_method_of_object W k)) (sym (open-entry 0 row n r.rises)) (lifts (entry row n) (own_method W object_name k) (r.found n k q));
    within = λ n q. open-entry 0 row n r.rises ∙ ap (and_then if_open) (r.within n q);
  })

  -- where there is no java/lang/Object
  pub no_object : id_of W object_name ≡ None → (row : List RowItem) → row ≡ [] → IsRow W (public_method_of_object W) row
  unfolding public_method_of_object and_then
  no_object e row r = subst (IsRow W (public_method_of_object W)) (sym r) (record {
    rises = tt;
    found = λ n k q. subst (λ (o : Option ClassFacts). IsAnswer W None (and_then if_public_instance (and_then (declared_method k) o))) (sym (find-None W object_name e)) tt;
    within = λ n q. refl;
  })

  pub object_rows : IsSide W → (n : ℕ) → id_of W object_name ≡ Some n → has_rows W (name_at W n) ≡ true
  object_rows side n e = ap (has_rows W) (id_of-Some W object_name n e).1 ∙ rows-object W side

  pub own_object : (n : ℕ) → id_of W object_name ≡ Some n → (row : List RowItem) → IsRow W (own_method W (name_at W n)) row → IsRow W (own_method W object_name) row
  own_object n e row r = subst (λ (x : Bytes). IsRow W (own_method W x) row) (id_of-Some W object_name n e).1 r

-- ---- the loop

pub open-end : (row done : List RowItem) (at : ℕ) → length row ≤ at → done ++ open_items (drop at row) ≡ open_items row → done ≡ open_items row
open-end row done at l h = sym (ap (λ (r : List RowItem). done ++ open_items r) (drop_of_length-le row l) ∙ append-nil done) ∙ h
