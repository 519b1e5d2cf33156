-- A row of methods is settled, item by item.
use Rattle.std.proofs.Common.{◌≡◌, ℕ, ◌≤◌, ◌<◌, ◌+◌, Bool, true, false, List, [], ◌∷◌, ◌++◌, length, refl, sym, ◌∙◌, ap, subst, Option, Some, None, arith}
use Rattle.std.specs.Prelude.{cond, nat_eq, slice_get}
use Rattle.std.proofs.lemmas.Bool.{eqb-true, eq-eqb, ne_eqb}
use Rattle.std.proofs.lemmas.List.{append_assoc, append-nil}
use Rattle.std.proofs.lemmas.Option.{slice_get_within}
use Rattle.jc_facts.specs.declared.key.Key.{Key}
use Rattle.jc_facts.specs.Names.{Bytes}
use Rattle.jc_facts.specs.Options.{or_else}
use Rattle.jc_facts.proofs.Options.{or_else-none, or_else-both, or_else-last, none_or_else}
use Rattle.jc_facts.specs.world.Assignment.{is_interface_of}
use Rattle.jc_facts.specs.world.Loading.{load_fault}
use Rattle.jc_facts.specs.world.World.{World, DeclaredMember}
use Rattle.jc_facts.specs.world.Lookup.{superinterface_choices, or_choices, method_choices, interface_choices}
use Rattle.jc_index.specs.Lookups.{IsAnswer, IsChoice}
use Rattle.jc_index.specs.Picks.{Picks}
use Rattle.jc_index.specs.declared.ids.Found.{Found}
use Rattle.jc_index.proofs.Lookups.{choice_here}
use Rattle.jc_index.proofs.Picked.{pick_choice}
use Rattle.jc_rows.specs.declared.row.RowItem.{RowItem}
use Rattle.jc_rows.specs.Keys.{numbered_keys}
use Rattle.jc_rows.specs.Rows.{Rises, RisesFrom, entry, IsRow, IsMethodEntry, IsMethodRow, choices_by, lookup_choices}
use Rattle.jc_rows.specs.steps.Fronts.{front_by, front_method, item_list}
use Rattle.jc_rows.specs.steps.Settling.{Settles, IsSource, IsSettling}
use Rattle.jc_rows.proofs.Entries.{entry-append, rises-without, list_entry, list_here}

-- ---- what is found is a choice

of_interface : (W : World) (x : Bytes) (k : Key) → choices_by true W x k ≡ or_choices (front_by true W x k) (superinterface_choices W x k)
unfolding interface_choices
of_interface W x k = refl

of_class : (W : World) (x : Bytes) (k : Key) → choices_by false W x k ≡ or_choices (front_by false W x k) (superinterface_choices W x k)
unfolding method_choices
of_class W x k = refl

pub by_front : (W : World) (x : Bytes) (k : Key) → lookup_choices W x k ≡ or_choices (front_method W x k) (superinterface_choices W x k)
by_front W x k = go (is_interface_of W x)
  where
    go : (b : Bool) → choices_by b W x k ≡ or_choices (front_by b W x k) (superinterface_choices W x k)
    go true = of_interface W x k
    go false = of_class W x k

-- what is picked where the front finds nothing
picked : (W : World) (x : Bytes) (k : Key) (o : Option Found) → load_fault W x ≡ None → front_method W x k ≡ None → Picks W x k o → IsMethodEntry W x k o
unfolding or_choices
picked W x k o l f p = record {
  choice = subst (IsChoice W o) (sym (by_front W x k ∙ ap (λ (p : Option DeclaredMember). or_choices p (superinterface_choices W x k)) f)) (pick_choice W x l k o p);
  pick = λ q. p;
}

pub chosen : (W : World) (x : Bytes) → load_fault W x ≡ None → (front : List RowItem) (n : ℕ) (k : Key) (result : Option Found) → IsRow W (front_method W x) front → slice_get (numbered_keys W) n ≡ Some k → Settles W x k (entry front n) result → IsMethodEntry W x k result
chosen W x l front n k result r e s = go (entry front n) (front_method W x k) refl (r.found n k e) s
  where
    go : (o : Option Found) (p : Option DeclaredMember) → front_method W x k ≡ p → IsAnswer W o p → Settles W x k o result → IsMethodEntry W x k result
    go None None q a s = picked W x k result l q s
    go None (Some m) q a s = absurd a
    go (Some f) None q a s = absurd a
    go (Some f) (Some m) q a s = subst (IsMethodEntry W x k) (sym s) (record {
      choice = subst (IsChoice W (Some f)) (sym (by_front W x k)) (choice_here W f (front_method W x k) (superinterface_choices W x k) (subst (IsAnswer W (Some f)) (sym q) a));
      pick = λ z. absurd (let clash : None ≡ Some m = sym z ∙ q in cc);
    })

-- ---- lists

-- an item may find something else
instead : (n : ℕ) (done : List RowItem) (i : RowItem) (is : List RowItem) (f : Found) → RisesFrom n (done ++ (i ∷ is)) → RisesFrom n (done ++ (record { key = i.key; found = f } ∷ is))
instead n [] i is f r = r
instead n (d ∷ done) i is f r = (r.0, instead (d.key + 1) done i is f r.1)

-- what stands before an item of a row has no entry for its key
before : (n : ℕ) (done : List RowItem) (i : RowItem) (is : List RowItem) → RisesFrom n (done ++ (i ∷ is)) → (n ≤ i.key) × (entry done i.key ≡ None)
before n [] i is r = (r.0, refl)
before n (d ∷ done) i is r =
    let p = before (d.key + 1) done i is r.1 in
    (omega (arith, p.0, r.0), ap (λ (b : Bool). cond b (Some d.found) (entry done i.key)) (ne_eqb d.key i.key (λ e. omega (arith, e, p.0))) ∙ p.1)

-- an item that has no entry for n leaves none
not_here : (b : Bool) (f : Found) (o : Option Found) → cond b (Some f) o ≡ None → (b ≡ false) × (o ≡ None)
not_here true f o e = absurd (let c : Some f ≡ None = e in cc)
not_here false f o e = (refl, e)

-- ---- settling

module _ (W : World) (x : Bytes) (loads : load_fault W x ≡ None) where
  pub starts : (all done : List RowItem) → done ≡ [] → IsSource W x all → IsSettling W x all done
  starts all done e s = subst (IsSettling W x all) (sym e) (record {
    rises = s.rises;
    within = s.within;
    right = λ n k q h. let p = s.complete n k q h in picked W x k None loads p.0 p.1;
  })

  module _ (i : RowItem) (is done : List RowItem) (w : IsSettling W x (i ∷ is) done) where
    here : entry (i ∷ is) i.key ≡ Some i.found
    here = ap (λ (b : Bool). cond b (Some i.found) (entry is i.key)) (eq-eqb i.key i.key refl)

    -- its key has a number
    pub numbered : (k : Key) × (slice_get (numbered_keys W) i.key ≡ Some k)
    numbered = go (slice_get (numbered_keys W) i.key) refl
      where
        go : (o : Option Key) → slice_get (numbered_keys W) i.key ≡ o → (k : Key) × (slice_get (numbered_keys W) i.key ≡ Some k)
        go None e = absurd (let c : Some i.found ≡ None = sym here ∙ (or_else-none (entry done i.key) (entry (i ∷ is) i.key) (sym (entry-append done (i ∷ is) i.key) ∙ w.within i.key e)).1 in cc)
        go (Some k) e = (k, e)

    pub number_within : i.key < length (numbered_keys W)
    number_within = slice_get_within (numbered_keys W) i.key numbered.0 numbered.1

    module _ (front : List RowItem) (r : IsRow W (front_method W x) front) (o : Option Found) (s : (k : Key) → slice_get (numbered_keys W) i.key ≡ Some k → Settles W x k (entry front i.key) o) where
      rises_on : (p : Option Found) → Rises ((done ++ item_list i.key p) ++ is)
      rises_on None = subst (λ (d : List RowItem). Rises (d ++ is)) (sym (append-nil done)) (rises-without 0 done i is w.rises)
      rises_on (Some f) = subst Rises (sym (append_assoc done (record { key = i.key; found = f } ∷ []) is)) (instead 0 done i is f w.rises)

      within_on : (n : ℕ) → slice_get (numbered_keys W) n ≡ None → entry ((done ++ item_list i.key o) ++ is) n ≡ None
      within_on n e =
          let a : or_else (entry done n) (entry (i ∷ is) n) ≡ None = sym (entry-append done (i ∷ is) n) ∙ w.within n e in
          let b = not_here (nat_eq i.key n) i.found (entry is n) (or_else-none (entry done n) (entry (i ∷ is) n) a).1 in
          entry-append (done ++ item_list i.key o) is n
          ∙ or_else-both (entry (done ++ item_list i.key o) n) (entry is n) (entry-append done (item_list i.key o) n ∙ or_else-both (entry done n) (entry (item_list i.key o) n) ((or_else-none (entry done n) (entry (i ∷ is) n) a).0) (list_entry i.key n o b.0)) b.1

      right_on : (n : ℕ) (k : Key) → slice_get (numbered_keys W) n ≡ Some k → entry is n ≡ None → IsMethodEntry W x k (entry (done ++ item_list i.key o) n)
      right_on n k e h = subst (IsMethodEntry W x k) (sym (entry-append done (item_list i.key o) n)) (go (nat_eq i.key n) refl)
        where
          go : (b : Bool) → nat_eq i.key n ≡ b → IsMethodEntry W x k (or_else (entry done n) (entry (item_list i.key o) n))
          go true q =
              let z : i.key ≡ n = eqb-true i.key n q in
              let none : entry done n ≡ None = ap (entry done) (sym z) ∙ (before 0 done i is w.rises).1 in
              let there : slice_get (numbered_keys W) i.key ≡ Some k = ap (slice_get (numbered_keys W)) z ∙ e in
              subst (IsMethodEntry W x k)
              (sym (ap (λ (p : Option Found). or_else p (entry (item_list i.key o) n)) none ∙ none_or_else (entry (item_list i.key o) n) ∙ list_here i.key n o q))
              (chosen W x loads front i.key k o r there (s k there))
          go false q =
              subst (IsMethodEntry W x k) (sym (ap (or_else (entry done n)) (list_entry i.key n o q) ∙ or_else-last (entry done n)))
              (w.right n k e (ap (λ (b : Bool). cond b (Some i.found) (entry is n)) q ∙ h))

      pub goes : IsSettling W x is (done ++ item_list i.key o)
      goes = record { rises = rises_on o; within = within_on; right = right_on }

  pub ends : (done : List RowItem) → IsSettling W x [] done → IsMethodRow W x done
  ends done w = record {
    rises = subst Rises (append-nil done) w.rises;
    found = λ n k e. (w.right n k e refl).choice;
    picked = λ n k e. (w.right n k e refl).pick;
    within = λ n e. ap (λ (r : List RowItem). entry r n) (sym (append-nil done)) ∙ w.within n e;
  }
