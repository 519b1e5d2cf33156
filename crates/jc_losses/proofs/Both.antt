-- What is lost is Ok with the old side and an error with the new.
use Rattle.std.proofs.Common.{◌≡◌, Bool, true, false, cond, List, [], ◌∷◌, ◌++◌, refl, sym, ◌∙◌, ap, subst, Option, Some, None, is_none, ◌⊎◌, inl, inr}
use Rattle.std.specs.Prelude.{is_some, IsTrue}
use Rattle.std.specs.List.{Contains}
use Rattle.std.proofs.lemmas.List.Elements.{Contains-append_left, Contains-append_right, Contains-append_cases}
use Rattle.jc_facts.specs.declared.client.ClientClass.{ClientClass}
use Rattle.jc_facts.specs.declared.client.Item.{Item}
use Rattle.jc_facts.specs.declared.link_error.LinkError.{LinkError}
use Rattle.jc_facts.specs.declared.outcome.Outcome.{Outcome}
use Rattle.jc_facts.specs.Names.{Bytes}
use Rattle.jc_facts.specs.client.Linked.{in_order, loading, linking, item_outcomes, where_loaded, client_outcomes, all_outcomes, outcomes, are_all_ok}
use Rattle.jc_facts.specs.client.Outcome.{outcome}
use Rattle.jc_facts.specs.client.Valid.{facts_of}
use Rattle.jc_facts.specs.world.Loading.{load_fault}
use Rattle.jc_facts.specs.world.World.{World, with_clients}
use Rattle.jc_lemmas.proofs.Listed.{here, there, none, cases}
use Rattle.jc_lemmas.proofs.Options.{none_where}
use Rattle.jc_worlds.proofs.ClientOrder.{from_sorted}
use Rattle.std.proofs.lemmas.Bool.{and_parts}
use Rattle.jc_losses.specs.Losses.{lost_where, item_losses, client_losses, all_losses, losses, when_ok, IsLoss}
use Rattle.jc_losses.specs.Laws.{LossesAreOfBoth}

-- ---- one outcome

only : (x o : Outcome) → Contains (x ∷ []) o → x ≡ o
only x o k = go (cases x [] o k)
  where
    go : (x ≡ o) ⊎ Contains [] o → x ≡ o
    go (inl p) = p
    go (inr q) = absurd (none o q)

now_lost : (now o : Outcome) (b : Bool) → is_some now.error ≡ b → Contains (cond b (now ∷ []) []) o → (now ≡ o) × IsTrue (is_some now.error)
now_lost now o true e k = (only now o k, e)
now_lost now o false e k = absurd (none o k)

lost_is : (was : Option LinkError) (now o : Outcome) → Contains (lost_where was now) o → (now ≡ o) × (was ≡ None) × IsTrue (is_some now.error)
lost_is None now o k = let n = now_lost now o (is_some now.error) refl k in (n.0, refl, n.1)
lost_is (Some e) now o k = absurd (none o k)

is_lost : (was : Option LinkError) (now : Outcome) → was ≡ None → IsTrue (is_some now.error) → Contains (lost_where was now) now
is_lost was now e f = rw (e, f) (here now [])

-- ---- the outcomes of a client, by its spots

-- the error at a spot of the class x: of its loading, or of an item
abbrev spot_error : World → Bytes → Option Item → Option LinkError
spot_error W x None = load_fault W x
spot_error W x (Some i) = outcome W x i

-- the client has the spot, and it is reached
abbrev IsReached : World → ClientClass → Option Item → Type 0
IsReached W c None = Unit {0}
IsReached W c (Some i) = (load_fault W c.facts.name ≡ None) × Contains c.items i

-- the outcome at a spot of the client
record IsSpotOf (W : World) (c : ClientClass) (o : Outcome) : Type 0 where
  named : o.class ≡ c.facts.name
  error : o.error ≡ spot_error W c.facts.name o.item
  reached : IsReached W c o.item

-- one of the clients has it
record IsOfSome (P : ClientClass → Type 0) (cs : List ClientClass) : Type 0 where
  client : ClientClass
  is_client : Contains cs client
  holds : P client

next : {P : ClientClass → Type 0} (c : ClientClass) (cs : List ClientClass) → IsOfSome P cs → IsOfSome P (c ∷ cs)
next c cs h = record { client = h.client; is_client = there h.client c cs h.is_client; holds = h.holds }

module _ (W : World) where
  of_items : (x : Bytes) (is : List Item) (o : Outcome) → Contains (item_outcomes W x is) o → (i : Item) × Contains is i × (linking W x i ≡ o)
  of_items x [] o k = absurd (none o k)
  of_items x (i ∷ is) o k = go (cases (linking W x i) (item_outcomes W x is) o k) (of_items x is o)
    where
      more : (j : Item) × Contains is j × (linking W x j ≡ o) → (j : Item) × Contains (i ∷ is) j × (linking W x j ≡ o)
      more m = (m.0, there m.0 i is m.1, m.2)

      go : (linking W x i ≡ o) ⊎ Contains (item_outcomes W x is) o → (Contains (item_outcomes W x is) o → (j : Item) × Contains is j × (linking W x j ≡ o)) → (j : Item) × Contains (i ∷ is) j × (linking W x j ≡ o)
      go (inl e) later = (i, here i is, e)
      go (inr m) later = more (later m)

  in_items : (x : Bytes) (is : List Item) (i : Item) → Contains is i → Contains (item_outcomes W x is) (linking W x i)
  in_items x [] i k = absurd (none i k)
  in_items x (j ∷ is) i k = go (cases j is i k) (in_items x is i)
    where
      go : (j ≡ i) ⊎ Contains is i → (Contains is i → Contains (item_outcomes W x is) (linking W x i)) → Contains (linking W x j ∷ item_outcomes W x is) (linking W x i)
      go (inl e) more = subst (λ z. Contains (linking W x j ∷ item_outcomes W x is) (linking W x z)) e (here (linking W x j) (item_outcomes W x is))
      go (inr m) more = there (linking W x i) (linking W x j) (item_outcomes W x is) (more m)

  spot_of : (c : ClientClass) (o : Outcome) → Contains (client_outcomes W c) o → IsSpotOf W c o
  unfolding client_outcomes
  spot_of c o k = go (load_fault W c.facts.name) refl (cases (loading W c.facts.name) (where_loaded (load_fault W c.facts.name) (item_outcomes W c.facts.name c.items)) o k)
    where
      at_item : load_fault W c.facts.name ≡ None → (i : Item) × Contains c.items i × (linking W c.facts.name i ≡ o) → IsSpotOf W c o
      at_item e m = subst (IsSpotOf W c) m.2 (record { named = refl; error = refl; reached = (e, m.1) })

      go : (f : Option LinkError) → load_fault W c.facts.name ≡ f → (loading W c.facts.name ≡ o) ⊎ Contains (where_loaded f (item_outcomes W c.facts.name c.items)) o → IsSpotOf W c o
      go f e (inl p) = subst (IsSpotOf W c) p (record { named = refl; error = refl; reached = tt })
      go None e (inr m) = at_item e (of_items c.facts.name c.items o m)
      go (Some x) e (inr m) = absurd (none o m)

  -- an outcome is what its parts are
  has_spot : (c : ClientClass) (x : Bytes) (i : Option Item) (f : Option LinkError) → x ≡ c.facts.name → f ≡ spot_error W c.facts.name i → IsReached W c i → Contains (client_outcomes W c) (record { «class» = x; item = i; error = f })
  unfolding client_outcomes
  has_spot c x None f p q r =
      rw (p, q) (here (loading W c.facts.name) (where_loaded (load_fault W c.facts.name) (item_outcomes W c.facts.name c.items)))
  has_spot c x (Some i) f p q r =
      rw (p, q) (there (linking W c.facts.name i) (loading W c.facts.name) (where_loaded (load_fault W c.facts.name) (item_outcomes W c.facts.name c.items))
      (subst (λ g. Contains (where_loaded g (item_outcomes W c.facts.name c.items)) (linking W c.facts.name i)) (sym r.0) (in_items c.facts.name c.items i r.1)))

  of_all : (cs : List ClientClass) (o : Outcome) → Contains (all_outcomes W cs) o → IsOfSome (λ c. IsSpotOf W c o) cs
  of_all [] o k = absurd (none o k)
  of_all (c ∷ cs) o k = go (Contains-append_cases (client_outcomes W c) (all_outcomes W cs) o k) (of_all cs o)
    where
      go : Contains (client_outcomes W c) o ⊎ Contains (all_outcomes W cs) o → (Contains (all_outcomes W cs) o → IsOfSome (λ c. IsSpotOf W c o) cs) → IsOfSome (λ c. IsSpotOf W c o) (c ∷ cs)
      go (inl m) later = record { client = c; is_client = here c cs; holds = spot_of c o m }
      go (inr m) later = next c cs (later m)

  in_all : (cs : List ClientClass) (c : ClientClass) (o : Outcome) → Contains cs c → Contains (client_outcomes W c) o → Contains (all_outcomes W cs) o
  in_all [] c o k m = absurd (none c k)
  in_all (d ∷ cs) c o k m = go (cases d cs c k) (λ j. in_all cs c o j m)
    where
      go : (d ≡ c) ⊎ Contains cs c → (Contains cs c → Contains (all_outcomes W cs) o) → Contains (client_outcomes W d ++ all_outcomes W cs) o
      go (inl e) more = Contains-append_left (client_outcomes W d) (all_outcomes W cs) o (subst (λ z. Contains (client_outcomes W z) o) (sym e) m)
      go (inr j) more = Contains-append_right (client_outcomes W d) (all_outcomes W cs) o (more j)

-- ---- what is lost of a client

module _ (W V : World) where
  -- the outcome at a spot of the client with the new side, which was Ok
  record IsLostOf (c : ClientClass) (o : Outcome) : Type 0 where
    spot : IsSpotOf V c o
    fails : IsTrue (is_some o.error)
    loaded : load_fault W c.facts.name ≡ None
    was : spot_error W c.facts.name o.item ≡ None

  of_lost_items : (x : Bytes) (is : List Item) (o : Outcome) → Contains (item_losses W V x is) o → (i : Item) × Contains is i × (linking V x i ≡ o) × (outcome W x i ≡ None) × IsTrue (is_some (outcome V x i))
  of_lost_items x [] o k = absurd (none o k)
  of_lost_items x (i ∷ is) o k = go (Contains-append_cases (lost_where (outcome W x i) (linking V x i)) (item_losses W V x is) o k) (of_lost_items x is o)
    where
      first : (linking V x i ≡ o) × (outcome W x i ≡ None) × IsTrue (is_some (outcome V x i)) → (j : Item) × Contains (i ∷ is) j × (linking V x j ≡ o) × (outcome W x j ≡ None) × IsTrue (is_some (outcome V x j))
      first m = (i, here i is, m.0, m.1, m.2)

      more : (j : Item) × Contains is j × (linking V x j ≡ o) × (outcome W x j ≡ None) × IsTrue (is_some (outcome V x j)) → (j : Item) × Contains (i ∷ is) j × (linking V x j ≡ o) × (outcome W x j ≡ None) × IsTrue (is_some (outcome V x j))
      more m = (m.0, there m.0 i is m.1, m.2, m.3, m.4)

      go : Contains (lost_where (outcome W x i) (linking V x i)) o ⊎ Contains (item_losses W V x is) o
          → (Contains (item_losses W V x is) o → (j : Item) × Contains is j × (linking V x j ≡ o) × (outcome W x j ≡ None) × IsTrue (is_some (outcome V x j)))
          → (j : Item) × Contains (i ∷ is) j × (linking V x j ≡ o) × (outcome W x j ≡ None) × IsTrue (is_some (outcome V x j))
      go (inl m) later = first (lost_is (outcome W x i) (linking V x i) o m)
      go (inr m) later = more (later m)

  in_lost_items : (x : Bytes) (is : List Item) (i : Item) → Contains is i → outcome W x i ≡ None → IsTrue (is_some (outcome V x i)) → Contains (item_losses W V x is) (linking V x i)
  in_lost_items x [] i k p q = absurd (none i k)
  in_lost_items x (j ∷ is) i k p q = go (cases j is i k) (λ m. in_lost_items x is i m p q)
    where
      go : (j ≡ i) ⊎ Contains is i → (Contains is i → Contains (item_losses W V x is) (linking V x i)) → Contains (lost_where (outcome W x j) (linking V x j) ++ item_losses W V x is) (linking V x i)
      go (inl e) more = Contains-append_left (lost_where (outcome W x j) (linking V x j)) (item_losses W V x is) (linking V x i)
          (subst (λ z. Contains (lost_where (outcome W x z) (linking V x z)) (linking V x i)) (sym e) (is_lost (outcome W x i) (linking V x i) p q))
      go (inr m) more = Contains-append_right (lost_where (outcome W x j) (linking V x j)) (item_losses W V x is) (linking V x i) (more m)

  lost_of : (c : ClientClass) (o : Outcome) → Contains (client_losses W V c) o → IsLostOf c o
  lost_of c o k = go (Contains-append_cases (lost_where (load_fault W c.facts.name) (loading V c.facts.name)) _ o k)
    where
      at_load : (loading V c.facts.name ≡ o) × (load_fault W c.facts.name ≡ None) × IsTrue (is_some (load_fault V c.facts.name)) → IsLostOf c o
      at_load m = subst (IsLostOf c) m.0 (record { spot = record { named = refl; error = refl; reached = tt }; fails = m.2; loaded = m.1; was = m.1 })

      at_item : load_fault W c.facts.name ≡ None → load_fault V c.facts.name ≡ None → (i : Item) × Contains c.items i × (linking V c.facts.name i ≡ o) × (outcome W c.facts.name i ≡ None) × IsTrue (is_some (outcome V c.facts.name i)) → IsLostOf c o
      at_item p q m = subst (IsLostOf c) m.2 (record { spot = record { named = refl; error = refl; reached = (q, m.1) }; fails = m.4; loaded = p; was = m.3 })

      by : (f g : Option LinkError) → load_fault W c.facts.name ≡ f → load_fault V c.facts.name ≡ g → Contains (where_loaded f (where_loaded g (item_losses W V c.facts.name c.items))) o → IsLostOf c o
      by None None p q m = at_item p q (of_lost_items c.facts.name c.items o m)
      by None (Some e) p q m = absurd (none o m)
      by (Some e) g p q m = absurd (none o m)

      go : Contains (lost_where (load_fault W c.facts.name) (loading V c.facts.name)) o ⊎ Contains (where_loaded (load_fault W c.facts.name) (where_loaded (load_fault V c.facts.name) (item_losses W V c.facts.name c.items))) o → IsLostOf c o
      go (inl m) = at_load (lost_is (load_fault W c.facts.name) (loading V c.facts.name) o m)
      go (inr m) = by (load_fault W c.facts.name) (load_fault V c.facts.name) refl refl m

  is_lost_of : (c : ClientClass) (x : Bytes) (i : Option Item) (f : Option LinkError) → IsLostOf c (record { «class» = x; item = i; error = f }) → Contains (client_losses W V c) (record { «class» = x; item = i; error = f })
  is_lost_of c x None f h =
      rw (h.spot.named, h.spot.error)
      (Contains-append_left (lost_where (load_fault W c.facts.name) (loading V c.facts.name)) _ (loading V c.facts.name)
      (is_lost (load_fault W c.facts.name) (loading V c.facts.name) h.was (subst (λ z. IsTrue (is_some z)) h.spot.error h.fails)))
  is_lost_of c x (Some i) f h =
      rw (h.spot.named, h.spot.error)
      (Contains-append_right (lost_where (load_fault W c.facts.name) (loading V c.facts.name)) (where_loaded (load_fault W c.facts.name) (where_loaded (load_fault V c.facts.name) (item_losses W V c.facts.name c.items))) (linking V c.facts.name i)
      (rw (h.loaded, h.spot.reached.0) (in_lost_items c.facts.name c.items i h.spot.reached.1 h.was (subst (λ z. IsTrue (is_some z)) h.spot.error h.fails))))

  of_all_lost : (cs : List ClientClass) (o : Outcome) → Contains (all_losses W V cs) o → IsOfSome (λ c. IsLostOf c o) cs
  of_all_lost [] o k = absurd (none o k)
  of_all_lost (c ∷ cs) o k = go (Contains-append_cases (client_losses W V c) (all_losses W V cs) o k) (of_all_lost cs o)
    where
      go : Contains (client_losses W V c) o ⊎ Contains (all_losses W V cs) o → (Contains (all_losses W V cs) o → IsOfSome (λ c. IsLostOf c o) cs) → IsOfSome (λ c. IsLostOf c o) (c ∷ cs)
      go (inl m) later = record { client = c; is_client = here c cs; holds = lost_of c o m }
      go (inr m) later = next c cs (later m)

  in_all_lost : (cs : List ClientClass) (c : ClientClass) (o : Outcome) → Contains cs c → Contains (client_losses W V c) o → Contains (all_losses W V cs) o
  in_all_lost [] c o k m = absurd (none c k)
  in_all_lost (d ∷ cs) c o k m = go (cases d cs c k) (λ j. in_all_lost cs c o j m)
    where
      go : (d ≡ c) ⊎ Contains cs c → (Contains cs c → Contains (all_losses W V cs) o) → Contains (client_losses W V d ++ all_losses W V cs) o
      go (inl e) more = Contains-append_left (client_losses W V d) (all_losses W V cs) o (subst (λ z. Contains (client_losses W V z) o) (sym e) m)
      go (inr j) more = Contains-append_right (client_losses W V d) (all_losses W V cs) o (more j)

  -- ---- both ways

  to_both : (cs : List ClientClass) (o : Outcome) → Contains (all_losses W V cs) o → IsLoss (all_outcomes W cs) (all_outcomes V cs) o
  to_both cs o k =
      let s = of_all_lost cs o k in
      let c = s.client in
      let h = s.holds in
      record {
        now = in_all V cs c o s.is_client (has_spot V c o.class o.item o.error h.spot.named h.spot.error h.spot.reached);
        fails = h.fails;
        was = in_all W cs c (when_ok o) s.is_client (has_spot W c o.class o.item None h.spot.named (sym h.was) (before c o.item h.loaded h.spot.reached));
      }
    where
      before : (c : ClientClass) (i : Option Item) → load_fault W c.facts.name ≡ None → IsReached V c i → IsReached W c i
      before c None p r = tt
      before c (Some i) p r = (p, r.1)

  from_both : (cs : List ClientClass) (o : Outcome) → IsLoss (all_outcomes W cs) (all_outcomes V cs) o → Contains (all_losses W V cs) o
  from_both cs o l =
      let s = of_all V cs o l.now in
      let b = of_all W cs (when_ok o) l.was in
      let same : b.client.facts.name ≡ s.client.facts.name = sym b.holds.named ∙ s.holds.named in
      let was : spot_error W s.client.facts.name o.item ≡ None = ap (λ x. spot_error W x o.item) (sym same) ∙ sym b.holds.error in
      in_all_lost cs s.client o s.is_client (is_lost_of s.client o.class o.item o.error (record {
        spot = s.holds;
        fails = l.fails;
        loaded = ap (load_fault W) (sym same) ∙ first b.client o.item (sym b.holds.error) b.holds.reached;
        was = was;
      }))
    where
      first : (c : ClientClass) (i : Option Item) → spot_error W c.facts.name i ≡ None → IsReached W c i → load_fault W c.facts.name ≡ None
      first c None p r = p
      first c (Some i) p r = r.0

pub losses_are_of_both : LossesAreOfBoth
unfolding losses outcomes
losses_are_of_both O N cs o = (
  to_both (with_clients O (facts_of cs)) (with_clients N (facts_of cs)) (in_order cs) o,
  from_both (with_clients O (facts_of cs)) (with_clients N (facts_of cs)) (in_order cs) o,
)

-- ---- where a loss is

-- what was Ok of the client, and isn't: its loading, or one of its items
abbrev pub WasAt : World → World → ClientClass → Option Item → Type 0
WasAt W V c None = IsTrue (is_some (load_fault V c.facts.name))
WasAt W V c (Some i) = Contains c.items i × (outcome W c.facts.name i ≡ None) × IsTrue (is_some (outcome V c.facts.name i))

pub record IsLossOf (O N : World) (cs : List ClientClass) (o : Outcome) : Type 0 where
  pub client : ClientClass
  pub is_client : Contains cs client
  pub named : o.class ≡ client.facts.name
  pub loaded : load_fault (with_clients O (facts_of cs)) client.facts.name ≡ None
  pub at : WasAt (with_clients O (facts_of cs)) (with_clients N (facts_of cs)) client o.item

pub loss_of : (O N : World) (cs : List ClientClass) (o : Outcome) → Contains (losses O N cs) o → IsLossOf O N cs o
unfolding losses
loss_of O N cs o k =
    let s = of_all_lost (with_clients O (facts_of cs)) (with_clients N (facts_of cs)) (in_order cs) o k in
    record { client = s.client; is_client = from_sorted cs s.client s.is_client; named = s.holds.spot.named; loaded = s.holds.loaded; at = place s.client o.item o.error s.holds.spot.error s.holds.spot.reached s.holds.was s.holds.fails }
  where
    place : (c : ClientClass) (i : Option Item) (f : Option LinkError) → f ≡ spot_error (with_clients N (facts_of cs)) c.facts.name i → IsReached (with_clients N (facts_of cs)) c i
        → spot_error (with_clients O (facts_of cs)) c.facts.name i ≡ None → IsTrue (is_some f) → WasAt (with_clients O (facts_of cs)) (with_clients N (facts_of cs)) c i
    place c None f e r w t = subst (λ z. IsTrue (is_some z)) e t
    place c (Some i) f e r w t = (r.1, w, subst (λ z. IsTrue (is_some z)) e t)

-- ---- where all was Ok

ok_in : (os : List Outcome) (o : Outcome) → are_all_ok os ≡ true → Contains os o → is_none o.error ≡ true
ok_in [] o h k = absurd (none o k)
ok_in (p ∷ os) o h k = go (cases p os o k) (ok_in os o)
  where
    both : (is_none p.error ≡ true) × (are_all_ok os ≡ true)
    both = and_parts (is_none p.error) (are_all_ok os) h

    go : (p ≡ o) ⊎ Contains os o → (are_all_ok os ≡ true → Contains os o → is_none o.error ≡ true) → is_none o.error ≡ true
    go (inl e) later = subst (λ z. is_none z.error ≡ true) e both.0
    go (inr m) later = later both.1 m

module _ (W V : World) (cs : List ClientClass) (ok : are_all_ok (all_outcomes W cs) ≡ true) where
  ok_at : (c : ClientClass) (i : Option Item) → Contains cs c → IsReached W c i → spot_error W c.facts.name i ≡ None
  ok_at c i k r = none_where (spot_error W c.facts.name i)
      (ok_in (all_outcomes W cs) (record { «class» = c.facts.name; item = i; error = spot_error W c.facts.name i }) ok
      (in_all W cs c _ k (has_spot W c c.facts.name i (spot_error W c.facts.name i) refl refl r)))

  was_ok : (o : Outcome) → Contains (all_outcomes V cs) o → Contains (all_outcomes W cs) (when_ok o)
  was_ok o k =
      let s = of_all V cs o k in
      let r = reached s.client o.item s.is_client s.holds.reached in
      in_all W cs s.client (when_ok o) s.is_client (has_spot W s.client o.class o.item None s.holds.named (sym (ok_at s.client o.item s.is_client r)) r)
    where
      reached : (c : ClientClass) (i : Option Item) → Contains cs c → IsReached V c i → IsReached W c i
      reached c None m r = tt
      reached c (Some i) m r = (ok_at c None m tt, r.1)

-- where all was Ok, each error is a loss
pub error_is_lost : (O N : World) (cs : List ClientClass) (o : Outcome) → are_all_ok (outcomes O cs) ≡ true → Contains (outcomes N cs) o → IsTrue (is_some o.error) → Contains (losses O N cs) o
unfolding losses outcomes
error_is_lost O N cs o ok k f =
    from_both (with_clients O (facts_of cs)) (with_clients N (facts_of cs)) (in_order cs) o
    (record { now = k; fails = f; was = was_ok (with_clients O (facts_of cs)) (with_clients N (facts_of cs)) (in_order cs) ok o k })
