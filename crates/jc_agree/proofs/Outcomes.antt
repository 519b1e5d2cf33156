-- Outcomes of clients: all Ok exactly where each client links.
use Rattle.std.proofs.Common.{◌≡◌, Bool, true, false, ◌&&◌, List, [], ◌∷◌, ◌++◌, cond, Option, Some, None, is_none, refl, sym, ap, subst, ◌∙◌, ◌⊎◌, inl, inr}
use Rattle.std.specs.List.{Contains}
use Rattle.std.specs.Ordering.{is_lt}
use Rattle.std.proofs.lemmas.Bool.{and_parts}
use Rattle.std.proofs.lemmas.List.Folds.{list_all-append}
use Rattle.jc_facts.specs.declared.client.ClientClass.{ClientClass}
use Rattle.jc_facts.specs.declared.client.Item.{Item}
use Rattle.jc_facts.specs.declared.link_error.LinkError.{LinkError}
use Rattle.jc_facts.specs.declared.outcome.Outcome.{Outcome}
use Rattle.jc_facts.specs.ByName.{placed, by_name}
use Rattle.jc_facts.specs.Exactly.{name_order}
use Rattle.jc_facts.specs.Names.{Bytes}
use Rattle.jc_facts.specs.client.Linked.{are_all_ok, in_order, all_outcomes, client_outcomes, item_outcomes, where_loaded}
use Rattle.jc_facts.specs.client.Outcome.{outcome, Links}
use Rattle.jc_facts.specs.world.Loading.{load_fault}
use Rattle.jc_facts.specs.world.World.{World}
use Rattle.jc_lemmas.proofs.Listed.{EachOf, here, there, cases}
use Rattle.jc_lemmas.proofs.Options.{none_where}
use Rattle.jc_worlds.proofs.ClientOrder.{placed_each}

abbrev name_of : ClientClass → Bytes
name_of c = c.facts.name

-- ---- in byte order stand the same

pub ordered_all : (P : ClientClass → Type 0) (xs : List ClientClass) → EachOf P xs → EachOf P (in_order xs)
unfolding by_name
ordered_all P [] h = tt
ordered_all P (x ∷ xs) h = placed_each P x (in_order xs) h.0 (ordered_all P xs h.1)

placed_new : (x : ClientClass) (xs : List ClientClass) → Contains (placed name_of x xs) x
unfolding placed
placed_new x [] = here x []
placed_new x (y ∷ ys) = go (is_lt (name_order (name_of y) (name_of x))) (placed_new x ys)
  where
    go : (b : Bool) → Contains (placed name_of x ys) x → Contains (cond b (y ∷ placed name_of x ys) (x ∷ y ∷ ys)) x
    go true more = there x y (placed name_of x ys) more
    go false more = here x (y ∷ ys)

placed_old : (x : ClientClass) (xs : List ClientClass) (z : ClientClass) → Contains xs z → Contains (placed name_of x xs) z
unfolding placed
placed_old x [] z k = there z x [] k
placed_old x (y ∷ ys) z k = go (is_lt (name_order (name_of y) (name_of x))) (cases y ys z k) (placed_old x ys z)
  where
    go : (b : Bool) → (y ≡ z) ⊎ Contains ys z → (Contains ys z → Contains (placed name_of x ys) z) → Contains (cond b (y ∷ placed name_of x ys) (x ∷ y ∷ ys)) z
    go true (inl e) more = subst (Contains (y ∷ placed name_of x ys)) e (here y (placed name_of x ys))
    go true (inr m) more = there z y (placed name_of x ys) (more m)
    go false q more = there z x (y ∷ ys) k

pub ordered_has : (xs : List ClientClass) (z : ClientClass) → Contains xs z → Contains (in_order xs) z
unfolding by_name
ordered_has [] z k = k
ordered_has (x ∷ xs) z k = go (cases x xs z k) (ordered_has xs z)
  where
    go : (x ≡ z) ⊎ Contains xs z → (Contains xs z → Contains (in_order xs) z) → Contains (placed name_of x (in_order xs)) z
    go (inl e) more = subst (Contains (placed name_of x (in_order xs))) e (placed_new x (in_order xs))
    go (inr m) more = placed_old x (in_order xs) z (more m)

-- ---- outcomes that are Ok

-- the client loads, and all its items are Ok
abbrev pub LinksEach : World → ClientClass → Type 0
LinksEach W c = (load_fault W c.facts.name ≡ None) × EachOf (Links W c.facts.name) c.items

items_ok : (W : World) (x : Bytes) (is : List Item) → EachOf (Links W x) is → are_all_ok (item_outcomes W x is) ≡ true
items_ok W x [] h = refl
items_ok W x (i ∷ is) h = let e : outcome W x i ≡ None = h.0 in rw e (items_ok W x is h.1)

ok_items : (W : World) (x : Bytes) (is : List Item) → are_all_ok (item_outcomes W x is) ≡ true → EachOf (Links W x) is
ok_items W x [] h = tt
ok_items W x (i ∷ is) h = let p = and_parts (is_none (outcome W x i)) (are_all_ok (item_outcomes W x is)) h in (none_where (outcome W x i) p.0, ok_items W x is p.1)

client_ok : (W : World) (c : ClientClass) → LinksEach W c → are_all_ok (client_outcomes W c) ≡ true
unfolding client_outcomes
client_ok W c h = let e : load_fault W c.facts.name ≡ None = h.0 in rw e (items_ok W c.facts.name c.items h.1)

ok_client : (W : World) (c : ClientClass) → are_all_ok (client_outcomes W c) ≡ true → LinksEach W c
unfolding client_outcomes
ok_client W c h = go (load_fault W c.facts.name) refl h
  where
    go : (o : Option LinkError) → load_fault W c.facts.name ≡ o → (is_none o && are_all_ok (where_loaded o (item_outcomes W c.facts.name c.items))) ≡ true → LinksEach W c
    go None e q = (e, ok_items W c.facts.name c.items q)
    go (Some x) e q = absurd (let z : false ≡ true = q in cc)

pub clients_ok : (W : World) (cs : List ClientClass) → EachOf (LinksEach W) cs → are_all_ok (all_outcomes W cs) ≡ true
clients_ok W [] h = refl
clients_ok W (c ∷ cs) h = list_all-append (λ (o : Outcome). is_none o.error) (client_outcomes W c) (all_outcomes W cs) ∙ rw (client_ok W c h.0) (clients_ok W cs h.1)

pub ok_clients : (W : World) (cs : List ClientClass) → are_all_ok (all_outcomes W cs) ≡ true → EachOf (LinksEach W) cs
ok_clients W [] h = tt
ok_clients W (c ∷ cs) h =
    let p = and_parts (are_all_ok (client_outcomes W c)) (are_all_ok (all_outcomes W cs)) (sym (list_all-append (λ (o : Outcome). is_none o.error) (client_outcomes W c) (all_outcomes W cs)) ∙ h) in
    (ok_client W c p.0, ok_clients W cs p.1)

-- ---- two worlds in which all link

module _ (W V : World) where
  same_items : (x : Bytes) (is : List Item) → EachOf (Links W x) is → EachOf (Links V x) is → item_outcomes V x is ≡ item_outcomes W x is
  same_items x [] h k = refl
  same_items x (i ∷ is) h k =
      let e : outcome W x i ≡ None = h.0 in
      let f : outcome V x i ≡ None = k.0 in
      ap (λ o. record { «class» = x; item = Some i; error = o } ∷ item_outcomes V x is) (f ∙ sym e) ∙ ap (λ os. record { «class» = x; item = Some i; error = outcome W x i } ∷ os) (same_items x is h.1 k.1)

  same_client : (c : ClientClass) → LinksEach W c → LinksEach V c → client_outcomes V c ≡ client_outcomes W c
  unfolding client_outcomes
  same_client c h k =
      ap (λ o. record { «class» = c.facts.name; item = None; error = o } ∷ where_loaded o (item_outcomes V c.facts.name c.items)) (k.0 ∙ sym h.0)
      ∙ ap (λ os. record { «class» = c.facts.name; item = None; error = load_fault W c.facts.name } ∷ where_loaded (load_fault W c.facts.name) os) (same_items c.facts.name c.items h.1 k.1)

  pub same_outcomes : (cs : List ClientClass) → EachOf (LinksEach W) cs → EachOf (LinksEach V) cs → all_outcomes V cs ≡ all_outcomes W cs
  same_outcomes [] h k = refl
  same_outcomes (c ∷ cs) h k = ap (λ os. os ++ all_outcomes V cs) (same_client c h.0 k.0) ∙ ap (λ os. client_outcomes W c ++ os) (same_outcomes cs h.1 k.1)
