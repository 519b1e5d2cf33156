-- That clients link over a part of a platform that is enough as over the whole, and that nothing more refuses them.
use Rattle.std.proofs.Common.{◌≡◌, Bool, true, false, List, [], ◌∷◌, ◌++◌, ◌||◌, refl, sym, ◌∙◌, ap, Option, Some, None, is_some}
use Rattle.std.specs.Prelude.{All}
use Rattle.std.specs.List.{Contains, filter, list_all}
use Rattle.std.proofs.lemmas.List.Elements.{recursion_from_All, All-from_recursion}
use Rattle.jc_facts.specs.declared.class_facts.ClassFacts.{ClassFacts}
use Rattle.jc_facts.specs.declared.client.ClientClass.{ClientClass}
use Rattle.jc_facts.specs.declared.client.Item.{Item}
use Rattle.jc_facts.specs.declared.link_error.LinkError.{LinkError}
use Rattle.jc_facts.specs.declared.outcome.Outcome.{Outcome}
use Rattle.jc_facts.specs.Names.{Bytes, same, package_name, in_same_package, is_name_among, object_name}
use Rattle.jc_facts.specs.world.World.{World, Modules, side_in, class_named, find_class}
use Rattle.jc_facts.specs.world.Search.{supers}
use Rattle.jc_facts.specs.world.Mentioned.{is_named_above}
use Rattle.jc_facts.specs.world.Modules.{Module, module_by, module_of, same_module, visible_by, is_exported}
use Rattle.jc_facts.specs.world.Loading.{load_fault}
use Rattle.jc_facts.specs.world.Types.{is_array_text}
use Rattle.jc_facts.specs.client.Allowed.{has_package, is_allowed_name}
use Rattle.jc_facts.specs.client.Linked.{item_outcomes, where_loaded, client_outcomes, all_outcomes, outcomes, in_order}
use Rattle.jc_facts.specs.client.Outcome.{outcome}
use Rattle.jc_facts.specs.client.Valid.{facts_of}
use Rattle.jc_facts.proofs.World.{find-name}
use Rattle.jc_lemmas.proofs.Listed.{EachOf, EachOf-map, EachOf-both, each_from, list_all-each, in_filter}
use Rattle.jc_lemmas.proofs.Options.{none_from}
use Rattle.jc_worlds.specs.Agreement.{AgreeOn, ModulesAgreeOn}
use Rattle.jc_worlds.proofs.Absent.{class_named-absent, class_named-back}
use Rattle.jc_worlds.proofs.ClientOrder.{sorted_each}
use Rattle.jc_worlds.proofs.Packages.{AllowedParts, allowed_parts, package_apart}
use Rattle.jc_platform.specs.Enough.{over, item_among, IsEnough, LinksTheSame, AllowsTheSame, EnoughLinksAlike, EnoughAllows, NamedAreEnough}
use Rattle.jc_platform.proofs.Alike.{text_named, same_fault, same_outcome}
use Rattle.jc_platform.proofs.Parts.{same_front, class_named-filter, Within, within_behind, within_not, named_any}

-- a side has no class of the package of a name that it allows
none_near : (W : World) (x y : Bytes) → has_package W x ≡ false → package_name y ≡ package_name x → find_class W y ≡ None
none_near W x y h p = go (find_class W y) refl
  where
    go : (o : Option ClassFacts) → find_class W y ≡ o → o ≡ None
    go None e = refl
    go (Some d) e = absurd (package_apart W x y d h e (sym p ∙ ap package_name (sym (find-name W y d e))))

-- what is known of a client over the whole
record IsGiven (whole : World) (S : Bytes → Bool) (c : ClientClass) : Type 0 where
  pub named : S c.facts.name ≡ true
  pub is_name : is_array_text c.facts.name ≡ false
  pub items : EachOf (λ i. item_among S i ≡ true) c.items
  pub allowed : is_allowed_name whole c.facts.name ≡ true

module _ (P Q : List ClassFacts) (modules : Modules) (release : List ClassFacts) (cs : List ClientClass) (S : Bytes → Bool) (enough : IsEnough P Q modules release cs S) where
  abbrev W : World
  W = over modules release cs P

  abbrev V : World
  V = over modules release cs Q

  abbrev part : World
  part = side_in modules P release

  abbrev whole : World
  whole = side_in modules Q release

  -- ---- what the part lacks

  within : Within (Q ++ release) (P ++ release)
  within = within_behind Q P release (recursion_from_All (Contains Q) P enough.part)

  within_side : Within (Q ++ release ++ []) (P ++ release ++ [])
  within_side = within_behind (Q ++ release) (P ++ release) [] within

  absent_from : (x : Bytes) (ds es : List ClassFacts) → Within ds es → class_named ds x ≡ None → class_named es x ≡ None
  absent_from x ds es w h =
      none_from (class_named es x) (named_any es x ∙ within_not (λ c. same c.name x) ds es w (sym (named_any ds x) ∙ ap is_some h))

  absent_side : (x : Bytes) → find_class whole x ≡ None → find_class part x ≡ None
  unfolding find_class
  absent_side x h = absent_from x (Q ++ release ++ []) (P ++ release ++ []) within_side h

  unused_side : (x : Bytes) → is_named_above whole x ≡ false → is_named_above part x ≡ false
  unused_side x h = within_not (λ c. is_name_among (supers c) x) (Q ++ release ++ []) (P ++ release ++ []) within_side h

  apart_side : (x : Bytes) → has_package whole x ≡ false → has_package part x ≡ false
  apart_side x h = within_not (λ c. in_same_package c.name x) (Q ++ release ++ []) (P ++ release ++ []) within_side h

  allowed_part : (x : Bytes) → is_allowed_name whole x ≡ true → is_allowed_name part x ≡ true
  unfolding is_allowed_name
  allowed_part x h =
      let a : AllowedParts whole x = allowed_parts whole x h in
      let one : is_allowed_name part x ≡ is_allowed_name whole x = rw (absent_side x a.absent, a.absent, unused_side x a.unused, a.unused, apart_side x a.apart, a.apart) refl in
      one ∙ h

  -- ---- the two worlds

  find_same : (x : Bytes) → S x ≡ true → find_class W x ≡ find_class V x
  unfolding find_class
  find_same x s = same_front (P ++ release) (Q ++ release) (facts_of cs) x (same_front P Q release x (enough.same x s))

  agree : AgreeOn W V S
  agree = record {
    same = find_same;
    closed = λ x c s e. enough.closed x c s (sym (find_same x s) ∙ e);
  }

  same_place : (x : Bytes) → S x ≡ true → module_of W x ≡ module_of V x
  same_place x s = ap (λ o. module_by modules (is_some o) (is_some (class_named release x))) (enough.same x s)

  see_alike : ModulesAgreeOn W V S
  see_alike x y s t = record {
    seen = ap (λ m. seen m (module_of W y)) (same_place x s) ∙ ap (seen (module_of V x)) (same_place y t);
    together = ap (λ m. same_module m (module_of W y)) (same_place x s) ∙ ap (same_module (module_of V x)) (same_place y t);
  }
    where
      seen : Module → Module → Bool
      seen m n = same_module m n || visible_by n (is_exported modules (package_name y))

  -- of a client's package both worlds have clients alone
  near : (x : Bytes) → is_allowed_name whole x ≡ true → (y : Bytes) → package_name y ≡ package_name x → find_class W y ≡ find_class V y
  unfolding find_class
  near x h y p =
      let a : has_package whole x ≡ false = (allowed_parts whole x h).apart in
      let v : class_named (Q ++ release) y ≡ None = class_named-absent (Q ++ release) [] y (none_near whole x y a p) in
      let w : class_named (P ++ release) y ≡ None = class_named-absent (P ++ release) [] y (none_near part x y (apart_side x a) p) in
      class_named-back (P ++ release) (facts_of cs) y w ∙ sym (class_named-back (Q ++ release) (facts_of cs) y v)

  -- ---- each client

  abbrev IsClient : ClientClass → Type 0
  IsClient c = IsGiven whole S c

  clients : EachOf IsClient cs
  clients =
      EachOf-both {P = λ c. (S c.facts.name ≡ true) × (is_array_text c.facts.name ≡ false)} {Q = λ c. (list_all (item_among S) c.items ≡ true) × (is_allowed_name whole c.facts.name ≡ true)}
      (λ c n r. record { named = n.0; is_name = n.1; items = list_all-each (item_among S) c.items r.0; allowed = r.1 }) cs
      (recursion_from_All (λ c. (S c.facts.name ≡ true) × (is_array_text c.facts.name ≡ false)) cs enough.clients)
      (EachOf-both {P = λ c. list_all (item_among S) c.items ≡ true} {Q = λ c. is_allowed_name whole c.facts.name ≡ true} (λ c i a. (i, a)) cs
      (recursion_from_All (λ c. list_all (item_among S) c.items ≡ true) cs enough.items)
      (recursion_from_All (λ c. is_allowed_name whole c.facts.name ≡ true) cs enough.allowed))

  loads : (c : ClientClass) → IsClient c → load_fault W c.facts.name ≡ load_fault V c.facts.name
  loads c k = same_fault W V S agree see_alike enough.root c.facts.name k.named

  links : (c : ClientClass) → IsClient c → EachOf (λ i. outcome W c.facts.name i ≡ outcome V c.facts.name i) c.items
  links c k = EachOf-map (λ i h. same_outcome W V S agree see_alike enough.root x k.named (text_named S x k.is_name ∙ k.named) (near x k.allowed) i h) c.items k.items
    where
      x : Bytes
      x = c.facts.name

  -- ---- all that is said of them

  same_items : (x : Bytes) (is : List Item) → EachOf (λ i. outcome W x i ≡ outcome V x i) is → item_outcomes W x is ≡ item_outcomes V x is
  same_items x [] h = refl
  same_items x (i ∷ is) h =
      ap (λ o. record { «class» = x; item = Some i; error = o } ∷ item_outcomes W x is) h.0
      ∙ ap (λ os. record { «class» = x; item = Some i; error = outcome V x i } ∷ os) (same_items x is h.1)

  same_client : (c : ClientClass) → IsClient c → client_outcomes W c ≡ client_outcomes V c
  unfolding client_outcomes
  same_client c k = ap (λ o. said o (item_outcomes W c.facts.name c.items)) (loads c k) ∙ ap (said (load_fault V c.facts.name)) (same_items c.facts.name c.items (links c k))
    where
      said : Option LinkError → List Outcome → List Outcome
      said o os = record { «class» = c.facts.name; item = None; error = o } ∷ where_loaded o os

  same_clients : (ds : List ClientClass) → EachOf IsClient ds → all_outcomes W ds ≡ all_outcomes V ds
  same_clients [] h = refl
  same_clients (d ∷ ds) h = ap (λ os. os ++ all_outcomes W ds) (same_client d h.0) ∙ ap (λ os. client_outcomes V d ++ os) (same_clients ds h.1)

  links_the_same : LinksTheSame W V cs
  links_the_same = record {
    loading = All-from_recursion (λ c. load_fault W c.facts.name ≡ load_fault V c.facts.name) cs (EachOf-map loads cs clients);
    items = All-from_recursion (λ c. All (λ i. outcome W c.facts.name i ≡ outcome V c.facts.name i) c.items) cs
        (EachOf-map (λ c k. All-from_recursion (λ i. outcome W c.facts.name i ≡ outcome V c.facts.name i) c.items (links c k)) cs clients);
  }

  same_outcomes : outcomes part cs ≡ outcomes whole cs
  unfolding outcomes
  same_outcomes = same_clients (in_order cs) (sorted_each IsClient cs clients)

  allows_the_same : AllowsTheSame P Q modules release cs
  allows_the_same = record {
    root = enough.same object_name enough.root;
    apart = λ x h. absent_from x Q P (recursion_from_All (Contains Q) P enough.part) h;
    allowed = All-from_recursion (λ c. is_allowed_name part c.facts.name ≡ true) cs (EachOf-map (λ c (k : IsClient c). allowed_part c.facts.name k.allowed) cs clients);
  }

pub enough_links_alike : EnoughLinksAlike
enough_links_alike P Q modules release cs S e = (links_the_same P Q modules release cs S e, same_outcomes P Q modules release cs S e)

pub enough_allows : EnoughAllows
enough_allows P Q modules release cs S e = allows_the_same P Q modules release cs S e

pub named_are_enough : NamedAreEnough
named_are_enough Q modules release cs S e = record {
  part = All-from_recursion (Contains Q) (filter (λ c. S c.name) Q) (each_from (Contains Q) (filter (λ c. S c.name) Q) (λ c k. (in_filter (λ c. S c.name) Q c k).0));
  same = λ x s. class_named-filter S Q x s;
  root = e.root;
  clients = e.clients;
  items = e.items;
  closed = e.closed;
  allowed = e.allowed;
}
