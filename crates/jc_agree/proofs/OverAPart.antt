-- That `link` and `clients` say over a part of a platform what they say over the whole.
use Rattle.std.proofs.Common.{◌≡◌, Bool, true, false, cond, List, [], ◌∷◌, refl, sym, ◌∙◌, ap, Some, None, is_some}
use Rattle.std.specs.Prelude.{All, IsTrue}
use Rattle.std.proofs.lemmas.List.Elements.{recursion_from_All, All-weaker}
use Rattle.jc_facts.specs.declared.class_facts.ClassFacts.{ClassFacts}
use Rattle.jc_facts.specs.declared.client.ClientClass.{ClientClass}
use Rattle.jc_facts.specs.declared.client.Item.{Item}
use Rattle.jc_facts.specs.ByName.{least, lower}
use Rattle.jc_facts.specs.Names.{Bytes}
use Rattle.jc_facts.specs.Options.{or_else}
use Rattle.jc_facts.specs.world.World.{World, Modules, side, side_in, class_named, find_class}
use Rattle.jc_facts.specs.world.Loading.{load_fault}
use Rattle.jc_facts.specs.client.Allowed.{is_allowed_name}
use Rattle.jc_facts.specs.client.Linked.{in_order, outcomes}
use Rattle.jc_facts.specs.client.Outcome.{outcome}
use Rattle.jc_index.specs.Root.{fault_of_root, root_by}
use Rattle.jc_index.specs.Sides.{overlap_of}
use Rattle.jc_lemmas.proofs.Listed.{EachOf, EachOf-both}
use Rattle.jc_lemmas.proofs.Options.{none_from}
use Rattle.jc_link.specs.Refusals.{NamesAreAllowed, refused_client}
use Rattle.jc_losses.specs.declared.losses.Judged.TheVariants as judged
use Rattle.jc_losses.specs.JudgedOf.{losses_of, judged_of}
use Rattle.jc_losses.specs.Losses.{item_losses, client_losses, all_losses, losses}
use Rattle.jc_platform.specs.Enough.{over, LinksTheSame, AllowsTheSame, EnoughLinksAlike, EnoughAllows}
use Rattle.jc_agree.specs.OverAPart.{LinkedOverAPart, JudgedOverAPart}
use Rattle.jc_agree.proofs.Outcomes.{ordered_all}
use Rattle.jc_agree.proofs.Replayed.{none_refused}

-- ---- what refuses

-- where none of the names passes a test, none passes a stronger one
none_least : (p q : Bytes → Bool) → ((x : Bytes) → q x ≡ false → p x ≡ false) → (cs : List ClassFacts) → least q cs ≡ None → least p cs ≡ None
unfolding least
none_least p q f [] h = refl
none_least p q f (c ∷ cs) h = go (q c.name) refl h (none_least p q f cs)
  where
    go : (b : Bool) → q c.name ≡ b → cond b (Some (lower c.name (least q cs))) (least q cs) ≡ None → (least q cs ≡ None → least p cs ≡ None)
        → cond (p c.name) (Some (lower c.name (least p cs))) (least p cs) ≡ None
    go true e k more = absurd (let clash : Some (lower c.name (least q cs)) ≡ None = k in cc)
    go false e k more = ap (λ (t : Bool). cond t (Some (lower c.name (least p cs))) (least p cs)) (f c.name e) ∙ more k

-- modules don't count for it
allowed_in : (modules : Modules) (P R : List ClassFacts) (x : Bytes) → is_allowed_name (side_in modules P R) x ≡ is_allowed_name (side P R) x
unfolding is_allowed_name find_class
allowed_in modules P R x = refl

module _ (law : NamesAreAllowed) where
  none_refuses : (W : World) (cs : List ClientClass) → All (λ c. IsTrue (is_allowed_name W c.facts.name)) cs → refused_client W cs ≡ None
  none_refuses W cs h =
      none_refused law W (in_order cs) (ordered_all (λ c. IsTrue (is_allowed_name W c.facts.name)) cs (recursion_from_All (λ c. IsTrue (is_allowed_name W c.facts.name)) cs h))

-- no class of the part is a release's
still_apart : (P Q R : List ClassFacts) → ((x : Bytes) → class_named Q x ≡ None → class_named P x ≡ None) → overlap_of Q R ≡ None → overlap_of P R ≡ None
still_apart P Q R f h = none_least (λ x. is_some (class_named P x)) (λ x. is_some (class_named Q x)) (λ x e. ap is_some (f x (none_from (class_named Q x) e))) R h

-- ---- what is said

-- the class has one load fault in both worlds, and each of its items one outcome
abbrev LinksAlike : World → World → ClientClass → Type 0
LinksAlike W X c = (load_fault W c.facts.name ≡ load_fault X c.facts.name) × EachOf (λ i. outcome W c.facts.name i ≡ outcome X c.facts.name i) c.items

links_alike : (W X : World) (cs : List ClientClass) → LinksTheSame W X cs → EachOf (LinksAlike W X) (in_order cs)
links_alike W X cs h = ordered_all (LinksAlike W X) cs
    (EachOf-both {P = λ c. load_fault W c.facts.name ≡ load_fault X c.facts.name} {Q = λ c. All (λ i. outcome W c.facts.name i ≡ outcome X c.facts.name i) c.items}
    (λ c l i. (l, recursion_from_All (λ i. outcome W c.facts.name i ≡ outcome X c.facts.name i) c.items i)) cs
    (recursion_from_All (λ c. load_fault W c.facts.name ≡ load_fault X c.facts.name) cs h.loading)
    (recursion_from_All (λ c. All (λ i. outcome W c.facts.name i ≡ outcome X c.facts.name i) c.items) cs h.items))

module _ (W X V Y : World) where
  same_items : (x : Bytes) (is : List Item) → EachOf (λ i. outcome W x i ≡ outcome X x i) is → EachOf (λ i. outcome V x i ≡ outcome Y x i) is → item_losses W V x is ≡ item_losses X Y x is
  same_items x [] h k = refl
  same_items x (i ∷ is) h k = rw (h.0, k.0, same_items x is h.1 k.1) refl

  same_client : (c : ClientClass) → LinksAlike W X c → LinksAlike V Y c → client_losses W V c ≡ client_losses X Y c
  same_client c h k = rw (h.0, k.0, same_items c.facts.name c.items h.1 k.1) refl

  same_clients : (cs : List ClientClass) → EachOf (LinksAlike W X) cs → EachOf (LinksAlike V Y) cs → all_losses W V cs ≡ all_losses X Y cs
  same_clients [] h k = refl
  same_clients (c ∷ cs) h k = rw (same_client c h.0 k.0, same_clients cs h.1 k.1) refl

-- ---- the laws

pub linked_over_a_part : EnoughLinksAlike → EnoughAllows → NamesAreAllowed → LinkedOverAPart
unfolding fault_of_root
linked_over_a_part alike allows law P Q R modules cs S enough may =
    let a : AllowsTheSame P Q modules R cs = allows P Q modules R cs S enough in (
      record {
        root = ap root_by a.root ∙ may.root;
        apart = still_apart P Q R a.apart may.apart;
        allowed = none_refuses law (side P R) cs (All-weaker (λ c. IsTrue (is_allowed_name (side_in modules P R) c.facts.name)) (λ c. IsTrue (is_allowed_name (side P R) c.facts.name)) (λ c h. sym (allowed_in modules P R c.facts.name) ∙ h) cs a.allowed);
      },
      (alike P Q modules R cs S enough).1,
    )

pub judged_over_a_part : EnoughLinksAlike → EnoughAllows → NamesAreAllowed → JudgedOverAPart
unfolding losses or_else
judged_over_a_part alike allows law P Q O N old new cs S T e f = none ∙ ap judged.Losses same ∙ sym none_whole
  where
    a : LinksTheSame (over old O cs P) (over old O cs Q) cs × (outcomes (side_in old P O) cs ≡ outcomes (side_in old Q O) cs)
    a = alike P Q old O cs S e

    b : LinksTheSame (over new N cs P) (over new N cs Q) cs × (outcomes (side_in new P N) cs ≡ outcomes (side_in new Q N) cs)
    b = alike P Q new N cs T f

    none : judged_of (side_in old P O) (side_in new P N) cs ≡ judged.Losses (losses_of (side_in old P O) (side_in new P N) cs)
    none = rw (none_refuses law (side_in old P O) cs (allows P Q old O cs S e).allowed, none_refuses law (side_in new P N) cs (allows P Q new N cs T f).allowed) refl

    none_whole : judged_of (side_in old Q O) (side_in new Q N) cs ≡ judged.Losses (losses_of (side_in old Q O) (side_in new Q N) cs)
    none_whole = rw (none_refuses law (side_in old Q O) cs e.allowed, none_refuses law (side_in new Q N) cs f.allowed) refl

    lost : losses (side_in old P O) (side_in new P N) cs ≡ losses (side_in old Q O) (side_in new Q N) cs
    lost = same_clients (over old O cs P) (over old O cs Q) (over new N cs P) (over new N cs Q) (in_order cs) (links_alike (over old O cs P) (over old O cs Q) cs a.0) (links_alike (over new N cs P) (over new N cs Q) cs b.0)

    same : losses_of (side_in old P O) (side_in new P N) cs ≡ losses_of (side_in old Q O) (side_in new Q N) cs
    same = rw (a.1, lost) refl
