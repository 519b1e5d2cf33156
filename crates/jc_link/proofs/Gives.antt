-- The outcome of an item, by its steps.
use Rattle.std.proofs.Common.{◌≡◌, ℕ, Bool, true, false, cond, refl, sym, ◌∙◌, ap, subst, Option, Some, None, ◌||◌}
use Rattle.std.specs.Prelude.{Ok, Err}
use Rattle.jc_facts.specs.declared.act.Act.{Act}
use Rattle.jc_facts.specs.declared.class_facts.ClassFacts.{ClassFacts}
use Rattle.jc_facts.specs.declared.client.Place.{Place}
use Rattle.jc_facts.specs.declared.client.Item.TheVariants as items
use Rattle.jc_facts.specs.declared.key.Key.{Key}
use Rattle.jc_facts.specs.declared.link_error.LinkError.{LinkError}
use Rattle.jc_facts.specs.declared.link_error.LinkError.TheVariants.{NoSuchMethodError, InstantiationError}
use Rattle.jc_facts.specs.Names.{Bytes}
use Rattle.jc_facts.specs.Flags.{abstract_flag, interface_flag}
use Rattle.jc_facts.specs.Options.{or_else, and_then, some_and}
use Rattle.jc_facts.specs.world.World.{World, find_class}
use Rattle.jc_facts.specs.world.Loading.{fault_where}
use Rattle.jc_facts.specs.client.Acts.{form_of}
use Rattle.jc_facts.specs.client.Outcome.{outcome, array_fault, look_up, use_fault, init_fault, instantiation_fault}
use Rattle.jc_index.specs.Ids.{name_at}
use Rattle.jc_index.specs.declared.ids.Found.{Found}
use Rattle.jc_link.specs.steps.ItemSteps.{IsReached, LooksUp, FindsInit, makes_none, init_use_fault, new_use_fault}
use Rattle.jc_index.specs.Lookups.{member_of}
use Rattle.jc_link.proofs.Members.{open_alike, let_alike}

module _ (W : World) (x t : Bytes) where
  -- ---- acts

  pub access_unreached : (act : Act) (k : Key) (r : Option Bytes) (place : Place) (a e : LinkError) → a ≡ array_fault (form_of act) → IsReached W x t a (Err e) → outcome W x (items.Access act t k r place) ≡ Some e
  unfolding outcome
  access_unreached act k r place a e q h = let g = subst (λ z. IsReached W x t z (Err e)) q h in g (look_up W (form_of act) t k (use_fault W x act t r place))

  access_looked : (act : Act) (k : Key) (r : Option Bytes) (place : Place) (a : LinkError) (id : ℕ) → a ≡ array_fault (form_of act) → IsReached W x t a (Ok id)
      → outcome W x (items.Access act t k r place) ≡ look_up W (form_of act) (name_at W id) k (use_fault W x act (name_at W id) r place)
  unfolding outcome
  access_looked act k r place a id q h =
      let g = subst (λ z. IsReached W x t z (Ok id)) q h in
      g.1 (look_up W (form_of act) t k (use_fault W x act t r place)) ∙ ap (λ c. look_up W (form_of act) c k (use_fault W x act c r place)) (sym g.0.name)

  pub access_unfound : (act : Act) (k : Key) (r : Option Bytes) (place : Place) (a e : LinkError) (id : ℕ) → a ≡ array_fault (form_of act) → IsReached W x t a (Ok id) → LooksUp W act (name_at W id) k (Err e)
      → outcome W x (items.Access act t k r place) ≡ Some e
  access_unfound act k r place a e id q h l = access_looked act k r place a id q h ∙ l (use_fault W x act (name_at W id) r place)

  pub access_used : (act : Act) (k : Key) (r : Option Bytes) (place : Place) (a : LinkError) (id : ℕ) (f : Found) → a ≡ array_fault (form_of act) → IsReached W x t a (Ok id) → LooksUp W act (name_at W id) k (Ok f)
      → outcome W x (items.Access act t k r place) ≡ use_fault W x act (name_at W id) r place (member_of W f)
  access_used act k r place a id f q h l = access_looked act k r place a id q h ∙ l.1 x r place

  -- ---- a new object

  pub new_unreached : (d : Bytes) (e : LinkError) → IsReached W x t NoSuchMethodError (Err e) → outcome W x (items.New t d) ≡ Some e
  unfolding outcome
  new_unreached d e h = h _

  instantiated : (c : Bytes) (b : Bool) → b ≡ makes_none W c → instantiation_fault W c ≡ cond b (Some InstantiationError) None
  unfolding and_then
  instantiated c b h = go (find_class W c) h
    where
      go : (o : Option ClassFacts) → b ≡ some_and (λ z. abstract_flag z.flags || interface_flag z.flags) o
          → and_then (λ z. fault_where (abstract_flag z.flags || interface_flag z.flags) InstantiationError) o ≡ cond b (Some InstantiationError) None
      go None e = sym (ap (λ z. cond z (Some InstantiationError) None) e)
      go (Some z) e = sym (ap (λ y. cond y (Some InstantiationError) None) e)

  -- what follows the class step
  new_rest : Bytes → Bytes → Option LinkError
  new_rest c d = or_else (instantiation_fault W c) (init_fault W c d (λ m. new_use_fault W x c m c))

  new_at : (d : Bytes) (id : ℕ) → IsReached W x t NoSuchMethodError (Ok id) → outcome W x (items.New t d) ≡ new_rest (name_at W id) d
  unfolding outcome new_rest
  new_at d id h = h.1 _ ∙ ap (λ c. or_else (instantiation_fault W c) (init_fault W c d (λ m. new_use_fault W x c m c))) (sym h.0.name)

  pub new_uninstantiable : (d : Bytes) (id : ℕ) (b : Bool) → IsReached W x t NoSuchMethodError (Ok id) → b ≡ makes_none W (name_at W id) → b ≡ true → outcome W x (items.New t d) ≡ Some InstantiationError
  unfolding new_rest or_else
  new_uninstantiable d id b h n e = new_at d id h ∙ rw (instantiated (name_at W id) b n, e) refl

  new_made : (d : Bytes) (id : ℕ) (b : Bool) → IsReached W x t NoSuchMethodError (Ok id) → b ≡ makes_none W (name_at W id) → b ≡ false
      → outcome W x (items.New t d) ≡ init_fault W (name_at W id) d (λ m. new_use_fault W x (name_at W id) m (name_at W id))
  unfolding new_rest or_else
  new_made d id b h n e = new_at d id h ∙ rw (instantiated (name_at W id) b n, e) refl

  pub new_unfound : (d : Bytes) (id : ℕ) (b : Bool) (e : LinkError) → IsReached W x t NoSuchMethodError (Ok id) → b ≡ makes_none W (name_at W id) → b ≡ false → FindsInit W (name_at W id) d (Err e)
      → outcome W x (items.New t d) ≡ Some e
  new_unfound d id b e h n i l = new_made d id b h n i ∙ l _

  pub new_found : (d : Bytes) (id : ℕ) (b : Bool) (f : Found) → IsReached W x t NoSuchMethodError (Ok id) → b ≡ makes_none W (name_at W id) → b ≡ false → FindsInit W (name_at W id) d (Ok f)
      → outcome W x (items.New t d) ≡ new_use_fault W x (name_at W id) (member_of W f) t
  new_found d id b f h n i l =
      new_made d id b h n i ∙ l.2 (λ m. new_use_fault W x (name_at W id) m (name_at W id))
      ∙ rw (open_alike W f l.0 l.1 x (name_at W id), let_alike W f l.0 l.1 x (name_at W id) (name_at W id)) refl
      ∙ ap (λ s. new_use_fault W x (name_at W id) (member_of W f) s) h.0.name

  -- ---- a call of an initializer

  pub init_unreached : (d : Bytes) (e : LinkError) → IsReached W x t NoSuchMethodError (Err e) → outcome W x (items.Init t d) ≡ Some e
  unfolding outcome
  init_unreached d e h = h _

  init_at : (d : Bytes) (id : ℕ) → IsReached W x t NoSuchMethodError (Ok id) → outcome W x (items.Init t d) ≡ init_fault W (name_at W id) d (init_use_fault W x (name_at W id))
  unfolding outcome
  init_at d id h = h.1 _ ∙ ap (λ c. init_fault W c d (init_use_fault W x c)) (sym h.0.name)

  pub init_unfound : (d : Bytes) (id : ℕ) (e : LinkError) → IsReached W x t NoSuchMethodError (Ok id) → FindsInit W (name_at W id) d (Err e) → outcome W x (items.Init t d) ≡ Some e
  init_unfound d id e h l = init_at d id h ∙ l (init_use_fault W x (name_at W id))

  pub init_found : (d : Bytes) (id : ℕ) (f : Found) → IsReached W x t NoSuchMethodError (Ok id) → FindsInit W (name_at W id) d (Ok f)
      → outcome W x (items.Init t d) ≡ init_use_fault W x (name_at W id) (member_of W f)
  init_found d id f h l = init_at d id h ∙ l.2 (init_use_fault W x (name_at W id)) ∙ rw (open_alike W f l.0 l.1 x (name_at W id)) refl
