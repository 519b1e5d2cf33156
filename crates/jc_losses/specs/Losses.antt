-- What clients lose with a new release.
--     losses O N cs      what loaded or linked with the old side and doesn't with the new, in the order of `outcomes`
--     IsLoss os ns o     the same, by the outcomes os with the old side and those with the new
use Rattle.std.specs.Prelude.{List, [], ◌∷◌, ◌++◌, ◌&&◌, cond, Option, None, is_none, is_some, IsTrue}
use Rattle.std.specs.List.{Contains}
use Rattle.jc_facts.specs.declared.client.ClientClass.{ClientClass}
use Rattle.jc_facts.specs.declared.client.Item.{Item}
use Rattle.jc_facts.specs.declared.link_error.LinkError.{LinkError}
use Rattle.jc_facts.specs.declared.outcome.Outcome.{Outcome}
use Rattle.jc_facts.specs.Names.{Bytes}
use Rattle.jc_facts.specs.world.World.{World, with_clients}
use Rattle.jc_facts.specs.world.Loading.{load_fault}
use Rattle.jc_facts.specs.client.Outcome.{outcome}
use Rattle.jc_facts.specs.client.Linked.{in_order, loading, linking, where_loaded}
use Rattle.jc_facts.specs.client.Valid.{facts_of}

-- ---- by worlds: W has the old side, V the new one

-- the outcome that is now, where it was Ok and no longer is
abbrev pub lost_where : Option LinkError → Outcome → List Outcome
lost_where was now = cond (is_none was && is_some now.error) (now ∷ []) []

-- those of the items of x, in order
abbrev pub item_losses : World → World → Bytes → List Item → List Outcome
item_losses W V x [] = []
item_losses W V x (i ∷ is) = lost_where (outcome W x i) (linking V x i) ++ item_losses W V x is

-- the loading of the client, or, where it loads with both, its items
abbrev pub client_losses : World → World → ClientClass → List Outcome
client_losses W V c = lost_where (load_fault W c.facts.name) (loading V c.facts.name)
    ++ where_loaded (load_fault W c.facts.name) (where_loaded (load_fault V c.facts.name) (item_losses W V c.facts.name c.items))

-- those of all the clients, in a row
abbrev pub all_losses : World → World → List ClientClass → List Outcome
all_losses W V [] = []
all_losses W V (c ∷ cs) = client_losses W V c ++ all_losses W V cs

-- for each client over both sides, in byte order of names, its loading, and where it loads with both each of its items, that was Ok and isn't
unfoldable pub losses : World → World → List ClientClass → List Outcome
losses O N cs = all_losses (with_clients O (facts_of cs)) (with_clients N (facts_of cs)) (in_order cs)

-- ---- by what `link` says with each of both

-- the outcome, which is Ok
abbrev pub when_ok : Outcome → Outcome
when_ok o = record { «class» = o.class; item = o.item; error = None }

-- it is an outcome with the new side, with an error, and with the old side the same class, or the same item of it, was Ok
pub record IsLoss (os ns : List Outcome) (o : Outcome) : Type 0 where
  pub now : Contains ns o
  pub fails : IsTrue (is_some o.error)
  pub was : Contains os (when_ok o)
