-- Clients lose the same in worlds that link alike.
use Rattle.std.proofs.Common.{◌≡◌, List, [], ◌∷◌, refl}
use Rattle.jc_facts.specs.declared.client.ClientClass.{ClientClass}
use Rattle.jc_facts.specs.declared.client.Item.{Item}
use Rattle.jc_facts.specs.Names.{Bytes}
use Rattle.jc_facts.specs.world.World.{World}
use Rattle.jc_losses.specs.Losses.{item_losses, client_losses, all_losses}
use Rattle.jc_worlds.specs.Alike.{LinkAlike}

module _ (W X V Y : World) (a : LinkAlike W X) (b : LinkAlike V Y) where
  items_alike : (x : Bytes) (is : List Item) → item_losses W V x is ≡ item_losses X Y x is
  items_alike x [] = refl
  items_alike x (i ∷ is) = rw (a.items x i, b.items x i, items_alike x is) refl

  client_alike : (c : ClientClass) → client_losses W V c ≡ client_losses X Y c
  client_alike c = rw (a.loading c.facts.name, b.loading c.facts.name, items_alike c.facts.name c.items) refl

  pub losses_alike : (cs : List ClientClass) → all_losses W V cs ≡ all_losses X Y cs
  losses_alike [] = refl
  losses_alike (c ∷ cs) = rw (client_alike c, losses_alike cs) refl
