-- What one client opens is in reach of all.
use Rattle.std.proofs.Common.{◌≡◌, Bool, true, List, ap, refl, Option, Some, None, is_none, ◌||◌, ◌&&◌}
use Rattle.std.specs.List.{list_any, Contains}
use Rattle.std.proofs.lemmas.Bool.{and_parts, and_from, or_right}
use Rattle.jc_facts.specs.declared.client.ClientClass.{ClientClass}
use Rattle.jc_facts.specs.declared.client.Item.{Item}
use Rattle.jc_facts.specs.declared.client.Item.TheVariants as item
use Rattle.jc_facts.specs.Names.{Bytes, same}
use Rattle.jc_facts.specs.Options.{some_and}
use Rattle.jc_facts.specs.world.Access.{is_class_accessible}
use Rattle.jc_facts.specs.world.Loading.{loads}
use Rattle.jc_facts.specs.world.Types.{Element, Primitive, Class, TypeText, type_read}
use Rattle.jc_facts.specs.world.World.{World, find_class}
use Rattle.jc_promises.specs.client.Reach.{opens, is_opened_by, class_in_reach, element_in_reach, text_in_reach, type_in_reach, receiver_in_reach, is_invoke_interface, is_interface_type, is_in_reach}
use Rattle.jc_lemmas.proofs.Bools.{or_under}
use Rattle.jc_lemmas.proofs.Listed.{any_has, any_passes}
use Rattle.jc_sound.proofs.ReachInSight.{or-to}
use Rattle.jc_sound.proofs.Uses.{and-map}
use Rattle.jc_sound.specs.Reach.{MoreClientsReachMore, ReachesByItself}

module _ (W : World) (cs ds : List ClientClass) (more : (y : ClientClass) → Contains cs y → Contains ds y) (x : Bytes) where
  class_more : (c : Bytes) → class_in_reach W x cs c ≡ true → class_in_reach W x ds c ≡ true
  class_more c r =
      let p = and_parts (loads W c) (named || list_any (is_opened_by W c) cs) r in
      and_from (loads W c) (named || list_any (is_opened_by W c) ds) p.0 (or_under named (list_any (is_opened_by W c) cs) (list_any (is_opened_by W c) ds) opened p.1)
    where
      named : Bool
      named = some_and (is_class_accessible W x) (find_class W c)

      opened : list_any (is_opened_by W c) cs ≡ true → list_any (is_opened_by W c) ds ≡ true
      opened h = let q = any_passes (is_opened_by W c) cs h in any_has (is_opened_by W c) ds q.one (more q.one q.is_in) q.passes

  type_more : (t : Bytes) → type_in_reach W x cs t ≡ true → type_in_reach W x ds t ≡ true
  unfolding type_in_reach
  type_more t r = go (type_read t) r
    where
      by : (e : Element) → element_in_reach W x cs e ≡ true → element_in_reach W x ds e ≡ true
      by (Primitive p) q = refl
      by (Class c) q = class_more c q

      go : (o : Option TypeText) → text_in_reach W x cs o ≡ true → text_in_reach W x ds o ≡ true
      go None q = refl
      go (Some t) q = by t.element q

  item_more : (i : Item) → is_in_reach W x cs i ≡ true → is_in_reach W x ds i ≡ true
  item_more (item.Access act t k r place) w = or-to (receiver_in_reach W x cs r) (receiver_in_reach W x ds r) (is_invoke_interface act) (receiver r) w
    where
      receiver : (r : Option Bytes) → receiver_in_reach W x cs r ≡ true → receiver_in_reach W x ds r ≡ true
      receiver None q = refl
      receiver (Some s) q = type_more s q
  item_more (item.Assign s t) w =
      or_under (same s t) (type_in_reach W x cs t && (type_in_reach W x cs s || is_interface_type W t)) (type_in_reach W x ds t && (type_in_reach W x ds s || is_interface_type W t))
      (λ q. and-map (type_in_reach W x cs t) (type_in_reach W x cs s || is_interface_type W t) (type_in_reach W x ds t) (type_in_reach W x ds s || is_interface_type W t) q (type_more t)
      (or-to (type_in_reach W x cs s) (type_in_reach W x ds s) (is_interface_type W t) (type_more s))) w
  item_more (item.Class t) w = refl
  item_more (item.New t d) w = refl
  item_more (item.Init t d) w = refl

pub more_clients_reach_more : MoreClientsReachMore
more_clients_reach_more W cs ds more x i = item_more W cs ds more x i

pub reaches_by_itself : ReachesByItself
reaches_by_itself W cs y h l c k o x =
    and_from (loads W c) (named || list_any (is_opened_by W c) cs) k (or_right named (list_any (is_opened_by W c) cs)
    (any_has (is_opened_by W c) cs y h (and_from (loads W y.facts.name) (list_any (opens W y.facts.name c) y.items) (ap is_none l) o)))
  where
    named : Bool
    named = some_and (is_class_accessible W x) (find_class W c)
