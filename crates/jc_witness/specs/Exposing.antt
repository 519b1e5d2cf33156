-- What is asked of the acts by which members expose hidden classes to planned clients.
use Rattle.std.specs.Prelude.{List, ◌++◌, length, ◌≤◌, ◌≡◌, Option, None, Some, IsTrue, IsFalse}
use Rattle.std.specs.List.{All}
use Rattle.jc_facts.specs.declared.member_act.MemberAct.{MemberAct}
use Rattle.jc_facts.specs.Names.{Bytes}
use Rattle.jc_facts.specs.world.World.{World}
use Rattle.jc_facts.specs.world.Loading.{load_fault}
use Rattle.jc_promises.specs.rule.Apart.{other_seat}
use Rattle.jc_promises.specs.plan.Planned.{takes_no_receiver, acts_exposing, is_out_of}
use Rattle.jc_witness.specs.Ground.{CanRefer}

-- the receiver of the act, where it takes one, can be looked up
abbrev pub CanReceive : World → MemberAct → Type 0
CanReceive W s = IsFalse (takes_no_receiver s.act) → CanRefer W s.act s.«class» s.key

-- the acts of clients of the seat a: the seat loads, the acts are few, and the receiver of each can be looked up
pub record CanTake (W : World) (a : Bytes) (acts : List MemberAct) : Type 0 where
  pub seat : load_fault W a ≡ None
  pub few : length acts ≤ 2
  pub receive : All (CanReceive W) acts

-- with a seat, its clients can take those that expose the classes x and y
abbrev pub CanExpose : World → Option Bytes → Bytes → Bytes → Type 0
CanExpose W None x y = Unit {0}
CanExpose W (Some a) x y = CanTake W a (acts_exposing W a x ++ acts_exposing W a y)

-- of a superclass y of x that is lost: clients of the seat a can take the acts that expose both; or where y is out of it those that expose x, and
-- clients of the other seat those that expose y
pub record CanHand (O N : World) (a x y : Bytes) : Type 0 where
  pub seat : load_fault O a ≡ None
  pub by_one : IsFalse (is_out_of O a y) → CanTake O a (acts_exposing O a x ++ acts_exposing O a y)
  pub first : IsTrue (is_out_of O a y) → CanTake O a (acts_exposing O a x)
  pub second : IsTrue (is_out_of O a y) → (b : Bytes) → other_seat O N a y ≡ Some b → CanTake O b (acts_exposing O b y)

abbrev pub CanLose : World → World → Option Bytes → Bytes → Bytes → Type 0
CanLose O N None x y = Unit {0}
CanLose O N (Some a) x y = CanHand O N a x y
