-- The acts of the client that takes a value from another one.
use Rattle.std.proofs.Common.{◌≡◌, ◌≤◌, Bool, true, false, cond, List, [], ◌∷◌, ◌++◌, length, Option, None, Some, arith}
use Rattle.std.specs.List.{All, cons_option}
use Rattle.std.proofs.lemmas.List.{length-append}
use Rattle.std.proofs.lemmas.List.Elements.{All-from_recursion, recursion_from_All}
use Rattle.jc_facts.specs.declared.member_act.MemberAct.{MemberAct}
use Rattle.jc_facts.specs.Names.{Bytes}
use Rattle.jc_facts.specs.world.World.{World}
use Rattle.jc_promises.specs.rule.Exposed.{is_hidden, exposing_act}
use Rattle.jc_promises.specs.plan.Planned.{acts_exposing, reads_hidden}
use Rattle.jc_lemmas.proofs.Listed.{EachOf-append}
use Rattle.jc_witness.specs.Exposing.{CanReceive}

-- one act exposes a class, if any, and so there are two with the read
one_exposes : (W : World) (a x : Bytes) → length (acts_exposing W a x) ≤ 1
one_exposes W a x = go (is_hidden W x) (exposing_act W a x)
  where
    go : (b : Bool) (o : Option MemberAct) → length (cond b (cons_option o []) []) ≤ 1
    go false o = omega arith
    go true None = omega arith
    go true (Some m) = omega arith

pub two_with_read : (W : World) (a x z s : Bytes) → length (acts_exposing W a x ++ reads_hidden z s ∷ []) ≤ 2
two_with_read W a x z s = let l = length-append (acts_exposing W a x) (reads_hidden z s ∷ []) in let k = one_exposes W a x in omega (arith, l, k)

-- the read takes no receiver
pub receive_with_read : (W : World) (acts : List MemberAct) (z s : Bytes) → All (CanReceive W) acts → All (CanReceive W) (acts ++ reads_hidden z s ∷ [])
receive_with_read W acts z s h = All-from_recursion (CanReceive W) (acts ++ reads_hidden z s ∷ []) (EachOf-append (CanReceive W) acts (reads_hidden z s ∷ []) (recursion_from_All (CanReceive W) acts h) ((λ r. absurd (let q : true ≡ false = r in cc)), tt))
