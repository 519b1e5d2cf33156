-- What exposing acts add to the class file of a planned client.
use Rattle.std.specs.Prelude.{ℕ, cond, List, [], ◌∷◌, ◌++◌, ◌+◌, codes}
use Rattle.jc_facts.specs.declared.act.Act.{Act}
use Rattle.jc_facts.specs.declared.blueprint.Blueprint.{Blueprint}
use Rattle.jc_facts.specs.declared.member_act.MemberAct.{MemberAct}
use Rattle.jc_facts.specs.Names.{Bytes}
use Rattle.jc_promises.specs.plan.Planned.{is_new_object, is_init_super, init_taking}
use Rattle.jc_promises.specs.plan.PlannedBodies.{init_body}
use Rattle.jc_drafts.specs.steps.Drafted.{with_method}

-- one more initializer, which takes these ints, where the act calls one of the superclass a
abbrev pub with_init : Blueprint → Bytes → Bytes → MemberAct → Blueprint
with_init b a ints s = cond (is_init_super s.act) (with_method b (init_taking ints) (init_body a s.key.descriptor)) b

-- the ints that the next initializer takes
abbrev pub more_ints : Bytes → Act → Bytes
more_ints ints what = cond (is_init_super what) (codes "I" ++ ints) ints

-- for each of the acts
abbrev pub with_inits : Blueprint → Bytes → Bytes → List MemberAct → Blueprint
with_inits b a ints [] = b
with_inits b a ints (s ∷ ss) = with_inits (with_init b a ints s) a (more_ints ints s.act) ss

-- how many items the act has
abbrev pub items_of_act : Act → ℕ
items_of_act what = cond (is_new_object what) 2 1

abbrev pub items_of_acts : List MemberAct → ℕ
items_of_acts [] = 0
items_of_acts (s ∷ ss) = items_of_act s.act + items_of_acts ss
