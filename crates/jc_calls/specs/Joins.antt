-- Superclasses that clients can't name, where values of two classes meet in their code, and that one of the two leaves, over the old side O and the
-- new side N alone.
--     is_join W x y t      the class t is the first that stands in the chains of both x and y
--     join_lost O N x t      values of x and of another class met at t, and those of x aren't assignable to it any more
-- Where branches of a method meet, a frame gives one type to the values that they bring (JVMS 4.7.4). Of `c ? new A() : new B()`, a `catch (A | B e)`
-- or an array of both, javac writes the first superclass that A and B have, though no source can name it. The verifier asks no access to it, but that each
-- value be assignable to it (JVMS 4.10.1.2, 4.10.1.4): where one isn't, or it is gone, the client is refused. Once it is an interface, all is assignable
-- to it.
use Rattle.std.specs.Prelude.{Bool, not, None, Some, is_some, ◌||◌, ◌&&◌}
use Rattle.std.specs.List.{list_any, list_all}
use Rattle.jc_facts.specs.declared.rule_numbers.TheConstants.{SUPERCLASS_LOST}
use Rattle.jc_facts.specs.Names.{Bytes}
use Rattle.jc_facts.specs.world.World.{World, classes}
use Rattle.jc_facts.specs.world.Assignment.{is_class_assignable}
use Rattle.jc_facts.specs.world.Hierarchy.{chain, in_chain}
use Rattle.jc_promises.specs.rule.Exposed.{is_hidden}
use Rattle.jc_promises.specs.rule.Findings.{finding_at, takes_part}
use Rattle.jc_promises.specs.rule.OpenActs.{first_seat}

-- it stands in both, and each class of the one that stands in the other is t or above it
abbrev pub is_join : World → Bytes → Bytes → Bytes → Bool
is_join W x y t = in_chain W x t && in_chain W y t && list_all (λ c. not (in_chain W y c.name) || in_chain W t c.name) (chain W x)

-- clients of the seat a hold values of x, and of a class whose values meet those at t
abbrev pub joins_for : World → World → Bytes → Bytes → Bytes → Bool
joins_for O N x t a = takes_part O N a x && list_any (λ y. takes_part O N a y.name && is_join O x y.name t) (classes O)

-- so do those of some seat
abbrev pub is_joined : World → World → Bytes → Bytes → Bool
is_joined O N x t = is_some (first_seat O N (joins_for O N x t))

-- a finding says that the class x lost t
abbrev pub is_found : World → World → Bytes → Bytes → Bool
is_found O N x t = is_some (finding_at O N (record { rule = SUPERCLASS_LOST; «class» = x; key = None; target = Some t }))

-- clients can't name t, where values of x met others; x isn't assignable to it any more, and no finding on both tells so
unfoldable pub join_lost : World → World → Bytes → Bytes → Bool
join_lost O N x t = is_hidden O t && is_joined O N x t && not (is_class_assignable N x t) && not (is_found O N x t)
