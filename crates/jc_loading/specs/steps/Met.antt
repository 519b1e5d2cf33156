-- What a walk up the superclasses of a class, by numbers, has met.
use Rattle.std.specs.Prelude.{cond, List, [], ◌∷◌, ◌++◌, Option, None, Some}
use Rattle.jc_facts.specs.world.World.{DeclaredMember}
use Rattle.jc_facts.specs.world.Overriding.{is_overridden_by_any}

-- the methods below, and behind them this one where one of them overrides it
abbrev pub linked_last : List DeclaredMember → Option DeclaredMember → List DeclaredMember
linked_last below None = below
linked_last below (Some a) = cond (is_overridden_by_any below a) (below ++ a ∷ []) below
