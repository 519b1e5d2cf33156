-- What chains have of a key, by flags and by numbers of classes.
use Rattle.std.specs.Prelude.{ℕ, Bool, true, false, cond, Option, None, Some}
use Rattle.jc_facts.specs.declared.key.Key.{Key}
use Rattle.jc_facts.specs.Flags.{abstract_flag}
use Rattle.jc_facts.specs.world.World.{World}
use Rattle.jc_index.specs.declared.ids.Found.{Found}
use Rattle.jc_index.specs.steps.Walking.{chain_from}
use Rattle.jc_facts.specs.declared.warning.ChainKind.{ChainKind}
use Rattle.jc_facts.specs.declared.warning.ChainKind.TheVariants.{Nothing, Abstract, Concrete}
use Rattle.jc_promises.specs.rule.Selection.{first_kind}

-- an instance method of these flags that isn't private
abbrev pub kind_by : ℕ → ChainKind
kind_by flags = cond (abstract_flag flags) Abstract Concrete

-- the same of what is found
abbrev pub kind_of : Option Found → ChainKind
kind_of None = Nothing
kind_of (Some f) = kind_by f.flags

-- what the class of this number and those above it have, at most n of them
abbrev pub kind_from : World → Key → ℕ → Option ℕ → ChainKind
kind_from W k n next = first_kind k (chain_from W n next)

-- it is nothing
abbrev pub is_nothing : ChainKind → Bool
is_nothing Nothing = true
is_nothing Abstract = false
is_nothing Concrete = false
