-- Parts that are added to a class file.
use Rattle.std.specs.Prelude.{[], ◌∷◌, ◌++◌, Option}
use Rattle.jc_facts.specs.declared.blueprint.Blueprint.{Blueprint}
use Rattle.jc_facts.specs.declared.blueprint.Body.{Body}
use Rattle.jc_facts.specs.declared.class_facts.Member.{Member}
use Rattle.jc_facts.specs.Names.{Bytes}

-- one more interface
abbrev pub with_interface : Blueprint → Bytes → Blueprint
with_interface b i = record b { facts = record b.facts { interfaces = b.facts.interfaces ++ i ∷ [] } }

-- one more field
abbrev pub with_field : Blueprint → Member → Blueprint
with_field b m = record b { facts = record b.facts { fields = b.facts.fields ++ m ∷ [] } }

-- one more method, with a body or none
abbrev pub with_method : Blueprint → Member → Option Body → Blueprint
with_method b m body = record { facts = record b.facts { methods = b.facts.methods ++ m ∷ [] }; bodies = b.bodies ++ body ∷ [] }
