-- Members by their kind: fields (JVMS 4.5) or methods (JVMS 4.6).
use Rattle.std.specs.Prelude.{Bool, List, Option, is_some}
use Rattle.std.specs.List.{list_any, find as first_where}
use Rattle.jc_facts.specs.declared.class_facts.ClassFacts.{ClassFacts}
use Rattle.jc_facts.specs.declared.class_facts.Member.{Member}
use Rattle.jc_facts.specs.declared.key.Key.{Key}
use Rattle.jc_facts.specs.Names.{is_key}
use Rattle.jc_index.specs.declared.members.MemberKind.{MemberKind}
use Rattle.jc_index.specs.declared.members.MemberKind.TheVariants.{Field, Method}

-- the members of the kind that the class itself declares
abbrev pub members_of : MemberKind → ClassFacts → List Member
members_of Field c = c.fields
members_of Method c = c.methods

-- the one of the key among them
abbrev pub own_of : MemberKind → ClassFacts → Key → Option Member
own_of kind c k = first_where (is_key k) (members_of kind c)

-- one of the classes declares one of the key
abbrev pub declare_of : MemberKind → List ClassFacts → Key → Bool
declare_of kind cs k = list_any (λ c. is_some (own_of kind c k)) cs
