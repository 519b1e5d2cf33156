-- What is kept of the names that classes mention.
use Rattle.std.specs.Prelude.{◌≡◌, ◌<◌, ◌^◌, List, length}
use Rattle.std.specs.List.{list_any}
use Rattle.jc_facts.specs.declared.class_facts.ClassFacts.{ClassFacts}
use Rattle.jc_facts.specs.Names.{Bytes, same, is_name_among, package_name}
use Rattle.jc_facts.specs.world.Search.{supers}
use Rattle.jc_facts.specs.world.Mentioned.{all_mentions}
use Rattle.jc_index.specs.declared.mentioned.MentionedNames.{MentionedNames}

-- a name is among each of the lists exactly where a class says so, and what is mentioned is counted as often as a class says so
pub record AreMentionedNames (cs : List ClassFacts) (t : MentionedNames) : Type 0 where
  pub packages : (x : Bytes) → is_name_among t.packages x ≡ list_any (λ c. same (package_name c.name) x) cs
  pub supers : (x : Bytes) → is_name_among t.supers x ≡ list_any (λ c. is_name_among (supers c) x) cs
  pub count : t.count ≡ length (all_mentions cs)
  pub small : t.count < 2 ^ 62
