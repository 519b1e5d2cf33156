-- The records that rows stand for.
use Rattle.std.specs.Borrow.{Bor}
use Rattle.std.specs.Prelude.{ℕ, [], ◌∷◌, map, Option, None, Some, option_map}
use Rattle.jc_facts.specs.declared.class_facts.ClassFacts.{ClassFacts}
use Rattle.jc_facts.specs.declared.class_facts.Member.{Member}
use Rattle.jc_facts.specs.Names.{Bytes}
use Rattle.jc_table_tests.specs.declared.rows.Row.{Row}

-- the name, where it isn't empty
abbrev pub named : Bytes → Option Bytes
named [] = None
named (b ∷ rest) = Some (b ∷ rest)

-- the member of this name, descriptor and flags
abbrev pub member_of : Bor Bytes × Bor Bytes × ℕ → Member
member_of d = record { name = d.0.now; descriptor = d.1.now; flags = d.2 }

-- the class of the row, of major 61; nothing is told of it that the row doesn't tell
abbrev pub class_of : Row → ClassFacts
class_of r = record {
  name = r.name.now;
  major = 61;
  flags = r.flags;
  superclass = named r.superclass.now;
  interfaces = map (λ n. n.now) r.interfaces.now;
  fields = map member_of r.fields.now;
  methods = map member_of r.methods.now;
  permits = option_map (λ names. map (λ n. n.now) names.now) r.permits;
  nest_host = named r.nest_host.now;
  nest_members = map (λ n. n.now) r.nest_members.now;
  constants = [];
  signatures = [];
}
