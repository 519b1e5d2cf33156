-- Records of classes that are the same.
use Rattle.std.specs.Prelude.{Bool, false, ◌==◌, ◌&&◌}
use Rattle.std.specs.Cmp.Lexicographic.{pointwise}
use Rattle.std.specs.Option.{option_eq}
use Rattle.jc_facts.specs.declared.class_facts.ClassFacts.{ClassFacts}
use Rattle.jc_facts.specs.declared.class_facts.Constant.{Constant}
use Rattle.jc_facts.specs.declared.class_facts.Constant.TheVariants as constants
use Rattle.jc_facts.specs.declared.class_facts.Fixed.{Fixed}
use Rattle.jc_facts.specs.declared.class_facts.Member.{Member}
use Rattle.jc_facts.specs.declared.class_facts.Signed.{Signed}
use Rattle.jc_facts.specs.Names.{same, same_key}

-- the two members are the same
abbrev pub same_member : Member → Member → Bool
same_member m n = same m.name n.name && same m.descriptor n.descriptor && m.flags == n.flags

-- the two constants are of one type, and the same
abbrev pub same_constant : Constant → Constant → Bool
same_constant (constants.Int m) (constants.Int n) = m == n
same_constant (constants.Float m) (constants.Float n) = m == n
same_constant (constants.Long m) (constants.Long n) = m == n
same_constant (constants.Double m) (constants.Double n) = m == n
same_constant (constants.Text m) (constants.Text n) = same m n
same_constant c d = false

-- the two fields are the same, and their values
abbrev pub same_fixed : Fixed → Fixed → Bool
same_fixed f g = same_key f.key g.key && same_constant f.value g.value

-- the two signatures are of one key, or of the class, and the same
abbrev pub same_signed : Signed → Signed → Bool
same_signed s t = option_eq same_key s.key t.key && same s.text t.text

-- the two records have the same name, version, flags, classes above and members
abbrev pub same_head : ClassFacts → ClassFacts → Bool
same_head c d =
    same c.name d.name && c.major == d.major && c.flags == d.flags && option_eq same c.superclass d.superclass && pointwise same c.interfaces d.interfaces && pointwise same_member c.fields d.fields
    && pointwise same_member c.methods d.methods

-- they have the same in their attributes
abbrev pub same_attributes : ClassFacts → ClassFacts → Bool
same_attributes c d =
    option_eq (pointwise same) c.permits d.permits && option_eq same c.nest_host d.nest_host && pointwise same c.nest_members d.nest_members && pointwise same_fixed c.constants d.constants && pointwise same_signed c.signatures d.signatures

-- the two records are the same
abbrev pub same_facts : ClassFacts → ClassFacts → Bool
same_facts c d = same_head c d && same_attributes c d
