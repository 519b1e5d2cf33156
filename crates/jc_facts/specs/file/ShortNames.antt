-- Names that are short enough for class files and paths.
use Rattle.std.specs.Prelude.{◌≤◌, length, All}
use Rattle.jc_facts.specs.declared.limits.TheConstants.{MAX_CLASS_NAME}
use Rattle.jc_facts.specs.declared.class_facts.ClassFacts.{ClassFacts}
use Rattle.jc_facts.specs.declared.class_facts.Member.{Member}
use Rattle.jc_desc.specs.declared.limits.TheConstants.{MAX_TEXT}

-- a text of a class file has at most MAX_TEXT bytes (JVMS 4.4.7)
abbrev pub IsShortMember : Member → Type 0
IsShortMember m = (length m.name ≤ MAX_TEXT) × (length m.descriptor ≤ MAX_TEXT)

-- the class's name has at most MAX_CLASS_NAME bytes, as a path of 4,096 bytes allows that ends in .class, and its members' names and descriptors are texts
pub record HasShortNames (c : ClassFacts) : Type 0 where
  pub name : length c.name ≤ MAX_CLASS_NAME
  pub fields : All IsShortMember c.fields
  pub methods : All IsShortMember c.methods
