-- A client's class, lines of a verdict, and losses, for worked rows.
use Rattle.std.specs.Prelude.{List, [], None, Some, codes}
use Rattle.jc_facts.specs.declared.act.Act.TheVariants as act
use Rattle.jc_facts.specs.declared.class_facts.ClassFacts.{ClassFacts}
use Rattle.jc_facts.specs.declared.client.Item.{Item}
use Rattle.jc_facts.specs.declared.client.Item.TheVariants as item
use Rattle.jc_facts.specs.declared.client.Place.TheVariants as place
use Rattle.jc_facts.specs.declared.finding.Finding.{Finding}
use Rattle.jc_facts.specs.declared.key.Key.{Key}
use Rattle.jc_facts.specs.declared.link_error.LinkError.{LinkError}
use Rattle.jc_facts.specs.declared.link_error.LinkError.TheVariants as errors
use Rattle.jc_facts.specs.declared.outcome.Outcome.{Outcome}
use Rattle.jc_facts.specs.declared.rule_numbers.TheConstants.{CLASS_GONE, CLASS_CLOSED, METHOD_CLOSED}
use Rattle.jc_facts.specs.Names.{Bytes}
use Rattle.jc_used.specs.declared.line.Line.{Line}

-- the class a/Dot, a subclass of p/Circle
abbrev pub dot : ClassFacts
dot = record {
  name = codes "a/Dot";
  major = 61;
  flags = 0x21;
  superclass = Some (codes "p/Circle");
  interfaces = [];
  fields = [];
  methods = [];
  permits = None;
  nest_host = None;
  nest_members = [];
  constants = [];
  signatures = [];
}

abbrev pub draw : Key
draw = record { name = codes "draw"; descriptor = codes "()V" }

abbrev pub line_with : Finding → List Bytes → Line
line_with f names = record { finding = f; lets_in = names }

-- p/Square is gone
abbrev pub square_gone : Line
square_gone = line_with (record { rule = CLASS_GONE; «class» = codes "p/Square"; key = None; target = None; act = act.ClassRef; seat = None; error = errors.NoClassDefFoundError }) []

-- p/Circle is closed, but to these
abbrev pub circle_closed : List Bytes → Line
circle_closed names = line_with (record { rule = CLASS_CLOSED; «class» = codes "p/Circle"; key = None; target = None; act = act.Extend; seat = None; error = errors.IncompatibleClassChangeError }) names

-- the class has no method draw any more
abbrev pub draw_gone : Bytes → Line
draw_gone x = line_with (record { rule = METHOD_CLOSED; «class» = x; key = Some draw; target = None; act = act.InvokeVirtual; seat = Some (codes "java/lang/Object"); error = errors.NoSuchMethodError }) []

-- a loss of a/Dot
abbrev pub load_lost : LinkError → Outcome
load_lost e = record { «class» = codes "a/Dot"; item = None; error = Some e }

abbrev pub item_lost : Item → LinkError → Outcome
item_lost i e = record { «class» = codes "a/Dot"; item = Some i; error = Some e }

-- a call of draw that names the class
abbrev pub call_of : Bytes → Item
call_of x = item.Access act.InvokeVirtual x draw None place.Other
