-- The lines of a verdict that may explain a loss.
--     lines_of N v      its findings, and then its collisions, each as a finding
--     findings_in ls      what is printed of them
--     lets_in N x      the names that the class x lets stand below itself on the new side
use Rattle.std.specs.Prelude.{◌==◌, cond, List, [], ◌++◌, map, Option, None, Some}
use Rattle.jc_facts.specs.declared.class_facts.ClassFacts.{ClassFacts}
use Rattle.jc_facts.specs.declared.finding.Finding.{Finding}
use Rattle.jc_facts.specs.declared.rule_numbers.TheConstants.{CLASS_CLOSED}
use Rattle.jc_facts.specs.declared.verdict.Collision.{Collision}
use Rattle.jc_facts.specs.declared.verdict.Verdict.{Verdict}
use Rattle.jc_facts.specs.Names.{Bytes}
use Rattle.jc_facts.specs.world.Modules.{OfClients, same_module, module_of}
use Rattle.jc_facts.specs.world.World.{World, find_class}
use Rattle.jc_used.specs.declared.line.Line.{Line}

-- the finding that is printed as the collision is: of no target and no seat
abbrev pub as_finding : Collision → Finding
as_finding c = record { rule = c.rule; «class» = c.class; key = Some c.key; target = None; act = c.act; seat = None; error = c.error }

-- the findings and then the collisions, as they are numbered
abbrev pub entries_of : Verdict → List Finding
entries_of v = v.findings ++ map as_finding v.collisions

abbrev pub names_or_none : Option (List Bytes) → List Bytes
names_or_none None = []
names_or_none (Some names) = names

abbrev pub permitted_by : Option ClassFacts → List Bytes
permitted_by None = []
permitted_by (Some c) = names_or_none c.permits

-- its permitted names, where it is in the clients' module: else it permits no client (JVMS 5.3.5)
unfoldable pub lets_in : World → Bytes → List Bytes
lets_in N x = cond (same_module OfClients (module_of N x)) (permitted_by (find_class N x)) []

-- what is asked of a class that is closed
abbrev pub lets_in_by : World → Finding → List Bytes
lets_in_by N f = cond (f.rule == CLASS_CLOSED) (lets_in N f.class) []

abbrev pub line_of : World → Finding → Line
line_of N f = record { finding = f; lets_in = lets_in_by N f }

abbrev pub lines_of : World → Verdict → List Line
lines_of N v = map (line_of N) (entries_of v)

-- what is printed of lines
abbrev pub findings_in : List Line → List Finding
findings_in ls = map (λ l. l.finding) ls
