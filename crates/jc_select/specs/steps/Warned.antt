-- Warnings on a class and a key.
use Rattle.std.specs.Prelude.{Bool, not, Option, None, Some}
use Rattle.jc_facts.specs.declared.key.Key.{Key}
use Rattle.jc_facts.specs.Names.{Bytes}
use Rattle.jc_sides.specs.SidesOf.{SidesOf}
use Rattle.jc_promises.specs.rule.Warnings.{part, parts_agree, warning_at}
use Rattle.jc_facts.specs.declared.warning.Warning.{Warning}
use Rattle.jc_facts.specs.declared.warning.WarnKind.{WarnKind}

-- the warning of this kind on the class and the key, where there is one
abbrev pub warning_of : Bytes → Key → Option WarnKind → Option Warning
warning_of x k None = None
warning_of x k (Some w) = Some (record { «class» = x; key = k; kind = w })

-- the warning on the class and the key
abbrev pub warned : SidesOf → Bytes → Key → Option Warning
warned s x k = warning_of x k (warning_at s.old s.new x k)

-- the parts of the class differ
abbrev pub parts_differ : SidesOf → Bytes → Key → Bool
parts_differ s x k = not (parts_agree s.old s.new k (part s.old x k) (part s.new x k))
