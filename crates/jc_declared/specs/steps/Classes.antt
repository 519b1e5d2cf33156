-- Of classes that can't be used.
use Rattle.std.specs.Prelude.{Option, None, Some, cond}
use Rattle.jc_facts.specs.declared.link_error.LinkError.{LinkError}
use Rattle.jc_promises.specs.rule.Findings.{gone_error}
use Rattle.jc_facts.specs.Names.{Bytes}
use Rattle.jc_promises.specs.rule.Bases.{is_class_usable}
use Rattle.jc_facts.specs.world.World.{World}

-- why clients can't use the class of this name
abbrev pub why_unusable : World → Bytes → Option LinkError
why_unusable W x = cond (is_class_usable W x) None (Some (gone_error W x))
