-- A command with one more argument.
use Rattle.std.proofs.Common.{◌≡◌, ◌∙◌, ap, false}
use Rattle.clap.specs.Built.{AddsArg}
use Rattle.clap.specs.Walk.{Rule, rule_of}
use Rattle.clap.specs.Simple.{App, app_of, with_rule}
use Rattle.clap.specs.declared.builder.arg.Arg.{Arg}
use Rattle.clap.specs.declared.builder.command.Command.{Command}

-- its rules are those of the command, and the one of the argument
pub added : (old new : Command) (a : Arg) (app : App) (r : Rule) → AddsArg old a new → a.global ≡ false → rule_of a ≡ r → app_of old ≡ app → app_of new ≡ with_rule app r
added old new a app r adds local rule before = adds.shape local ∙ (ap (λ (x : App). with_rule x (rule_of a)) before ∙ ap (with_rule app) rule)
