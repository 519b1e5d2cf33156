use Rattle.std.proofs.Common.{◌≡◌, ◌++◌, drop, map}
use Rattle.jc_facts.specs.code.Typing as typing
use Rattle.jc_code.specs.steps.KindView.{kind_view}
use Rattle.jc_code.specs.steps.KindView.{kinds_in}
use Rattle.jc_code.proofs.construct.all_made.Given as goal

abbrev pub invariant-loop-kind : goal.invariant-loop-kind
invariant-loop-kind l = kinds_in l.all.items ++ map (λ k. typing.made (kind_view l.from) l.name (kind_view k)) (drop l.kind-index l.kinds) ≡ map (λ k. typing.made (kind_view l.from) l.name (kind_view k)) l.kinds
