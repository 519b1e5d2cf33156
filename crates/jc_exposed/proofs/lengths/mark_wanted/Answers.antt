use Rattle.std.proofs.Common.{◌≡◌, true, length, sym, ◌∙◌, subst}
use Rattle.jc_facts.specs.Names.{Bytes}
use Rattle.jc_facts.proofs.World.{find-name}
use Rattle.jc_index.specs.Ids.{name_at}
use Rattle.jc_exposed.specs.Lengths.{may_be}
use Rattle.jc_exposed.proofs.lengths.mark_wanted.Goals as goal

pub returns-then-wanted-number-clause-marked : goal.returns-then-wanted-number-clause-marked
returns-then-wanted-number-clause-marked c = λ w.
    subst (λ (x : Bytes). may_be c.mark.new.lengths.items (length x) ≡ true) (c.as_bytes.ensures ∙ find-name c.args.table.now (name_at c.args.table.now c.args.id) c.facts.result.now (sym c.facts.ensures)) c.mark.ensures.marked
