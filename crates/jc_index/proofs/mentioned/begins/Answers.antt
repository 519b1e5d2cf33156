use Rattle.std.proofs.Common.{ℕ, ◌<◌, ◌≤◌, ◌∙◌, sym, subst}
use Rattle.std.specs.Prelude.{nat_eq}
use Rattle.std.specs.List.{list_any, starts_with}
use Rattle.jc_facts.specs.declared.class_facts.ClassFacts.{ClassFacts}
use Rattle.jc_facts.specs.world.Mentioned.{mentions}
use Rattle.jc_index.proofs.InSide.{any_there, any_next, any_end}
use Rattle.jc_index.proofs.mentioned.begins.Goals as goal

pub loop-place-preserved : goal.loop-place-preserved
loop-place-preserved c =
    any_next (λ (d : ClassFacts). list_any (λ x. starts_with nat_eq x c.args.front.now) (mentions d)) c.args.side.now c.loop-place.place c.at.result.now
    (subst (λ (n : ℕ). c.loop-place.place < n) c.count-place-end.ensures.count c.loop-place-test.true) c.at.ensures (sym c.mention_begins.ensures ∙ c.if-mention_begins.false) c.loop-place.invariant

pub returns-then-mention_begins : goal.returns-then-mention_begins
returns-then-mention_begins c =
    sym (any_there (λ (d : ClassFacts). list_any (λ x. starts_with nat_eq x c.args.front.now) (mentions d)) c.args.side.now c.loop-place.place c.at.result.now c.at.ensures (sym c.mention_begins.ensures ∙ c.if-mention_begins.true))

pub returns : goal.returns
returns c =
    sym (any_end (λ (d : ClassFacts). list_any (λ x. starts_with nat_eq x c.args.front.now) (mentions d)) c.args.side.now c.loop-place.place
    (subst (λ (n : ℕ). n ≤ c.loop-place.place) c.count-place-end.ensures.count c.loop-place-test.false) c.loop-place.invariant)
