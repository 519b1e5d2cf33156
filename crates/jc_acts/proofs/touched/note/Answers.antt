use Rattle.std.proofs.Common.{◌≡◌, ◌<◌, None, Some, set, sym, ◌∙◌, ap, subst}
use Rattle.std.specs.Prelude.{is_some, IfSome}
use Rattle.std.proofs.lemmas.List.{get_or_read_under, length-set}
use Rattle.jc_facts.specs.world.World.{World, size}
use Rattle.jc_lemmas.proofs.Options.{none_from}
use Rattle.jc_acts.specs.steps.Known.{known_at}
use Rattle.jc_acts.proofs.SetAbove.{notes, IsNoting}
use Rattle.jc_acts.proofs.touched.note.Goals as goal

pub loop-preserved : goal.loop-preserved
loop-preserved c =
    let W : World = c.args.table.now in
    let l : c.in-Some.id < size W = subst (λ o. IfSome o (λ n. n < size W)) c.in-Some.is c.loop.invariant.0 in
    let read : c.index.result.now ≡ known_at c.loop.known.items c.in-Some.id =
    get_or_read_under c.loop.known.items c.number-n.result (size W) c.index.result.now None c.index.ensures (subst (λ n. n < size W) (sym c.number-n.ensures) l) (sym c.loop.invariant.1) ∙ ap (known_at c.loop.known.items) c.number-n.ensures in
    let unknown : known_at c.loop.known.items c.in-Some.id ≡ None = none_from (known_at c.loop.known.items c.in-Some.id) (sym (c.is_some.ensures ∙ ap is_some read) ∙ c.if-is_some.false) in (
      c.superclass-next.ensures.of_table,
      length-set c.loop.known.items c.number-n.result (Some c.args.answer) ∙ c.loop.invariant.1,
      λ p are so. subst (λ n. IsNoting W p c.args.answer (set c.loop.known.items n (Some c.args.answer)) c.superclass-next.result) (sym c.number-n.ensures)
          (notes W p c.args.answer c.loop.known.items c.in-Some.id c.loop.next c.superclass-next.result c.loop.invariant.1 c.in-Some.is l unknown c.superclass-next.ensures.value (c.loop.invariant.2 p are so)),
    )
