use Rattle.std.proofs.Common.{ℕ, List, [], ◌∷◌, ◌++◌, refl, sym, ap, subst, ◌∙◌, append_assoc}
use Rattle.std.proofs.lemmas.List.{append-nil}
use Rattle.jc_select.proofs.SetsOf.{IsOfKeys, keys_none, keys_more, keys_all}
use Rattle.jc_select.proofs.dropped.copy_of.Goals as goal

pub loop-id-init : goal.loop-id-init
loop-id-init c = ([], sym c.into_iter-id-iterator.ensures.into_iter_gives.0, keys_none c.new-copy.result c.new-copy.ensures.ordered (λ q. rw c.new-copy.ensures.empty refl))

pub loop-id-preserved : goal.loop-id-preserved
loop-id-preserved c =
    let i = c.loop-id.invariant in (
      i.0 ++ c.in-Some.id.now ∷ [],
      i.1 ∙ ap (λ (ks : List ℕ). i.0 ++ ks) c.in-Some.ensures.steps ∙ sym (append_assoc i.0 (c.in-Some.id.now ∷ []) c.next.new.self),
      keys_more i.0 c.in-Some.id.now c.loop-id.copy c.insert.new.self i.2 c.in_ok-insert.ensures.updates c.in_ok-insert.ensures.ordered,
    )

pub returns : goal.returns
returns c =
    let i = c.loop-id.invariant in
    let e = i.1 ∙ ap (λ (ks : List ℕ). i.0 ++ ks) c.in-None.ensures.steps.0 ∙ append-nil i.0 in
    keys_all c.args.set.now c.loop-id.copy (subst (λ (ks : List ℕ). IsOfKeys ks c.loop-id.copy) (sym e) i.2)
