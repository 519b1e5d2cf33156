use Rattle.std.proofs.Common.{◌≡◌, ℕ, List, [], ◌∷◌, ◌++◌, sym, ap, subst, ◌∙◌, append_assoc, map}
use Rattle.std.proofs.lemmas.List.{append-nil}
use Rattle.std.specs.List.{filter_map}
use Rattle.jc_facts.specs.declared.finding.Finding.{Finding}
use Rattle.jc_facts.specs.Orders.{finding_order}
use Rattle.jc_facts.specs.Exactly.{HasExactly}
use Rattle.jc_index.specs.Ids.{name_at}
use Rattle.jc_rules.specs.steps.Chains.{target_finding, OfChain}
use Rattle.jc_rules.proofs.SuperclassLost.{up_at, chain_more, chain_exact}
use Rattle.jc_rules.proofs.superclass_lost.on_chain.Goals as goal

pub on_target-requires-clause-target : goal.on_target-requires-clause-target
on_target-requires-clause-target c =
    let i = c.loop-target.invariant in
    (up_at c.args.sides.now.old (name_at c.args.sides.now.old c.args.class) c.args.before.now c.requires.before i.0 c.next.new.self c.in-Some.target.now (i.1 ∙ ap (λ (ks : List ℕ). i.0 ++ ks) c.in-Some.ensures.steps)).below

pub on_target-requires-clause-was : goal.on_target-requires-clause-was
on_target-requires-clause-was c =
    let i = c.loop-target.invariant in
    (up_at c.args.sides.now.old (name_at c.args.sides.now.old c.args.class) c.args.before.now c.requires.before i.0 c.next.new.self c.in-Some.target.now (i.1 ∙ ap (λ (ks : List ℕ). i.0 ++ ks) c.in-Some.ensures.steps)).up

pub loop-target-preserved : goal.loop-target-preserved
loop-target-preserved c =
    let i = c.loop-target.invariant in (
      i.0 ++ c.in-Some.target.now ∷ [],
      i.1 ∙ ap (λ (ks : List ℕ). i.0 ++ ks) c.in-Some.ensures.steps ∙ sym (append_assoc i.0 (c.in-Some.target.now ∷ []) c.next.new.self),
      chain_more (target_finding c.args.sides.now (name_at c.args.sides.now.old c.args.class)) c.args.sides.now.old i.0 c.in-Some.target.now c.in_ok-on_target.field-0 c.loop-target.findings.items c.push_some.new.items.items
          i.2 c.in_ok-on_target.ensures c.in_ok-push_some.ensures,
    )

pub returns : goal.returns
returns c =
    let i = c.loop-target.invariant in
    let e : i.0 ≡ c.args.before.now.keys = sym (i.1 ∙ ap (λ (ks : List ℕ). i.0 ++ ks) c.in-None.ensures.steps.0 ∙ append-nil i.0) in
    subst (λ (fs : List Finding). HasExactly finding_order (OfChain c.args.sides.now (name_at c.args.sides.now.old c.args.class)) fs)
    (sym (i.2 ∙ ap (λ (ks : List ℕ). filter_map (target_finding c.args.sides.now (name_at c.args.sides.now.old c.args.class)) (map (name_at c.args.sides.now.old) ks)) e))
    (chain_exact c.args.sides.now c.requires.seats.sides.old_side (name_at c.args.sides.now.old c.args.class) c.args.before.now c.requires.before)
