use Rattle.std.proofs.Common.{List, refl, sym, ◌∙◌, ap, subst}
use Rattle.std.specs.Prelude.{IsTrue}
use Rattle.jc_facts.specs.declared.class_facts.ClassFacts.{ClassFacts}
use Rattle.jc_facts.specs.world.World.{differ_by_name, side}
use Rattle.jc_index.specs.Sides.{IsSide}
use Rattle.jc_loading.proofs.Loads.{is_side-alone}
use Rattle.jc_loading.proofs.platform.index_alone.Goals as goal

pub new-requires-2 : goal.new-requires-2
unfolding differ_by_name
new-requires-2 c = subst (λ (cs : List ClassFacts). IsTrue (differ_by_name cs)) (sym c.new.ensures.items) refl

pub new-requires-4 : goal.new-requires-4
new-requires-4 c =
    subst IsSide (sym (c.new-3.ensures ∙ ap (λ (cs : List ClassFacts). side cs c.in_ok-none.none) c.in_ok-share.ensures ∙ ap (λ (cs : List ClassFacts). side c.args.list.now cs) (c.in_ok-none.ensures ∙ c.new.ensures.items)))
    (is_side-alone c.args.list.now c.requires.valid c.requires.differ (sym c.requires.root))

pub returns : goal.returns
returns c =
    c.in_ok-index.ensures ∙ c.new-3.ensures ∙ ap (λ (cs : List ClassFacts). side cs c.in_ok-none.none) c.in_ok-share.ensures ∙ ap (λ (cs : List ClassFacts). side c.args.list.now cs) (c.in_ok-none.ensures ∙ c.new.ensures.items)
