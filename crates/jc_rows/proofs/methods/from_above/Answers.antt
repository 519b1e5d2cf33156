use Rattle.std.proofs.Common.{◌∙◌, ap, sym, subst, List, []}
use Rattle.std.specs.Prelude.{slice_get}
use Rattle.std.proofs.lemmas.List.Elements.{recursion_from_All}
use Rattle.std.proofs.lemmas.Option.{slice_get-get_or, get_or_from_slice_get}
use Rattle.jc_facts.specs.declared.class_facts.ClassFacts.{ClassFacts}
use Rattle.jc_facts.specs.declared.key.Key.{Key}
use Rattle.jc_facts.specs.Names.{Bytes}
use Rattle.jc_facts.specs.world.Search.{supers}
use Rattle.jc_facts.specs.world.World.{World}
use Rattle.jc_index.specs.Ids.{name_at}
use Rattle.jc_index.specs.Picks.{Picks}
use Rattle.jc_rows.specs.Rows.{IsMethodRow}
use Rattle.jc_rows.specs.steps.Agreeing.{IsAgreed}
use Rattle.jc_rows.specs.steps.Gathering.{row_named}
use Rattle.jc_rows.proofs.Agreed.{given_below, agreed_pick}
use Rattle.jc_rows.proofs.methods.from_above.Goals as goal

pub is_inherited-requires : goal.is_inherited-requires
is_inherited-requires c =
    let W : World = c.args.hierarchy.now in
    let d : ClassFacts = c.facts.result.now in
    let a : IsAgreed W c.args.rows.now d c.args.number c.in-Some.found = subst (λ (V : World). IsAgreed V c.args.rows.now d c.args.number c.in-Some.found) c.index.ensures c.in-Some.ensures in
    let none : Key = record { name = []; descriptor = [] } in
    given_below W c.args.rows.now c.args.number c.in-Some.found d _ (ap (λ (ks : List Key). slice_get ks c.args.number) (sym c.requires.keys) ∙ slice_get-get_or c.args.keys.now c.args.number none c.requires.number)
    (recursion_from_All (λ s. IsMethodRow W s (row_named W c.args.rows.now s)) (supers d) (c.requires.above d (sym c.facts.ensures))) a.given

pub returns-in-Some : goal.returns-in-Some
returns-in-Some c k e front =
    let W : World = c.args.hierarchy.now in
    let x : Bytes = name_at W c.args.class in
    let d : ClassFacts = c.facts.result.now in
    let a : IsAgreed W c.args.rows.now d c.args.number c.in-Some.found = subst (λ (V : World). IsAgreed V c.args.rows.now d c.args.number c.in-Some.found) c.index.ensures c.in-Some.ensures in
    agreed_pick W c.count-classes.ensures.side c.args.rows.now c.args.number k (ap (λ (ks : List Key). slice_get ks c.args.number) (sym c.requires.keys) ∙ e) c.in-Some.found
    (c.is_inherited.ensures.counts c.if-is_inherited.true) (c.is_inherited.ensures.interface c.if-is_inherited.true) x d (sym c.facts.ensures) c.requires.loads
    (recursion_from_All (λ s. IsMethodRow W s (row_named W c.args.rows.now s)) (supers d) (c.requires.above d (sym c.facts.ensures))) front a

pub returns-in_default : goal.returns-in_default
returns-in_default c k e front =
    subst (λ (j : Key). Picks c.args.hierarchy.now (name_at c.args.hierarchy.now c.args.class) j c.find_above.result)
    (c.index-keys-number.is ∙ get_or_from_slice_get c.args.keys.now c.args.number k c.index-keys-number.result e) c.find_above.ensures.pick
