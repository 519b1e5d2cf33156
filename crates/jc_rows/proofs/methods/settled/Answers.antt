use Rattle.std.proofs.Common.{◌∙◌, ap, sym, subst, List, Option}
use Rattle.std.specs.Prelude.{slice_get}
use Rattle.jc_facts.specs.declared.key.Key.{Key}
use Rattle.jc_facts.specs.Names.{Bytes}
use Rattle.jc_facts.specs.world.World.{World}
use Rattle.jc_index.specs.Ids.{name_at}
use Rattle.jc_index.specs.Lookups.{IsAnswer}
use Rattle.jc_index.specs.declared.ids.Found.{Found}
use Rattle.jc_index.proofs.Lookups.{answer_none}
use Rattle.jc_rows.specs.steps.Fronts.{front_method}
use Rattle.jc_rows.specs.steps.Settling.{Settles}
use Rattle.jc_rows.proofs.methods.settled.Goals as goal

pub returns-in-None : goal.returns-in-None
returns-in-None c k e =
    let W : World = c.args.hierarchy.now in
    let x : Bytes = name_at W c.args.class in
    let n = ap (λ (ks : List Key). slice_get ks c.args.number) (sym c.requires.keys) ∙ e in
    let none = answer_none W (front_method W x k) (subst (λ (o : Option Found). IsAnswer W o (front_method W x k)) (sym c.in-None.ensures) (c.requires.front.found c.args.number k n)) in
    subst (λ (o : Option Found). Settles W x k o c.from_above.result) c.in-None.ensures (c.from_above.ensures k e none)
