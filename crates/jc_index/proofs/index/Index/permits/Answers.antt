use Rattle.std.proofs.Common.{List, sym, ◌∙◌, ap, subst}
use Rattle.jc_facts.specs.Names.{is_name_among}
use Rattle.jc_facts.specs.world.Mentioned.{permitted}
use Rattle.jc_facts.specs.world.World.{World}
use Rattle.jc_index.specs.steps.Seals.{AreSeals}
use Rattle.jc_index.specs.declared.seals.Seal.{Seal}
use Rattle.jc_index.proofs.index.Index.permits.Goals as goal

pub returns-in-Some : goal.returns-in-Some
returns-in-Some c =
    let are : AreSeals c.args.self.now c.self.inside.seals.items = subst (λ (V : World). AreSeals V c.self.inside.seals.items) c.self.view_is c.self.invariant.seals in
    c.in-Some.ensures c.args.self.now c.args.facts.now (subst (λ (xs : List Seal). AreSeals c.args.self.now xs) (sym c.as_slice.ensures.value) are) c.requires
    ∙ ap (is_name_among (permitted c.args.facts.now.permits)) c.as_bytes.ensures
