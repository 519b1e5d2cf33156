use Rattle.std.proofs.Common.{◌≡◌, ◌<◌, sym, subst, ◌∙◌}
use Rattle.jc_facts.specs.Names.{object_name}
use Rattle.jc_facts.specs.world.World.{size}
use Rattle.jc_facts.proofs.World.{find-name}
use Rattle.jc_index.specs.Ids.{name_at}
use Rattle.jc_sides.specs.SidesOf.{SidesOf}
use Rattle.jc_acts.proofs.seats.root.Goals as goal

pub returns-clause-shared : goal.returns-clause-shared
returns-clause-shared c =
    let n : object_name ≡ c.facts.result.now.name = sym (find-name c.sides.inside.old.now (name_at c.sides.inside.old.now c.root_of-old.result) c.facts.result.now (sym c.facts.ensures) ∙ c.root_of-old.ensures.name) in
    record {
      old_below = subst (λ (s : SidesOf). c.root_of-old.result < size s.old) c.sides.view_is c.root_of-old.ensures.below;
      new_below = subst (λ (s : SidesOf). c.root_of-new.result < size s.new) c.sides.view_is c.root_of-new.ensures.below;
      old_name = subst (λ (s : SidesOf). name_at s.old c.root_of-old.result ≡ object_name) c.sides.view_is c.root_of-old.ensures.name ∙ n;
      new_name = subst (λ (s : SidesOf). name_at s.new c.root_of-new.result ≡ object_name) c.sides.view_is c.root_of-new.ensures.name ∙ n;
    }

pub returns-clause-name : goal.returns-clause-name
returns-clause-name c = find-name c.sides.inside.old.now (name_at c.sides.inside.old.now c.root_of-old.result) c.facts.result.now (sym c.facts.ensures) ∙ c.root_of-old.ensures.name
