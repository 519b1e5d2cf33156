use Rattle.std.proofs.Common.{refl, sym, ◌∙◌, ap}
use Rattle.jc_facts.specs.world.World.{own_method_of}
use Rattle.jc_facts.specs.client.Outcome.{init_key}
use Rattle.jc_index.specs.Ids.{name_at}
use Rattle.jc_link.proofs.Inits.{init_kind, init_found, init_none}
use Rattle.jc_link.proofs.creation.find_init.Goals as goal

pub returns-then-is_interface : goal.returns-then-is_interface
returns-then-is_interface c =
    init_kind c.args.table.now (name_at c.args.table.now c.args.class) c.args.descriptor.now c.facts-facts.result.now (sym c.facts-facts.ensures) (sym c.is_interface.ensures ∙ c.if-is_interface.true)

pub returns-in-Some : goal.returns-in-Some
returns-in-Some c = (
  record { owner = name_at c.args.table.now c.args.class; member = c.in-Some.method.now },
  record { below = c.requires.class; owner = refl; flags = refl },
  init_found c.args.table.now (name_at c.args.table.now c.args.class) c.args.descriptor.now c.facts-facts.result.now (sym c.facts-facts.ensures) c.requires.loads (sym c.is_interface.ensures ∙ c.if-is_interface.false) c.in-Some.method.now
      (ap (own_method_of c.facts-facts.result.now) (ap init_key (sym c.as_bytes.ensures) ∙ sym c.new.ensures) ∙ sym c.in-Some.ensures),
)

pub returns-in-None : goal.returns-in-None
returns-in-None c =
    init_none c.args.table.now (name_at c.args.table.now c.args.class) c.args.descriptor.now c.facts-facts.result.now (sym c.facts-facts.ensures) c.requires.loads (sym c.is_interface.ensures ∙ c.if-is_interface.false)
    (ap (own_method_of c.facts-facts.result.now) (ap init_key (sym c.as_bytes.ensures) ∙ sym c.new.ensures) ∙ sym c.in-None.ensures)
