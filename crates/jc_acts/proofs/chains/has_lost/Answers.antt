use Rattle.std.proofs.Common.{◌≡◌, not}
use Rattle.std.specs.List.{list_any}
use Rattle.jc_facts.specs.world.Hierarchy.{chain, in_chain}
use Rattle.jc_index.specs.Ids.{name_at}
use Rattle.jc_sides.specs.SharedOf.{name_of}
use Rattle.jc_sides.specs.SharedFields.{shared_of}
use Rattle.jc_sides.specs.SidesFields.{worlds}
use Rattle.jc_sides.proofs.Seen.{of_old, of_new}
use Rattle.jc_acts.proofs.chains.has_lost.Goals as goal

pub returns : goal.returns
returns c =
    of_new (worlds c.sides.inside) c.args.sides.now c.sides.view_is (shared_of c.class.inside) c.args.class.now c.class.view_is c.requires (λ V x. c.lacks_any.result ≡ list_any (λ d. not (in_chain V x d.name)) (chain c.args.sides.now.old (name_of c.args.class.now)))
    (of_old (worlds c.sides.inside) c.args.sides.now c.sides.view_is (shared_of c.class.inside) c.args.class.now c.class.view_is c.requires (λ V x. c.lacks_any.result ≡ list_any (λ d. not (in_chain c.sides.inside.new.now (name_at c.sides.inside.new.now c.class.inside.new) d.name)) (chain V x)) c.lacks_any.ensures)
