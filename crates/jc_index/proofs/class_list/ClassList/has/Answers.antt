use Rattle.std.proofs.Common.{List, ◌∙◌, ap}
use Rattle.std.specs.Prelude.{is_some}
use Rattle.jc_facts.specs.declared.class_facts.ClassFacts.{ClassFacts}
use Rattle.jc_facts.specs.Names.{Bytes, is_name_among}
use Rattle.jc_facts.specs.world.World.{class_named}
use Rattle.jc_index.proofs.Standing.{among-named}
use Rattle.jc_index.proofs.class_list.ClassList.has.Goals as goal

pub returns : goal.returns
returns c =
    c.has.ensures ∙ ap (λ (ns : List Bytes). is_name_among ns c.args.name.now) c.self.invariant.names ∙ among-named c.self.inside.classes.items c.args.name.now
    ∙ ap (λ (cs : List ClassFacts). is_some (class_named cs c.args.name.now)) c.self.view_is
