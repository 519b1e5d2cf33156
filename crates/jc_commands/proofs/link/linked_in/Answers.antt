use Rattle.std.proofs.Common.{arith}
use Rattle.jc_commands.proofs.link.linked_in.Goals as goal

pub link_over-requires-clause-few : goal.link_over-requires-clause-few
link_over-requires-clause-few c = omega (arith, c.requires.platform.few, c.requires.records.few, c.requires.clients.few)

pub link_modular_over-requires-clause-few : goal.link_modular_over-requires-clause-few
link_modular_over-requires-clause-few c = omega (arith, c.requires.platform.few, c.requires.records.few, c.requires.clients.few)
