use Rattle.std.proofs.Common.{◌-◌}
use Rattle.jc_facts.specs.world.World.{size}
use Rattle.jc_index.specs.Ids.{name_at}
use Rattle.jc_call_lines.proofs.OpenChains.{IsOnChain}
use Rattle.jc_call_lines.proofs.openly.is_chain_open.Given as goal

abbrev pub invariant-loop : goal.invariant-loop
invariant-loop l = IsOnChain l.table (name_at l.table l.fn.«class») (size l.table - l.counter) l.at
