use Rattle.std.proofs.Common.{◌≡◌, sym, ◌∙◌, refl}
use Rattle.jc_facts.specs.world.Loading.{load_fault}
use Rattle.jc_facts.proofs.World.{find-name}
use Rattle.jc_index.specs.Ids.{name_at}
use Rattle.jc_load.proofs.loading.search_fault.Goals as goal

pub returns : goal.returns
unfolding load_fault
returns c =
    let n : c.facts.result.now.name ≡ name_at c.args.table.now c.args.class = find-name c.args.table.now (name_at c.args.table.now c.args.class) c.facts.result.now (sym c.facts.ensures) in
    c.in_ok-fault.ensures ∙ rw (c.index.ensures, c.count.ensures.count, n) refl
