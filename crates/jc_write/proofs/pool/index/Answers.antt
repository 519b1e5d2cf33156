use Rattle.std.proofs.Common.{◌≡◌, ℕ, ◌+◌, length, ap, ◌∙◌}
use Rattle.jc_facts.specs.written.PoolEntries.{same_entry, index_of}
use Rattle.jc_write.proofs.Absent.{absent}
use Rattle.jc_write.proofs.pool.index.Goals as goal

pub returns-in-None : goal.returns-in-None
returns-in-None c =
    let e : length c.args.pool.now.keys + 1 ≡ index_of c.args.pool.now.keys c.args.entry = absent (same_entry c.args.entry) c.args.pool.now.keys c.in-None.ensures.index in
    ap (λ (n : ℕ). n + 1) c.len-count.ensures.len ∙ e
