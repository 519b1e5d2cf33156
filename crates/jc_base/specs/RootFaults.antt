-- A count of faults for each root.
use Rattle.std.specs.Prelude.{ℕ, List, unwrap_or}
use Rattle.std.specs.BTreeMap.{get_by_text}
use Rattle.jc_base.specs.declared.root_faults.RootFaults.{RootFaults}

-- how many calls on the root failed
abbrev pub count_at : RootFaults → List ℕ → ℕ
count_at t root = unwrap_or (get_by_text t.counts root) 0
