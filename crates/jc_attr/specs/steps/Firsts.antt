-- Where classes were mentioned first in a list.
use Rattle.std.specs.Prelude.{◌≡◌, ◌<◌, List, length, slice_get}
use Rattle.std.specs.List.{All}
use Rattle.jc_desc.specs.Pool.{PoolOf}
use Rattle.jc_desc.specs.PoolAnswers.{class_in}
use Rattle.jc_facts.specs.Names.{Bytes}
use Rattle.jc_attr.specs.declared.class_names.First.{First}

-- at each place stands the name of the class of its index
abbrev pub AreFirsts : PoolOf → List Bytes → List First → Type 0
AreFirsts pool names firsts = All (λ f. (f.place < length names) × (slice_get names f.place ≡ class_in pool f.index)) firsts
