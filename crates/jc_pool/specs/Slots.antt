-- Entries without where they lie in memory, and what a reader gives.
use Rattle.std.specs.Prelude.{List, map}
use Rattle.jc_desc.specs.Pool as pool
use Rattle.jc_pool.specs.declared.entry.Slot.{Slot}

-- what an index holds
abbrev pub slot_of : Slot → pool.Slot
slot_of s = record { tag = s.tag; body = s.body.now; left = s.left }

-- what each index holds
abbrev pub slots_of : List Slot → List pool.Slot
slots_of = map slot_of
