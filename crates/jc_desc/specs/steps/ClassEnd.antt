-- Where the ; is up to which a class name reaches.
use Rattle.std.specs.Prelude.{ℕ, List, Option, Some, None, cond, length, nat_lt, ◌==◌, ◌&&◌}
use Rattle.std.specs.List.{position_or_len, before_first}
use Rattle.jc_desc.specs.Names.{spells_class_name}

-- none where there is no ;, or what stands before the first is no class name
abbrev pub class_end : List ℕ → Option ℕ
class_end bytes =
    cond (nat_lt (position_or_len (λ b. b == 59) bytes) (length bytes) && spells_class_name (before_first (λ b. b == 59) bytes))
    (Some (position_or_len (λ b. b == 59) bytes))
    None
