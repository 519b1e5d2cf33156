-- Of the arguments of a bootstrap method those that say something: a Class or a MethodHandle, which gives an item, and an index that holds
-- no entry, which is refused (JVMS 4.7.23). The others change no item.
use Rattle.std.specs.Prelude.{ℕ, zero, suc, ◌/◌, [], ◌++◌, length, take, drop, Bool, ◌||◌, is_some, is_none, if◌then◌else◌}
use Rattle.jc_desc.specs.Pool.{PoolOf, short_from}
use Rattle.jc_desc.specs.PoolAnswers.{class_in, handle_in, tag_in}
use Rattle.jc_facts.specs.Names.{Bytes}
use Rattle.jc_facts.specs.file.Attributes.{BootstrapOf}

abbrev pub argument_counts : PoolOf → ℕ → Bool
argument_counts pool i = is_some (class_in pool i) || is_some (handle_in pool i) || is_none (tag_in pool i)

-- of n indices, two bytes each
abbrev pub kept_of : PoolOf → ℕ → Bytes → Bytes
kept_of pool zero bytes = []
kept_of pool (suc n) bytes = (if argument_counts pool (short_from 0 bytes) then take 2 bytes else []) ++ kept_of pool n (drop 2 bytes)

-- a bootstrap method with these arguments alone
abbrev pub kept_row : PoolOf → BootstrapOf → BootstrapOf
kept_row pool row = record { handle = row.handle; arguments = kept_of pool (length row.arguments / 2) row.arguments }
