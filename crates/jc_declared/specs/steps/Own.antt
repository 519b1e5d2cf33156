-- What a class itself declares, by flags.
use Rattle.std.specs.Prelude.{ℕ, ◌==◌, cond, Option, None, Some}
use Rattle.jc_facts.specs.declared.class_facts.Member.{Member}
use Rattle.jc_facts.specs.declared.key.Key.{Key}
use Rattle.jc_facts.specs.Names.{Bytes}
use Rattle.jc_facts.specs.Options.{and_then}
use Rattle.jc_facts.specs.world.World.{World, find_class, own_field_of, own_method_of}
use Rattle.jc_index.specs.declared.ids.Found.{Found}

-- the flags of the member
abbrev pub flags_of : Option Member → Option ℕ
flags_of None = None
flags_of (Some m) = Some m.flags

-- those of the field of the key that the class x itself declares
abbrev pub field_flags_of : World → Bytes → Key → Option ℕ
field_flags_of W x k = flags_of (and_then (λ c. own_field_of c k) (find_class W x))

-- those of the method
abbrev pub method_flags_of : World → Bytes → Key → Option ℕ
method_flags_of W x k = flags_of (and_then (λ c. own_method_of c k) (find_class W x))

-- the flags of what a lookup finds, where the class of this number declares it
abbrev pub flags_by : ℕ → Option Found → Option ℕ
flags_by n None = None
flags_by n (Some f) = cond (f.owner == n) (Some f.flags) None
