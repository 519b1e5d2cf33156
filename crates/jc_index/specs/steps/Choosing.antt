-- What the lookup of methods looks at, by numbers of classes.
--     own_at W k n      the method of the key that the class of number n itself declares
--     candidate_at W k n      the same, where the steps on superinterfaces count it
--     maximal_at W x k n      the same, where it is maximally specific
--     best_at W x k n      the same, where they choose it before others
--     FindsAbove W x f found      found is what f gives of a superinterface of x
use Rattle.std.specs.Prelude.{ℕ, ◌<◌, ◌≡◌, Bool, true, cond, not, List, [], ◌∷◌, Option, None, Some, ◌||◌, ◌&&◌}
use Rattle.std.specs.List.{list_any}
use Rattle.jc_facts.specs.declared.class_facts.Member.{Member}
use Rattle.jc_facts.specs.declared.key.Key.{Key}
use Rattle.jc_facts.specs.Names.{Bytes, same}
use Rattle.jc_facts.specs.Flags.{private_flag, static_flag, abstract_flag}
use Rattle.jc_facts.specs.Options.{and_then}
use Rattle.jc_facts.specs.world.World.{World, find_class, size, own_method_of}
use Rattle.jc_facts.specs.world.Hierarchy.{superinterfaces, is_superinterface}
use Rattle.jc_facts.specs.world.Lookup.{declared_by}
use Rattle.jc_index.specs.Ids.{name_at}
use Rattle.jc_index.specs.declared.ids.Found.{Found}

-- the member as one of the class of this number
abbrev pub as_found : ℕ → Option Member → Option Found
as_found n None = None
as_found n (Some m) = Some (record { owner = n; flags = m.flags })

-- the method of the key that the class of number n itself declares
abbrev pub own_at : World → Key → ℕ → Option Found
own_at W k n = as_found n (and_then (λ c. own_method_of c k) (find_class W (name_at W n)))

-- the method, where it is neither private nor static
abbrev pub if_candidate : Option Found → Option Found
if_candidate None = None
if_candidate (Some f) = cond (private_flag f.flags || static_flag f.flags) None (Some f)

-- the method of the key that the class of number n declares neither private nor static
abbrev pub candidate_at : World → Key → ℕ → Option Found
candidate_at W k n = if_candidate (own_at W k n)

-- the class of number n is another than that of number m, which is one of its superinterfaces
abbrev pub is_strictly_below : World → ℕ → ℕ → Bool
is_strictly_below W n m = not (same (name_at W n) (name_at W m)) && is_superinterface W (name_at W n) (name_at W m)

-- the candidate of the class of number n, where that stands below the class of number m
abbrev pub rival_at : World → Key → ℕ → ℕ → Option Found
rival_at W k m n = cond (is_strictly_below W n m) (candidate_at W k n) None

-- a candidate among the superinterfaces of x is of a class below y
abbrev pub has_rival_below : World → Bytes → Key → Bytes → Bool
has_rival_below W x k y = list_any (λ o. not (same o.owner y) && is_superinterface W o.owner y) (declared_by k (superinterfaces W x))

-- the method, where it isn't abstract and no candidate among the superinterfaces of x is of a class below its own
abbrev pub if_best : World → Bytes → Key → Option Found → Option Found
if_best W x k None = None
if_best W x k (Some f) = cond (abstract_flag f.flags || has_rival_below W x k (name_at W f.owner)) None (Some f)

-- the candidate of the class of number n, where it isn't abstract and is maximally specific (JVMS 5.4.3.3)
abbrev pub best_at : World → Bytes → Key → ℕ → Option Found
best_at W x k n = if_best W x k (candidate_at W k n)

-- the method, where no candidate among the superinterfaces of x is of a class below its own
abbrev pub if_maximal : World → Bytes → Key → Option Found → Option Found
if_maximal W x k None = None
if_maximal W x k (Some f) = cond (has_rival_below W x k (name_at W f.owner)) None (Some f)

-- the candidate of the class of number n, where it is maximally specific (JVMS 5.4.3.3)
abbrev pub maximal_at : World → Bytes → Key → ℕ → Option Found
maximal_at W x k n = if_maximal W x k (candidate_at W k n)

-- the first of two that is there
abbrev pub found_or : Option Found → Option Found → Option Found
found_or None o = o
found_or (Some f) o = Some f

-- what f gives of the first of the numbers of which it gives something
abbrev pub first_at : (ℕ → Option Found) → List ℕ → Option Found
first_at f [] = None
first_at f (n ∷ ns) = found_or (f n) (first_at f ns)

-- what f gives of one of the superinterfaces of x, nothing where it gives nothing of any
abbrev pub FindsAbove : World → Bytes → (ℕ → Option Found) → Option Found → Type 0
FindsAbove W x f None = (n : ℕ) → n < size W → is_superinterface W x (name_at W n) ≡ true → f n ≡ None
FindsAbove W x f (Some r) = (n : ℕ) × (n < size W) × (is_superinterface W x (name_at W n) ≡ true) × (f n ≡ Some r)
