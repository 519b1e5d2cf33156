-- What is accessible of a member, by the name of its owner and its flags (JVMS 5.4.4).
use Rattle.std.specs.Prelude.{ℕ, Bool, not, ◌||◌, ◌&&◌}
use Rattle.jc_facts.specs.Names.{Bytes, in_same_package}
use Rattle.jc_facts.specs.Flags.{public_flag, private_flag, protected_flag, package_private, static_flag}
use Rattle.jc_facts.specs.world.World.{World}
use Rattle.jc_facts.specs.world.Hierarchy.{in_chain}
use Rattle.jc_facts.specs.world.Access.{are_nestmates}

-- a protected member of a superclass of x: a static one, or one named through a class in line with x
abbrev pub inherited_at : World → Bytes → Bytes → Bytes → ℕ → Bool
inherited_at W x n owner flags = protected_flag flags && in_chain W x owner && (static_flag flags || in_chain W x n || in_chain W n x)

-- the member is accessible from the class x
abbrev pub inside_at : World → Bytes → Bytes → Bytes → ℕ → Bool
inside_at W x n owner flags =
    public_flag flags
    || (in_same_package x owner && (protected_flag flags || package_private flags))
    || inherited_at W x n owner flags
    || (private_flag flags && are_nestmates W x owner)

-- the member is accessible from clients of the seat a
abbrev pub client_at : World → Bytes → Bytes → Bytes → ℕ → Bool
client_at W a n owner flags = public_flag flags || (protected_flag flags && in_chain W a owner && (static_flag flags || in_chain W a n))

-- the check on protected members is made of the receiver: the member is a protected one of another package, named through a class
-- in the chain of x
abbrev pub asks_receiver : World → Bytes → Bytes → Bytes → ℕ → Bool
asks_receiver W x n owner flags = in_chain W x n && protected_flag flags && not (in_same_package owner x)
