-- Which classes clients can name, what is declared by those that they can't name, and of what javac makes a handle.
--     open_class W y      clients can name the class y
--     choices_open W x k      so it is with each class that is said to declare what a reference to the class x may find
--     finds_referable W x k      a reference to the class x finds a method of the key, and none of which javac makes no handle
--     hidden_at, hidden_offer, unfit_offer, other_best      what superinterfaces are asked for, by the numbers of classes
use Rattle.std.specs.Prelude.{ℕ, ◌==◌, ◌≡◌, Bool, true, false, not, cond, ◌&&◌, ◌||◌, Option, None, Some}
use Rattle.std.specs.List.{list_all}
use Rattle.jc_calls.specs.Handles.{is_referable}
use Rattle.jc_facts.specs.declared.key.Key.{Key}
use Rattle.jc_facts.specs.Names.{Bytes}
use Rattle.jc_facts.specs.Flags.{public_flag, synthetic_flag}
use Rattle.jc_facts.specs.world.World.{World, class_is, DeclaredMember}
use Rattle.jc_facts.specs.world.Assignment.{is_interface_of}
use Rattle.jc_facts.specs.world.Hierarchy.{in_chain}
use Rattle.jc_facts.specs.world.Lookup.{are_none}
use Rattle.jc_facts.specs.world.Modules.{is_visible}
use Rattle.jc_index.specs.Ids.{name_at}
use Rattle.jc_index.specs.declared.ids.Found.{Found}
use Rattle.jc_index.specs.steps.Choosing.{candidate_at, best_at, FindsAbove}
use Rattle.jc_rows.specs.Rows.{lookup_choices}

-- clients can name the class: it is public and visible (JVMS 5.4.4)
abbrev pub open_class : World → Bytes → Bool
open_class W y = class_is W (λ c. is_visible W y && public_flag c.flags) y

-- so it is with the class that declares the method
abbrev pub is_owner_open : World → DeclaredMember → Bool
is_owner_open W m = open_class W m.owner

-- and with each that declares a method of the key which a reference to the class x may find
abbrev pub owners_open : World → Bytes → Key → Bool
owners_open W x k = list_all (is_owner_open W) (lookup_choices W x k)

-- of references to an interface the class that declares the method is said to do so; of others, where that is an interface, the one named
abbrev pub is_said_open : Bool → World → DeclaredMember → Bool
is_said_open true W m = is_owner_open W m
is_said_open false W m = is_interface_of W m.owner || is_owner_open W m

-- clients can name each class that is said to declare a method of the key which a reference to the class x may find
abbrev pub choices_open : World → Bytes → Key → Bool
choices_open W x k = list_all (is_said_open (is_interface_of W x) W) (lookup_choices W x k)

-- a reference to the class x finds a method of the key, and of each that it may find javac makes a handle
abbrev pub finds_referable : World → Bytes → Key → Bool
finds_referable W x k = not (are_none (lookup_choices W x k)) && list_all is_referable (lookup_choices W x k)

-- so it does of one with these flags
abbrev pub are_flags_fit : ℕ → Bool
are_flags_fit flags = public_flag flags && not (synthetic_flag flags)

-- ---- by numbers

-- the class of number n, where clients can't name it
abbrev pub hidden_at : World → ℕ → Option Found
hidden_at W n = cond (open_class W (name_at W n)) None (Some (record { owner = n; flags = 0 }))

-- the method of the key that it declares neither private nor static
abbrev pub hidden_offer : World → Key → ℕ → Option Found
hidden_offer W k n = cond (open_class W (name_at W n)) None (candidate_at W k n)

-- the method, where javac makes no handle of it
abbrev pub if_unfit : Option Found → Option Found
if_unfit None = None
if_unfit (Some f) = cond (are_flags_fit f.flags) None (Some f)

-- such a one of the key that the class of number n declares neither private nor static
abbrev pub unfit_offer : World → Key → ℕ → Option Found
unfit_offer W k n = if_unfit (candidate_at W k n)

-- the method that the steps on superinterfaces of x choose before others, of another class than that of number m
abbrev pub other_best : World → Bytes → Key → ℕ → ℕ → Option Found
other_best W x k m n = cond (n == m) None (best_at W x k n)

-- ---- of all classes above one

-- clients can name the class x and its superclasses and, where x is an interface, its superinterfaces
pub record AreOpenAbove (W : World) (x : Bytes) : Type 0 where
  pub chain : (y : Bytes) → in_chain W x y ≡ true → open_class W y ≡ true
  pub interfaces : is_interface_of W x ≡ true → FindsAbove W x (hidden_at W) None
