-- What a class itself declares, and what a lookup of methods finds before it looks at superinterfaces.
use Rattle.std.specs.Prelude.{ℕ, Bool, true, false, cond, ◌&&◌, List, [], ◌∷◌, ◌++◌, Option, None, Some}
use Rattle.jc_facts.specs.declared.key.Key.{Key}
use Rattle.jc_facts.specs.Flags.{public_flag, no_static_flag}
use Rattle.jc_facts.specs.Names.{Bytes}
use Rattle.jc_facts.specs.Options.{or_else, and_then}
use Rattle.jc_facts.specs.world.World.{World, find_class, found_in, own_field_of, declared_method, DeclaredMember}
use Rattle.jc_facts.specs.world.Assignment.{is_interface_of}
use Rattle.jc_facts.specs.world.Hierarchy.{chain}
use Rattle.jc_facts.specs.world.Lookup.{first_declared, public_method_of_object}
use Rattle.jc_index.specs.declared.ids.Found.{Found}
use Rattle.jc_rows.specs.declared.row.RowItem.{RowItem}

-- the field that the class x itself declares (JVMS 4.5)
abbrev pub own_field : World → Bytes → Key → Option DeclaredMember
own_field W x k = and_then (λ c. found_in c (own_field_of c k)) (find_class W x)

-- the method that the class x itself declares (JVMS 4.6)
abbrev pub own_method : World → Bytes → Key → Option DeclaredMember
own_method W x k = and_then (declared_method k) (find_class W x)

-- the method of the first class of the chain of x that declares the key
abbrev pub chain_method : World → Bytes → Key → Option DeclaredMember
chain_method W x k = first_declared k (chain W x)

-- what is found before the superinterfaces are looked at: of an interface its own, else that of java/lang/Object;
-- of another class the first of the chain
abbrev pub front_by : Bool → World → Bytes → Key → Option DeclaredMember
front_by true W x k = or_else (own_method W x k) (public_method_of_object W k)
front_by false W x k = chain_method W x k

abbrev pub front_method : World → Bytes → Key → Option DeclaredMember
front_method W x k = front_by (is_interface_of W x) W x k

-- the item of what is found
abbrev pub item_list : ℕ → Option Found → List RowItem
item_list n None = []
item_list n (Some f) = record { key = n; found = f } ∷ []

-- the member, where it is a public instance method
abbrev pub if_open : Found → Option Found
if_open f = cond (public_flag f.flags && no_static_flag f.flags) (Some f) None

-- the public instance methods of a row
abbrev pub open_items : List RowItem → List RowItem
open_items [] = []
open_items (i ∷ is) = item_list i.key (if_open i.found) ++ open_items is
