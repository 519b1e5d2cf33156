-- Classes of a side by their names.
use Rattle.std.proofs.Common.{◌≡◌, ℕ, sym, ◌∙◌, ap, Some, None, is_some, true}
use Rattle.jc_facts.specs.declared.class_facts.ClassFacts.{ClassFacts}
use Rattle.jc_facts.specs.Names.{Bytes}
use Rattle.jc_facts.specs.world.World.{World, find_class}
use Rattle.jc_facts.specs.world.Loading.{load_fault}
use Rattle.jc_lemmas.proofs.Options.{none_from}
use Rattle.jc_worlds.proofs.Loaded.{loads-found}
use Rattle.jc_index.specs.Ids.{name_at, id_of}
use Rattle.jc_index.proofs.Numbers.{id-find, id_of-Some}

pub number_name : (W : World) (x : Bytes) (n : ℕ) → id_of W x ≡ Some n → name_at W n ≡ x
number_name W x n e = (id_of-Some W x n e).1

-- a class that loads has a number
pub loaded_number : (W : World) (x : Bytes) → load_fault W x ≡ None → is_some (id_of W x) ≡ true
loaded_number W x h = id-find W x ∙ ap is_some (loads-found W x h).1

-- the record of the number that the name has
pub record_is : (W : World) (x : Bytes) (n : ℕ) (c : ClassFacts) → Some n ≡ id_of W x → Some c ≡ find_class W (name_at W n) → Some c ≡ find_class W x
record_is W x n c e f = f ∙ ap (find_class W) (number_name W x n (sym e))

pub no_record : (W : World) (x : Bytes) → None ≡ id_of W x → None ≡ find_class W x
no_record W x e = sym (none_from (find_class W x) (sym (id-find W x) ∙ ap is_some (sym e)))
