-- Whether a class of a name stands above another.
use Rattle.std.proofs.Common.{◌≡◌, ℕ, Bool, true, false, refl, sym, ◌∙◌, ap, Some, None, is_some}
use Rattle.jc_facts.specs.Names.{Bytes}
use Rattle.jc_facts.specs.world.World.{World, find_class}
use Rattle.jc_facts.specs.world.Hierarchy.{in_chain}
use Rattle.jc_worlds.proofs.Chains.{chain_there}
use Rattle.jc_index.specs.Ids.{id_of, name_at}
use Rattle.jc_index.proofs.Numbers.{id-find, id_of-Some}

pub above_there : (W : World) (a y : Bytes) (n : ℕ) → id_of W y ≡ Some n → in_chain W a (name_at W n) ≡ in_chain W a y
above_there W a y n e = ap (in_chain W a) (id_of-Some W y n e).1

pub above_absent : (W : World) (a y : Bytes) → id_of W y ≡ None → false ≡ in_chain W a y
above_absent W a y e = go (in_chain W a y) refl
  where
    go : (b : Bool) → in_chain W a y ≡ b → false ≡ b
    go false q = refl
    go true q = absurd (let h : is_some (find_class W y) ≡ true = chain_there W a y q in let g : is_some (find_class W y) ≡ false = sym (id-find W y) ∙ ap is_some e in cc)
