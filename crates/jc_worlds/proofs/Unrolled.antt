-- What stands above a class that loads: the class, and what stands above what it names.
use Rattle.std.proofs.Common.{◌≡◌, [], ◌∷◌, Some, None, ◌++◌, ap, Bool, false, Option, refl, ◌∙◌, ◌||◌, true, sym, subst}
use Rattle.jc_facts.specs.declared.class_facts.ClassFacts.{ClassFacts}
use Rattle.jc_facts.specs.Names.{Bytes, same}
use Rattle.jc_facts.specs.world.World.{World, find_class}
use Rattle.jc_facts.specs.world.Hierarchy.{chain, chain_step, of_super, each, with_interfaces, interfaces_step, interfaces_of, superinterfaces, names_in, in_chain}
use Rattle.jc_facts.specs.world.Loading.{load_fault}
use Rattle.jc_worlds.proofs.Loaded.{unroll, loads-found}
use Rattle.jc_worlds.proofs.Locality.{chain_step-local, interfaces_step-local}
use Rattle.jc_facts.proofs.World.{find-name}
use Rattle.jc_facts.proofs.Same.{same_itself}
use Rattle.std.proofs.lemmas.Bool.{or_left}

pub chain-unroll : (W : World) (y : Bytes) (c : ClassFacts) → find_class W y ≡ Some c → load_fault W y ≡ None → chain W y ≡ c ∷ of_super (chain W) c.superclass
unfolding chain chain_step
chain-unroll W y c e h = unroll W [] [] chain_step chain_step-local y c h e

pub with_interfaces-unroll : (W : World) (y : Bytes) (c : ClassFacts) → find_class W y ≡ Some c → load_fault W y ≡ None → with_interfaces W y ≡ c ∷ each (with_interfaces W) c.interfaces
unfolding with_interfaces interfaces_step
with_interfaces-unroll W y c e h = unroll W [] [] interfaces_step interfaces_step-local y c h e

pub superinterfaces-unroll : (W : World) (y : Bytes) (c : ClassFacts) → find_class W y ≡ Some c → load_fault W y ≡ None
    → superinterfaces W y ≡ each (with_interfaces W) c.interfaces ++ interfaces_of W (of_super (chain W) c.superclass)
unfolding superinterfaces interfaces_of
superinterfaces-unroll W y c e h = ap (interfaces_of W) (chain-unroll W y c e h)

abbrev pub above : (Bytes → Bool) → Option Bytes → Bool
above f None = false
above f (Some s) = f s

-- who stands in the chain of a class that loads
pub in_chain-step : (W : World) (x y : Bytes) (c : ClassFacts) → load_fault W x ≡ None → find_class W x ≡ Some c → in_chain W x y ≡ (same c.name y || above (λ s. in_chain W s y) c.superclass)
unfolding chain chain_step
in_chain-step W x y c h e =
    let u : chain W x ≡ c ∷ of_super (chain W) c.superclass = unroll W [] [] chain_step chain_step-local x c h e in
    ap (λ cs. names_in cs y) u ∙ ap (λ b. same c.name y || b) (go c.superclass)
  where
    go : (s : Option Bytes) → names_in (of_super (chain W) s) y ≡ above (λ s. in_chain W s y) s
    go None = refl
    go (Some s) = refl

pub own_chain : (W : World) (x : Bytes) → load_fault W x ≡ None → in_chain W x x ≡ true
own_chain W x h =
    let t = loads-found W x h in
    in_chain-step W x x t.0 h t.1 ∙ or_left (same t.0.name x) (above (λ s. in_chain W s x) t.0.superclass) (subst (λ z. same z x ≡ true) (sym (find-name W x t.0 t.1)) (same_itself x))
