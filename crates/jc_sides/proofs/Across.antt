-- The number of a platform's class on two sides.
use Rattle.std.proofs.Common.{◌≡◌, ◌<◌, ℕ, true, List, length, sym, ◌∙◌, ap, subst, Some}
use Rattle.std.specs.Prelude.{nat_lt, IsTrue}
use Rattle.std.proofs.lemmas.Bool.{ltb-true}
use Rattle.jc_facts.specs.declared.class_facts.ClassFacts.{ClassFacts}
use Rattle.jc_facts.specs.world.World.{differ_by_name, World, classes, size}
use Rattle.jc_index.specs.Ids.{name_at, id_of, name_in}
use Rattle.jc_index.proofs.InSide.{of-platform}
use Rattle.jc_index.proofs.Numbers.{id_of-name_at}

module _ (V W : World) (one : V.platform ≡ W.platform) (at : ℕ) (l : nat_lt at (length V.platform) ≡ true) where
  same-name : name_in (classes V) at ≡ name_in (classes W) at
  same-name =
      let before : at < length V.platform = ltb-true at (length V.platform) l in
      let now : at < length W.platform = subst (λ (cs : List ClassFacts). at < length cs) one before in
      of-platform V at before ∙ ap (λ (cs : List ClassFacts). name_in cs at) one ∙ sym (of-platform W at now)

  -- the number that the place has on the other side is that of the class's name there
  pub number-across : (n m : ℕ) → IsTrue (differ_by_name (classes W)) → name_in (classes V) at ≡ name_at V n → m < size W → name_at W m ≡ name_in (classes W) at → Some m ≡ id_of W (name_at V n)
  number-across n m d here b there = sym (id_of-name_at W m d b) ∙ ap (id_of W) (there ∙ sym same-name ∙ here)
