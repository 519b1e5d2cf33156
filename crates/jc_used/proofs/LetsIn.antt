-- The names that a class lets stand below itself.
use Rattle.std.proofs.Common.{◌≡◌, ℕ, Bool, true, false, cond, List, [], refl, sym, ◌∙◌, ap, None, Some}
use Rattle.jc_facts.specs.declared.class_facts.ClassFacts.{ClassFacts}
use Rattle.jc_facts.specs.Names.{Bytes}
use Rattle.jc_facts.specs.world.Modules.{OfClients, same_module, module_of}
use Rattle.jc_facts.specs.world.World.{World, find_class}
use Rattle.jc_index.specs.Ids.{name_at, id_of}
use Rattle.jc_index.proofs.Numbers.{find-None, found-by, id_of-Some}
use Rattle.jc_used.specs.Lines.{names_or_none, lets_in}

either_none : (b : Bool) (names : List Bytes) → names ≡ [] → cond b names [] ≡ []
either_none true names e = e
either_none false names e = refl

pub none_let_in : (N : World) (x : Bytes) → None ≡ id_of N x → [] ≡ lets_in N x
unfolding lets_in
none_let_in N x h = rw (find-None N x (sym h)) (sym (either_none (same_module OfClients (module_of N x)) [] refl))

-- of a class that is there
module _ (N : World) (x : Bytes) (n : ℕ) (b : Bool) (h : Some n ≡ id_of N x) (is : b ≡ same_module OfClients (module_of N (name_at N n))) where
  in_module : same_module OfClients (module_of N x) ≡ b
  in_module = ap (λ y. same_module OfClients (module_of N y)) (sym (id_of-Some N x n (sym h)).1) ∙ sym is

  pub some_let_in : (c : ClassFacts) → b ≡ true → Some c ≡ find_class N (name_at N n) → names_or_none c.permits ≡ lets_in N x
  unfolding lets_in
  some_let_in c t f = rw (in_module ∙ t, found-by N x n c (sym h) f) refl

  pub apart_lets_none : b ≡ false → [] ≡ lets_in N x
  unfolding lets_in
  apart_lets_none t = rw (in_module ∙ t) refl
