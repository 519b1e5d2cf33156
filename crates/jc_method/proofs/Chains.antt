-- The first class of a chain that declares a key, along a walk up the superclasses.
use Rattle.std.proofs.Common.{◌≡◌, ◌<◌, ℕ, suc, Bool, true, false, not, cond, ◌&&◌, refl, sym, ◌∙◌, ap, subst, Option, Some, None, ◌⊎◌, inl, inr}
use Rattle.std.specs.Prelude.{IsTrue}
use Rattle.jc_facts.specs.declared.class_facts.ClassFacts.{ClassFacts}
use Rattle.jc_facts.specs.declared.class_facts.Member.{Member}
use Rattle.jc_facts.specs.declared.key.Key.{Key}
use Rattle.jc_facts.specs.Names.{Bytes, object_name}
use Rattle.jc_facts.specs.Flags.{public_flag, static_flag}
use Rattle.jc_facts.specs.Options.{or_else, and_then}
use Rattle.jc_facts.specs.world.World.{World, find_class, size, classes, own_method_of, found_in, declared_method, DeclaredMember, differ_by_name}
use Rattle.jc_facts.specs.world.Hierarchy.{chain}
use Rattle.jc_facts.specs.world.Lookup.{first_declared, if_public_instance, public_method_of_object}
use Rattle.jc_facts.proofs.World.{find-name}
use Rattle.jc_index.specs.Ids.{name_at, id_of, superclass_of}
use Rattle.jc_index.specs.Lookups.{IsAnswer}
use Rattle.jc_index.specs.steps.Walking.{chain_from}
use Rattle.jc_index.specs.declared.ids.Found.{Found}
use Rattle.jc_index.proofs.Numbers.{IsClass, class_at, find-None, id_of-Some}
use Rattle.jc_index.proofs.Walking.{from-step, from-none, from-nothing}
use Rattle.jc_index.specs.steps.Choosing.{own_at, as_found}

-- ---- what a class itself declares

-- by its number and by its name
pub own_answer : (W : World) (k : Key) (n : ℕ) → n < size W → IsAnswer W (own_at W k n) (and_then (declared_method k) (find_class W (name_at W n)))
unfolding and_then found_in
own_answer W k n b = class_of (find_class W (name_at W n)) refl
  where
    member_of : (c : ClassFacts) → find_class W (name_at W n) ≡ Some c → (o : Option Member) → IsAnswer W (as_found n o) (found_in c o)
    member_of c e None = tt
    member_of c e (Some m) = record { below = b; owner = sym (find-name W (name_at W n) c e); flags = refl }

    class_of : (o : Option ClassFacts) → find_class W (name_at W n) ≡ o → IsAnswer W (as_found n (and_then (λ c. own_method_of c k) o)) (and_then (declared_method k) o)
    class_of None e = tt
    class_of (Some c) e = member_of c e (own_method_of c k)

-- ---- along the chain

-- the walk up from a class, so many classes at most
abbrev pub first_from : World → Key → ℕ → Option ℕ → Option DeclaredMember
first_from W k n next = first_declared k (chain_from W n next)

pub first_starts : (W : World) (id m : ℕ) (k : Key) → m ≡ size W → first_declared k (chain W (name_at W id)) ≡ first_from W k m (Some id)
unfolding chain chain_from
first_starts W id m k e = rw e refl

module _ (W : World) (d : IsTrue (differ_by_name (classes W))) (k : Key) where
  step : (m n id : ℕ) (next : Option ℕ) → m ≡ suc n → next ≡ Some id → id < size W
      → first_from W k m next ≡ or_else (and_then (declared_method k) (find_class W (name_at W id))) (first_from W k n (superclass_of W (name_at W id)))
  unfolding first_declared and_then
  step m n id next q e l =
      let c : IsClass W (name_at W id) = class_at W id d l in
      ap (first_from W k m) e ∙ ap (first_declared k) (from-step W m n id c.facts q c.found)
      ∙ ap (λ (o : Option ClassFacts). or_else (and_then (declared_method k) o) (first_from W k n (superclass_of W (name_at W id)))) (sym c.found)

  pub first_here : (m n id : ℕ) (next : Option ℕ) (o : Option Found) (f : Found) → m ≡ suc n → next ≡ Some id → id < size W → o ≡ own_at W k id → o ≡ Some f → IsAnswer W (Some f) (first_from W k m next)
  unfolding or_else
  first_here m n id next o f q e l p s =
      subst (IsAnswer W (Some f)) (sym (step m n id next q e l))
      (go (and_then (declared_method k) (find_class W (name_at W id))) (subst (λ (v : Option Found). IsAnswer W v (and_then (declared_method k) (find_class W (name_at W id)))) (sym p ∙ s) (own_answer W k id l)))
    where
      go : (w : Option DeclaredMember) → IsAnswer W (Some f) w → IsAnswer W (Some f) (or_else w (first_from W k n (superclass_of W (name_at W id))))
      go None h = absurd h
      go (Some v) h = h

  pub first_above : (m n id : ℕ) (next up : Option ℕ) (o : Option Found) → m ≡ suc n → next ≡ Some id → id < size W → o ≡ own_at W k id → o ≡ None → up ≡ superclass_of W (name_at W id)
      → first_from W k m next ≡ first_from W k n up
  unfolding or_else
  first_above m n id next up o q e l p s u =
      step m n id next q e l
      ∙ go (and_then (declared_method k) (find_class W (name_at W id))) (subst (λ (v : Option Found). IsAnswer W v (and_then (declared_method k) (find_class W (name_at W id)))) (sym p ∙ s) (own_answer W k id l))
      ∙ ap (first_from W k n) (sym u)
    where
      go : (w : Option DeclaredMember) → IsAnswer W None w → or_else w (first_from W k n (superclass_of W (name_at W id))) ≡ first_from W k n (superclass_of W (name_at W id))
      go None h = refl
      go (Some v) h = absurd h

  pub first_out : (m : ℕ) (next : Option ℕ) → next ≡ None → first_from W k m next ≡ None
  unfolding first_declared
  first_out m next e = ap (first_from W k m) e ∙ ap (first_declared k) (from-nothing W m)

  pub first_end : (m : ℕ) (next : Option ℕ) → m ≡ 0 → first_from W k m next ≡ None
  unfolding first_declared
  first_end m next e = ap (λ n. first_from W k n next) e ∙ ap (first_declared k) (from-none W next)

-- nothing is found
pub no_answer : (W : World) (o : Option DeclaredMember) → o ≡ None → IsAnswer W None o
no_answer W None e = tt
no_answer W (Some m) e = absurd (let clash : Some m ≡ None = e in cc)

-- ---- java/lang/Object

module _ (W : World) (k : Key) where
  pub no_object : id_of W object_name ≡ None → IsAnswer W None (public_method_of_object W k)
  unfolding public_method_of_object and_then
  no_object e = no_answer W (public_method_of_object W k) (rw (find-None W object_name e) refl)

  module _ (n : ℕ) (e : id_of W object_name ≡ Some n) where
    whole : and_then (declared_method k) (find_class W (name_at W n)) ≡ and_then (declared_method k) (find_class W object_name)
    whole = ap (λ (y : Bytes). and_then (declared_method k) (find_class W y)) (id_of-Some W object_name n e).1

    own_object : (o : Option Found) → o ≡ own_at W k n → IsAnswer W o (and_then (declared_method k) (find_class W object_name))
    own_object o p = subst (λ (v : Option Found). IsAnswer W v (and_then (declared_method k) (find_class W object_name))) (sym p) (subst (IsAnswer W (own_at W k n)) whole (own_answer W k n (id_of-Some W object_name n e).0))

    pub object_without : (o : Option Found) → o ≡ own_at W k n → o ≡ None → IsAnswer W None (public_method_of_object W k)
    unfolding public_method_of_object and_then
    object_without o p q = go (and_then (declared_method k) (find_class W object_name)) (subst (λ (v : Option Found). IsAnswer W v (and_then (declared_method k) (find_class W object_name))) q (own_object o p))
      where
        go : (w : Option DeclaredMember) → IsAnswer W None w → IsAnswer W None (and_then if_public_instance w)
        go None h = tt
        go (Some m) h = absurd h

    pub object_hidden : (o : Option Found) (f : Found) → o ≡ own_at W k n → o ≡ Some f → (public_flag f.flags ≡ false) ⊎ (static_flag f.flags ≡ true) → IsAnswer W None (public_method_of_object W k)
    unfolding public_method_of_object and_then if_public_instance
    object_hidden o f p q c = go (and_then (declared_method k) (find_class W object_name)) (subst (λ (v : Option Found). IsAnswer W v (and_then (declared_method k) (find_class W object_name))) q (own_object o p))
      where
        by : (m : DeclaredMember) (a b : Bool) → (a ≡ false) ⊎ (b ≡ true) → IsAnswer W None (cond (a && not b) (Some m) None)
        by m a b (inl e) = rw e tt
        by m true b (inr e) = rw e tt
        by m false b (inr e) = tt

        go : (w : Option DeclaredMember) → IsAnswer W (Some f) w → IsAnswer W None (and_then if_public_instance w)
        go None h = absurd h
        go (Some m) h = by m (public_flag m.member.flags) (static_flag m.member.flags) (subst (λ g. (public_flag g ≡ false) ⊎ (static_flag g ≡ true)) h.flags c)

    pub object_found : (o : Option Found) (f : Found) → o ≡ own_at W k n → o ≡ Some f → public_flag f.flags ≡ true → static_flag f.flags ≡ false → IsAnswer W (Some f) (public_method_of_object W k)
    unfolding public_method_of_object and_then if_public_instance
    object_found o f p q a b = go (and_then (declared_method k) (find_class W object_name)) (subst (λ (v : Option Found). IsAnswer W v (and_then (declared_method k) (find_class W object_name))) q (own_object o p))
      where
        go : (w : Option DeclaredMember) → IsAnswer W (Some f) w → IsAnswer W (Some f) (and_then if_public_instance w)
        go None h = absurd h
        go (Some m) h =
            let x : public_flag m.member.flags ≡ true = ap public_flag (sym h.flags) ∙ a in
            let y : static_flag m.member.flags ≡ false = ap static_flag (sym h.flags) ∙ b in
            rw (x, y) h
