-- Two parts are compared by numbers of classes as by their records.
use Rattle.std.proofs.Common.{◌≡◌, ◌<◌, ℕ, Bool, true, false, not, cond, ◌&&◌, ◌==◌, List, [], ◌∷◌, refl, sym, ◌∙◌, ap, subst, Option, Some, None}
use Rattle.std.specs.Prelude.{is_some}
use Rattle.std.specs.Bool.{beq}
use Rattle.std.specs.List.{list_any, list_all, Contains}
use Rattle.std.proofs.lemmas.Bool.{eqb-true, eq-eqb, and_from}
use Rattle.std.proofs.lemmas.List.Elements.{recursion_from_All}
use Rattle.std.specs.Cmp.{both_ways}
use Rattle.jc_facts.specs.declared.class_facts.ClassFacts.{ClassFacts}
use Rattle.jc_facts.specs.declared.class_facts.Member.{Member}
use Rattle.jc_facts.specs.declared.key.Key.{Key}
use Rattle.jc_facts.specs.Flags.{abstract_flag}
use Rattle.jc_facts.specs.Names.{Bytes, same}
use Rattle.jc_facts.specs.Options.{some_and, and_then}
use Rattle.jc_facts.specs.world.World.{World, size, find_class, class_named, own_method_of}
use Rattle.jc_facts.specs.world.Hierarchy.{names_in}
use Rattle.jc_facts.proofs.Same.{same_is, same_itself}
use Rattle.jc_facts.proofs.World.{IsOf}
use Rattle.jc_lemmas.proofs.Listed.{EachOf, each_in, each_from, any_has, any_passes, list_all-each}
use Rattle.jc_index.proofs.Numbers.{IsClass, class_at, find-None, number_of, id_of-Some, id_of-name_at}
use Rattle.jc_index.specs.steps.Choosing.{as_found}
use Rattle.jc_sides.specs.SidesOf.{SidesOf, AreSides}
use Rattle.jc_index.specs.Ids.{name_at, id_of}
use Rattle.jc_promises.specs.rule.Selection.{declares_abstract}
use Rattle.jc_promises.specs.rule.Warnings.{is_below_other, part, stays_in, parts_agree}
use Rattle.jc_select.specs.steps.Parts.{AreNamed, abstract_at, alike_below, stays_now, stays_at, was_at}
use Rattle.jc_select.specs.steps.Warned.{parts_differ}
use Rattle.jc_select.proofs.Collected.{part_of}
use Rattle.jc_select.proofs.Unchanged.{named_in_list, all_pass}

abstract_is : (W : World) (k : Key) (n : ℕ) (c : ClassFacts) → find_class W (name_at W n) ≡ Some c → abstract_at W k n ≡ declares_abstract k c
unfolding and_then
abstract_is W k n c f = ap (λ (o : Option ClassFacts). some_and (λ g. abstract_flag g.flags) (as_found n (and_then (λ c. own_method_of c k) o))) f ∙ go (own_method_of c k)
  where
    go : (o : Option Member) → some_and (λ g. abstract_flag g.flags) (as_found n o) ≡ some_and (λ (m : Member). abstract_flag m.flags) o
    go None = refl
    go (Some m) = refl

-- a number of the list is there
pub number_is_in : (ids : List ℕ) (n : ℕ) → list_any (λ i. i == n) ids ≡ true → Contains ids n
number_is_in ids n h = let p = any_passes (λ i. i == n) ids h in subst (Contains ids) (eqb-true p.one n p.passes) p.is_in

no_one : (b : Bool) (o : Option ClassFacts) → o ≡ None → cond b o None ≡ None
no_one true o e = e
no_one false o e = refl

pub numbers_pass : (p : ℕ → Bool) (xs : List ℕ) → EachOf (λ x. p x ≡ true) xs → list_all p xs ≡ true
numbers_pass p [] h = refl
numbers_pass p (x ∷ xs) h = and_from (p x) (list_all p xs) h.0 (numbers_pass p xs h.1)

-- ---- classes and their numbers

module _ (W : World) (cs : List ClassFacts) (g : EachOf (IsOf W) cs) (ids : List ℕ) (named : AreNamed W cs ids) where
  pub record IsOne (n : ℕ) (c : ClassFacts) : Type 0 where
    pub below : n < size W
    pub is_in : Contains cs c
    pub listed : Contains ids n
    pub found : find_class W (name_at W n) ≡ Some c
    pub name : name_at W n ≡ c.name

  -- the number of one of the classes
  of_class : (c : ClassFacts) → Contains cs c → (n : ℕ) × IsOne n c
  of_class c h =
      let f : find_class W c.name ≡ Some c = each_in (IsOf W) cs c g h in
      let k = number_of W c.name (ap is_some f) in
      let s = id_of-Some W c.name k.0 k.1 in (
        k.0,
        record {
          below = s.0;
          is_in = h;
          listed = number_is_in ids k.0 (named.exact k.0 s.0 ∙ ap (names_in cs) s.1 ∙ any_has (λ (d : ClassFacts). same d.name c.name) cs c h (same_itself c.name));
          found = ap (find_class W) s.1 ∙ f;
          name = s.1;
        },
      )

  -- the class of one of the numbers
  of_number : (n : ℕ) → Contains ids n → (c : ClassFacts) × IsOne n c
  of_number n h =
      let b : n < size W = each_in (λ n. n < size W) ids n (recursion_from_All (λ n. n < size W) ids named.within) h in
      let p = any_passes (λ (d : ClassFacts). same d.name (name_at W n)) cs (sym (named.exact n b) ∙ any_has (λ i. i == n) ids n h (eq-eqb n n refl)) in
      let e : p.one.name ≡ name_at W n = same_is p.one.name (name_at W n) p.passes in
      (p.one, record { below = b; is_in = p.is_in; listed = h; found = ap (find_class W) (sym e) ∙ each_in (IsOf W) cs p.one g p.is_in; name = sym e })

  pub all_alike : (f : ℕ → Bool) (q : ClassFacts → Bool) → ((n : ℕ) (c : ClassFacts) → IsOne n c → f n ≡ q c) → list_all f ids ≡ list_all q cs
  all_alike f q same_test = both_ways (list_all f ids) (list_all q cs) there back
    where
      there : list_all f ids ≡ true → list_all q cs ≡ true
      there h = all_pass q cs (each_from (λ c. q c ≡ true) cs (λ c i. let o = of_class c i in sym (same_test o.0 c o.1) ∙ each_in (λ n. f n ≡ true) ids o.0 (list_all-each f ids h) o.1.listed))

      back : list_all q cs ≡ true → list_all f ids ≡ true
      back h = numbers_pass f ids (each_from (λ n. f n ≡ true) ids (λ n i. let o = of_number n i in same_test n o.0 o.1 ∙ each_in (λ c. q c ≡ true) cs o.0 (list_all-each q cs h) o.1.is_in))

  pub any_alike : (f : ℕ → Bool) (q : ClassFacts → Bool) → ((n : ℕ) (c : ClassFacts) → IsOne n c → f n ≡ q c) → list_any f ids ≡ list_any q cs
  any_alike f q same_test = both_ways (list_any f ids) (list_any q cs) there back
    where
      there : list_any f ids ≡ true → list_any q cs ≡ true
      there h =
          let p = any_passes f ids h in
          let o = of_number p.one p.is_in in
          any_has q cs o.0 o.1.is_in (sym (same_test p.one o.0 o.1) ∙ p.passes)

      back : list_any q cs ≡ true → list_any f ids ≡ true
      back h =
          let p = any_passes q cs h in
          let o = of_class p.one p.is_in in
          any_has f ids o.0 o.1.listed (same_test o.0 p.one o.1 ∙ p.passes)

-- ---- two parts

module _ (s : SidesOf) (are : AreSides s) (k : Key) (xs ys : List ClassFacts) (gx : EachOf (IsOf s.old) xs) (gy : EachOf (IsOf s.new) ys) (before after : List ℕ) (named_x : AreNamed s.old xs before) (named_y : AreNamed s.new ys after) where
  -- what is below the same others
  alike_is : (i j : ℕ) (c : ClassFacts) → name_at s.old i ≡ c.name → name_at s.new j ≡ c.name
      → alike_below s before i j ≡ list_all (λ o. beq (is_below_other s.old c.name o.name) (is_below_other s.new c.name o.name)) xs
  alike_is i j c ei ej = all_alike s.old xs gx before named_x (λ o. beq (is_below_other s.old (name_at s.old i) (name_at s.old o)) (is_below_other s.new (name_at s.new j) (name_at s.old o))) (λ o. beq (is_below_other s.old c.name o.name) (is_below_other s.new c.name o.name))
      (λ n o one. ap (λ z. beq (is_below_other s.old z (name_at s.old n)) (is_below_other s.new (name_at s.new j) (name_at s.old n))) ei
      ∙ ap (λ z. beq (is_below_other s.old c.name (name_at s.old n)) (is_below_other s.new z (name_at s.old n))) ej
      ∙ ap (λ z. beq (is_below_other s.old c.name z) (is_below_other s.new c.name z)) one.name)

  -- an old one
  stays_is : (n : ℕ) (c : ClassFacts) → IsOne s.old xs gx before named_x n c → stays_at s k before after n ≡ stays_in s.old s.new k xs ys c
  stays_is n c one = ap (λ z. stays_now s k before after n (id_of s.new z)) one.name ∙ go (id_of s.new c.name) refl
    where
      rest : Bool
      rest = list_all (λ o. beq (is_below_other s.old c.name o.name) (is_below_other s.new c.name o.name)) xs

      there : (j : ℕ) (b : Bool) (o : Option ClassFacts) → id_of s.new c.name ≡ Some j → names_in ys c.name ≡ b → find_class s.new c.name ≡ o → class_named ys c.name ≡ cond b o None
          → (b && beq (abstract_at s.old k n) (abstract_at s.new k j) && alike_below s before n j) ≡ (some_and (λ d. beq (declares_abstract k c) (declares_abstract k d)) (class_named ys c.name) && rest)
      there j false o e i f r = sym (ap (λ w. some_and (λ d. beq (declares_abstract k c) (declares_abstract k d)) w && rest) r)
      there j true None e i f r = absurd (let t = id_of-Some s.new c.name j e in let d : IsClass s.new (name_at s.new j) = class_at s.new j are.new_side.differ t.0 in let clash : None ≡ Some d.facts = sym f ∙ ap (find_class s.new) (sym t.1) ∙ d.found in cc)
      there j true (Some d) e i f r =
          let t = id_of-Some s.new c.name j e in
          ap (λ w. beq w (abstract_at s.new k j) && alike_below s before n j) (abstract_is s.old k n c one.found)
          ∙ ap (λ w. beq (declares_abstract k c) w && alike_below s before n j) (abstract_is s.new k j d (ap (find_class s.new) t.1 ∙ f))
          ∙ ap (λ w. beq (declares_abstract k c) (declares_abstract k d) && w) (alike_is n j c one.name t.1)
          ∙ sym (ap (λ w. some_and (λ d. beq (declares_abstract k c) (declares_abstract k d)) w && rest) r)

      go : (o : Option ℕ) → id_of s.new c.name ≡ o → stays_now s k before after n o ≡ stays_in s.old s.new k xs ys c
      go None e =
          let f : find_class s.new c.name ≡ None = find-None s.new c.name e in
          let r : class_named ys c.name ≡ None = named_in_list s.new ys gy c.name ∙ no_one (names_in ys c.name) (find_class s.new c.name) f in
          sym (ap (λ w. some_and (λ d. beq (declares_abstract k c) (declares_abstract k d)) w && rest) r)
      go (Some j) e =
          let t = id_of-Some s.new c.name j e in
          ap (λ b. b && beq (abstract_at s.old k n) (abstract_at s.new k j) && alike_below s before n j) (named_y.exact j t.0 ∙ ap (names_in ys) t.1)
          ∙ there j (names_in ys c.name) (find_class s.new c.name) e refl refl (named_in_list s.new ys gy c.name)

  -- a new one
  was_is : (n : ℕ) (d : ClassFacts) → IsOne s.new ys gy after named_y n d → was_at s before n ≡ names_in xs d.name
  was_is n d one = any_alike s.old xs gx before named_x (λ i. some_and (λ m. m == n) (id_of s.new (name_at s.old i))) (λ c. same c.name d.name) (λ i c o. ap (λ z. some_and (λ m. m == n) (id_of s.new z)) o.name ∙ is c.name)
    where
      is : (z : Bytes) → some_and (λ m. m == n) (id_of s.new z) ≡ same z d.name
      is z = both_ways (some_and (λ m. m == n) (id_of s.new z)) (same z d.name) there back
        where
          there : some_and (λ m. m == n) (id_of s.new z) ≡ true → same z d.name ≡ true
          there h = go (id_of s.new z) refl h
            where
              go : (o : Option ℕ) → id_of s.new z ≡ o → some_and (λ m. m == n) o ≡ true → same z d.name ≡ true
              go None e q = absurd (let clash : false ≡ true = q in cc)
              go (Some m) e q =
                  let t = id_of-Some s.new z m e in
                  let w : z ≡ d.name = sym t.1 ∙ ap (name_at s.new) (eqb-true m n q) ∙ one.name in
                  subst (λ v. same z v ≡ true) w (same_itself z)

          back : same z d.name ≡ true → some_and (λ m. m == n) (id_of s.new z) ≡ true
          back h = ap (some_and (λ m. m == n)) (ap (id_of s.new) (same_is z d.name h ∙ sym one.name) ∙ id_of-name_at s.new n are.new_side.differ one.below) ∙ eq-eqb n n refl

  pub agree_is : (list_all (stays_at s k before after) before && list_all (was_at s before) after) ≡ parts_agree s.old s.new k xs ys
  unfolding parts_agree
  agree_is =
      ap (λ b. b && list_all (was_at s before) after) (all_alike s.old xs gx before named_x (stays_at s k before after) (stays_in s.old s.new k xs ys) stays_is)
      ∙ ap (λ b. list_all (stays_in s.old s.new k xs ys) xs && b) (all_alike s.new ys gy after named_y (was_at s before) (λ d. names_in xs d.name) was_is)

pub differ_is : (s : SidesOf) (are : AreSides s) (x : Bytes) (k : Key) (before after : List ℕ) (agree : Bool) → AreNamed s.old (part s.old x k) before → AreNamed s.new (part s.new x k) after
    → agree ≡ (list_all (stays_at s k before after) before && list_all (was_at s before) after) → not agree ≡ parts_differ s x k
differ_is s are x k before after agree hx hy e = ap not (e ∙ agree_is s are k (part s.old x k) (part s.new x k) (part_of s.old x k) (part_of s.new x k) before after hx hy)
