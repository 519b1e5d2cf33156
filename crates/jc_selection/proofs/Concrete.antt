-- The maximally specific methods that aren't abstract, by the classes that declare them.
use Rattle.std.proofs.Common.{◌≡◌, Bool, true, false, cond, List, [], ◌∷◌, refl, sym, ◌∙◌, ap, subst, Option, Some, None, not, ◌||◌, ◌&&◌}
use Rattle.std.specs.List.{list_any, list_all, filter, Contains}
use Rattle.std.proofs.lemmas.Bool.{and_from}
use Rattle.std.proofs.lemmas.List.Folds.{list_any-append}
use Rattle.std.proofs.Math.Bool.{or-false}
use Rattle.jc_facts.specs.declared.class_facts.ClassFacts.{ClassFacts}
use Rattle.jc_facts.specs.declared.class_facts.Member.{Member}
use Rattle.jc_facts.specs.declared.key.Key.{Key}
use Rattle.jc_facts.specs.Names.{Bytes, same}
use Rattle.jc_facts.specs.Flags.{private_flag, static_flag, no_static_flag, abstract_flag}
use Rattle.jc_facts.specs.Options.{some_and}
use Rattle.jc_facts.specs.world.World.{World, DeclaredMember, found_in, own_method_of}
use Rattle.jc_facts.specs.world.Hierarchy.{superinterfaces, is_superinterface}
use Rattle.jc_facts.specs.world.Lookup.{declared_by, if_inheritable, is_maximal, is_concrete}
use Rattle.jc_facts.specs.world.Inheritance.{offers}
use Rattle.jc_facts.proofs.Same.{same_is, same_itself}
use Rattle.jc_lemmas.proofs.Listed.{here, there, each_in, any_has, any_passes, list_all-each}
use Rattle.jc_promises.specs.rule.Selection.{concrete_choices, are_one}
use Rattle.jc_selection.specs.Shown.{choices_among}
use Rattle.jc_selection.proofs.Parts.{is_offered, is_beside}

-- a test of those that pass another
pub any_filter : {A : Type 0} (p q : A → Bool) (xs : List A) → list_any p (filter q xs) ≡ list_any (λ x. q x && p x) xs
any_filter p q [] = refl
any_filter p q (x ∷ xs) = go (q x) (any_filter p q xs)
  where
    go : (b : Bool) → list_any p (filter q xs) ≡ list_any (λ x. q x && p x) xs → list_any p (cond b (x ∷ filter q xs) (filter q xs)) ≡ ((b && p x) || list_any (λ x. q x && p x) xs)
    go true r = ap (λ b. p x || b) r
    go false r = r

-- a test that doesn't depend on the item, beside one that does
any_beside : {A : Type 0} (b : Bool) (p : A → Bool) (xs : List A) → list_any (λ x. b && p x) xs ≡ (b && list_any p xs)
any_beside true p xs = refl
any_beside false p [] = refl
any_beside false p (x ∷ xs) = any_beside false p xs

-- a test of what classes declare, as one of the classes
abbrev of_own : Key → (DeclaredMember → Bool) → ClassFacts → Bool
of_own k p c = offers k c && some_and (λ (m : Member). p (record { owner = c.name; member = m })) (own_method_of c k)

any_declared : (k : Key) (p : DeclaredMember → Bool) (cs : List ClassFacts) → list_any p (declared_by k cs) ≡ list_any (of_own k p) cs
unfolding declared_by if_inheritable found_in
any_declared k p [] = refl
any_declared k p (c ∷ cs) =
    list_any-append p (if_inheritable (found_in c (own_method_of c k))) (declared_by k cs)
    ∙ rw (any_declared k p cs) (ap (λ b. b || list_any (of_own k p) cs) (go (own_method_of c k) refl))
  where
    flags : (r s : Bool) (m : DeclaredMember) → list_any p (cond (r || s) [] (m ∷ [])) ≡ ((not s && not r) && p m)
    flags true true m = refl
    flags true false m = refl
    flags false true m = refl
    flags false false m = or-false (p m)

    go : (o : Option Member) → own_method_of c k ≡ o → list_any p (if_inheritable (found_in c o)) ≡ (some_and (λ (m : Member). no_static_flag m.flags && not (private_flag m.flags)) o && some_and (λ (m : Member). p (record { owner = c.name; member = m })) o)
    go None e = refl
    go (Some m) e = flags (private_flag m.flags) (static_flag m.flags) (record { owner = c.name; member = m })

module _ (W : World) (is : List ClassFacts) (k : Key) where
  abbrev all : List DeclaredMember
  all = declared_by k is

  -- a method of a class of this name
  abbrev pub is_of : Bytes → DeclaredMember → Bool
  is_of z m = same m.owner z

  -- the interface of this name is the owner of one
  pub chosen_among : (z : Bytes) → list_any (is_of z) (choices_among W k is) ≡ (not (list_any (is_beside W k z) is) && list_any (is_offered not k z) is)
  chosen_among z =
      any_filter (is_of z) is_concrete (filter (is_maximal W all) all)
      ∙ any_filter (λ m. is_concrete m && is_of z m) (is_maximal W all) all
      ∙ same_tests all
      ∙ any_beside maximal (λ m. is_concrete m && is_of z m) all
      ∙ rw (beside, offered) refl
    where
      maximal : Bool
      maximal = not (list_any (λ (o : DeclaredMember). not (same o.owner z) && is_superinterface W o.owner z) all)

      one : (m : DeclaredMember) → (is_maximal W all m && (is_concrete m && is_of z m)) ≡ (maximal && (is_concrete m && is_of z m))
      one m = go (same m.owner z) refl
        where
          last : (a b c : Bool) → (a && (c && false)) ≡ (b && (c && false))
          last a b true = none a b
            where
              none : (a b : Bool) → (a && false) ≡ (b && false)
              none true true = refl
              none true false = refl
              none false true = refl
              none false false = refl
          last a b false = none a b
            where
              none : (a b : Bool) → (a && false) ≡ (b && false)
              none true true = refl
              none true false = refl
              none false true = refl
              none false false = refl

          go : (b : Bool) → same m.owner z ≡ b → (is_maximal W all m && (is_concrete m && same m.owner z)) ≡ (maximal && (is_concrete m && same m.owner z))
          go true e = let n : m.owner ≡ z = same_is m.owner z e in ap (λ (w : Bytes). not (list_any (λ (o : DeclaredMember). not (same o.owner w) && is_superinterface W o.owner w) all) && (is_concrete m && same m.owner z)) n
          go false e = rw e (last (is_maximal W all m) maximal (is_concrete m))

      same_tests : (ms : List DeclaredMember) → list_any (λ m. is_maximal W all m && (is_concrete m && is_of z m)) ms ≡ list_any (λ m. maximal && (is_concrete m && is_of z m)) ms
      same_tests [] = refl
      same_tests (m ∷ ms) = rw (one m, same_tests ms) refl

      -- by the classes
      any_same : (p q : ClassFacts → Bool) → ((c : ClassFacts) → p c ≡ q c) → (cs : List ClassFacts) → list_any p cs ≡ list_any q cs
      any_same p q h [] = refl
      any_same p q h (c ∷ cs) = rw (h c, any_same p q h cs) refl

      beside_one : (c : ClassFacts) → of_own k (λ (o : DeclaredMember). not (same o.owner z) && is_superinterface W o.owner z) c ≡ is_beside W k z c
      beside_one c = go (own_method_of c k) (not (same c.name z)) (is_superinterface W c.name z)
        where
          go : (o : Option Member) (a b : Bool) → (some_and (λ (m : Member). no_static_flag m.flags && not (private_flag m.flags)) o && some_and (λ (m : Member). a && b) o) ≡ (some_and (λ (m : Member). no_static_flag m.flags && not (private_flag m.flags)) o && a && b)
          go None a b = refl
          go (Some m) a b = assoc (no_static_flag m.flags && not (private_flag m.flags)) a b
            where
              assoc : (f a b : Bool) → (f && (a && b)) ≡ (f && a && b)
              assoc true a b = refl
              assoc false a b = refl

      offered_one : (c : ClassFacts) → of_own k (λ (m : DeclaredMember). is_concrete m && is_of z m) c ≡ is_offered not k z c
      offered_one c = go (own_method_of c k) (same c.name z)
        where
          go : (o : Option Member) (a : Bool) → (some_and (λ (m : Member). no_static_flag m.flags && not (private_flag m.flags)) o && some_and (λ (m : Member). not (abstract_flag m.flags) && a) o)
              ≡ (some_and (λ (m : Member). no_static_flag m.flags && not (private_flag m.flags)) o && a && not (some_and (λ (m : Member). abstract_flag m.flags) o))
          go None a = refl
          go (Some m) a = swap (no_static_flag m.flags && not (private_flag m.flags)) (not (abstract_flag m.flags)) a
            where
              swap : (f b a : Bool) → (f && (b && a)) ≡ (f && a && b)
              swap true true true = refl
              swap true true false = refl
              swap true false true = refl
              swap true false false = refl
              swap false b a = refl

      beside : list_any (λ (o : DeclaredMember). not (same o.owner z) && is_superinterface W o.owner z) all ≡ list_any (is_beside W k z) is
      beside = any_declared k (λ (o : DeclaredMember). not (same o.owner z) && is_superinterface W o.owner z) is ∙ any_same (of_own k (λ (o : DeclaredMember). not (same o.owner z) && is_superinterface W o.owner z)) (is_beside W k z) beside_one is

      offered : list_any (λ (m : DeclaredMember). is_concrete m && is_of z m) all ≡ list_any (is_offered not k z) is
      offered = any_declared k (λ (m : DeclaredMember). is_concrete m && is_of z m) is ∙ any_same (of_own k (λ (m : DeclaredMember). is_concrete m && is_of z m)) (is_offered not k z) offered_one is

-- of the superinterfaces of a class
pub chosen : (W : World) (x : Bytes) (k : Key) (z : Bytes) → list_any (λ (m : DeclaredMember). same m.owner z) (concrete_choices W x k) ≡ (not (list_any (is_beside W k z) (superinterfaces W x)) && list_any (is_offered not k z) (superinterfaces W x))
unfolding concrete_choices
chosen W x k z = chosen_among W (superinterfaces W x) k z

-- methods of the same classes are one where the others are
pub one_by_owners : (xs ys : List DeclaredMember) → ((z : Bytes) → list_any (λ (m : DeclaredMember). same m.owner z) xs ≡ list_any (λ (m : DeclaredMember). same m.owner z) ys) → are_one xs ≡ true → are_one ys ≡ true
one_by_owners [] ys h e = absurd (cc)
one_by_owners (m ∷ ms) ys h e = go ys refl
  where
    -- all of the first are of one class
    first : (p : DeclaredMember) → Contains (m ∷ ms) p → p.owner ≡ m.owner
    first p k = same_is p.owner m.owner (each_in (λ (o : DeclaredMember). same o.owner m.owner ≡ true) (m ∷ ms) p (same_itself m.owner, list_all-each (λ (o : DeclaredMember). same o.owner m.owner) ms e) k)

    -- and so are all of the others
    then : (o : DeclaredMember) → Contains ys o → o.owner ≡ m.owner
    then o k =
        let a : list_any (λ (m : DeclaredMember). same m.owner o.owner) (m ∷ ms) ≡ true = h o.owner ∙ any_has (λ (m : DeclaredMember). same m.owner o.owner) ys o k (same_itself o.owner) in
        let p = any_passes (λ (m : DeclaredMember). same m.owner o.owner) (m ∷ ms) a in
        sym (same_is p.one.owner o.owner p.passes) ∙ first p.one p.is_in

    all_of : (p : DeclaredMember → Bool) (os : List DeclaredMember) → ((o : DeclaredMember) → Contains os o → p o ≡ true) → list_all p os ≡ true
    all_of p [] f = refl
    all_of p (o ∷ os) f = and_from (p o) (list_all p os) (f o (here o os)) (all_of p os (λ w k. f w (there w o os k)))

    go : (zs : List DeclaredMember) → ys ≡ zs → are_one zs ≡ true
    go [] q = absurd (
        let a : list_any (λ (o : DeclaredMember). same o.owner m.owner) (m ∷ ms) ≡ true = any_has (λ (o : DeclaredMember). same o.owner m.owner) (m ∷ ms) m (here m ms) (same_itself m.owner) in
        let b : false ≡ true = sym (ap (list_any (λ (o : DeclaredMember). same o.owner m.owner)) q) ∙ sym (h m.owner) ∙ a in cc)
    go (n ∷ ns) q = all_of (λ (o : DeclaredMember). same o.owner n.owner) ns (λ o k.
        let a : o.owner ≡ m.owner = then o (subst (λ l. Contains l o) (sym q) (there o n ns k)) in
        let b : n.owner ≡ m.owner = then n (subst (λ l. Contains l n) (sym q) (here n ns)) in
        subst (λ w. same o.owner w ≡ true) (a ∙ sym b) (same_itself o.owner))
