-- Each choice of a method gives the same outcome.
use Rattle.std.proofs.Common.{◌≡◌, Bool, true, false, cond, List, [], ◌∷◌, refl, sym, ◌∙◌, ap, subst, Option, Some, None, ◌||◌}
use Rattle.std.specs.List.{All, filter}
use Rattle.std.proofs.lemmas.List.Elements.{recursion_from_All, All-from_recursion}
use Rattle.jc_facts.specs.declared.class_facts.ClassFacts.{ClassFacts}
use Rattle.jc_facts.specs.declared.class_facts.Member.{Member}
use Rattle.jc_facts.specs.declared.key.Key.{Key}
use Rattle.jc_facts.specs.declared.link_error.LinkError.{LinkError}
use Rattle.jc_facts.specs.declared.link_error.LinkError.TheVariants.{NoSuchMethodError}
use Rattle.jc_facts.specs.Names.{Bytes, same}
use Rattle.jc_facts.specs.Flags.{interface_flag, private_flag, static_flag}
use Rattle.jc_facts.specs.Options.{some_and}
use Rattle.jc_facts.specs.world.World.{World, find_class, classes, DeclaredMember, own_method_of, found_in}
use Rattle.jc_facts.specs.world.Hierarchy.{superinterfaces, chain}
use Rattle.jc_facts.specs.world.Loading.{load_fault}
use Rattle.jc_facts.specs.world.Lookup.{if_inheritable, declared_by, is_maximal, is_concrete, superinterface_choices, or_choices, method_choices, interface_choices, first_declared}
use Rattle.jc_facts.specs.world.Assignment.{is_interface_of}
use Rattle.jc_facts.specs.client.Acts.{MethodForm, InterfaceForm}
use Rattle.jc_facts.specs.client.Outcome.{first_of, look_up, use_fault, init_fault, init_key}
use Rattle.jc_facts.specs.file.Valid.{IsValidClass}
use Rattle.jc_worlds.specs.Choices.{IsPublicInstance, InheritedArePublic, EachChoiceGivesTheSame, declared_here, EachInitGivesTheSame}
use Rattle.jc_lemmas.proofs.Listed.{EachOf, EachOf-map, EachOf-append, filter-each}
use Rattle.jc_facts.proofs.World.{find-name, class_named-each}
use Rattle.jc_facts.proofs.Same.{same_is}
use Rattle.jc_worlds.proofs.Above.{superinterfaces-each}
use Rattle.jc_worlds.proofs.Inherited.{superinterface_choices-public, only_or-each}
use Rattle.jc_worlds.proofs.Choices.{use_fault-same}
use Rattle.jc_lemmas.proofs.Bools.{contradicts}

-- each class of a world of valid records is valid
pub valid_in : (W : World) → All IsValidClass (classes W) → (x : Bytes) (c : ClassFacts) → find_class W x ≡ Some c → IsValidClass c
unfolding find_class
valid_in W v x c e = class_named-each IsValidClass (classes W) x c (recursion_from_All IsValidClass (classes W) v) e

pub inherited_are_public : InheritedArePublic
inherited_are_public W v x k h n = All-from_recursion IsPublicInstance (superinterface_choices W x k) (superinterface_choices-public W (valid_in W v) x k h n)

-- where any two give the same, each gives what the first does
same_as_first : (P : DeclaredMember → Type 0) (f : DeclaredMember → Option LinkError) → ((m n : DeclaredMember) → P m → P n → f m ≡ f n) → (e : LinkError) (ms : List DeclaredMember) → EachOf P ms → EachOf (λ m. f m ≡ first_of e ms f) ms
unfolding first_of
same_as_first P f two e [] h = tt
same_as_first P f two e (n ∷ ns) h = (refl, EachOf-map (λ m p. two m n p h.0) ns h.1)

-- the same where one method is taken before them
same_with : (P : DeclaredMember → Type 0) (f : DeclaredMember → Option LinkError) → ((m n : DeclaredMember) → P m → P n → f m ≡ f n) → (e : LinkError) (o : Option DeclaredMember) (ms : List DeclaredMember) → EachOf P ms → EachOf (λ m. f m ≡ first_of e (or_choices o ms) f) (or_choices o ms)
unfolding or_choices first_of
same_with P f two e None ms h = same_as_first P f two e ms h
same_with P f two e (Some m) ms h = (refl, tt)

pub each_choice_gives_the_same : EachChoiceGivesTheSame
unfolding look_up method_choices interface_choices
each_choice_gives_the_same W v c k h n x act r place put =
    let f : DeclaredMember → Option LinkError = use_fault W x act c r place in
    let two : (m n : DeclaredMember) → IsPublicInstance m → IsPublicInstance n → f m ≡ f n = λ m n p q. use_fault-same W x act c r place m n put p q in
    let public = superinterface_choices-public W (valid_in W v) c k h n in (
      λ i. All-from_recursion (λ m. use_fault W x act c r place m ≡ look_up W MethodForm c k (use_fault W x act c r place)) (method_choices W c k)
          (rw i (same_with IsPublicInstance f two NoSuchMethodError (first_declared k (chain W c)) (superinterface_choices W c k) public)),
      λ i. All-from_recursion (λ m. use_fault W x act c r place m ≡ look_up W InterfaceForm c k (use_fault W x act c r place)) (interface_choices W c k)
          (rw i (same_with IsPublicInstance f two NoSuchMethodError _ (superinterface_choices W c k) public)),
    )

-- ---- instance initializers

inheritable-owner : (Q : Bytes → Type 0) (c : ClassFacts) → Q c.name → (o : Option Member) → EachOf (λ (m : DeclaredMember). Q m.owner) (if_inheritable (found_in c o))
unfolding if_inheritable found_in
inheritable-owner Q c q None = tt
inheritable-owner Q c q (Some m) = go (private_flag m.flags || static_flag m.flags)
  where
    go : (b : Bool) → EachOf (λ (m : DeclaredMember). Q m.owner) (cond b [] (record { owner = c.name; member = m } ∷ []))
    go true = tt
    go false = (q, tt)

declared_by-owner : (Q : Bytes → Type 0) (k : Key) (cs : List ClassFacts) → EachOf (λ c. Q c.name) cs → EachOf (λ (m : DeclaredMember). Q m.owner) (declared_by k cs)
unfolding declared_by
declared_by-owner Q k [] h = tt
declared_by-owner Q k (c ∷ cs) h = EachOf-append (λ (m : DeclaredMember). Q m.owner) (if_inheritable (found_in c (own_method_of c k))) (declared_by k cs) (inheritable-owner Q c h.0 (own_method_of c k)) (declared_by-owner Q k cs h.1)

-- what superinterfaces give is of interfaces
choices-interfaces : (W : World) (x : Bytes) (k : Key) → load_fault W x ≡ None → EachOf (λ (m : DeclaredMember). is_interface_of W m.owner ≡ true) (superinterface_choices W x k)
unfolding superinterface_choices
choices-interfaces W x k h =
    let all : List DeclaredMember = declared_by k (superinterfaces W x) in
    let P : DeclaredMember → Type 0 = λ m. is_interface_of W m.owner ≡ true in
    let p : EachOf P all = declared_by-owner (λ y. is_interface_of W y ≡ true) k (superinterfaces W x)
    (superinterfaces-each W (λ c. is_interface_of W c.name ≡ true) (λ y c e l i. ap (λ o. some_and (λ d. interface_flag d.flags) o) (ap (find_class W) (find-name W y c e) ∙ e) ∙ i) x h) in
    only_or-each P (filter is_concrete (filter (is_maximal W all) all)) all (filter-each P is_concrete (filter (is_maximal W all) all) (filter-each P (is_maximal W all) all p)) p

pub each_init_gives_the_same : EachInitGivesTheSame
unfolding look_up method_choices init_fault
each_init_gives_the_same W c d h i f =
    All-from_recursion (λ m. declared_here c f m ≡ init_fault W c d f) (method_choices W c (init_key d))
    (rw i (same_with (λ m. is_interface_of W m.owner ≡ true) (declared_here c f) (λ m n p q. elsewhere m p ∙ sym (elsewhere n q)) NoSuchMethodError (first_declared (init_key d) (chain W c)) (superinterface_choices W c (init_key d)) (choices-interfaces W c (init_key d) h)))
  where
    elsewhere : (m : DeclaredMember) → is_interface_of W m.owner ≡ true → declared_here c f m ≡ Some NoSuchMethodError
    elsewhere m p = go (same m.owner c) refl
      where
        go : (b : Bool) → same m.owner c ≡ b → cond b (f m) (Some NoSuchMethodError) ≡ Some NoSuchMethodError
        go false e = refl
        go true e = absurd (contradicts (is_interface_of W c) (subst (λ z. is_interface_of W z ≡ true) (same_is m.owner c e) p) i)
