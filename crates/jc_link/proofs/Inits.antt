-- An instance initializer is one that the class itself declares.
use Rattle.std.proofs.Common.{◌≡◌, Bool, true, false, cond, List, [], ◌∷◌, refl, sym, ◌∙◌, ap, Option, Some, None}
use Rattle.jc_facts.specs.declared.class_facts.ClassFacts.{ClassFacts}
use Rattle.jc_facts.specs.declared.class_facts.Member.{Member as Method}
use Rattle.jc_facts.specs.declared.link_error.LinkError.{LinkError}
use Rattle.jc_facts.specs.declared.link_error.LinkError.TheVariants.{IncompatibleClassChangeError, NoSuchMethodError}
use Rattle.jc_facts.specs.Names.{Bytes, same}
use Rattle.jc_facts.specs.Flags.{interface_flag}
use Rattle.jc_facts.specs.Options.{or_else, some_and}
use Rattle.jc_facts.specs.world.World.{World, find_class, own_method_of, found_in, DeclaredMember}
use Rattle.jc_facts.specs.world.Hierarchy.{chain, chain_step, of_super}
use Rattle.jc_facts.specs.world.Loading.{load_fault}
use Rattle.jc_facts.specs.world.Lookup.{first_declared, or_choices, method_choices}
use Rattle.jc_facts.specs.world.Assignment.{is_interface_of}
use Rattle.jc_facts.specs.client.Outcome.{look_up, first_of, init_key, init_fault}
use Rattle.jc_lemmas.proofs.Listed.{EachOf}
use Rattle.jc_facts.proofs.World.{find-name}
use Rattle.jc_facts.proofs.Same.{same_is, same_itself}
use Rattle.jc_worlds.proofs.Loaded.{unroll}
use Rattle.jc_worlds.proofs.Locality.{chain_step-local}
use Rattle.jc_worlds.proofs.Declared.{IsDeclared, method_choices-declared}

module _ (W : World) (c d : Bytes) (facts : ClassFacts) (found : find_class W c ≡ Some facts) where
  pub init_kind : interface_flag facts.flags ≡ true → (f : DeclaredMember → Option LinkError) → init_fault W c d f ≡ Some IncompatibleClassChangeError
  unfolding init_fault look_up
  init_kind i f = let k : is_interface_of W c ≡ true = ap (some_and (λ (z : ClassFacts). interface_flag z.flags)) found ∙ i in rw k refl

  module _ (loaded : load_fault W c ≡ None) (kind : interface_flag facts.flags ≡ false) where
    by_class : (f : DeclaredMember → Option LinkError) → init_fault W c d f ≡ first_of NoSuchMethodError (method_choices W c (init_key d)) (λ m. cond (same m.owner c) (f m) (Some NoSuchMethodError))
    unfolding init_fault look_up
    by_class f = let k : is_interface_of W c ≡ false = ap (some_and (λ (z : ClassFacts). interface_flag z.flags)) found ∙ kind in rw k refl

    -- what the use of an initializer gives: it is the class's own
    own : (DeclaredMember → Option LinkError) → DeclaredMember → Option LinkError
    own f n = cond (same n.owner c) (f n) (Some NoSuchMethodError)

    init_first : (m : Method) → own_method_of facts (init_key d) ≡ Some m → method_choices W c (init_key d) ≡ record { owner = c; member = m } ∷ []
    unfolding method_choices first_declared found_in or_else or_choices chain_step chain
    init_first m o =
        let u : chain W c ≡ facts ∷ of_super (chain W) facts.superclass = unroll W [] [] chain_step chain_step-local c facts loaded found in
        let p : first_declared (init_key d) (chain W c) ≡ Some (record { owner = c; member = m }) = ap (first_declared (init_key d)) u ∙ rw (o, find-name W c facts found) refl in
        rw p refl

    pub init_found : (m : Method) → own_method_of facts (init_key d) ≡ Some m → (f : DeclaredMember → Option LinkError) → init_fault W c d f ≡ f (record { owner = c; member = m })
    unfolding first_of own
    init_found m o f =
        by_class f ∙ ap (λ ms. first_of NoSuchMethodError ms (own f)) (init_first m o)
        ∙ ap (λ b. cond b (f (record { owner = c; member = m })) (Some NoSuchMethodError)) (same_itself c)

    other : (f : DeclaredMember → Option LinkError) (m : DeclaredMember) → own_method_of facts (init_key d) ≡ None → IsDeclared W (init_key d) m → (b : Bool) → same m.owner c ≡ b
        → cond b (f m) (Some NoSuchMethodError) ≡ Some NoSuchMethodError
    other f m o h false e = refl
    other f m o h true e =
        let p : Some h.class ≡ Some facts = sym h.is_there ∙ ap (find_class W) (same_is m.owner c e) ∙ found in
        let q : h.class ≡ facts = cc in
        absurd (let clash : Some m.member ≡ None = sym h.declares ∙ ap (λ z. own_method_of z (init_key d)) q ∙ o in cc)

    none_first : (f : DeclaredMember → Option LinkError) → own_method_of facts (init_key d) ≡ None → (ms : List DeclaredMember) → EachOf (IsDeclared W (init_key d)) ms → first_of NoSuchMethodError ms (own f) ≡ Some NoSuchMethodError
    unfolding first_of own
    none_first f o [] h = refl
    none_first f o (m ∷ ms) h = other f m o h.0 (same m.owner c) refl

    pub init_none : own_method_of facts (init_key d) ≡ None → (f : DeclaredMember → Option LinkError) → init_fault W c d f ≡ Some NoSuchMethodError
    unfolding own
    init_none o f = by_class f ∙ none_first f o (method_choices W c (init_key d)) (method_choices-declared W c (init_key d) loaded)
