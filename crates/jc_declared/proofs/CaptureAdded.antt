-- What the collision of methods that are found before those of a client's interfaces makes.
use Rattle.std.proofs.Common.{◌≡◌, ℕ, Bool, true, false, not, cond, [], ◌∷◌, refl, sym, ◌∙◌, ap, Option, Some, None, ◌&&◌, ◌||◌, ◌⊎◌, inl, inr}
use Rattle.std.specs.List.{Contains}
use Rattle.std.proofs.lemmas.Bool.{and_parts, not-true}
use Rattle.std.proofs.lemmas.List.Elements.{recursion_from_All}
use Rattle.jc_facts.specs.declared.act.Act.TheVariants.{InvokeVirtual}
use Rattle.jc_facts.specs.declared.key.Key.{Key}
use Rattle.jc_facts.specs.declared.link_error.LinkError.{LinkError}
use Rattle.jc_facts.specs.declared.link_error.LinkError.TheVariants.{IllegalAccessError, IncompatibleClassChangeError}
use Rattle.jc_facts.specs.declared.verdict.Collision.{Collision}
use Rattle.jc_promises.specs.rule.Collisions.{made_collision, collision_at, capture_added, captures, capture_error, leaves_room}
use Rattle.jc_facts.specs.world.Lookup.{are_none, first_declared, method_choices, or_choices, superinterface_choices}
use Rattle.jc_facts.specs.Flags.{public_flag, no_static_flag}
use Rattle.jc_facts.specs.world.Hierarchy.{chain}
use Rattle.jc_facts.specs.world.Loading.{load_fault}
use Rattle.jc_facts.specs.world.Assignment.{is_interface_of}
use Rattle.jc_facts.specs.Names.{Bytes}
use Rattle.jc_desc.specs.Names.{is_init_name, is_clinit_name}
use Rattle.jc_facts.specs.Options.{some_and, some_where}
use Rattle.jc_facts.specs.Orders.{collision_order}
use Rattle.jc_facts.specs.world.World.{World, DeclaredMember}
use Rattle.jc_promises.specs.rule.Bases.{is_base_class, is_key_of_method}
use Rattle.jc_lemmas.proofs.Bools.{neither_last}
use Rattle.jc_lemmas.proofs.Listed.{each_in}
use Rattle.jc_worlds.specs.Agreement.{LooksTheSame}
use Rattle.jc_worlds.specs.Choices.{IsPublicInstance}
use Rattle.jc_worlds.proofs.ChoiceLaws.{inherited_are_public}
use Rattle.jc_sides.specs.BrokenOf.{BrokenOf, broken_if, collided}
use Rattle.jc_sides.specs.Members.{is_member, OfPassing}
use Rattle.jc_sides.specs.declared.members.Members.TheVariants as members
use Rattle.jc_sides.specs.Rules.{key_collision, IsCollision, IsItemRule}
use Rattle.jc_sides.proofs.BrokenActs.{collided_where}
use Rattle.jc_sides.specs.SidesOf.{SidesOf}
use Rattle.jc_sides.proofs.BaseParts.{base_class_parts, no_interface_now}
use Rattle.jc_sides.proofs.ItemRules.{made_where}
use Rattle.jc_sides.proofs.NamedAbove.{class_unkept}
use Rattle.jc_index.specs.Sides.{IsSide}
use Rattle.jc_index.specs.Lookups.{IsChoice}
use Rattle.jc_rows.specs.Rows.{choices_by}
use Rattle.jc_index.proofs.Sides.{classes_valid}
use Rattle.jc_index.specs.declared.ids.Found.{Found}
use Rattle.jc_acts.proofs.Untouched.{looks_alike}
use Rattle.jc_declared.proofs.ChangedClasses.{collision_of_changed}
use Rattle.jc_declared.specs.steps.Changed.{changed_class}
use Rattle.jc_sound.proofs.Opening.{one-is}

-- ---- as the code tests it

-- the method that the new chain declares
fails : DeclaredMember → Bool
fails m = not (public_flag m.member.flags && no_static_flag m.member.flags)

capture_of : SidesOf → Bytes → Key → Option DeclaredMember → Option Collision
capture_of s x k o =
    some_where (is_key_of_method k && is_base_class s.old s.new x && are_none (method_choices s.old x k) && some_and fails o && leaves_room k)
    (made_collision 11 x k InvokeVirtual (cond (some_and (λ m. public_flag m.member.flags) o) IncompatibleClassChangeError IllegalAccessError))

capture_is : (s : SidesOf) (x : Bytes) (k : Key) → key_collision 11 s x k ≡ capture_of s x k (first_declared k (chain s.new x))
unfolding collision_at capture_added captures fails capture_of
capture_is s x k = refl

last_false : (a b c d : Bool) → (a && b && c && false && d) ≡ false
last_false true true true d = refl
last_false true true false d = refl
last_false true false c d = refl
last_false false b c d = refl

pub no_method : (s : SidesOf) (x : Bytes) (k : Key) → IsChoice s.new None (method_choices s.new x k) → None ≡ key_collision 11 s x k
unfolding capture_of method_choices or_choices
no_method s x k a = sym (capture_is s x k ∙ go (first_declared k (chain s.new x)) a)
  where
    go : (o : Option DeclaredMember) → or_choices o (superinterface_choices s.new x k) ≡ [] → capture_of s x k o ≡ None
    go None b = rw (last_false (is_key_of_method k) (is_base_class s.old s.new x) (are_none (method_choices s.old x k)) (leaves_room k)) refl
    go (Some m) b = absurd (let clash : m ∷ [] ≡ [] = b in cc)

-- the test of the code
abbrev pub is_passed : World → Bytes → Key → ℕ → Bool
is_passed O x k flags = not (public_flag flags && no_static_flag flags) && is_key_of_method k && are_none (method_choices O x k) && leaves_room k

-- the collision that it makes
abbrev pub made : Bytes → Key → ℕ → Collision
made x k flags = made_collision 11 x k InvokeVirtual (cond (public_flag flags) IncompatibleClassChangeError IllegalAccessError)

tests : (m b n c r : Bool) → b ≡ true → (m && b && n && c && r) ≡ (c && m && n && r)
tests true true true true r h = refl
tests true true true false r h = refl
tests true true false true r h = refl
tests true true false false r h = refl
tests false true n true r h = refl
tests false true n false r h = refl
tests m false n c r h = absurd (cc)

-- what superinterfaces give for a key of a method fails no call
public_fails : (m : DeclaredMember) → IsPublicInstance m → fails m ≡ false
unfolding fails
public_fails m p = rw (p.0, p.1) refl

inherited_fails : (W : World) → IsSide W → (x : Bytes) (k : Key) → load_fault W x ≡ None → is_key_of_method k ≡ true → (m : DeclaredMember) → Contains (superinterface_choices W x k) m → fails m ≡ false
inherited_fails W d x k l h m c =
    public_fails m (each_in IsPublicInstance (superinterface_choices W x k) m (recursion_from_All IsPublicInstance (superinterface_choices W x k) (inherited_are_public W (classes_valid W d) x k l (neither_last (is_init_name k.name) (is_clinit_name k.name) (not-true (is_init_name k.name || is_clinit_name k.name) h)))) c)

none_passed : (c m n r : Bool) → (c ≡ false) ⊎ (m ≡ false) → (c && m && n && r) ≡ false
none_passed false m n r h = refl
none_passed true false n r h = refl
none_passed true true n r (inl h) = absurd (cc)
none_passed true true n r (inr h) = absurd (cc)

-- whatever the lookup chooses: the chain's method is the choice, and where there is none, no choice is passed
pub captured : (s : SidesOf) (x : Bytes) (k : Key) (f : Found) (b : Bool) (e : LinkError) (o : Option BrokenOf) → is_base_class s.old s.new x ≡ true → IsSide s.new → load_fault s.new x ≡ None → IsChoice s.new (Some f) (method_choices s.new x k)
    → b ≡ is_passed s.old x k f.flags → e ≡ cond (public_flag f.flags) IncompatibleClassChangeError IllegalAccessError → o ≡ broken_if b InvokeVirtual e → collided 11 x k o ≡ key_collision 11 s x k
unfolding capture_of fails method_choices or_choices
captured s x k f b e o base side loads a t q r =
    ap (collided 11 x k) r ∙ collided_where 11 x k b InvokeVirtual e ∙ ap (λ (u : LinkError). some_where b (made_collision 11 x k InvokeVirtual u)) q ∙ ap (λ p. some_where p (made x k f.flags)) t ∙ sym (capture_is s x k ∙ go (first_declared k (chain s.new x)) a.1)
  where
    found : DeclaredMember
    found = a.0

    flags : f.flags ≡ found.member.flags
    flags = a.2.flags

    either : (z : Bool) → is_key_of_method k ≡ z → Contains (superinterface_choices s.new x k) found → (fails found ≡ false) ⊎ (is_key_of_method k ≡ false)
    either false i h = inr i
    either true i h = inl (inherited_fails s.new side x k loads i found h)

    unpassed : Contains (superinterface_choices s.new x k) found → is_passed s.old x k f.flags ≡ false
    unpassed h =
        ap (is_passed s.old x k) flags
        ∙ none_passed (not (public_flag found.member.flags && no_static_flag found.member.flags)) (is_key_of_method k) (are_none (method_choices s.old x k)) (leaves_room k) (either (is_key_of_method k) refl h)

    nothing : capture_of s x k None ≡ None
    nothing = rw (last_false (is_key_of_method k) (is_base_class s.old s.new x) (are_none (method_choices s.old x k)) (leaves_room k)) refl

    unmade : is_passed s.old x k f.flags ≡ false → some_where (is_passed s.old x k f.flags) (made x k f.flags) ≡ None
    unmade h = ap (λ p. some_where p (made x k f.flags)) h

    declared : (m : DeclaredMember) → f.flags ≡ m.member.flags → capture_of s x k (Some m) ≡ some_where (is_passed s.old x k f.flags) (made x k f.flags)
    declared m h =
        ap (λ p. some_where p (made x k m.member.flags)) (tests (is_key_of_method k) (is_base_class s.old s.new x) (are_none (method_choices s.old x k)) (not (public_flag m.member.flags && no_static_flag m.member.flags)) (leaves_room k) base)
        ∙ ap (λ (w : ℕ). some_where (is_passed s.old x k w) (made x k w)) (sym h)

    go : (m : Option DeclaredMember) → Contains (or_choices m (superinterface_choices s.new x k)) found → capture_of s x k m ≡ some_where (is_passed s.old x k f.flags) (made x k f.flags)
    go None h = nothing ∙ sym (unmade (unpassed h))
    go (Some m) h = declared m (flags ∙ ap (λ (y : DeclaredMember). y.member.flags) (sym (one-is m found h)))

-- ---- where it stands

record IsCapture (s : SidesOf) (x : Bytes) (k : Key) : Type 0 where
  base : is_base_class s.old s.new x ≡ true
  unknown : are_none (method_choices s.old x k) ≡ true
  declared : captures s.new x k ≡ true

capture_parts : (s : SidesOf) (x : Bytes) (k : Key) (c : Collision) → key_collision 11 s x k ≡ Some c → IsCapture s x k
unfolding collision_at capture_added
capture_parts s x k c h =
    let t = (made_where (capture_added s.old s.new x k) (made_collision 11 x k InvokeVirtual (capture_error s.new x k)) c h).0 in
    let a = and_parts (is_key_of_method k && is_base_class s.old s.new x && are_none (method_choices s.old x k) && captures s.new x k) (leaves_room k) t in
    let b = and_parts (is_key_of_method k && is_base_class s.old s.new x && are_none (method_choices s.old x k)) (captures s.new x k) a.0 in
    let d = and_parts (is_key_of_method k && is_base_class s.old s.new x) (are_none (method_choices s.old x k)) b.0 in
    let e = and_parts (is_key_of_method k) (is_base_class s.old s.new x) d.0 in
    record { base = e.1; unknown = d.1; declared = b.1 }

-- nothing is captured where all lookups are as they were
found_none : (W : World) (x : Bytes) (k : Key) → captures W x k ≡ true → are_none (method_choices W x k) ≡ true → ⊥
unfolding captures method_choices or_choices
found_none W x k h n = go (first_declared k (chain W x)) h n
  where
    go : (o : Option DeclaredMember) → some_and (λ m. not (public_flag m.member.flags && no_static_flag m.member.flags)) o ≡ true → are_none (or_choices o (superinterface_choices W x k)) ≡ true → ⊥
    go None h n = let clash : false ≡ true = h in cc
    go (Some m) h n = let clash : false ≡ true = n in cc

-- the new lookup finds what is captured
pub of_methods : (s : SidesOf) (x : Bytes) → OfPassing (key_collision 11 s x) (is_member members.NewMethods s x)
of_methods s x k c e = go (is_interface_of s.new x) (no_interface_now s x p.base)
  where
    p : IsCapture s x k
    p = capture_parts s x k c e

    some : (b : Bool) → are_none (method_choices s.new x k) ≡ b → not b ≡ true
    some true n = absurd (found_none s.new x k p.declared n)
    some false n = refl

    go : (b : Bool) → b ≡ false → not (are_none (choices_by b s.new x k)) ≡ true
    go true n = absurd (let clash : true ≡ false = n in cc)
    go false n = some (are_none (method_choices s.new x k)) refl

of_none : (s : SidesOf) (x : Bytes) → LooksTheSame s.old s.new x → OfPassing (key_collision 11 s x) (λ k. false)
of_none s x same k c e = let p = capture_parts s x k c e in absurd (found_none s.new x k p.declared (ap are_none (sym (same.method k)) ∙ p.unknown))

pub is_rule : IsItemRule collision_order (λ (c : Collision). c.«class») (key_collision 11) (IsCollision 11) changed_class
is_rule = collision_of_changed (λ s x. is_base_class s.old s.new x) class_unkept 11 (λ s x k c e. (capture_parts s x k c e).base)
    (λ s are x is free. of_none s x (looks_alike s are x free (base_class_parts s x is).both.loads_now))
