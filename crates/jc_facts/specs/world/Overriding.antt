-- Overriding of methods (JVMS 5.4.5).
--     Overrides k m between a      m overrides a, both of the key k, where `between` are the classes between theirs
--     overrides_some_final x ms above      one of these methods of the class named x overrides a final one of the classes above
use Rattle.std.specs.Prelude.{Bool, true, false, not, cond, List, [], ◌∷◌, ◌++◌, Option, None, Some, ◌||◌, ◌&&◌, ◌≡◌}
use Rattle.std.specs.List.{list_any}
use Rattle.jc_facts.specs.declared.class_facts.ClassFacts.{ClassFacts}
use Rattle.jc_facts.specs.declared.class_facts.Member.{Member}
use Rattle.jc_facts.specs.declared.key.Key.{Key}
use Rattle.jc_facts.specs.Names.{Bytes, in_same_package, key_of}
use Rattle.jc_desc.specs.Names.{is_init_name, is_clinit_name}
use Rattle.jc_facts.specs.Flags.{public_flag, private_flag, protected_flag, package_private, final_flag, no_static_flag}
use Rattle.jc_facts.specs.world.World.{DeclaredMember, declared_method}

-- m, of a class below, overrides a of the same key by their access alone: both are instance methods, m isn't private, and a is
-- public or protected, or package-private in m's package (JVMS 5.4.5)
abbrev pub directly_overrides : DeclaredMember → DeclaredMember → Bool
directly_overrides m a =
    no_static_flag m.member.flags && no_static_flag a.member.flags && not (private_flag m.member.flags)
    && (public_flag a.member.flags || protected_flag a.member.flags
    || (package_private a.member.flags && in_same_package m.owner a.owner))

-- m, of a class below, overrides a, both of the key k, where these are the classes between theirs, from below (JVMS 5.4.5)
pub data Overrides (k : Key) : DeclaredMember → List ClassFacts → DeclaredMember → Type 0 where
  -- by their access alone
  directly : {m a : DeclaredMember} (between : List ClassFacts) → directly_overrides m a ≡ true → Overrides k m between a
  -- a is package-private, and a class between them declares a method that m overrides and that overrides a
  through : {m a : DeclaredMember} (below : List ClassFacts) (c : ClassFacts) (above : List ClassFacts) (b : DeclaredMember) → declared_method k c ≡ Some b → package_private a.member.flags ≡ true
      → Overrides k m below b → Overrides k b above a → Overrides k m (below ++ c ∷ above) a

-- a class of those above declares a final method of the key that m overrides
pub record OverridesFinal (k : Key) (m : DeclaredMember) (classes : List ClassFacts) : Type 0 where
  pub between : List ClassFacts
  pub class : ClassFacts
  pub rest : List ClassFacts
  pub split : classes ≡ between ++ class ∷ rest
  pub method : DeclaredMember
  pub declared : declared_method k class ≡ Some method
  pub final : final_flag method.member.flags ≡ true
  pub overrides : Overrides k m between method

-- ---- the same as a walk up the classes, with the methods that overriding is handed on by

-- one of the methods below overrides this one by access alone
abbrev pub is_overridden_by_any : List DeclaredMember → DeclaredMember → Bool
is_overridden_by_any below a = list_any (λ b. directly_overrides b a) below

-- the methods below, and with them this one where one of them overrides it
abbrev pub linked : List DeclaredMember → Option DeclaredMember → List DeclaredMember
linked below None = below
linked below (Some a) = cond (is_overridden_by_any below a) (a ∷ below) below

-- one of the methods below overrides this one, which is final
abbrev pub overrides_this_final : List DeclaredMember → Option DeclaredMember → Bool
overrides_this_final below None = false
overrides_this_final below (Some a) = is_overridden_by_any below a && final_flag a.member.flags

-- one of the methods below, or one that it overrides on the way, overrides a final method of the key in the classes above
unfoldable pub reaches_final : Key → List DeclaredMember → List ClassFacts → Bool
reaches_final k below [] = false
reaches_final k below (c ∷ above) = overrides_this_final below (declared_method k c) || reaches_final k (linked below (declared_method k c)) above

-- one of these methods of the class named x, no initializer, overrides a final one of the classes above it (JVMS 5.3.5)
unfoldable pub overrides_some_final : Bytes → List Member → List ClassFacts → Bool
overrides_some_final x [] above = false
overrides_some_final x (m ∷ ms) above =
    (not (is_init_name m.name || is_clinit_name m.name) && reaches_final (key_of m) (record { owner = x; member = m } ∷ []) above)
    || overrides_some_final x ms above
