-- Notes on generic signatures: what has changed of the signatures of the old side O and the new side N.
--     SigNoteStands O N n      the note is one of theirs
--     sig_note_order      by class, the class itself first, then by key
use Rattle.std.specs.Prelude.{Bool, true, false, not, ◌&&◌, ◌||◌, ◌≡◌, Option, Some, None, is_some, option_map, IsTrue, if◌then◌else◌}
use Rattle.std.specs.List.{find as first_where}
use Rattle.std.specs.Option.{option_eq, option_cmp}
use Rattle.std.specs.Ordering.{on, then_cmp}
use Rattle.std.specs.declared.cmp.Ordering.{Ordering}
use Rattle.jc_facts.specs.declared.class_facts.ClassFacts.{ClassFacts}
use Rattle.jc_facts.specs.declared.class_facts.Signed.{Signed}
use Rattle.jc_facts.specs.declared.key.Key.{Key}
use Rattle.jc_facts.specs.declared.sig_note.SigChange.{SigChange}
use Rattle.jc_facts.specs.declared.sig_note.SigChange.TheVariants as changes
use Rattle.jc_facts.specs.declared.sig_note.SigNote.{SigNote}
use Rattle.jc_facts.specs.Exactly.{name_order}
use Rattle.jc_facts.specs.Flags.{public_flag}
use Rattle.jc_facts.specs.KeyOrder.{key_cmp}
use Rattle.jc_facts.specs.Names.{Bytes, same, same_key, is_descriptor_of_method}
use Rattle.jc_facts.specs.world.World.{World, find_class, own_field_of, own_method_of}
use Rattle.jc_sig.specs.Grammar.{SpellsClassSig, SpellsMethodSig, SpellsFieldSig}
use Rattle.jc_sig.specs.Trees.{TypeTree, ClassSigTree, MethodSigTree, class_text, types_text, type_parameters_text, result_text}

-- ---- what records have

-- the signature of the class itself, or of its field or method of the key, where it has one (JVMS 4.7.9)
abbrev pub signature_at : ClassFacts → Option Key → Option Bytes
signature_at c key = option_map (λ (s : Signed). s.text) (first_where (λ (s : Signed). option_eq same_key s.key key) c.signatures)

-- the class itself, or a field or a method of the key, is declared
abbrev pub declares : ClassFacts → Option Key → Bool
declares c None = true
declares c (Some k) = is_some (own_field_of c k) || is_some (own_method_of c k)

-- ---- the first part in which two trees differ. Parts are the same exactly where their texts are (`part_laws`)

abbrev pub class_part : ClassSigTree → ClassSigTree → SigChange
class_part s t =
    if not (same (type_parameters_text s.parameters) (type_parameters_text t.parameters)) then changes.Parameters
    else if not (same (class_text s.superclass) (class_text t.superclass)) then changes.Superclass
    else changes.Interfaces

abbrev pub method_part : MethodSigTree → MethodSigTree → SigChange
method_part s t =
    if not (same (type_parameters_text s.parameters) (type_parameters_text t.parameters)) then changes.Parameters
    else if not (same (types_text s.arguments) (types_text t.arguments)) then changes.Arguments
    else if not (same (result_text s.result) (result_text t.result)) then changes.Result
    else changes.Throws

abbrev pub field_part : TypeTree → TypeTree → SigChange
field_part s t = changes.Whole

-- ---- what has changed

-- a text that may not be there, as the grammar has it: None where it isn't there, Some None where it is the text of no tree, or else its tree
abbrev pub IsOf : {A : Type 0} → (Bytes → A → Type 0) → Option Bytes → Option (Option A) → Type 0
IsOf Spells None None = Unit {0}
IsOf Spells None (Some tree) = ⊥
IsOf Spells (Some text) None = ⊥
IsOf {A} Spells (Some text) (Some None) = (tree : A) → Spells text tree → ⊥
IsOf Spells (Some text) (Some (Some tree)) = Spells text tree

-- the first that holds: one that is there isn't of the grammar, there is none any more, there was none, or a part differs.
-- The last row, of two that aren't there, is that of no change
abbrev pub change_of : {A : Type 0} → (A → A → SigChange) → Option (Option A) → Option (Option A) → SigChange
change_of part (Some None) new = changes.Unread
change_of part None (Some None) = changes.Unread
change_of part (Some (Some s)) (Some None) = changes.Unread
change_of part (Some (Some s)) None = changes.Gone
change_of part None (Some (Some t)) = changes.New
change_of part (Some (Some s)) (Some (Some t)) = part s t
change_of part None None = changes.Whole

-- of two texts, each of which may not be there, in a grammar, by the first part in which trees of it differ: the texts differ, or one
-- alone is there; and this is the change
pub record Changes {A : Type 0} (Spells : Bytes → A → Type 0) (part : A → A → SigChange) (before after : Option Bytes) (change : SigChange) : Type 0 where
  pub differ : IsTrue (not (option_eq same before after))
  pub old : Option (Option A)
  pub new : Option (Option A)
  pub old_is : IsOf Spells before old
  pub new_is : IsOf Spells after new
  pub change_is : change ≡ change_of part old new

-- of a member: of a method, or else of a field
abbrev pub MemberChanges : Bool → Option Bytes → Option Bytes → SigChange → Type 0
MemberChanges true before after change = Changes SpellsMethodSig method_part before after change
MemberChanges false before after change = Changes SpellsFieldSig field_part before after change

-- of the class itself, or of its member of the key
abbrev pub ChangeAt : Option Key → Option Bytes → Option Bytes → SigChange → Type 0
ChangeAt None before after change = Changes SpellsClassSig class_part before after change
ChangeAt (Some k) before after change = MemberChanges (is_descriptor_of_method k.descriptor) before after change

-- ---- notes

-- both sides declare the class, public on both, both of these records declare the key, and this has changed
pub record SigNoteStands (O N : World) (n : SigNote) : Type 0 where
  pub old : ClassFacts
  pub new : ClassFacts
  pub is_old : find_class O n.class ≡ Some old
  pub is_new : find_class N n.class ≡ Some new
  pub public : IsTrue (public_flag old.flags && public_flag new.flags)
  pub declared : IsTrue (declares old n.key && declares new n.key)
  pub changed : ChangeAt n.key (signature_at old n.key) (signature_at new n.key) n.change

-- by class, the class itself first, then by key
abbrev pub sig_note_order : SigNote → SigNote → Ordering
sig_note_order = then_cmp (on (λ (n : SigNote). n.class) name_order) (on (λ (n : SigNote). n.key) (option_cmp key_cmp))
