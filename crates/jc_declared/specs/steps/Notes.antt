-- The notes, by group.
use Rattle.std.specs.Borrow.{Bor}
use Rattle.std.specs.BTreeMap as tree
use Rattle.std.specs.List.{find as first_where}
use Rattle.std.specs.Prelude.{ℕ, Bool, cond, Option, None, Some, is_some, not, IsTrue, option_map, ◌&&◌, ◌≡◌}
use Rattle.jc_facts.specs.declared.class_facts.ClassFacts.{ClassFacts}
use Rattle.jc_facts.specs.declared.class_facts.Constant.{Constant}
use Rattle.jc_facts.specs.declared.class_facts.Fixed.{Fixed}
use Rattle.jc_facts.specs.declared.key.Key.{Key}
use Rattle.jc_facts.specs.declared.verdict.Note.{Note}
use Rattle.jc_facts.specs.declared.verdict.Note.TheVariants as note
use Rattle.jc_facts.specs.world.Loading.{load_fault}
use Rattle.jc_facts.specs.Flags.{static_flag, final_flag}
use Rattle.jc_facts.specs.KeyOrder.{key_cmp}
use Rattle.jc_facts.specs.Names.{Bytes, same_key}
use Rattle.jc_promises.specs.rule.Notes.{NoteStands, in_release, has_lost_constant}
use Rattle.jc_facts.specs.Records.{same_constant}
use Rattle.jc_facts.specs.Orders.{noted_class}
use Rattle.jc_facts.specs.Options.{and_then, some_and, some_where}
use Rattle.jc_promises.specs.rule.Bases.{is_kept}
use Rattle.jc_facts.specs.world.World.{World, class_named, find_class}
use Rattle.jc_sides.specs.Rules.{IsOf}
use Rattle.jc_sides.specs.SidesOf.{SidesOf}

-- ---- classes that don't load

-- the note on a class of the release that doesn't load
abbrev pub unloadable : World → Bool → Bytes → Option Note
unloadable W old x = cond (is_some (class_named W.platform x)) None (and_then (λ e. Some (note.Unloadable old x e)) (load_fault W x))

-- a note of this side, on a class of its release with its fault
abbrev pub NoteIn : World → Bool → Note → Type 0
NoteIn W old (note.Unloadable b x e) = (b ≡ old) × (IsTrue (is_some (in_release W x))) × (load_fault W x ≡ Some e)
NoteIn W old (note.Fixed x k) = ⊥

-- the note is that a class doesn't load
abbrev pub IsUnloadable : Note → Type 0
IsUnloadable (note.Unloadable old x e) = Unit {0}
IsUnloadable (note.Fixed x k) = ⊥

-- ---- constants

-- the constant field of the key
abbrev pub fixed_at : ClassFacts → Key → Option Fixed
fixed_at c k = first_where (λ (f : Fixed). same_key f.key k) c.constants

-- the map has the constant fields of the record by their keys
abbrev pub HasConstants : ClassFacts → tree.BTreeMap Key (Bor Fixed) → Type 0
HasConstants c map = (k : Key) → option_map (λ f. f.now) (tree.get key_cmp map k) ≡ fixed_at c k

-- the map has those of the class of this name
abbrev pub AreConstants : World → Bytes → tree.BTreeMap Key (Bor Fixed) → Type 0
AreConstants W x map = (c : ClassFacts) → find_class W x ≡ Some c → HasConstants c map

-- the constant value that the map has of the key
abbrev pub value_in : tree.BTreeMap Key (Bor Fixed) → Key → Option Constant
value_in map k = and_then (λ f. Some f.value) (option_map (λ f. f.now) (tree.get key_cmp map k))

-- the first map has a constant value of the key, and the second has none or another
abbrev pub changed_in : tree.BTreeMap Key (Bor Fixed) → tree.BTreeMap Key (Bor Fixed) → Key → Bool
changed_in was now k = some_and (λ v. not (some_and (same_constant v) (value_in now k))) (value_in was k)

-- the flags are those of a static final field
abbrev pub static_final_flags : ℕ → Bool
static_final_flags f = static_flag f && final_flag f

-- the class is kept, and is of both releases
abbrev pub is_in_both : SidesOf → Bytes → Bool
is_in_both s x = is_kept s.old s.new x && is_some (in_release s.old x) && is_some (in_release s.new x)

-- the class is kept and of both releases, and loses the constant of the key
abbrev pub loses : SidesOf → Bytes → Key → Bool
loses s x k = is_kept s.old s.new x && some_and (λ c. some_and (λ d. has_lost_constant c d k) (in_release s.new x)) (in_release s.old x)

-- the note on the class and the key
abbrev pub constant_note : SidesOf → Bytes → Key → Option Note
constant_note s x k = some_where (loses s x k) (note.Fixed x k)

-- the note is on a constant
abbrev pub IsFixed : Note → Type 0
IsFixed (note.Unloadable old x e) = ⊥
IsFixed (note.Fixed x k) = Unit {0}

-- a note on a constant, of these sides
abbrev pub IsConstantNote : SidesOf → Note → Type 0
IsConstantNote s n = IsFixed n × NoteStands s.old s.new n

-- such a note on the class x
abbrev pub OnConstants : SidesOf → Bytes → Note → Type 0
OnConstants s x n = IsOf noted_class (IsConstantNote s) x n
