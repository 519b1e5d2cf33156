-- A record that is read is valid.
use Rattle.std.proofs.Common.{◌≡◌, ℕ, Bool, true, false, not, ◌&&◌, ◌||◌, List, [], ◌∷◌, Option, Some, None, inl, inr, refl, sym, subst, ◌∙◌, nat_eq, arith}
use Rattle.std.specs.List.{list_all}
use Rattle.std.specs.Prelude.{nat_le}
use Rattle.std.proofs.lemmas.Bool.{eqb-true, and_from}
use Rattle.jc_desc.specs.Names.{spells_class_name, spells_member_name}
use Rattle.jc_desc.specs.Utf8.{is_modified_utf8}
use Rattle.jc_desc.specs.Pool.{Slot, PoolOf, slot_of_index, first_of, holds_tag, text_in, refers_rightly, names_array, describes_field}
use Rattle.jc_desc.specs.PoolAnswers.{constant_of, word_from, double_word_from, ConstantOf, int, float, long, double, text}
use Rattle.jc_desc.specs.PoolGrammar.{IsPool, IsLinked}
use Rattle.jc_desc.proofs.Sound.{class_sound, utf8_sound, linked_at, pool_texts}
use Rattle.jc_desc.proofs.Grammar.{chosen}
use Rattle.jc_facts.specs.declared.class_facts.ClassFacts.{ClassFacts}
use Rattle.jc_facts.specs.declared.class_facts.Member.{Member}
use Rattle.jc_facts.specs.declared.class_facts.Constant.{Constant}
use Rattle.jc_facts.specs.Flags.{interface_flag}
use Rattle.jc_facts.specs.Names.{Bytes}
use Rattle.jc_facts.specs.file.Rules.{is_object_name, implies, member_descriptor_fits, member_flags_fit}
use Rattle.jc_facts.specs.file.Valid.{is_valid_name, superclass_is_valid, permits_are_valid, nest_host_is_valid, nest_members_are_valid, value_is_valid}
use Rattle.jc_facts.specs.file.Attributes.{is_array_name, constant_from}
use Rattle.jc_facts.specs.file.ClassParts.{Attribute, ReadMember, members_of, or_empty}
use Rattle.jc_facts.specs.file.ClassGrammar.{AreItems, AreCounted, NamesClass, IsClassAt, IsSuperclass, IsMemberAt, named, SayOnce, AreClasses, IsHost, IsSignature, IsConstantValue}

-- ---- names of classes

no_bracket : (name : Bytes) → (spells_class_name name || names_array name) ≡ true → is_array_name name ≡ false → spells_class_name name ≡ true
no_bracket [] h b = h
no_bracket (c ∷ cs) h b = go (spells_class_name (c ∷ cs)) (nat_eq c 91) (describes_field (c ∷ cs)) h b where
  go : (x y z : Bool) → (x || (y && z)) ≡ true → y ≡ false → x ≡ true
  go true y z h b = refl
  go false true z h b = absurd cc
  go false false z h b = absurd cc

pub class_name : (file after : Bytes) (pool : PoolOf) (i : ℕ) (name : Bytes) → IsPool file pool after → NamesClass pool i name → is_valid_name name ≡ true
class_name file after pool i name h n =
    let s = class_sound file pool after i name h n.class_is in
    and_from (spells_class_name name) (is_modified_utf8 name) (no_bracket name s.1 n.no_array) s.0

-- what holds of each item in front holds of the list
pub all_items : {A : Type 0} (R : Bytes → A → Bytes → Type 0) (p : A → Bool) → ((bs : Bytes) (y : A) (rest : Bytes) → R bs y rest → p y ≡ true) → (bytes : Bytes) (xs : List A) (rest : Bytes) → AreItems R bytes xs rest → list_all p xs ≡ true
all_items {A} R p each bytes [] rest h = refl
all_items {A} R p each bytes (x ∷ xs) rest h = and_from (p x) (list_all p xs) (each bytes x h.0 h.1) (all_items R p each h.0 xs rest h.2)

pub class_names : (file after : Bytes) (pool : PoolOf) (bytes : Bytes) (names : List Bytes) (rest : Bytes) → IsPool file pool after → AreCounted (IsClassAt pool) bytes names rest → list_all is_valid_name names ≡ true
class_names file after pool bytes names rest h a = all_items (IsClassAt pool) is_valid_name (λ bs y r c. class_name file after pool c.index y h c.names) a.after_count names rest a.items_are

-- the superclass, in a class that is java/lang/Object or not, an interface or not
abbrev pub super_fits : Bool → Bool → Option Bytes → Bool
super_fits object interface None = object
super_fits object interface (Some s) = is_valid_name s && not object && implies interface (is_object_name s)

pub superclass_fits : (file after : Bytes) (pool : PoolOf) (object interface : Bool) (i : ℕ) (x : Option Bytes) → IsPool file pool after → IsSuperclass pool object interface i x → super_fits object interface x ≡ true
superclass_fits file after pool object interface i None h s = s.1
superclass_fits file after pool object interface i (Some n) h s = rw (class_name file after pool i n h s.2, s.1, s.3) refl

-- the same of a record
pub superclass_is : (c : ClassFacts) (x : Option Bytes) → super_fits (is_object_name c.name) (interface_flag c.flags) x ≡ true → superclass_is_valid c x ≡ true
superclass_is c None h = h
superclass_is c (Some s) h = h

-- ---- members

abbrev pub member_valid : Bool → ℕ → ℕ → Member → Bool
member_valid method major class m = spells_member_name m.name method && is_modified_utf8 m.name && member_descriptor_fits method m.name m.flags m.descriptor && is_modified_utf8 m.descriptor && member_flags_fit method major class m.name m.flags

member_is : (file after : Bytes) (method : Bool) (pool : PoolOf) (class : ℕ) (bytes : Bytes) (r : ReadMember) (rest : Bytes) → IsPool file pool after → IsMemberAt method pool class bytes r rest → member_valid method pool.major class r.member ≡ true
member_is file after method pool class bytes r rest h m =
    rw (m.name_fits, utf8_sound file pool after m.name r.member.name h m.name_text, m.descriptor_fits, utf8_sound file pool after m.descriptor r.member.descriptor h m.descriptor_text, m.flags_fit) refl

and_under : (a x y : Bool) → (x ≡ true → y ≡ true) → (a && x) ≡ true → (a && y) ≡ true
and_under true x y f h = f h
and_under false x y f h = absurd cc

all_members : (p : Member → Bool) (rs : List ReadMember) → list_all (λ r. p r.member) rs ≡ true → list_all p (members_of rs) ≡ true
all_members p [] h = refl
all_members p (r ∷ rs) h = and_under (p r.member) (list_all (λ r. p r.member) rs) (list_all p (members_of rs)) (all_members p rs) h

pub members_are : (file after : Bytes) (method : Bool) (pool : PoolOf) (class : ℕ) (bytes : Bytes) (rs : List ReadMember) (rest : Bytes) → IsPool file pool after → AreItems (IsMemberAt method pool class) bytes rs rest
    → list_all (member_valid method pool.major class) (members_of rs) ≡ true
members_are file after method pool class bytes rs rest h a =
    all_members (member_valid method pool.major class) rs (all_items (IsMemberAt method pool class) (λ r. member_valid method pool.major class r.member) (λ bs y r m. member_is file after method pool class bs y r h m) bytes rs rest a)

-- ---- what attributes say

-- what is said was read, and its contents have the form
said_read : {A : Type 0} (F : Bytes → A → Type 0) (read : Bool) (name : Bytes) (ats : List Attribute) (x : A) → SayOnce F (named read name ats) (Some x) → read ≡ true
said_read {A} F false name ats x h = absurd h
said_read {A} F true name ats x h = refl

say_form : {A : Type 0} (F : Bytes → A → Type 0) (ats : List Attribute) (x : A) → SayOnce F ats (Some x) → (body : Bytes) × F body x
say_form {A} F [] x h = absurd h
say_form {A} F (a ∷ []) x h = (a.body, h)
say_form {A} F (a ∷ b ∷ bs) x h = absurd h

pub permits_are : (file after : Bytes) (pool : PoolOf) (name : Bytes) (ats : List Attribute) (x : Option (List Bytes)) → IsPool file pool after → SayOnce (AreClasses pool) (named (nat_le 61 pool.major) name ats) x → permits_are_valid pool.major x ≡ true
permits_are file after pool name ats None h s = refl
permits_are file after pool name ats (Some names) h s =
    let k = say_form (AreClasses pool) (named (nat_le 61 pool.major) name ats) names s in
    and_from (nat_le 61 pool.major) (list_all is_valid_name names) (said_read (AreClasses pool) (nat_le 61 pool.major) name ats names s) (class_names file after pool k.0 names [] h k.1)

pub host_is : (file after : Bytes) (pool : PoolOf) (name : Bytes) (ats : List Attribute) (x : Option Bytes) → IsPool file pool after → SayOnce (IsHost pool) (named (nat_le 55 pool.major) name ats) x → nest_host_is_valid pool.major x ≡ true
host_is file after pool name ats None h s = refl
host_is file after pool name ats (Some n) h s =
    let k = say_form (IsHost pool) (named (nat_le 55 pool.major) name ats) n s in
    and_from (nat_le 55 pool.major) (is_valid_name n) (said_read (IsHost pool) (nat_le 55 pool.major) name ats n s) (class_name file after pool k.1.index n h k.1.names)

members_late : (major : ℕ) (names : List Bytes) → nat_le 55 major ≡ true → list_all is_valid_name names ≡ true → nest_members_are_valid major names ≡ true
members_late major [] l h = refl
members_late major (n ∷ ns) l h = and_from (nat_le 55 major) (list_all is_valid_name (n ∷ ns)) l h

pub nest_members_are : (file after : Bytes) (pool : PoolOf) (name : Bytes) (ats : List Attribute) (x : Option (List Bytes)) → IsPool file pool after → SayOnce (AreClasses pool) (named (nat_le 55 pool.major) name ats) x → nest_members_are_valid pool.major (or_empty x) ≡ true
nest_members_are file after pool name ats None h s = refl
nest_members_are file after pool name ats (Some names) h s =
    let k = say_form (AreClasses pool) (named (nat_le 55 pool.major) name ats) names s in
    members_late pool.major names (said_read (AreClasses pool) (nat_le 55 pool.major) name ats names s) (class_names file after pool k.0 names [] h k.1)

abbrev pub signature_ok : Option Bytes → Bool
signature_ok None = true
signature_ok (Some t) = is_modified_utf8 t

pub signature_text : (file after : Bytes) (pool : PoolOf) (read : Bool) (name : Bytes) (ats : List Attribute) (x : Option Bytes) → IsPool file pool after → SayOnce (IsSignature pool) (named read name ats) x → signature_ok x ≡ true
signature_text file after pool read name ats None h s = refl
signature_text file after pool read name ats (Some t) h s =
    let k = say_form (IsSignature pool) (named read name ats) t s in
    utf8_sound file pool after k.1.index t h k.1.text_is

-- ---- the texts of constants

-- the test of a constant that a pool holds
abbrev entry_ok : ConstantOf → Bool
entry_ok (int n) = true
entry_ok (float n) = true
entry_ok (long n) = true
entry_ok (double n) = true
entry_ok (text t) = is_modified_utf8 t

value_ok : (c : ConstantOf) → entry_ok c ≡ true → value_is_valid (constant_from c) ≡ true
value_ok (int n) h = refl
value_ok (float n) h = refl
value_ok (long n) h = refl
value_ok (double n) h = refl
value_ok (text t) h = h

entry_of : (slots : List Slot) (s : Slot) (c : ConstantOf) → (s.tag ≡ 8 → is_modified_utf8 (text_in slots s) ≡ true) → constant_of slots s ≡ Some c → entry_ok c ≡ true
entry_of slots s c h e = elim (chosen (nat_eq s.tag 3) _ _ _ e) [
  | inl a ↦ (let q : int (word_from s.body) ≡ c = (let g = a.1 in cc) in subst (λ (d : ConstantOf). entry_ok d ≡ true) q refl)
  | inr a ↦ elim (chosen (nat_eq s.tag 4) _ _ _ a.1) [
    | inl b ↦ (let q : float (word_from s.body) ≡ c = (let g = b.1 in cc) in subst (λ (d : ConstantOf). entry_ok d ≡ true) q refl)
    | inr b ↦ elim (chosen (nat_eq s.tag 5) _ _ _ b.1) [
      | inl d ↦ (let q : long (double_word_from s.body) ≡ c = (let g = d.1 in cc) in subst (λ (d : ConstantOf). entry_ok d ≡ true) q refl)
      | inr d ↦ elim (chosen (nat_eq s.tag 6) _ _ _ d.1) [
        | inl f ↦ (let q : double (double_word_from s.body) ≡ c = (let g = f.1 in cc) in subst (λ (d : ConstantOf). entry_ok d ≡ true) q refl)
        | inr f ↦ elim (chosen (nat_eq s.tag 8) _ _ _ f.1) [
          | inl g ↦ (let q : text (text_in slots s) ≡ c = (let k = g.1 in cc) in subst (λ (d : ConstantOf). entry_ok d ≡ true) q (h (eqb-true s.tag 8 g.0)))
          | inr g ↦ absurd (let k : None ≡ Some c = g.1 in cc)
        ]
      ]
    ]
  ]
]

-- the text of a String in a pool that is read
string_text : (file after : Bytes) (pool : PoolOf) (i : ℕ) → IsPool file pool after → (slot_of_index pool.slots i).tag ≡ 8 → is_modified_utf8 (text_in pool.slots (slot_of_index pool.slots i)) ≡ true
unfolding refers_rightly
string_text file after pool i h eight =
    let s : Slot = slot_of_index pool.slots i in
    let linked : IsLinked pool.slots s = linked_at file pool after h i (λ z. let q : 8 ≡ 0 = sym eight ∙ z in absurd (omega arith)) in
    let utf8 : holds_tag pool.slots 1 (first_of s) ≡ true = rw eight at linked.refers_well in
    pool_texts file pool after h (first_of s) (eqb-true (slot_of_index pool.slots (first_of s)).tag 1 utf8)

abbrev pub constant_ok : Option Constant → Bool
constant_ok None = true
constant_ok (Some c) = value_is_valid c

pub constant_text : (file after : Bytes) (pool : PoolOf) (read : Bool) (name : Bytes) (ats : List Attribute) (x : Option Constant) → IsPool file pool after → SayOnce (IsConstantValue pool) (named read name ats) x → constant_ok x ≡ true
constant_text file after pool read name ats None h s = refl
constant_text file after pool read name ats (Some c) h s =
    let k = (say_form (IsConstantValue pool) (named read name ats) c s).1 in
    let good : entry_ok k.entry ≡ true = entry_of pool.slots (slot_of_index pool.slots k.index) k.entry (string_text file after pool k.index h) k.entry_is in
    subst (λ (d : Constant). value_is_valid d ≡ true) (sym k.value_is) (value_ok k.entry good)
