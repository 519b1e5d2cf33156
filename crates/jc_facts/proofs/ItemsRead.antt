-- The items of a class file are those of its methods, which stand where the grammar says.
use Rattle.std.proofs.Common.{◌≡◌, ℕ, suc, ◌*◌, Bool, true, false, cond, ◌&&◌, List, [], ◌∷◌, ◌++◌, length, Option, Some, None, Result, Ok, refl, sym, ap, ◌∙◌, arith, append_assoc}
use Rattle.std.specs.Prelude.{codes, nat_le}
use Rattle.std.proofs.lemmas.List.{length-append}
use Rattle.jc_desc.specs.declared.fault.Fault.{Fault}
use Rattle.jc_desc.specs.Pool.{PoolOf}
use Rattle.jc_desc.proofs.Parts.{part_again}
use Rattle.jc_desc.proofs.Pools.{pool_again}
use Rattle.jc_facts.specs.declared.class_facts.ClassFacts.{ClassFacts}
use Rattle.jc_facts.specs.Names.{Bytes}
use Rattle.jc_facts.specs.file.Attributes.{list_at, counted_at, skipped_from}
use Rattle.jc_facts.specs.file.ClassParts.{Attribute, ReadMember}
use Rattle.jc_facts.specs.file.ClassGrammar.{IsNumberAt, AreItems, AreCounted, IsClassAt, IsAttributeAt, IsMemberAt, IsClassFile}
use Rattle.jc_facts.specs.file.ClassSteps.{has_this_name}
use Rattle.jc_facts.specs.file.ClassRests.{skipped_interfaces_at, skipped_member_from}
use Rattle.jc_facts.specs.code.ClientItems.{take_boots, boots_of, methods_items, items}
use Rattle.jc_facts.specs.Options.{or_else}
use Rattle.jc_facts.specs.file.Refusals.{◌>>=◌}
use Rattle.jc_facts.proofs.Front.{number_read}
use Rattle.jc_facts.proofs.AttributeLists.{taken, counted_attributes_read}
use Rattle.jc_facts.proofs.ClassIndices.{head_read}

-- ---- what is passed over

abbrev Passes : {B : Type 0} → (Bytes → Result (B × Bytes) Fault) → Bytes → Bytes → Type 0
Passes {B} item bytes rest = (x : B) × (item bytes ≡ Ok (x, rest))

list_passes : {A B : Type 0} (R : Bytes → A → Bytes → Type 0) (item : Bytes → Result (B × Bytes) Fault) → ((bs : Bytes) (y : A) (rest : Bytes) → R bs y rest → Passes item bs rest)
    → (bytes : Bytes) (xs : List A) (rest : Bytes) → AreItems R bytes xs rest → Passes (list_at item (length xs)) bytes rest
unfolding list_at
list_passes {A} {B} R item each bytes [] rest h = ([], ap (λ (bs : Bytes). Ok ([], bs)) h)
list_passes {A} {B} R item each bytes (x ∷ xs) rest h =
    let one = each bytes x h.0 h.1 in
    let others = list_passes R item each h.0 xs rest h.2 in
    (one.0 ∷ others.0, rw (one.1, others.1) refl)

counted_passes : {A B : Type 0} (R : Bytes → A → Bytes → Type 0) (item : Bytes → Result (B × Bytes) Fault) → ((bs : Bytes) (y : A) (rest : Bytes) → R bs y rest → Passes item bs rest)
    → (bytes : Bytes) (xs : List A) (rest : Bytes) → AreCounted R bytes xs rest → Passes (counted_at item) bytes rest
unfolding counted_at
counted_passes {A} {B} R item each bytes xs rest h =
    let l = list_passes R item each h.after_count xs rest h.items_are in
    (l.0, rw (number_read 2 bytes (length xs) h.after_count h.count_is, l.1) refl)

attribute_passes : (pool : PoolOf) (bs : Bytes) (a : Attribute) (rest : Bytes) → IsAttributeAt pool bs a rest → Passes skipped_from bs rest
unfolding skipped_from
attribute_passes pool bs a rest h = (a.body, rw (number_read 2 bs h.index h.after_index h.index_is, number_read 4 h.after_index (length a.body) h.after_length h.length_is, h.whole, part_again (length a.body) a.body rest refl) refl)

-- three numbers of two bytes
six_bytes : (bytes one two three : Bytes) (x y z : ℕ) (a : IsNumberAt 2 bytes x one) (b : IsNumberAt 2 one y two) → (c : IsNumberAt 2 two z three) → (six : Bytes) × (length six ≡ 6) × (bytes ≡ six ++ three)
six_bytes bytes one two three x y z a b c =
    let p = length-append a.piece (b.piece ++ c.piece) in
    let q = length-append b.piece c.piece in (
      a.piece ++ (b.piece ++ c.piece),
      omega (arith, p, q, a.value_is.size, b.value_is.size, c.value_is.size),
      a.whole ∙ ap (λ (bs : Bytes). a.piece ++ bs) (b.whole ∙ ap (λ (bs : Bytes). b.piece ++ bs) c.whole)
          ∙ ap (λ (bs : Bytes). a.piece ++ bs) (sym (append_assoc b.piece c.piece three)) ∙ sym (append_assoc a.piece (b.piece ++ c.piece) three),
    )

six_passes : (six after rest : Bytes) → length six ≡ 6 → Passes (counted_at skipped_from) after rest → skipped_member_from (six ++ after) ≡ Ok (six, rest)
unfolding skipped_member_from
six_passes six after rest e a = rw (part_again 6 six after e, a.1) refl

member_passes : (method : Bool) (pool : PoolOf) (class : ℕ) (bs : Bytes) (r : ReadMember) (rest : Bytes) → IsMemberAt method pool class bs r rest → Passes skipped_member_from bs rest
member_passes method pool class bs r rest h =
    let s = six_bytes bs h.after_flags h.after_name h.after_descriptor r.member.flags h.name h.descriptor h.flags_is h.name_is h.descriptor_is in
    let a = counted_passes (IsAttributeAt pool) skipped_from (attribute_passes pool) h.after_descriptor h.attributes rest h.attributes_are in
    (s.0, ap (λ (x : Bytes). skipped_member_from x) s.2 ∙ six_passes s.0 h.after_descriptor rest s.1 a)

indices_pass : (pool : PoolOf) (bytes : Bytes) (xs : List Bytes) (rest : Bytes) → AreItems (IsClassAt pool) bytes xs rest → (all : Bytes) × (length all ≡ 2 * length xs) × (bytes ≡ all ++ rest)
indices_pass pool bytes [] rest h = ([], refl, h)
indices_pass pool bytes (x ∷ xs) rest h =
    let o = indices_pass pool h.0 xs rest h.2 in
    let i = h.1.index_is in
    let p = length-append i.piece o.0 in
    let size : length (i.piece ++ o.0) ≡ 2 * suc (length xs) = omega (arith, p, i.value_is.size, o.1) in
    (i.piece ++ o.0, size, i.whole ∙ ap (λ (bs : Bytes). i.piece ++ bs) o.2 ∙ sym (append_assoc i.piece o.0 rest))

interfaces_pass : (pool : PoolOf) (bytes : Bytes) (xs : List Bytes) (rest : Bytes) → AreCounted (IsClassAt pool) bytes xs rest → skipped_interfaces_at bytes ≡ Ok rest
unfolding skipped_interfaces_at
interfaces_pass pool bytes xs rest h =
    let p = indices_pass pool h.after_count xs rest h.items_are in
    rw (number_read 2 bytes (length xs) h.after_count h.count_is, p.2, part_again (2 * length xs) p.0 rest p.1) refl

-- ---- the bootstrap rows

take_one : (pool : PoolOf) (found : Option Bytes) (a : Attribute) → (next : Option Bytes) × (take_boots pool found a ≡ Some next)
unfolding take_boots
take_one pool found a = (cond (nat_le 51 pool.major && has_this_name a (codes "BootstrapMethods")) (or_else found (Some a.body)) found, refl)

pub boots_taken : (pool : PoolOf) (found : Option Bytes) (ats : List Attribute) → (all : Option Bytes) × (taken (take_boots pool) found ats ≡ Some all)
boots_taken pool found [] = (found, refl)
boots_taken pool found (a ∷ ats) = let one = take_one pool found a in let others = boots_taken pool one.0 ats in (others.0, rw one.1 others.1)

-- ---- the whole file

pub items_read : (bytes : Bytes) (c : ClassFacts) (h : IsClassFile bytes c) (boots : Option Bytes) → taken (take_boots h.pool) None h.attributes ≡ Some boots
    → items bytes ≡ (methods_items h.pool h.head (boots_of boots) (length h.methods) h.methods_are.members_are.after_count >>= λ all. Ok all.0)
unfolding items
items_read bytes c h boots t =
    let f = counted_passes (IsMemberAt false h.pool h.head.flags) skipped_member_from (member_passes false h.pool h.head.flags) h.after_interfaces h.fields h.after_fields h.fields_are.members_are in
    let m = counted_passes (IsMemberAt true h.pool h.head.flags) skipped_member_from (member_passes true h.pool h.head.flags) h.after_fields h.methods h.after_methods h.methods_are.members_are in
    rw (
      pool_again bytes h.pool h.after_pool h.pool_is,
      head_read h.pool h.after_pool h.head h.after_head h.head_is,
      interfaces_pass h.pool h.after_head h.interfaces h.after_interfaces h.interfaces_are,
      f.1,
      m.1,
      counted_attributes_read (take_boots h.pool) h.pool None boots h.after_methods h.attributes [] h.attributes_are t,
      number_read 2 h.after_fields (length h.methods) h.methods_are.members_are.after_count h.methods_are.members_are.count_is,
    ) refl
