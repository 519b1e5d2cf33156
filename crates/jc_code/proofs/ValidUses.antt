-- What the pool entry of each instruction gives is what a valid client may have.
use Rattle.std.proofs.Common.{◌≡◌, ℕ, zero, suc, ◌-◌, ◌/◌, Bool, true, false, cond, not, ◌||◌, ◌&&◌, List, [], ◌∷◌, ◌++◌, length, drop, nat_eq, Option, Some, None, Result, Ok, Err, ◌⊎◌, inl, inr, refl, subst}
use Rattle.std.specs.Prelude.{slice_get}
use Rattle.std.proofs.lemmas.Bool.{eqb-true, and_parts, not-true}
use Rattle.jc_desc.proofs.Sound.{some_if_is}
use Rattle.jc_desc.specs.Names.{is_init_name, is_clinit_name}
use Rattle.jc_desc.specs.Pool.{PoolOf, fits_handle, names_for_handle, short_from}
use Rattle.jc_desc.specs.PoolAnswers.{MemberRefOf, HandleRefOf, some_if, class_in, member_ref_in, handle_in, dynamic_in}
use Rattle.jc_facts.specs.declared.act.Act.{Act}
use Rattle.jc_facts.specs.declared.act.Act.TheVariants as act
use Rattle.jc_facts.specs.declared.class_facts.ClassFacts.{ClassFacts}
use Rattle.jc_facts.specs.declared.client.Item.{Item}
use Rattle.jc_facts.specs.declared.client.Item.TheVariants as item
use Rattle.jc_facts.specs.declared.client.Place.{Place}
use Rattle.jc_facts.specs.declared.client.Place.TheVariants as place
use Rattle.jc_facts.specs.declared.code_fault.CodeFault.{CodeFault}
use Rattle.jc_facts.specs.declared.code_fault.CodeReason.TheVariants as reasons
use Rattle.jc_facts.specs.Names.{Bytes}
use Rattle.jc_facts.specs.client.Valid.{is_item_of}
use Rattle.jc_facts.specs.file.Attributes.{BootstrapOf, ◌|>>◌}
use Rattle.jc_facts.specs.code.Code.{Around, access, of_member, is_interface_ref, is_own, member_at, plain_member, place_of, either, handle_item, handle_items, class_item, argument_items, arguments_items, row_items, boot_items, dynamic_items, virtual_use, special_item, special_use, static_use, used, holds_tag, caught, catches_at}
use Rattle.jc_facts.specs.file.Refusals.{◌>>=◌, want}
use Rattle.jc_pool.specs.Law.{IsSoundMember, IsSoundHandle}
use Rattle.jc_code.proofs.Validity.{Good, Suits, joined, one, GoodOption, GoodResult, member_good, field_good, plain_good, own_good, Sound, used_clinit, used_interface, pick, given, member_is, named_good, field_use_good, interface_use_good}
use Rattle.jc_facts.proofs.Options.{some_then}

-- ---- members that are methods

abbrev pub IsMethodTag : ℕ → Type 0
IsMethodTag t = (t ≡ 10) ⊎ (t ≡ 11)

either_tag : (t : ℕ) → (nat_eq t 10 || nat_eq t 11) ≡ true → IsMethodTag t
either_tag t h = go (nat_eq t 10) refl h where
  go : (b : Bool) → nat_eq t 10 ≡ b → (b || nat_eq t 11) ≡ true → IsMethodTag t
  go true e k = inl (eqb-true t 10 e)
  go false e k = inr (eqb-true t 11 k)

no_clinit : (m : MemberRefOf) → IsSoundMember m → IsMethodTag m.tag → is_clinit_name m.name ≡ false
no_clinit m s (inl t) = used_clinit false m.name m.descriptor (s.method t)
no_clinit m s (inr t) = used_clinit true m.name m.descriptor (s.interface_method t)

no_init : (m : MemberRefOf) → IsSoundMember m → IsMethodTag m.tag → not (nat_eq m.tag 10 && is_init_name m.name) ≡ true → is_init_name m.name ≡ false
no_init m s (inl t) h = not-true (is_init_name m.name) (subst (λ (k : ℕ). not (nat_eq k 10 && is_init_name m.name) ≡ true) t h)
no_init m s (inr t) h = used_interface m.name m.descriptor (s.interface_method t)

-- a method that is no initializer
pub record IsPlain (m : MemberRefOf) : Type 0 where
  pub init : is_init_name m.name ≡ false
  pub clinit : is_clinit_name m.name ≡ false

same_or : (b : Bool) → (b || b) ≡ true → b ≡ true
same_or true h = refl
same_or false h = h

pub method_is : (pool : PoolOf) (i : ℕ) (m : MemberRefOf) → Sound pool → member_at pool 10 11 i ≡ Some m → (member_ref_in pool i ≡ Some m) × IsMethodTag m.tag
method_is pool i m s e = let k = member_is pool 10 11 i m e in (k.0, either_tag m.tag k.1)

pub plain_is : (pool : PoolOf) (i : ℕ) (m : MemberRefOf) → Sound pool → plain_member pool 10 11 i ≡ Some m → (member_ref_in pool i ≡ Some m) × IsPlain m
plain_is pool i m s e =
    let b = some_then (member_at pool 10 11 i) (λ (x : MemberRefOf). some_if (not (nat_eq x.tag 10 && is_init_name x.name)) x) m e in
    let p = some_if_is (not (nat_eq b.0.tag 10 && is_init_name b.0.name)) b.0 m b.2 in
    let k = method_is pool i b.0 s b.1 in
    let w = s.members i b.0 k.0 in
    subst (λ (x : MemberRefOf). (member_ref_in pool i ≡ Some x) × IsPlain x) p.1 (k.0, record { init = no_init b.0 w k.1 p.0; clinit = no_clinit b.0 w k.1 })

pub virtual_is : (pool : PoolOf) (i : ℕ) (m : MemberRefOf) → Sound pool → plain_member pool 10 10 i ≡ Some m → (member_ref_in pool i ≡ Some m) × IsPlain m
virtual_is pool i m s e =
    let b = some_then (member_at pool 10 10 i) (λ (x : MemberRefOf). some_if (not (nat_eq x.tag 10 && is_init_name x.name)) x) m e in
    let p = some_if_is (not (nat_eq b.0.tag 10 && is_init_name b.0.name)) b.0 m b.2 in
    let k = member_is pool 10 10 i b.0 b.1 in
    let t : IsMethodTag b.0.tag = inl (eqb-true b.0.tag 10 (same_or (nat_eq b.0.tag 10) k.1)) in
    let w = s.members i b.0 k.0 in
    subst (λ (x : MemberRefOf). (member_ref_in pool i ≡ Some x) × IsPlain x) p.1 (k.0, record { init = no_init b.0 w t p.0; clinit = no_clinit b.0 w t })

pub interface_is : (pool : PoolOf) (i : ℕ) (m : MemberRefOf) → Sound pool → member_at pool 11 11 i ≡ Some m → (member_ref_in pool i ≡ Some m) × IsPlain m
interface_is pool i m s e =
    let k = member_is pool 11 11 i m e in
    let t = eqb-true m.tag 11 (same_or (nat_eq m.tag 11) k.1) in
    let w = (s.members i m k.0).interface_method t in
    (k.0, record { init = used_interface m.name m.descriptor w; clinit = used_clinit true m.name m.descriptor w })

pub special_is : (pool : PoolOf) (i : ℕ) (m : MemberRefOf) → Sound pool → member_at pool 10 11 i ≡ Some m → (member_ref_in pool i ≡ Some m) × (is_clinit_name m.name ≡ false)
special_is pool i m s e = let k = method_is pool i m s e in (k.0, no_clinit m (s.members i m k.0) k.1)

plain_item : (c : ClassFacts) (what : Act) (m : MemberRefOf) (p : Place) → IsPlain m → is_item_of c (access what m p) ≡ true
plain_item c what m p h = plain_good c what m p h.init h.clinit

-- ---- uses

virtual_good : (c : ClassFacts) (a : Around) (i : ℕ) → Sound a.pool → GoodOption c (virtual_use a i)
virtual_good c a i s = given c (plain_member a.pool 10 10 i) (λ (m : MemberRefOf). access act.InvokeVirtual m (place_of a.name) ∷ []) (λ m e. one c (access act.InvokeVirtual m (place_of a.name)) (plain_item c act.InvokeVirtual m (place_of a.name) (virtual_is a.pool i m s e).1))

static_good : (c : ClassFacts) (a : Around) (i : ℕ) → Sound a.pool → GoodOption c (static_use a i)
static_good c a i s = given c (plain_member a.pool 10 11 i) (λ (m : MemberRefOf). access (either m act.InvokeStatic act.InvokeStaticInterface) m (place_of a.name) ∷ []) (λ m e. one c (access (either m act.InvokeStatic act.InvokeStaticInterface) m (place_of a.name)) (plain_item c (either m act.InvokeStatic act.InvokeStaticInterface) m (place_of a.name) (plain_is a.pool i m s e).1))

special_item_good : (c : ClassFacts) (a : Around) (m : MemberRefOf) → Suits c a → is_clinit_name m.name ≡ false → is_item_of c (special_item a m) ≡ true
special_item_good c a m s k = by_name (is_init_name m.name) refl where
  own : (b : Bool) → (is_init_name a.name && is_own a m.class) ≡ b → is_item_of c (cond b (item.Init m.class m.descriptor) (item.New m.class m.descriptor)) ≡ true
  own true e = own_good c a m.class m.descriptor s (and_parts (is_init_name a.name) (is_own a m.class) e).1
  own false e = refl

  by_name : (b : Bool) → is_init_name m.name ≡ b → is_item_of c (cond b (of_member m (cond (is_init_name a.name && is_own a m.class) (item.Init m.class m.descriptor) (item.New m.class m.descriptor))) (access (either m act.InvokeSpecial act.InvokeSpecialInterface) m (place_of a.name))) ≡ true
  by_name true e = member_good c m (cond (is_init_name a.name && is_own a m.class) (item.Init m.class m.descriptor) (item.New m.class m.descriptor)) (own (is_init_name a.name && is_own a m.class) refl)
  by_name false e = plain_good c (either m act.InvokeSpecial act.InvokeSpecialInterface) m (place_of a.name) e k

special_good : (c : ClassFacts) (a : Around) (i : ℕ) → Suits c a → Sound a.pool → GoodOption c (special_use a i)
special_good c a i u s = given c (member_at a.pool 10 11 i) (λ (m : MemberRefOf). special_item a m ∷ []) (λ m e. one c (special_item a m) (special_item_good c a m u (special_is a.pool i m s e).1))

-- ---- handles

choose : (c : ClassFacts) (b : Bool) (x y : Item) → (b ≡ true → is_item_of c x ≡ true) → (b ≡ false → is_item_of c y ≡ true) → is_item_of c (cond b x y) ≡ true
choose c true x y f g = f refl
choose c false x y f g = g refl

five : (h : HandleRefOf) → IsSoundHandle h → h.kind ≡ 5 → IsPlain h.member
five h s e =
    let f = subst (λ (k : ℕ). fits_handle k h.member.tag ≡ true) e s.fits in
    let n = subst (λ (k : ℕ). names_for_handle k h.member.name ≡ true) e s.names in
    record { init = not-true (is_init_name h.member.name) n; clinit = no_clinit h.member s.member_well (inl (eqb-true h.member.tag 10 f)) }

six : (h : HandleRefOf) → IsSoundHandle h → h.kind ≡ 6 → IsPlain h.member
six h s e =
    let f = subst (λ (k : ℕ). fits_handle k h.member.tag ≡ true) e s.fits in
    let n = subst (λ (k : ℕ). names_for_handle k h.member.name ≡ true) e s.names in
    record { init = not-true (is_init_name h.member.name) n; clinit = no_clinit h.member s.member_well (either_tag h.member.tag f) }

seven : (h : HandleRefOf) → IsSoundHandle h → h.kind ≡ 7 → IsPlain h.member
seven h s e =
    let f = subst (λ (k : ℕ). fits_handle k h.member.tag ≡ true) e s.fits in
    let n = subst (λ (k : ℕ). names_for_handle k h.member.name ≡ true) e s.names in
    record { init = not-true (is_init_name h.member.name) n; clinit = no_clinit h.member s.member_well (either_tag h.member.tag f) }

nine : (h : HandleRefOf) → IsSoundHandle h → nat_eq h.kind 1 ≡ false → nat_eq h.kind 2 ≡ false → nat_eq h.kind 3 ≡ false → nat_eq h.kind 4 ≡ false → nat_eq h.kind 5 ≡ false → nat_eq h.kind 6 ≡ false → nat_eq h.kind 7 ≡ false → nat_eq h.kind 8 ≡ false → IsPlain h.member
nine h s e1 e2 e3 e4 e5 e6 e7 e8 = by_nine (nat_eq h.kind 9) refl (rw (e1, e2, e3, e4, e5, e6, e7, e8) at s.fits) where
  by_nine : (b : Bool) → nat_eq h.kind 9 ≡ b → cond b (nat_eq h.member.tag 11) false ≡ true → IsPlain h.member
  by_nine false e f = absurd (let q : false ≡ true = f in cc)
  by_nine true e f =
      let n = subst (λ (k : ℕ). names_for_handle k h.member.name ≡ true) (eqb-true h.kind 9 e) s.names in
      record { init = not-true (is_init_name h.member.name) n; clinit = no_clinit h.member s.member_well (inr (eqb-true h.member.tag 11 f)) }

handle_good : (c : ClassFacts) (h : HandleRefOf) → IsSoundHandle h → is_item_of c (handle_item h) ≡ true
unfolding handle_item
handle_good c h s =
    choose c (nat_eq h.kind 1) _ _ (λ e. field_good c act.GetField h.member place.Other refl) (λ e1.
    choose c (nat_eq h.kind 2) _ _ (λ e. field_good c act.GetStatic h.member place.Other refl) (λ e2.
    choose c (nat_eq h.kind 3) _ _ (λ e. field_good c act.PutField h.member place.Other refl) (λ e3.
    choose c (nat_eq h.kind 4) _ _ (λ e. field_good c act.PutStatic h.member place.Other refl) (λ e4.
    choose c (nat_eq h.kind 5) _ _ (λ e. plain_item c act.InvokeVirtual h.member place.Other (five h s (eqb-true h.kind 5 e))) (λ e5.
    choose c (nat_eq h.kind 6) _ _ (λ e. plain_item c (cond (is_interface_ref h.member) act.InvokeStaticInterface act.InvokeStatic) h.member place.Other (six h s (eqb-true h.kind 6 e))) (λ e6.
    choose c (nat_eq h.kind 7) _ _ (λ e. plain_item c (cond (is_interface_ref h.member) act.InvokeSpecialInterface act.InvokeSpecial) h.member place.Other (seven h s (eqb-true h.kind 7 e))) (λ e7.
    choose c (nat_eq h.kind 8) _ _ (λ e. member_good c h.member (item.New h.member.class h.member.descriptor) refl) (λ e8.
    plain_item c act.InvokeInterface h.member place.Other (nine h s e1 e2 e3 e4 e5 e6 e7 e8)))))))))

handle_items_good : (c : ClassFacts) (pool : PoolOf) (i : ℕ) → Sound pool → Good c (handle_items (handle_in pool i))
handle_items_good c pool i s = go (handle_in pool i) refl where
  go : (o : Option HandleRefOf) → handle_in pool i ≡ o → Good c (handle_items o)
  go None e = refl
  go (Some h) e = one c (handle_item h) (handle_good c h (s.handles i h e))

class_item_good : (c : ClassFacts) (o : Option Bytes) → Good c (class_item o)
class_item_good c None = refl
class_item_good c (Some n) = refl

-- ---- bootstrap rows

pub follow : {A : Type 0} (c : ClassFacts) (o : Option A) (f : A → Option (List Item)) → ((x : A) → o ≡ Some x → GoodOption c (f x)) → GoodOption c (o |>> f)
follow {A} c None f g = tt
follow {A} c (Some x) f g = g x refl

pub some_good : (c : ClassFacts) (b : Bool) (xs : List Item) → Good c xs → GoodOption c (some_if b xs)
some_good c true xs g = g
some_good c false xs g = tt

pub join_good : (c : ClassFacts) (o : Option (List Item)) (xs : List Item) → Good c xs → GoodOption c o → GoodOption c (o |>> λ ys. Some (xs ++ ys))
join_good c None xs g h = tt
join_good c (Some ys) xs g h = joined c xs ys g h

both_entries : (c : ClassFacts) (pool : PoolOf) (i : ℕ) → Sound pool → Good c (class_item (class_in pool i) ++ handle_items (handle_in pool i))
both_entries c pool i s = joined c (class_item (class_in pool i)) (handle_items (handle_in pool i)) (class_item_good c (class_in pool i)) (handle_items_good c pool i s)

pub good_of : (c : ClassFacts) (o : Option (List Item)) (xs : List Item) → GoodOption c o → o ≡ Some xs → Good c xs
good_of c o xs g e = subst (λ (p : Option (List Item)). GoodOption c p) e g

arguments_good : (c : ClassFacts) (pool : PoolOf) (n : ℕ) (bytes : Bytes) → Sound pool → GoodOption c (arguments_items pool n bytes)
unfolding arguments_items
arguments_good c pool zero bytes s = refl
arguments_good c pool (suc n) bytes s = follow_on (arguments_good c pool n (drop 2 bytes) s) where
  follow_on : GoodOption c (arguments_items pool n (drop 2 bytes)) → GoodOption c (argument_items pool (short_from 0 bytes) |>> λ xs. arguments_items pool n (drop 2 bytes) |>> λ ys. Some (xs ++ ys))
  follow_on g = follow c (argument_items pool (short_from 0 bytes)) _ (λ xs e. join_good c (arguments_items pool n (drop 2 bytes)) xs (good_of c (argument_items pool (short_from 0 bytes)) xs (some_good c _ _ (both_entries c pool (short_from 0 bytes) s)) e) g)

row_good : (c : ClassFacts) (pool : PoolOf) (row : BootstrapOf) → Sound pool → GoodOption c (row_items pool row)
row_good c pool row s = follow c (handle_in pool row.handle) _ (λ h e. join_good c (arguments_items pool (length row.arguments / 2) row.arguments) (handle_item h ∷ []) (one c (handle_item h) (handle_good c h (s.handles row.handle h e))) (arguments_good c pool (length row.arguments / 2) row.arguments s))

boot_good : (c : ClassFacts) (pool : PoolOf) (boots : Option (List BootstrapOf)) (n : ℕ) → Sound pool → GoodOption c (boot_items pool boots n)
unfolding boot_items
boot_good c pool boots n s = follow c boots _ (λ rows e. follow c (slice_get rows n) _ (λ row d. row_good c pool row s))

dynamic_good : (c : ClassFacts) (a : Around) (i : ℕ) → Sound a.pool → GoodOption c (dynamic_items a i)
dynamic_good c a i s = follow c (dynamic_in a.pool i) _ (λ n e. boot_good c a.pool a.boots n s)

-- ---- all opcodes

pub used_good : (c : ClassFacts) (a : Around) (op i : ℕ) → Suits c a → Sound a.pool → GoodOption c (used a op i)
unfolding used
used_good c a op i u s =
    pick c (nat_eq op 187 || nat_eq op 189 || nat_eq op 192 || nat_eq op 193 || nat_eq op 197) _ _ (named_good c a.pool i)
    (pick c (nat_eq op 18 || nat_eq op 19) _ _ (pick c (holds_tag a.pool i 17) _ _ (dynamic_good c a i s) (some_good c _ _ (both_entries c a.pool i s)))
    (pick c (nat_eq op 20) _ _ (pick c (holds_tag a.pool i 17) _ _ (dynamic_good c a i s) (some_good c _ [] refl))
    (pick c (nat_eq op 178) _ _ (field_use_good c a act.GetStatic i refl)
    (pick c (nat_eq op 179) _ _ (field_use_good c a act.PutStatic i refl)
    (pick c (nat_eq op 180) _ _ (field_use_good c a act.GetField i refl)
    (pick c (nat_eq op 181) _ _ (field_use_good c a act.PutField i refl)
    (pick c (nat_eq op 182) _ _ (virtual_good c a i s)
    (pick c (nat_eq op 183) _ _ (special_good c a i u s)
    (pick c (nat_eq op 184) _ _ (static_good c a i s)
    (pick c (nat_eq op 185) _ _ (interface_use_good c a i s)
    (pick c (nat_eq op 186) _ _ (pick c (holds_tag a.pool i 18) _ _ (dynamic_good c a i s) tt) refl)))))))))))

-- ---- catch types

caught_good : (c : ClassFacts) (pool : PoolOf) (i : ℕ) → GoodOption c (caught pool i)
caught_good c pool i = pick c (nat_eq i 0) _ _ refl (named_good c pool i)

pub catches_good : (c : ClassFacts) (pool : PoolOf) (left n : ℕ) (bytes : Bytes) → GoodResult c (catches_at pool left n bytes)
unfolding catches_at
catches_good c pool left zero bytes = refl
catches_good c pool left (suc n) bytes = go (caught pool (short_from 6 bytes)) (caught_good c pool (short_from 6 bytes)) (catches_good c pool (left - 8) n (drop 8 bytes)) where
  more : (xs : List Item) (r : Result (List Item) CodeFault) → Good c xs → GoodResult c r → GoodResult c (r >>= λ ys. Ok (xs ++ ys))
  more xs (Err e) g h = tt
  more xs (Ok ys) g h = joined c xs ys g h

  go : (o : Option (List Item)) → GoodOption c o → GoodResult c (catches_at pool (left - 8) n (drop 8 bytes)) → GoodResult c (want o left reasons.BadEntry >>= λ xs. catches_at pool (left - 8) n (drop 8 bytes) >>= λ ys. Ok (xs ++ ys))
  go None g h = tt
  go (Some xs) g h = more xs (catches_at pool (left - 8) n (drop 8 bytes)) g h
