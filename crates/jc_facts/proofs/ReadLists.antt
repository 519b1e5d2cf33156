-- The constants and the signatures of a record that is read are valid, and so is the record.
use Rattle.std.proofs.Common.{◌≡◌, ℕ, ◌≤◌, Bool, true, false, cond, not, ◌&&◌, ◌||◌, List, [], ◌∷◌, ◌++◌, Option, Some, None, refl, sym, ap, subst, ◌∙◌, append_assoc, arith}
use Rattle.std.specs.List.{list_all}
use Rattle.std.specs.Prelude.{nat_le, codes, count_by, is_some, min}
use Rattle.std.proofs.lemmas.Bool.{le-leb, and_from, not-true, and_parts, or_right, or_left}
use Rattle.std.proofs.lemmas.List.{append-nil}
use Rattle.std.proofs.lemmas.List.Folds.{list_any-append, list_all-append}
use Rattle.std.proofs.lemmas.List.Sums.{sum_by-append}
use Rattle.jc_desc.specs.Utf8.{is_modified_utf8}
use Rattle.jc_desc.specs.Pool.{PoolOf}
use Rattle.jc_desc.specs.PoolGrammar.{IsPool}
use Rattle.jc_desc.specs.Reading.{◌>>=◌, field_of, method_of, slots_of_method}
use Rattle.jc_desc.specs.Types.{TypeOf, Method, slots_of}
use Rattle.jc_desc.proofs.Apart.{apart}
use Rattle.jc_desc.proofs.Grammar.{field_is}
use Rattle.jc_desc.proofs.Methods.{method_is}
use Rattle.jc_facts.specs.declared.class_facts.ClassFacts.{ClassFacts}
use Rattle.jc_facts.specs.declared.class_facts.Constant.{Constant}
use Rattle.jc_facts.specs.declared.class_facts.Fixed.{Fixed}
use Rattle.jc_facts.specs.declared.class_facts.Member.{Member}
use Rattle.jc_facts.specs.declared.class_facts.Signed.{Signed}
use Rattle.jc_facts.specs.declared.key.Key.{Key}
use Rattle.jc_facts.specs.Flags.{static_flag, interface_flag}
use Rattle.jc_facts.specs.Names.{Bytes, same, same_key, key_of}
use Rattle.jc_facts.specs.file.Rules.{is_object_name, field_descriptor_fits, method_descriptor_fits, slots_fit_in}
use Rattle.jc_facts.specs.file.Valid.{IsValidClass, has_key, keys_differ, keys_of, value_is_valid, keys_of_statics, keys_of_constants, is_signature_owner, keys_in, is_valid_signature, keys_of_signatures, is_signature_of_class}
use Rattle.jc_facts.specs.file.ClassParts.{ReadMember, members_of, fixed_of, constants_of, signed_of, signatures_of, record_from}
use Rattle.jc_facts.specs.file.ClassGrammar.{AreItems, IsMemberAt, IsClassFile}
use Rattle.jc_facts.proofs.Same.{same_is, key_itself}
use Rattle.jc_facts.proofs.ReadValid.{class_name, class_names, superclass_fits, superclass_is, all_items, member_valid, members_are, permits_are, host_is, nest_members_are, signature_ok, signature_text, constant_ok, constant_text}
use Rattle.jc_lemmas.proofs.Bools.{or_under}

-- what isn't in a list isn't in a part of it
not_within : (a b : Bool) → (a ≡ true → b ≡ true) → not b ≡ true → not a ≡ true
not_within true b f h = absurd (let q : b ≡ true = f refl in let r : true ≡ false = sym q ∙ not-true b h in cc)
not_within false b f h = refl

-- ---- constants

fixed_step : (q k : Key) (static : Bool) (o : Option Constant) (others : List Fixed) (ks : List Key) → (has_key q (keys_of_constants others) ≡ true → has_key q ks ≡ true) → has_key q (keys_of_constants (fixed_of k static o ++ others)) ≡ true → has_key q (k ∷ ks) ≡ true
fixed_step q k static None others ks f h = or_right (same_key q k) (has_key q ks) (f h)
fixed_step q k true (Some c) others ks f h = or_under (same_key q k) (has_key q (keys_of_constants others)) (has_key q ks) f h
fixed_step q k false (Some c) others ks f h = or_right (same_key q k) (has_key q ks) (f h)

fixed_within : (q : Key) (rs : List ReadMember) → has_key q (keys_of_constants (constants_of rs)) ≡ true → has_key q (keys_of (members_of rs)) ≡ true
fixed_within q [] h = h
fixed_within q (r ∷ rs) h = fixed_step q (key_of r.member) (static_flag r.member.flags) r.found.constant (constants_of rs) (keys_of (members_of rs)) (fixed_within q rs) h

fixed_new : (k : Key) (static : Bool) (o : Option Constant) (others : List Fixed) → not (has_key k (keys_of_constants others)) ≡ true → keys_differ (keys_of_constants others) ≡ true → keys_differ (keys_of_constants (fixed_of k static o ++ others)) ≡ true
fixed_new k static None others n d = d
fixed_new k true (Some c) others n d = and_from (not (has_key k (keys_of_constants others))) (keys_differ (keys_of_constants others)) n d
fixed_new k false (Some c) others n d = d

pub fixed_differ : (rs : List ReadMember) → keys_differ (keys_of (members_of rs)) ≡ true → keys_differ (keys_of_constants (constants_of rs)) ≡ true
fixed_differ [] h = refl
fixed_differ (r ∷ rs) h =
    let k : Key = key_of r.member in
    let p = and_parts (not (has_key k (keys_of (members_of rs)))) (keys_differ (keys_of (members_of rs))) h in
    fixed_new k (static_flag r.member.flags) r.found.constant (constants_of rs)
    (not_within (has_key k (keys_of_constants (constants_of rs))) (has_key k (keys_of (members_of rs))) (fixed_within k rs) p.0) (fixed_differ rs p.1)

-- each key of a list is in another
abbrev Within : List Key → List Key → Type 0
Within small all = (q : Key) → has_key q small ≡ true → has_key q all ≡ true

statics_are : (m : Member) (ms : List Member) (b : Bool) → static_flag m.flags ≡ b → keys_of_statics (m ∷ ms) ≡ cond b (key_of m ∷ keys_of_statics ms) (keys_of_statics ms)
statics_are m ms true e = rw e refl
statics_are m ms false e = rw e refl

-- a static member's key is in the list, and the rest of the static ones are
static_here : (m : Member) (ms : List Member) (all : List Key) → Within (keys_of_statics (m ∷ ms)) all → static_flag m.flags ≡ true → has_key (key_of m) all ≡ true
static_here m ms all w s =
    let h : has_key (key_of m) (key_of m ∷ keys_of_statics ms) ≡ true = rw (key_itself (key_of m)) refl in
    w (key_of m) (ap (λ (ks : List Key). has_key (key_of m) ks) (statics_are m ms true s) ∙ h)

static_rest : (m : Member) (ms : List Member) (all : List Key) (b : Bool) → static_flag m.flags ≡ b → Within (keys_of_statics (m ∷ ms)) all → Within (keys_of_statics ms) all
static_rest m ms all true s w = λ q h. w q (ap (λ (ks : List Key). has_key q ks) (statics_are m ms true s) ∙ or_right (same_key q (key_of m)) (has_key q (keys_of_statics ms)) h)
static_rest m ms all false s w = λ q h. w q (ap (λ (ks : List Key). has_key q ks) (statics_are m ms false s) ∙ h)

-- a constant of one of these keys
abbrev fixed_ok : List Key → Fixed → Bool
fixed_ok all f = has_key f.key all && value_is_valid f.value

fixed_good : (all : List Key) (k : Key) (static : Bool) (o : Option Constant) (others : List Fixed) → (static ≡ true → has_key k all ≡ true) → constant_ok o ≡ true → list_all (fixed_ok all) others ≡ true → list_all (fixed_ok all) (fixed_of k static o ++ others) ≡ true
fixed_good all k static None others f v h = h
fixed_good all k true (Some c) others f v h = and_from (fixed_ok all (record { key = k; value = c })) (list_all (fixed_ok all) others) (and_from (has_key k all) (value_is_valid c) (f refl) v) h
fixed_good all k false (Some c) others f v h = h

pub fixed_all : (all : List Key) (rs : List ReadMember) → Within (keys_of_statics (members_of rs)) all → list_all (λ r. constant_ok r.found.constant) rs ≡ true → list_all (fixed_ok all) (constants_of rs) ≡ true
fixed_all all [] w v = refl
fixed_all all (r ∷ rs) w v =
    let p = and_parts (constant_ok r.found.constant) (list_all (λ r. constant_ok r.found.constant) rs) v in
    fixed_good all (key_of r.member) (static_flag r.member.flags) r.found.constant (constants_of rs) (static_here r.member (members_of rs) all w) p.0
    (fixed_all all rs (static_rest r.member (members_of rs) all (static_flag r.member.flags) refl w) p.1)

-- ---- signatures

signed_step : (q k : Key) (o : Option Bytes) (others : List Signed) (ks : List Key) → (has_key q (keys_of_signatures others) ≡ true → has_key q ks ≡ true) → has_key q (keys_of_signatures (signed_of (Some k) o ++ others)) ≡ true → has_key q (k ∷ ks) ≡ true
signed_step q k None others ks f h = or_right (same_key q k) (has_key q ks) (f h)
signed_step q k (Some t) others ks f h = or_under (same_key q k) (has_key q (keys_of_signatures others)) (has_key q ks) f h

signed_within : (q : Key) (rs : List ReadMember) → has_key q (keys_of_signatures (signatures_of rs)) ≡ true → has_key q (keys_of (members_of rs)) ≡ true
signed_within q [] h = h
signed_within q (r ∷ rs) h = signed_step q (key_of r.member) r.found.signature (signatures_of rs) (keys_of (members_of rs)) (signed_within q rs) h

signed_new : (k : Key) (o : Option Bytes) (others : List Signed) → not (has_key k (keys_of_signatures others)) ≡ true → keys_differ (keys_of_signatures others) ≡ true → keys_differ (keys_of_signatures (signed_of (Some k) o ++ others)) ≡ true
signed_new k None others n d = d
signed_new k (Some t) others n d = and_from (not (has_key k (keys_of_signatures others))) (keys_differ (keys_of_signatures others)) n d

signed_differ : (rs : List ReadMember) → keys_differ (keys_of (members_of rs)) ≡ true → keys_differ (keys_of_signatures (signatures_of rs)) ≡ true
signed_differ [] h = refl
signed_differ (r ∷ rs) h =
    let k : Key = key_of r.member in
    let p = and_parts (not (has_key k (keys_of (members_of rs)))) (keys_differ (keys_of (members_of rs))) h in
    signed_new k r.found.signature (signatures_of rs)
    (not_within (has_key k (keys_of_signatures (signatures_of rs))) (has_key k (keys_of (members_of rs))) (signed_within k rs) p.0) (signed_differ rs p.1)

-- a test of all keys of members is one of those that have a signature
signed_pass : (p : Key → Bool) (k : Key) (o : Option Bytes) (others : List Signed) → p k ≡ true → list_all p (keys_of_signatures others) ≡ true → list_all p (keys_of_signatures (signed_of (Some k) o ++ others)) ≡ true
signed_pass p k None others h a = a
signed_pass p k (Some t) others h a = and_from (p k) (list_all p (keys_of_signatures others)) h a

signed_all : (p : Key → Bool) (rs : List ReadMember) → list_all p (keys_of (members_of rs)) ≡ true → list_all p (keys_of_signatures (signatures_of rs)) ≡ true
signed_all p [] h = refl
signed_all p (r ∷ rs) h =
    let a = and_parts (p (key_of r.member)) (list_all p (keys_of (members_of rs))) h in
    signed_pass p (key_of r.member) r.found.signature (signatures_of rs) a.0 (signed_all p rs a.1)

signed_append : (ss ts : List Signed) → keys_of_signatures (ss ++ ts) ≡ keys_of_signatures ss ++ keys_of_signatures ts
signed_append [] ts = refl
signed_append (s ∷ ss) ts = ap (λ (ks : List Key). keys_in s.key ++ ks) (signed_append ss ts) ∙ sym (append_assoc (keys_in s.key) (keys_of_signatures ss) (keys_of_signatures ts))

no_class_key : (o : Option Bytes) → keys_of_signatures (signed_of None o) ≡ []
no_class_key None = refl
no_class_key (Some t) = refl

-- ---- a field and a method never have one key

has_field : Key → Bool
has_field k = field_descriptor_fits k.descriptor

same_kind : (k l : Key) → same_key k l ≡ true → has_field k ≡ has_field l
unfolding has_field
same_kind k l e = ap (λ (d : Bytes). field_descriptor_fits d) (same_is k.descriptor l.descriptor (and_parts (same k.name l.name) (same k.descriptor l.descriptor) e).1)

other_kind : (k l : Key) → has_field k ≡ true → not (has_field l) ≡ true → same_key k l ≡ false
other_kind k l p n = go (same_key k l) refl where
  go : (b : Bool) → same_key k l ≡ b → b ≡ false
  go true e = absurd (let q : true ≡ false = sym p ∙ same_kind k l e ∙ not-true (has_field l) n in cc)
  go false e = refl

none_of_other_kind : (k : Key) (ls : List Key) → has_field k ≡ true → list_all (λ l. not (has_field l)) ls ≡ true → has_key k ls ≡ false
none_of_other_kind k [] p n = refl
none_of_other_kind k (l ∷ ls) p n =
    let a = and_parts (not (has_field l)) (list_all (λ l. not (has_field l)) ls) n in
    rw (other_kind k l p a.0) (none_of_other_kind k ls p a.1)

apart_new : (a b : Bool) → not a ≡ true → b ≡ false → not (a || b) ≡ true
apart_new a b n f = rw (not-true a n, f) refl

both_differ : (ks ls : List Key) → keys_differ ks ≡ true → keys_differ ls ≡ true → list_all has_field ks ≡ true → list_all (λ l. not (has_field l)) ls ≡ true → keys_differ (ks ++ ls) ≡ true
both_differ [] ls d e p n = e
both_differ (k ∷ ks) ls d e p n =
    let a = and_parts (not (has_key k ks)) (keys_differ ks) d in
    let b = and_parts (has_field k) (list_all has_field ks) p in
    and_from (not (has_key k (ks ++ ls))) (keys_differ (ks ++ ls))
    (ap (λ (x : Bool). not x) (list_any-append (same_key k) ks ls) ∙ apart_new (has_key k ks) (has_key k ls) a.0 (none_of_other_kind k ls b.0 n))
    (both_differ ks ls a.1 e b.1 n)

fits_some : (instance : Bool) (o : Option Method) → slots_fit_in instance (o >>= λ m. Some (min (slots_of m.params) 4294967295)) ≡ true → (m : Method) × (o ≡ Some m)
fits_some instance None h = absurd (let q : false ≡ true = h in cc)
fits_some instance (Some m) h = (m, refl)

some_slots : (instance : Bool) (d : Bytes) → slots_fit_in instance (slots_of_method d) ≡ true → (m : Method) × (method_of d ≡ Some m)
unfolding slots_of_method
some_slots instance d h = fits_some instance (method_of d) h

no_field : (name : Bytes) (f : ℕ) (d : Bytes) → method_descriptor_fits name f d ≡ true → field_descriptor_fits d ≡ false
no_field name f d h = go (field_of d) refl where
  m : (m : Method) × (method_of d ≡ Some m)
  m = some_slots (not (static_flag f)) d (and_parts _ _ h).0

  go : (o : Option TypeOf) → field_of d ≡ o → is_some o ≡ false
  go None e = refl
  go (Some t) e = absurd (apart t m.0 (sym (field_is d t e).1 ∙ (method_is d m.0 m.1).1))

abbrev Members : Type 0
Members = List Member

fields_have : (major class : ℕ) (ms : Members) → list_all (member_valid false major class) ms ≡ true → list_all has_field (keys_of ms) ≡ true
unfolding has_field
fields_have major class [] h = refl
fields_have major class (m ∷ ms) h =
    let a = and_parts (member_valid false major class m) (list_all (member_valid false major class) ms) h in
    and_from (field_descriptor_fits m.descriptor) (list_all has_field (keys_of ms)) (and_parts _ _ (and_parts _ _ (and_parts _ _ a.0).0).0).1 (fields_have major class ms a.1)

methods_have_none : (major class : ℕ) (ms : Members) → list_all (member_valid true major class) ms ≡ true → list_all (λ k. not (has_field k)) (keys_of ms) ≡ true
unfolding has_field
methods_have_none major class [] h = refl
methods_have_none major class (m ∷ ms) h =
    let a = and_parts (member_valid true major class m) (list_all (member_valid true major class) ms) h in
    let d = (and_parts _ _ (and_parts _ _ (and_parts _ _ a.0).0).0).1 in
    and_from (not (field_descriptor_fits m.descriptor)) (list_all (λ k. not (has_field k)) (keys_of ms)) (ap (λ (b : Bool). not b) (no_field m.name m.flags m.descriptor d)) (methods_have_none major class ms a.1)

-- ---- the signatures of a record

-- a signature of a member or of the class, whose keys pass the test
abbrev signed_ok : (Key → Bool) → Signed → Bool
signed_ok own s = list_all own (keys_in s.key) && is_modified_utf8 s.text

signed_good : (own : Key → Bool) (k : Key) (o : Option Bytes) (others : List Signed) → own k ≡ true → signature_ok o ≡ true → list_all (signed_ok own) others ≡ true → list_all (signed_ok own) (signed_of (Some k) o ++ others) ≡ true
signed_good own k None others f t h = h
signed_good own k (Some t) others f x h = rw (f, x) h

signed_list : (own : Key → Bool) (rs : List ReadMember) → ((q : Key) → has_key q (keys_of (members_of rs)) ≡ true → own q ≡ true) → list_all (λ r. signature_ok r.found.signature) rs ≡ true → list_all (signed_ok own) (signatures_of rs) ≡ true
signed_list own [] f t = refl
signed_list own (r ∷ rs) f t =
    let k : Key = key_of r.member in
    let a = and_parts (signature_ok r.found.signature) (list_all (λ r. signature_ok r.found.signature) rs) t in
    let here : has_key k (k ∷ keys_of (members_of rs)) ≡ true = rw (key_itself k) refl in
    signed_good own k r.found.signature (signatures_of rs) (f k here) a.0
    (signed_list own rs (λ q h. f q (or_right (same_key q k) (has_key q (keys_of (members_of rs))) h)) a.1)

class_signed : (own : Key → Bool) (o : Option Bytes) → signature_ok o ≡ true → list_all (signed_ok own) (signed_of None o) ≡ true
class_signed own None h = refl
class_signed own (Some t) h = rw h refl

owner_ok : (c : ClassFacts) (k : Option Key) → list_all (λ q. is_signature_owner c (Some q)) (keys_in k) ≡ true → is_signature_owner c k ≡ true
owner_ok c None h = refl
owner_ok c (Some k) h = (and_parts (is_signature_owner c (Some k)) true h).0

all_owners : (c : ClassFacts) (ss : List Signed) → list_all (signed_ok (λ q. is_signature_owner c (Some q))) ss ≡ true → list_all (is_valid_signature c) ss ≡ true
all_owners c [] h = refl
all_owners c (s ∷ ss) h =
    let a = and_parts (signed_ok (λ q. is_signature_owner c (Some q)) s) (list_all (signed_ok (λ q. is_signature_owner c (Some q))) ss) h in
    let b = and_parts (list_all (λ q. is_signature_owner c (Some q)) (keys_in s.key)) (is_modified_utf8 s.text) a.0 in
    and_from (is_valid_signature c s) (list_all (is_valid_signature c) ss) (and_from (is_signature_owner c s.key) (is_modified_utf8 s.text) (owner_ok c s.key b.0) b.1) (all_owners c ss a.1)

no_class : (k : Key) (o : Option Bytes) (others : List Signed) → count_by is_signature_of_class (signed_of (Some k) o ++ others) ≡ count_by is_signature_of_class others
no_class k None others = refl
no_class k (Some t) others = omega arith

members_no_class : (rs : List ReadMember) → count_by is_signature_of_class (signatures_of rs) ≡ 0
members_no_class [] = refl
members_no_class (r ∷ rs) = no_class (key_of r.member) r.found.signature (signatures_of rs) ∙ members_no_class rs

class_once : (o : Option Bytes) → count_by is_signature_of_class (signed_of None o) ≤ 1
class_once None = omega arith
class_once (Some t) = omega arith

pub record SignaturesValid (c : ClassFacts) (ss : List Signed) : Type 0 where
  pub all_valid : list_all (is_valid_signature c) ss ≡ true
  pub differ : keys_differ (keys_of_signatures ss) ≡ true
  pub one_of_class : nat_le (count_by is_signature_of_class ss) 1 ≡ true

three : (p : Signed → Bool) (x y z : List Signed) → list_all p x ≡ true → list_all p y ≡ true → list_all p z ≡ true → list_all p (x ++ y ++ z) ≡ true
three p x y z a b d = list_all-append p (x ++ y) z ∙ and_from (list_all p (x ++ y)) (list_all p z) (list_all-append p x y ∙ and_from (list_all p x) (list_all p y) a b) d

keys_of_three : (x y z : List Signed) → keys_of_signatures z ≡ [] → keys_of_signatures (x ++ y ++ z) ≡ keys_of_signatures x ++ keys_of_signatures y
keys_of_three x y z e =
    signed_append (x ++ y) z ∙ ap (λ (ks : List Key). keys_of_signatures (x ++ y) ++ ks) e ∙ append-nil (keys_of_signatures (x ++ y)) ∙ signed_append x y

count_three : (x y z : List Signed) → count_by is_signature_of_class x ≡ 0 → count_by is_signature_of_class y ≡ 0 → count_by is_signature_of_class z ≤ 1 → count_by is_signature_of_class (x ++ y ++ z) ≤ 1
count_three x y z a b d =
    let f = λ (s : Signed). cond (is_signature_of_class s) 1 0 in
    let e = sum_by-append f (x ++ y) z in
    let g = sum_by-append f x y in
    omega (arith, a, b, d, e, g)

pub signatures_good : (c : ClassFacts) (major class : ℕ) (fields methods : List ReadMember) (o : Option Bytes)
    → c.fields ≡ members_of fields → c.methods ≡ members_of methods
    → list_all (member_valid false major class) (members_of fields) ≡ true → list_all (member_valid true major class) (members_of methods) ≡ true
    → keys_differ (keys_of (members_of fields)) ≡ true → keys_differ (keys_of (members_of methods)) ≡ true
    → list_all (λ r. signature_ok r.found.signature) fields ≡ true → list_all (λ r. signature_ok r.found.signature) methods ≡ true → signature_ok o ≡ true
    → SignaturesValid c (signatures_of fields ++ signatures_of methods ++ signed_of None o)
signatures_good c major class fields methods o fs ms fv mv fd md ft mt ot =
    let own = λ (q : Key). is_signature_owner c (Some q) in
    let of_fields = signed_list own fields (λ q h. or_left (has_key q (keys_of c.fields)) (has_key q (keys_of c.methods)) (ap (λ (xs : List Member). has_key q (keys_of xs)) fs ∙ h)) ft in
    let of_methods = signed_list own methods (λ q h. or_right (has_key q (keys_of c.fields)) (has_key q (keys_of c.methods)) (ap (λ (xs : List Member). has_key q (keys_of xs)) ms ∙ h)) mt in
    record {
      all_valid = all_owners c (signatures_of fields ++ signatures_of methods ++ signed_of None o)
          (three (signed_ok own) (signatures_of fields) (signatures_of methods) (signed_of None o) of_fields of_methods (class_signed own o ot));
      differ = ap (λ (ks : List Key). keys_differ ks) (keys_of_three (signatures_of fields) (signatures_of methods) (signed_of None o) (no_class_key o))
          ∙ both_differ (keys_of_signatures (signatures_of fields)) (keys_of_signatures (signatures_of methods)) (signed_differ fields fd) (signed_differ methods md)
          (signed_all has_field fields (fields_have major class (members_of fields) fv)) (signed_all (λ k. not (has_field k)) methods (methods_have_none major class (members_of methods) mv));
      one_of_class = le-leb _ _ (count_three (signatures_of fields) (signatures_of methods) (signed_of None o) (members_no_class fields) (members_no_class methods) (class_once o));
    }

-- ---- the record

member_constant_ok : (file after : Bytes) (method : Bool) (pool : PoolOf) (class : ℕ) (bytes : Bytes) (rs : List ReadMember) (rest : Bytes) → IsPool file pool after → AreItems (IsMemberAt method pool class) bytes rs rest → list_all (λ r. constant_ok r.found.constant) rs ≡ true
member_constant_ok file after method pool class bytes rs rest h a = all_items (IsMemberAt method pool class) (λ r. constant_ok r.found.constant) (λ bs r e m. constant_text file after pool (not method) (codes "ConstantValue") m.attributes r.found.constant h m.found_is.constant) bytes rs rest a

member_signature_ok : (file after : Bytes) (method : Bool) (pool : PoolOf) (class : ℕ) (bytes : Bytes) (rs : List ReadMember) (rest : Bytes) → IsPool file pool after → AreItems (IsMemberAt method pool class) bytes rs rest → list_all (λ r. signature_ok r.found.signature) rs ≡ true
member_signature_ok file after method pool class bytes rs rest h a = all_items (IsMemberAt method pool class) (λ r. signature_ok r.found.signature) (λ bs r e m. signature_text file after pool (nat_le 49 pool.major) (codes "Signature") m.attributes r.found.signature h m.found_is.signature) bytes rs rest a

record_valid : (bytes : Bytes) (c : ClassFacts) (h : IsClassFile bytes c) → IsValidClass (record_from h.pool.major h.head h.interfaces h.fields h.methods h.found)
record_valid bytes c h =
    let d : ClassFacts = record_from h.pool.major h.head h.interfaces h.fields h.methods h.found in
    let fields = members_are bytes h.after_pool false h.pool h.head.flags h.fields_are.members_are.after_count h.fields h.after_fields h.pool_is h.fields_are.members_are.items_are in
    let methods = members_are bytes h.after_pool true h.pool h.head.flags h.methods_are.members_are.after_count h.methods h.after_methods h.pool_is h.methods_are.members_are.items_are in
    let signatures = signatures_good d h.pool.major h.head.flags h.fields h.methods h.found.signature refl refl fields methods h.fields_are.keys_are h.methods_are.keys_are
    (member_signature_ok bytes h.after_pool false h.pool h.head.flags h.fields_are.members_are.after_count h.fields h.after_fields h.pool_is h.fields_are.members_are.items_are)
    (member_signature_ok bytes h.after_pool true h.pool h.head.flags h.methods_are.members_are.after_count h.methods h.after_methods h.pool_is h.methods_are.members_are.items_are)
    (signature_text bytes h.after_pool h.pool (nat_le 49 h.pool.major) (codes "Signature") h.attributes h.found.signature h.pool_is h.found_is.signature) in
    record {
      name = class_name bytes h.after_pool h.pool h.head_is.this h.head.name h.pool_is h.head_is.this_names;
      flags = h.head_is.flags_fit;
      superclass = superclass_is d h.head.superclass (superclass_fits bytes h.after_pool h.pool (is_object_name h.head.name) (interface_flag h.head.flags) h.head_is.super h.head.superclass h.pool_is h.head_is.super_names);
      interfaces = class_names bytes h.after_pool h.pool h.after_head h.interfaces h.after_interfaces h.pool_is h.interfaces_are;
      fields = fields;
      fields_differ = h.fields_are.keys_are;
      methods = methods;
      methods_differ = h.methods_are.keys_are;
      permits = permits_are bytes h.after_pool h.pool (codes "PermittedSubclasses") h.attributes h.found.permits h.pool_is h.found_is.permits;
      nest_host = host_is bytes h.after_pool h.pool (codes "NestHost") h.attributes h.found.nest_host h.pool_is h.found_is.nest_host;
      nest_members = nest_members_are bytes h.after_pool h.pool (codes "NestMembers") h.attributes h.found.nest_members h.pool_is h.found_is.nest_members;
      constants = fixed_all (keys_of_statics (members_of h.fields)) h.fields (λ q e. e)
          (member_constant_ok bytes h.after_pool false h.pool h.head.flags h.fields_are.members_are.after_count h.fields h.after_fields h.pool_is h.fields_are.members_are.items_are);
      constants_differ = fixed_differ h.fields h.fields_are.keys_are;
      signatures = signatures.all_valid;
      signatures_differ = signatures.differ;
      one_of_class = signatures.one_of_class;
    }

-- a record that is read is valid
pub read_valid : (bytes : Bytes) (c : ClassFacts) → IsClassFile bytes c → IsValidClass c
read_valid bytes c h = subst IsValidClass (sym h.record_is) (record_valid bytes c h)
