-- The attributes of a class that is written say what its record says.
use Rattle.std.proofs.Common.{◌≡◌, ℕ, suc, ◌+◌, ◌<◌, Bool, true, false, List, [], ◌∷◌, ◌++◌, length, Option, Some, None, refl, sym, ap, subst, ◌∙◌, arith, nat_lt}
use Rattle.std.specs.List.{list_all}
use Rattle.std.specs.Prelude.{nat_le, codes}
use Rattle.std.proofs.lemmas.Bool.{and_parts, and_from, leb-true, lt-ltb}
use Rattle.std.proofs.lemmas.List.{append-nil}
use Rattle.std.proofs.lemmas.List.Folds.{list_all-append}
use Rattle.jc_desc.specs.Pool.{PoolOf}
use Rattle.jc_facts.specs.declared.class_facts.ClassFacts.{ClassFacts}
use Rattle.jc_facts.specs.Names.{Bytes}
use Rattle.jc_facts.specs.file.Valid.{is_valid_name, permits_are_valid, nest_host_is_valid, nest_members_are_valid}
use Rattle.jc_facts.specs.file.ClassParts.{Attribute, OnClass, or_empty}
use Rattle.jc_facts.specs.file.ClassGrammar.{IsClassAt, AreClasses, IsHost, IsSignature, SayOnce, SayOnClass, named}
use Rattle.jc_facts.specs.written.PoolEntries.{counted, joined, PoolEntry, text, class, has}
use Rattle.jc_facts.specs.written.Written.{class_index, permits_name, host_name, members_name, classes_needs, permits_needs, host_needs, nest_needs, permits_attribute, host_attribute, nest_attribute, class_attributes, fits_permits, fits_count}
use Rattle.jc_write.proofs.Linked.{Answers}
use Rattle.jc_write.proofs.PiecesStand.{all_known, class_stands, list_stands, is_short_attribute, short_of}

-- ---- one name of attribute at a time

abbrev Body : Type 0
Body = Option Bytes

abbrev permits_of : Body → List Attribute
permits_of None = []
permits_of (Some body) = record { name = permits_name; body = body } ∷ []

abbrev host_of : Body → List Attribute
host_of None = []
host_of (Some body) = record { name = host_name; body = body } ∷ []

abbrev nest_of : Body → List Attribute
nest_of None = []
nest_of (Some body) = record { name = members_name; body = body } ∷ []

-- what the attributes of one name say: nothing where there is none, the value where it is read and has the form
abbrev Says : {A : Type 0} → (Bytes → A → Type 0) → Bool → Body → Option A → Type 0
Says F read None None = Unit {0}
Says F read None (Some x) = ⊥
Says F read (Some body) None = ⊥
Says F read (Some body) (Some x) = (read ≡ true) × F body x

permits_said : (F : Bytes → List Bytes → Type 0) (read : Bool) (p h n : Body) (o : Option (List Bytes)) → Says F read p o → SayOnce F (named read permits_name (permits_of p ++ (host_of h ++ nest_of n))) o
permits_said F false None h n None s = tt
permits_said F true None None None None s = tt
permits_said F true None None (Some z) None s = tt
permits_said F true None (Some y) None None s = tt
permits_said F true None (Some y) (Some z) None s = tt
permits_said F read None h n (Some x) s = absurd s
permits_said F read (Some b) h n None s = absurd s
permits_said F false (Some b) h n (Some x) s = absurd (let q : false ≡ true = s.0 in cc)
permits_said F true (Some b) None None (Some x) s = s.1
permits_said F true (Some b) None (Some z) (Some x) s = s.1
permits_said F true (Some b) (Some y) None (Some x) s = s.1
permits_said F true (Some b) (Some y) (Some z) (Some x) s = s.1

host_said : (F : Bytes → Bytes → Type 0) (read : Bool) (p h n : Body) (o : Option Bytes) → Says F read h o → SayOnce F (named read host_name (permits_of p ++ (host_of h ++ nest_of n))) o
host_said F false p None n None s = tt
host_said F true None None None None s = tt
host_said F true None None (Some z) None s = tt
host_said F true (Some y) None None None s = tt
host_said F true (Some y) None (Some z) None s = tt
host_said F read p None n (Some x) s = absurd s
host_said F read p (Some b) n None s = absurd s
host_said F false p (Some b) n (Some x) s = absurd (let q : false ≡ true = s.0 in cc)
host_said F true None (Some b) None (Some x) s = s.1
host_said F true None (Some b) (Some z) (Some x) s = s.1
host_said F true (Some y) (Some b) None (Some x) s = s.1
host_said F true (Some y) (Some b) (Some z) (Some x) s = s.1

nest_said : (F : Bytes → List Bytes → Type 0) (read : Bool) (p h n : Body) (o : Option (List Bytes)) → Says F read n o → SayOnce F (named read members_name (permits_of p ++ (host_of h ++ nest_of n))) o
nest_said F false p h None None s = tt
nest_said F true None None None None s = tt
nest_said F true None (Some z) None None s = tt
nest_said F true (Some y) None None None s = tt
nest_said F true (Some y) (Some z) None None s = tt
nest_said F read p h None (Some x) s = absurd s
nest_said F read p h (Some b) None s = absurd s
nest_said F false p h (Some b) (Some x) s = absurd (let q : false ≡ true = s.0 in cc)
nest_said F true None None (Some b) (Some x) s = s.1
nest_said F true None (Some z) (Some b) (Some x) s = s.1
nest_said F true (Some y) None (Some b) (Some x) s = s.1
nest_said F true (Some y) (Some z) (Some b) (Some x) s = s.1

no_signature : (F : Bytes → Bytes → Type 0) (read : Bool) (p h n : Body) → SayOnce F (named read (codes "Signature") (permits_of p ++ (host_of h ++ nest_of n))) None
no_signature F false p h n = tt
no_signature F true None None None = tt
no_signature F true None None (Some z) = tt
no_signature F true None (Some y) None = tt
no_signature F true None (Some y) (Some z) = tt
no_signature F true (Some x) None None = tt
no_signature F true (Some x) None (Some z) = tt
no_signature F true (Some x) (Some y) None = tt
no_signature F true (Some x) (Some y) (Some z) = tt

-- ---- the attributes that are written

abbrev permits_body : List PoolEntry → Option (List Bytes) → Body
permits_body pool None = None
permits_body pool (Some cs) = Some (counted (class_index pool) cs)

abbrev host_body : List PoolEntry → Option Bytes → Body
host_body pool None = None
host_body pool (Some c) = Some (class_index pool c)

abbrev nest_body : List PoolEntry → List Bytes → Body
nest_body pool [] = None
nest_body pool (c ∷ cs) = Some (counted (class_index pool) (c ∷ cs))

permits_same : (pool : List PoolEntry) (o : Option (List Bytes)) → permits_attribute pool o ≡ permits_of (permits_body pool o)
permits_same pool None = refl
permits_same pool (Some cs) = refl

host_same : (pool : List PoolEntry) (o : Option Bytes) → host_attribute pool o ≡ host_of (host_body pool o)
host_same pool None = refl
host_same pool (Some c) = refl

nest_same : (pool : List PoolEntry) (cs : List Bytes) → nest_attribute pool cs ≡ nest_of (nest_body pool cs)
nest_same pool [] = refl
nest_same pool (c ∷ cs) = refl

abbrev written_attributes : List PoolEntry → ClassFacts → List Attribute
written_attributes pool c = permits_of (permits_body pool c.permits) ++ (host_of (host_body pool c.nest_host) ++ nest_of (nest_body pool c.nest_members))

pub attributes_same : (pool : List PoolEntry) (c : ClassFacts) → class_attributes pool c ≡ written_attributes pool c
attributes_same pool c =
    ap (λ (xs : List Attribute). xs ++ (host_attribute pool c.nest_host ++ nest_attribute pool c.nest_members)) (permits_same pool c.permits)
    ∙ ap (λ (xs : List Attribute). permits_of (permits_body pool c.permits) ++ (xs ++ nest_attribute pool c.nest_members)) (host_same pool c.nest_host)
    ∙ ap (λ (xs : List Attribute). permits_of (permits_body pool c.permits) ++ (host_of (host_body pool c.nest_host) ++ xs)) (nest_same pool c.nest_members)

-- ---- what they say

-- no attribute for no members
abbrev pub some_members : List Bytes → Option (List Bytes)
some_members [] = None
some_members (c ∷ cs) = Some (c ∷ cs)

pub members_again : (cs : List Bytes) → cs ≡ or_empty (some_members cs)
members_again [] = refl
members_again (c ∷ cs) = refl

permits_form : (pool : List PoolEntry) (p : PoolOf) (a : Answers pool p) (o : Option (List Bytes)) → list_all (has pool) (permits_needs o) ≡ true → permits_are_valid p.major o ≡ true → fits_permits o ≡ true → Says (AreClasses p) (nat_le 61 p.major) (permits_body pool o) o
permits_form pool p a None h v f = tt
permits_form pool p a (Some cs) h v f =
    let k = and_parts (has pool (text permits_name)) (list_all (has pool) (classes_needs cs)) h in
    let n = and_parts (nat_le 61 p.major) (list_all is_valid_name cs) v in
    (n.0, list_stands pool p a cs (all_known pool cs k.1 n.1) (short_of (length cs) f))

host_form : (pool : List PoolEntry) (p : PoolOf) (a : Answers pool p) (o : Option Bytes) → list_all (has pool) (host_needs o) ≡ true → nest_host_is_valid p.major o ≡ true → Says (IsHost p) (nat_le 55 p.major) (host_body pool o) o
host_form pool p a None h v = tt
host_form pool p a (Some c) h v =
    let k = and_parts (has pool (text host_name)) (list_all (has pool) (class c ∷ [])) h in
    let l = and_parts (has pool (class c)) true k.1 in
    let n = and_parts (nat_le 55 p.major) (is_valid_name c) v in
    (n.0, subst (λ (bs : Bytes). IsClassAt p bs c []) (append-nil (class_index pool c)) (class_stands pool p a c [] (and_from (has pool (class c)) (is_valid_name c) l.0 n.1)))

nest_form : (pool : List PoolEntry) (p : PoolOf) (a : Answers pool p) (cs : List Bytes) → list_all (has pool) (nest_needs cs) ≡ true → nest_members_are_valid p.major cs ≡ true → fits_count (length cs) ≡ true → Says (AreClasses p) (nat_le 55 p.major) (nest_body pool cs) (some_members cs)
nest_form pool p a [] h v f = tt
nest_form pool p a (c ∷ cs) h v f =
    let k = and_parts (has pool (text members_name)) (list_all (has pool) (classes_needs (c ∷ cs))) h in
    let n = and_parts (nat_le 55 p.major) (list_all is_valid_name (c ∷ cs)) v in
    (n.0, list_stands pool p a (c ∷ cs) (all_known pool (c ∷ cs) k.1 n.1) (short_of (length (c ∷ cs)) f))

abbrev pub found_of : ClassFacts → OnClass
found_of c = record { permits = c.permits; nest_host = c.nest_host; nest_members = some_members c.nest_members; signature = None }

-- what the pool has for the attributes, and what is asked of them
pub record AttributesFit (pool : List PoolEntry) (c : ClassFacts) : Type 0 where
  pub has_permits : list_all (has pool) (permits_needs c.permits) ≡ true
  pub has_host : list_all (has pool) (host_needs c.nest_host) ≡ true
  pub has_nest : list_all (has pool) (nest_needs c.nest_members) ≡ true
  pub permits_good : permits_are_valid c.major c.permits ≡ true
  pub host_good : nest_host_is_valid c.major c.nest_host ≡ true
  pub nest_good : nest_members_are_valid c.major c.nest_members ≡ true
  pub permits_few : fits_permits c.permits ≡ true
  pub nest_few : fits_count (length c.nest_members) ≡ true

said : (pool : List PoolEntry) (p : PoolOf) (a : Answers pool p) (c : ClassFacts) → p.major ≡ c.major → AttributesFit pool c → SayOnClass p (written_attributes pool c) (found_of c)
said pool p a c e f =
    let pb : Body = permits_body pool c.permits in
    let hb : Body = host_body pool c.nest_host in
    let nb : Body = nest_body pool c.nest_members in
    record {
      permits = permits_said (AreClasses p) (nat_le 61 p.major) pb hb nb c.permits (permits_form pool p a c.permits f.has_permits (ap (λ (m : ℕ). permits_are_valid m c.permits) e ∙ f.permits_good) f.permits_few);
      nest_host = host_said (IsHost p) (nat_le 55 p.major) pb hb nb c.nest_host (host_form pool p a c.nest_host f.has_host (ap (λ (m : ℕ). nest_host_is_valid m c.nest_host) e ∙ f.host_good));
      nest_members = nest_said (AreClasses p) (nat_le 55 p.major) pb hb nb (some_members c.nest_members) (nest_form pool p a c.nest_members f.has_nest (ap (λ (m : ℕ). nest_members_are_valid m c.nest_members) e ∙ f.nest_good) f.nest_few);
      signature = no_signature (IsSignature p) (nat_le 49 p.major) pb hb nb;
    }

pub attributes_say : (pool : List PoolEntry) (p : PoolOf) (a : Answers pool p) (c : ClassFacts) → p.major ≡ c.major → AttributesFit pool c → SayOnClass p (class_attributes pool c) (found_of c)
attributes_say pool p a c e f = subst (λ (ats : List Attribute). SayOnClass p ats (found_of c)) (sym (attributes_same pool c)) (said pool p a c e f)

-- ---- they are short

indices_length : (pool : List PoolEntry) (cs : List Bytes) → length (joined (class_index pool) cs) ≡ length cs + length cs
indices_length pool [] = refl
indices_length pool (c ∷ cs) = let ih = indices_length pool cs in let q : suc (suc (length (joined (class_index pool) cs))) ≡ suc (length cs) + suc (length cs) = omega (arith, ih) in q

list_short : (pool : List PoolEntry) (cs : List Bytes) → fits_count (length cs) ≡ true → nat_lt (length (counted (class_index pool) cs)) 4294967296 ≡ true
list_short pool cs h =
    let e = indices_length pool cs in
    let l = leb-true (length cs) 65535 h in
    let q : suc (suc (length (joined (class_index pool) cs))) < 4294967296 = omega (arith, e, l) in
    lt-ltb _ _ q

permits_short : (pool : List PoolEntry) (o : Option (List Bytes)) → list_all (has pool) (permits_needs o) ≡ true → fits_permits o ≡ true → list_all (is_short_attribute pool) (permits_attribute pool o) ≡ true
permits_short pool None h f = refl
permits_short pool (Some cs) h f =
    let k = and_parts (has pool (text permits_name)) (list_all (has pool) (classes_needs cs)) h in
    rw (k.0, list_short pool cs f) refl

host_short : (pool : List PoolEntry) (o : Option Bytes) → list_all (has pool) (host_needs o) ≡ true → list_all (is_short_attribute pool) (host_attribute pool o) ≡ true
host_short pool None h = refl
host_short pool (Some c) h = let k = and_parts (has pool (text host_name)) (list_all (has pool) (class c ∷ [])) h in rw k.0 refl

nest_short : (pool : List PoolEntry) (cs : List Bytes) → list_all (has pool) (nest_needs cs) ≡ true → fits_count (length cs) ≡ true → list_all (is_short_attribute pool) (nest_attribute pool cs) ≡ true
nest_short pool [] h f = refl
nest_short pool (c ∷ cs) h f =
    let k = and_parts (has pool (text members_name)) (list_all (has pool) (classes_needs (c ∷ cs))) h in
    rw (k.0, list_short pool (c ∷ cs) f) refl

pub attributes_short : (pool : List PoolEntry) (c : ClassFacts) → AttributesFit pool c → list_all (is_short_attribute pool) (class_attributes pool c) ≡ true
attributes_short pool c f =
    let test = is_short_attribute pool in
    list_all-append test (permits_attribute pool c.permits) (host_attribute pool c.nest_host ++ nest_attribute pool c.nest_members)
    ∙ and_from _ _ (permits_short pool c.permits f.has_permits f.permits_few)
    (list_all-append test (host_attribute pool c.nest_host) (nest_attribute pool c.nest_members) ∙ and_from _ _ (host_short pool c.nest_host f.has_host) (nest_short pool c.nest_members f.has_nest f.nest_few))

pub attributes_few : (pool : List PoolEntry) (c : ClassFacts) → length (class_attributes pool c) < 65536
attributes_few pool c = subst (λ (ats : List Attribute). length ats < 65536) (sym (attributes_same pool c)) (go (permits_body pool c.permits) (host_body pool c.nest_host) (nest_body pool c.nest_members)) where
  go : (p h n : Body) → length (permits_of p ++ (host_of h ++ nest_of n)) < 65536
  go None None None = omega arith
  go None None (Some z) = omega arith
  go None (Some y) None = omega arith
  go None (Some y) (Some z) = omega arith
  go (Some x) None None = omega arith
  go (Some x) None (Some z) = omega arith
  go (Some x) (Some y) None = omega arith
  go (Some x) (Some y) (Some z) = omega arith
