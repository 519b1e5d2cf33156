-- Fields and methods that are written stand in the grammar.
use Rattle.std.proofs.Common.{◌≡◌, ℕ, ◌<◌, ◌≤◌, Bool, true, false, not, ◌&&◌, List, [], ◌∷◌, ◌++◌, length, map, Option, Some, None, refl, sym, ap, subst, ◌∙◌, arith, nat_lt, append_assoc}
use Rattle.std.specs.List.{list_all}
use Rattle.std.specs.Prelude.{nat_le, codes}
use Rattle.std.proofs.lemmas.Bool.{and_parts, and_from, leb-true, ltb-true, lt-ltb}
use Rattle.std.proofs.lemmas.List.{length-append}
use Rattle.std.proofs.lemmas.List.Folds.{list_all-append}
use Rattle.jc_desc.specs.Pool.{PoolOf}
use Rattle.jc_facts.specs.declared.class_facts.Member.{Member}
use Rattle.jc_facts.specs.declared.blueprint.Body.{Body}
use Rattle.jc_facts.specs.Names.{Bytes}
use Rattle.jc_facts.specs.file.ClassParts.{Attribute, ReadMember, members_of, constants_of, signatures_of}
use Rattle.jc_facts.specs.file.ClassSteps.{nothing_on_member}
use Rattle.jc_facts.specs.file.ClassGrammar.{AreItems, AreCounted, IsAttributeAt, IsMemberAt, SayOnce, SayOnMember, IsSignature, IsConstantValue, named}
use Rattle.jc_facts.specs.written.PoolEntries.{two, four, counted, PoolEntry, text, has, index_of}
use Rattle.jc_facts.specs.written.Bodies.{steps_bytes, places_at_most, steps_needs}
use Rattle.jc_facts.specs.written.Written.{member_head, field_bytes, code_name, body_of_code, places_of_locals, method_attributes, method_bytes, methods_bytes, attribute_bytes, body_first, bodies_other, fields_needs, body_needs, methods_needs, are_short, fits_body, fits_bodies, fits_count}
use Rattle.jc_facts.proofs.ClassMembers.{IsMemberHead}
use Rattle.jc_facts.proofs.ReadValid.{member_valid}
use Rattle.jc_write.proofs.ValidMembers.{valid_member}
use Rattle.jc_write.proofs.Slots.{below}
use Rattle.jc_write.proofs.Linked.{Answers, text_answer}
use Rattle.jc_write.proofs.PiecesStand.{short_front, counted_are, is_short_attribute, attributes_stand}

-- a member of which the attributes say nothing
abbrev pub plain : Member → ReadMember
plain m = record { member = m; found = nothing_on_member }

-- ---- the record

pub plain_members : (ms : List Member) → members_of (map plain ms) ≡ ms
plain_members [] = refl
plain_members (m ∷ ms) = ap (λ (ns : List Member). m ∷ ns) (plain_members ms)

pub plain_constants : (ms : List Member) → constants_of (map plain ms) ≡ []
plain_constants [] = refl
plain_constants (m ∷ ms) = plain_constants ms

pub plain_signatures : (ms : List Member) → signatures_of (map plain ms) ≡ []
plain_signatures [] = refl
plain_signatures (m ∷ ms) = plain_signatures ms

-- ---- one member

-- its texts stand in the pool, its flags take two bytes, and it is valid
abbrev pub is_sound : List PoolEntry → Bool → ℕ → ℕ → Member → Bool
is_sound pool method major class m = (has pool (text m.name) && has pool (text m.descriptor)) && (nat_lt m.flags 65536 && member_valid method major class m)

-- flags, name and descriptor
pub head_stands : (pool : List PoolEntry) (p : PoolOf) (w : Answers pool p) (method : Bool) (class : ℕ) (m : Member) (more : Bytes) → is_sound pool method p.major class m ≡ true → IsMemberHead method p class (member_head pool m ++ more) m more
head_stands pool p w method class m more h =
    let k = and_parts (has pool (text m.name) && has pool (text m.descriptor)) (nat_lt m.flags 65536 && member_valid method p.major class m) h in
    let t = and_parts (has pool (text m.name)) (has pool (text m.descriptor)) k.0 in
    let f = and_parts (nat_lt m.flags 65536) (member_valid method p.major class m) k.1 in
    let v = valid_member method p.major class m f.1 in
    let name : ℕ = index_of pool (text m.name) in
    let descriptor : ℕ = index_of pool (text m.descriptor) in
    record {
      after_flags = two name ++ (two descriptor ++ more);
      after_name = two descriptor ++ more;
      name = name;
      descriptor = descriptor;
      flags_is = short_front m.flags (two name ++ (two descriptor ++ more)) (ltb-true m.flags 65536 f.0);
      name_is = short_front name (two descriptor ++ more) (below pool (text m.name) w.hold.few t.0);
      descriptor_is = short_front descriptor more (below pool (text m.descriptor) w.hold.few t.1);
      name_text = text_answer pool p m.name w t.0;
      name_fits = v.name_fits;
      descriptor_text = text_answer pool p m.descriptor w t.1;
      descriptor_fits = v.descriptor_fits;
      flags_fit = v.flags_fit;
    }

member_stands : (pool : List PoolEntry) (p : PoolOf) (w : Answers pool p) (method : Bool) (class : ℕ) (m : Member) (ats : List Attribute) (more rest : Bytes)
    → is_sound pool method p.major class m ≡ true → AreCounted (IsAttributeAt p) more ats rest → SayOnMember method p ats nothing_on_member → IsMemberAt method p class (member_head pool m ++ more) (plain m) rest
member_stands pool p w method class m ats more rest h a s =
    let head = head_stands pool p w method class m more h in
    record {
      after_flags = head.after_flags;
      after_name = head.after_name;
      after_descriptor = more;
      name = head.name;
      descriptor = head.descriptor;
      attributes = ats;
      flags_is = head.flags_is;
      name_is = head.name_is;
      descriptor_is = head.descriptor_is;
      name_text = head.name_text;
      name_fits = head.name_fits;
      descriptor_text = head.descriptor_text;
      descriptor_fits = head.descriptor_fits;
      flags_fit = head.flags_fit;
      attributes_are = a;
      found_is = s;
    }

-- ---- fields

say_nothing : {A : Type 0} (F : Bytes → A → Type 0) (read : Bool) (name : Bytes) → SayOnce F (named read name []) None
say_nothing {A} F true name = tt
say_nothing {A} F false name = tt

nothing_said : (method : Bool) (p : PoolOf) → SayOnMember method p [] nothing_on_member
nothing_said method p = record { constant = say_nothing (IsConstantValue p) (not method) (codes "ConstantValue"); signature = say_nothing (IsSignature p) (nat_le 49 p.major) (codes "Signature") }

no_attributes : (pool : List PoolEntry) (p : PoolOf) (w : Answers pool p) (rest : Bytes) → AreCounted (IsAttributeAt p) (two 0 ++ rest) [] rest
no_attributes pool p w rest = attributes_stand pool p w [] rest refl (omega arith)

field_stands : (pool : List PoolEntry) (p : PoolOf) (w : Answers pool p) (class : ℕ) (m : Member) (rest : Bytes) → is_sound pool false p.major class m ≡ true → IsMemberAt false p class (field_bytes pool m ++ rest) (plain m) rest
field_stands pool p w class m rest h = member_stands pool p w false class m [] (two 0 ++ rest) rest h (no_attributes pool p w rest) (nothing_said false p)

pub all_sound : (pool : List PoolEntry) (major class : ℕ) (ms : List Member) → list_all (has pool) (fields_needs ms) ≡ true → are_short ms ≡ true → list_all (member_valid false major class) ms ≡ true
    → list_all (is_sound pool false major class) ms ≡ true
all_sound pool major class [] h s v = refl
all_sound pool major class (m ∷ ms) h s v =
    let a = and_parts (has pool (text m.name)) (list_all (has pool) (text m.descriptor ∷ fields_needs ms)) h in
    let b = and_parts (has pool (text m.descriptor)) (list_all (has pool) (fields_needs ms)) a.1 in
    let c = and_parts (nat_lt m.flags 65536) (are_short ms) s in
    let d = and_parts (member_valid false major class m) (list_all (member_valid false major class) ms) v in
    let here : is_sound pool false major class m ≡ true = rw (a.0, b.0, c.0, d.0) refl in
    and_from (is_sound pool false major class m) (list_all (is_sound pool false major class) ms) here (all_sound pool major class ms b.1 c.1 d.1)

pub fields_stand : (pool : List PoolEntry) (p : PoolOf) (w : Answers pool p) (class : ℕ) (ms : List Member) (rest : Bytes) → list_all (is_sound pool false p.major class) ms ≡ true → length ms < 65536
    → AreCounted (IsMemberAt false p class) (counted (field_bytes pool) ms ++ rest) (map plain ms) rest
fields_stand pool p w class ms rest h l = counted_are (IsMemberAt false p class) plain (field_bytes pool) (is_sound pool false p.major class) (field_stands pool p w class) ms rest h l

-- ---- methods

-- a Code says nothing
code_said : (p : PoolOf) (body : Bytes) → SayOnMember true p (record { name = code_name; body = body } ∷ []) nothing_on_member
code_said p body = record { constant = tt; signature = unread (nat_le 49 p.major) } where
  unread : (read : Bool) → SayOnce (IsSignature p) (named read (codes "Signature") (record { name = code_name; body = body } ∷ [])) None
  unread true = tt
  unread false = tt

said : (pool : List PoolEntry) (p : PoolOf) (m : Member) (b : Option Body) → SayOnMember true p (method_attributes pool m b) nothing_on_member
said pool p m None = nothing_said true p
said pool p m (Some body) = code_said p (body_of_code pool m body)

pub code_short : (pool : List PoolEntry) (m : Member) (body : Body) → length (steps_bytes pool body.steps) ≤ 65535 → length (body_of_code pool m body) < 4294967296
code_short pool m body h =
    let code : Bytes = steps_bytes pool body.steps in
    let front : Bytes = two (places_at_most body.steps) ++ two (places_of_locals m) ++ four (length code) in
    let a = length-append (front ++ code ++ two 0) (two 0) in
    let b = length-append (front ++ code) (two 0) in
    let c = length-append front code in
    let n : length front ≡ 8 = refl in
    let z : length (two 0) ≡ 2 = refl in
    omega (arith, h, a, b, c, n, z)

-- its attributes are short, and there is at most one
pub attributes_short : (pool : List PoolEntry) (m : Member) (b : Option Body) → list_all (has pool) (body_needs b) ≡ true → fits_body pool b ≡ true → list_all (is_short_attribute pool) (method_attributes pool m b) ≡ true
attributes_short pool m None h f = refl
attributes_short pool m (Some body) h f =
    let k = and_parts (has pool (text code_name)) (list_all (has pool) (steps_needs body.steps)) h in
    let l = and_parts (fits_count (length (steps_bytes pool body.steps))) (fits_count (places_at_most body.steps)) f in
    let s : nat_lt (length (body_of_code pool m body)) 4294967296 ≡ true = lt-ltb _ _ (code_short pool m body (leb-true (length (steps_bytes pool body.steps)) 65535 l.0)) in
    rw (k.0, s) refl

one_attribute : (pool : List PoolEntry) (m : Member) (b : Option Body) → length (method_attributes pool m b) < 65536
one_attribute pool m None = omega arith
one_attribute pool m (Some body) = omega arith

method_stands : (pool : List PoolEntry) (p : PoolOf) (w : Answers pool p) (class : ℕ) (m : Member) (b : Option Body) (rest : Bytes) → is_sound pool true p.major class m ≡ true → list_all (has pool) (body_needs b) ≡ true → fits_body pool b ≡ true
    → IsMemberAt true p class (method_bytes pool m b ++ rest) (plain m) rest
method_stands pool p w class m b rest h n f =
    member_stands pool p w true class m (method_attributes pool m b) (counted (attribute_bytes pool) (method_attributes pool m b) ++ rest) rest h
    (attributes_stand pool p w (method_attributes pool m b) rest (attributes_short pool m b n f) (one_attribute pool m b)) (said pool p m b)

pub bodies_parts : (pool : List PoolEntry) (bs : List (Option Body)) → fits_bodies pool bs ≡ true → (fits_body pool (body_first bs) ≡ true) × (fits_bodies pool (bodies_other bs) ≡ true)
bodies_parts pool [] h = (refl, refl)
bodies_parts pool (b ∷ bs) h = and_parts (fits_body pool b) (fits_bodies pool bs) h

pub methods_stand : (pool : List PoolEntry) (p : PoolOf) (w : Answers pool p) (class : ℕ) (ms : List Member) (bs : List (Option Body)) (rest : Bytes) → list_all (has pool) (methods_needs ms bs) ≡ true → are_short ms ≡ true → list_all (member_valid true p.major class) ms ≡ true
    → fits_bodies pool bs ≡ true → AreItems (IsMemberAt true p class) (methods_bytes pool ms bs ++ rest) (map plain ms) rest
methods_stand pool p w class [] bs rest h s v f = refl
methods_stand pool p w class (m ∷ ms) bs rest h s v f =
    let a = and_parts (has pool (text m.name)) (list_all (has pool) (text m.descriptor ∷ (body_needs (body_first bs) ++ methods_needs ms (bodies_other bs)))) h in
    let b = and_parts (has pool (text m.descriptor)) (list_all (has pool) (body_needs (body_first bs) ++ methods_needs ms (bodies_other bs))) a.1 in
    let e = and_parts (list_all (has pool) (body_needs (body_first bs))) (list_all (has pool) (methods_needs ms (bodies_other bs))) (sym (list_all-append (has pool) (body_needs (body_first bs)) (methods_needs ms (bodies_other bs))) ∙ b.1) in
    let c = and_parts (nat_lt m.flags 65536) (are_short ms) s in
    let d = and_parts (member_valid true p.major class m) (list_all (member_valid true p.major class) ms) v in
    let g = bodies_parts pool bs f in
    let here : is_sound pool true p.major class m ≡ true = rw (a.0, b.0, c.0, d.0) refl in
    let next : Bytes = methods_bytes pool ms (bodies_other bs) ++ rest in (
      next,
      subst (λ (xs : Bytes). IsMemberAt true p class xs (plain m) next) (sym (append_assoc (method_bytes pool m (body_first bs)) (methods_bytes pool ms (bodies_other bs)) rest)) (method_stands pool p w class m (body_first bs) next here e.0 g.0),
      methods_stand pool p w class ms (bodies_other bs) rest e.1 c.1 d.1 g.1,
    )
