-- What a writable class file needs in its pool is good.
use Rattle.std.proofs.Common.{◌≡◌, ℕ, Bool, true, false, not, ◌&&◌, List, [], ◌∷◌, ◌++◌, Option, Some, None, refl, sym, ◌∙◌}
use Rattle.std.specs.List.{list_all}
use Rattle.std.specs.Prelude.{nat_le}
use Rattle.std.proofs.lemmas.Bool.{and_parts, and_from}
use Rattle.std.proofs.lemmas.List.Folds.{list_all-append}
use Rattle.jc_desc.specs.Names.{spells_class_name}
use Rattle.jc_desc.specs.Utf8.{is_modified_utf8}
use Rattle.jc_facts.specs.declared.class_facts.ClassFacts.{ClassFacts}
use Rattle.jc_facts.specs.declared.class_facts.Member.{Member}
use Rattle.jc_facts.specs.declared.blueprint.Blueprint.{Blueprint}
use Rattle.jc_facts.specs.declared.blueprint.Body.{Body}
use Rattle.jc_facts.specs.Flags.{interface_flag}
use Rattle.jc_facts.specs.Names.{Bytes}
use Rattle.jc_facts.specs.file.Rules.{is_object_name, implies}
use Rattle.jc_facts.specs.file.Valid.{IsValidClass, is_valid_name, superclass_is_valid, permits_are_valid, nest_host_is_valid, nest_members_are_valid}
use Rattle.jc_facts.specs.written.PoolEntries.{PoolEntry, class, has, is_good}
use Rattle.jc_facts.specs.written.Written.{classes_needs, superclass_needs, fields_needs, body_needs, body_first, bodies_other, methods_needs, permits_needs, host_needs, nest_needs, needs_of, body_is_good, IsFormed}
use Rattle.jc_facts.proofs.ReadValid.{member_valid}
use Rattle.jc_write.proofs.ValidMembers.{valid_member}

-- a test of the needs of a body, step by step
pub all_more : (p : PoolEntry → Bool) (xs ys : List PoolEntry) → list_all p (xs ++ ys) ≡ (list_all p xs && list_all p ys)
all_more p xs ys = list_all-append p xs ys

pub name_good : (c : Bytes) → is_valid_name c ≡ true → is_good (class c) ≡ true
name_good c h = let p = and_parts (spells_class_name c) (is_modified_utf8 c) h in rw (p.0, p.1) refl

names_good : (cs : List Bytes) → list_all is_valid_name cs ≡ true → list_all is_good (classes_needs cs) ≡ true
names_good [] h = refl
names_good (c ∷ cs) h =
    let p = and_parts (is_valid_name c) (list_all is_valid_name cs) h in
    and_from (is_good (class c)) (list_all is_good (classes_needs cs)) (name_good c p.0) (names_good cs p.1)

super_good : (c : ClassFacts) (o : Option Bytes) → superclass_is_valid c o ≡ true → list_all is_good (superclass_needs o) ≡ true
super_good c None h = refl
super_good c (Some s) h =
    let p = and_parts (is_valid_name s && not (is_object_name c.name)) (implies (interface_flag c.flags) (is_object_name s)) h in
    let q = and_parts (is_valid_name s) (not (is_object_name c.name)) p.0 in
    rw (name_good s q.0) refl

fields_good : (major flags : ℕ) (ms : List Member) → list_all (member_valid false major flags) ms ≡ true → list_all is_good (fields_needs ms) ≡ true
fields_good major flags [] h = refl
fields_good major flags (m ∷ ms) h =
    let p = and_parts (member_valid false major flags m) (list_all (member_valid false major flags) ms) h in
    let t = valid_member false major flags m p.0 in
    rw (t.name_text, t.descriptor_text, fields_good major flags ms p.1) refl

body_needs_good : (b : Option Body) → body_is_good b ≡ true → list_all is_good (body_needs b) ≡ true
body_needs_good None h = refl
body_needs_good (Some body) h = h

bodies_parts : (bs : List (Option Body)) → list_all body_is_good bs ≡ true → (body_is_good (body_first bs) ≡ true) × (list_all body_is_good (bodies_other bs) ≡ true)
bodies_parts [] h = (refl, refl)
bodies_parts (b ∷ bs) h = and_parts (body_is_good b) (list_all body_is_good bs) h

methods_good : (major flags : ℕ) (ms : List Member) (bs : List (Option Body)) → list_all (member_valid true major flags) ms ≡ true → list_all body_is_good bs ≡ true → list_all is_good (methods_needs ms bs) ≡ true
methods_good major flags [] bs h g = refl
methods_good major flags (m ∷ ms) bs h g =
    let p = and_parts (member_valid true major flags m) (list_all (member_valid true major flags) ms) h in
    let t = valid_member true major flags m p.0 in
    let q = bodies_parts bs g in
    let others : list_all is_good (body_needs (body_first bs) ++ methods_needs ms (bodies_other bs)) ≡ true =
    all_more is_good (body_needs (body_first bs)) (methods_needs ms (bodies_other bs))
    ∙ and_from (list_all is_good (body_needs (body_first bs))) (list_all is_good (methods_needs ms (bodies_other bs))) (body_needs_good (body_first bs) q.0) (methods_good major flags ms (bodies_other bs) p.1 q.1) in
    rw (t.name_text, t.descriptor_text, others) refl

permits_good : (major : ℕ) (o : Option (List Bytes)) → permits_are_valid major o ≡ true → list_all is_good (permits_needs o) ≡ true
permits_good major None h = refl
permits_good major (Some cs) h = names_good cs (and_parts (nat_le 61 major) (list_all is_valid_name cs) h).1

host_good : (major : ℕ) (o : Option Bytes) → nest_host_is_valid major o ≡ true → list_all is_good (host_needs o) ≡ true
host_good major None h = refl
host_good major (Some c) h = let n = name_good c (and_parts (nat_le 55 major) (is_valid_name c) h).1 in rw n refl

nest_good : (major : ℕ) (cs : List Bytes) → nest_members_are_valid major cs ≡ true → list_all is_good (nest_needs cs) ≡ true
nest_good major [] h = refl
nest_good major (c ∷ cs) h = names_good (c ∷ cs) (and_parts (nat_le 55 major) (list_all is_valid_name (c ∷ cs)) h).1

-- ---- all that is needed

join : (p : PoolEntry → Bool) (xs ys : List PoolEntry) → list_all p xs ≡ true → list_all p ys ≡ true → list_all p (xs ++ ys) ≡ true
join p xs ys h k = all_more p xs ys ∙ and_from (list_all p xs) (list_all p ys) h k

pub needs_good : (b : Blueprint) → IsFormed b → list_all is_good (needs_of b) ≡ true
needs_good b w =
    let c : ClassFacts = b.facts in
    let v : IsValidClass c = w.valid in
    let nest = nest_good c.major c.nest_members v.nest_members in
    let host = join is_good (host_needs c.nest_host) (nest_needs c.nest_members) (host_good c.major c.nest_host v.nest_host) nest in
    let permits = join is_good (permits_needs c.permits) (host_needs c.nest_host ++ nest_needs c.nest_members) (permits_good c.major c.permits v.permits) host in
    let methods = join is_good (methods_needs c.methods b.bodies) (permits_needs c.permits ++ (host_needs c.nest_host ++ nest_needs c.nest_members)) (methods_good c.major c.flags c.methods b.bodies v.methods w.bodies) permits in
    let fields = join is_good (fields_needs c.fields) (methods_needs c.methods b.bodies ++ (permits_needs c.permits ++ (host_needs c.nest_host ++ nest_needs c.nest_members))) (fields_good c.major c.flags c.fields v.fields) methods in
    let interfaces = join is_good (classes_needs c.interfaces) (fields_needs c.fields ++ (methods_needs c.methods b.bodies ++ (permits_needs c.permits ++ (host_needs c.nest_host ++ nest_needs c.nest_members)))) (names_good c.interfaces v.interfaces) fields in
    let super = join is_good (superclass_needs c.superclass) (classes_needs c.interfaces ++ (fields_needs c.fields ++ (methods_needs c.methods b.bodies ++ (permits_needs c.permits ++ (host_needs c.nest_host ++ nest_needs c.nest_members))))) (super_good c c.superclass v.superclass) interfaces in
    and_from (is_good (class c.name)) _ (name_good c.name v.name) super

-- what the pool has of it, part by part
pub record HasNeeds (pool : List PoolEntry) (b : Blueprint) : Type 0 where
  pub name : has pool (class b.facts.name) ≡ true
  pub superclass : list_all (has pool) (superclass_needs b.facts.superclass) ≡ true
  pub interfaces : list_all (has pool) (classes_needs b.facts.interfaces) ≡ true
  pub fields : list_all (has pool) (fields_needs b.facts.fields) ≡ true
  pub methods : list_all (has pool) (methods_needs b.facts.methods b.bodies) ≡ true
  pub permits : list_all (has pool) (permits_needs b.facts.permits) ≡ true
  pub nest_host : list_all (has pool) (host_needs b.facts.nest_host) ≡ true
  pub nest_members : list_all (has pool) (nest_needs b.facts.nest_members) ≡ true

cut : (p : PoolEntry → Bool) (xs ys : List PoolEntry) → list_all p (xs ++ ys) ≡ true → (list_all p xs ≡ true) × (list_all p ys ≡ true)
cut p xs ys h = and_parts (list_all p xs) (list_all p ys) (sym (all_more p xs ys) ∙ h)

pub has_needs : (pool : List PoolEntry) (b : Blueprint) → list_all (has pool) (needs_of b) ≡ true → HasNeeds pool b
has_needs pool b h =
    let c : ClassFacts = b.facts in
    let p = has pool in
    let e7 : List PoolEntry = host_needs c.nest_host ++ nest_needs c.nest_members in
    let e6 : List PoolEntry = permits_needs c.permits ++ e7 in
    let e5 : List PoolEntry = methods_needs c.methods b.bodies ++ e6 in
    let e4 : List PoolEntry = fields_needs c.fields ++ e5 in
    let e3 : List PoolEntry = classes_needs c.interfaces ++ e4 in
    let e2 : List PoolEntry = superclass_needs c.superclass ++ e3 in
    let h1 = and_parts (p (class c.name)) (list_all p e2) h in
    let h2 = cut p (superclass_needs c.superclass) e3 h1.1 in
    let h3 = cut p (classes_needs c.interfaces) e4 h2.1 in
    let h4 = cut p (fields_needs c.fields) e5 h3.1 in
    let h5 = cut p (methods_needs c.methods b.bodies) e6 h4.1 in
    let h6 = cut p (permits_needs c.permits) e7 h5.1 in
    let h7 = cut p (host_needs c.nest_host) (nest_needs c.nest_members) h6.1 in
    record {
      name = h1.0;
      superclass = h2.0;
      interfaces = h3.0;
      fields = h4.0;
      methods = h5.0;
      permits = h6.0;
      nest_host = h7.0;
      nest_members = h7.1;
    }
