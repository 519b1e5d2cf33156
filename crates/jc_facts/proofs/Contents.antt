-- The contents of attributes, both ways, and what the attributes of a member and of the class say.
use Rattle.std.proofs.Common.{◌≡◌, ℕ, Bool, true, false, cond, not, ◌&&◌, List, [], ◌∷◌, Option, Some, None, Result, Ok, Err, refl, sym, ap, subst, ◌∙◌}
use Rattle.std.proofs.lemmas.List.{append-nil}
use Rattle.std.specs.Prelude.{codes, nat_le}
use Rattle.jc_desc.specs.declared.fault.Fault.{Fault}
use Rattle.jc_desc.specs.Faults.{number_at}
use Rattle.jc_desc.specs.Pool.{PoolOf}
use Rattle.jc_desc.specs.PoolAnswers.{utf8_in, constant_in, ConstantOf}
use Rattle.jc_desc.specs.PoolGrammar.{IsNumber}
use Rattle.jc_facts.specs.declared.class_facts.Constant.{Constant}
use Rattle.jc_facts.specs.Names.{Bytes, same}
use Rattle.jc_facts.specs.file.Attributes.{◌|>>◌, whole, counted_at, class_from, class_list_of, nest_host_of, lone_index, signature_of, constant_value_of, constant_from}
use Rattle.jc_facts.specs.file.ClassParts.{Attribute, OnMember, OnClass}
use Rattle.jc_facts.specs.file.ClassGrammar.{IsClassAt, AreClasses, IsHost, IsSignature, IsConstantValue, SayOnMember, SayOnClass}
use Rattle.jc_facts.specs.file.ClassSteps.{once, has_this_name, put_constant, put_signature, member_takes, put_permits, put_nest_host, put_nest_members, put_class_signature, class_takes, nothing_on_member, nothing_on_class}
use Rattle.jc_facts.proofs.Same.{same_is}
use Rattle.jc_facts.proofs.Front.{number_stands, number_read, counted_stands, counted_read}
use Rattle.jc_facts.proofs.ClassIndices.{class_stands, class_read}
use Rattle.jc_facts.proofs.Options.{some_then}
use Rattle.jc_facts.proofs.AttributeLists.{taken, kept, one_of, of_name, AreOne, once_say, once_said}
use Rattle.std.proofs.lemmas.Bool.{and_right}
use Rattle.std.specs.Cmp.{second_so}

-- ---- contents

pub whole_is : {A : Type 0} (r : Result (A × Bytes) Fault) (x : A) → whole r ≡ Some x → r ≡ Ok (x, [])
whole_is {A} (Err f) x e = absurd cc
whole_is {A} (Ok (y, [])) x e = let q : y ≡ x = cc in ap (λ (z : A). Ok (z, [])) q
whole_is {A} (Ok (y, b ∷ bs)) x e = absurd cc

pub whole_again : {A : Type 0} (r : Result (A × Bytes) Fault) (x : A) → r ≡ Ok (x, []) → whole r ≡ Some x
whole_again {A} r x e = rw e refl

pub classes_are_one : (pool : PoolOf) → AreOne (class_list_of pool) (AreClasses pool)
unfolding class_list_of
classes_are_one pool = record {
  stands = λ body x e. counted_stands (class_from pool) (IsClassAt pool) (class_stands pool) body (x, []) (whole_is (counted_at (class_from pool) body) x e);
  is_read = λ body x h. whole_again (counted_at (class_from pool) body) x (counted_read (class_from pool) (IsClassAt pool) (class_read pool) body x [] h);
}

pub host_is_one : (pool : PoolOf) → AreOne (nest_host_of pool) (IsHost pool)
unfolding nest_host_of
host_is_one pool = record {
  stands = λ body x e. class_stands pool body (x, []) (whole_is (class_from pool body) x e);
  is_read = λ body x h. whole_again (class_from pool body) x (class_read pool body x [] h);
}

index_stands : (body : Bytes) (i : ℕ) → lone_index body ≡ Some i → IsNumber 2 body i
index_stands body i e =
    let n = number_stands 2 body (i, []) (whole_is (number_at 2 body) i e) in
    subst (λ (bs : Bytes). IsNumber 2 bs i) (sym (n.whole ∙ append-nil n.piece)) n.value_is

index_read : (body : Bytes) (i : ℕ) → IsNumber 2 body i → lone_index body ≡ Some i
index_read body i h = whole_again (number_at 2 body) i (number_read 2 body i [] (record { piece = body; whole = sym (append-nil body); value_is = h }))

pub signature_is_one : (pool : PoolOf) → AreOne (signature_of pool) (IsSignature pool)
unfolding signature_of
signature_is_one pool = record {
  stands = λ body x e. (let k = some_then (lone_index body) (λ (i : ℕ). utf8_in pool i) x e in record { index = k.0; index_is = index_stands body k.0 k.1; text_is = k.2 });
  is_read = λ body x h. rw (index_read body h.index h.index_is) h.text_is;
}

constant_stands : (pool : PoolOf) (body : Bytes) (x : Constant) → ((lone_index body |>> constant_in pool) |>> λ c. Some (constant_from c)) ≡ Some x → IsConstantValue pool body x
constant_stands pool body x e =
    let k = some_then (lone_index body |>> constant_in pool) (λ (c : ConstantOf). Some (constant_from c)) x e in
    let i = some_then (lone_index body) (λ (j : ℕ). constant_in pool j) k.0 k.1 in
    let q : constant_from k.0 ≡ x = (let g = k.2 in cc) in
    record { index = i.0; index_is = index_stands body i.0 i.1; entry = k.0; entry_is = i.2; value_is = sym q }

pub constant_is_one : (pool : PoolOf) → AreOne (constant_value_of pool) (IsConstantValue pool)
unfolding constant_value_of
constant_is_one pool = record {
  stands = λ body x e. constant_stands pool body x e;
  is_read = λ body x h. rw (index_read body h.index h.index_is, h.entry_is, h.value_is) refl;
}

-- ---- two attributes of different names

names_apart : (n x y : Bytes) → same x y ≡ false → same n x ≡ true → same n y ≡ false
names_apart n x y d e = ap (λ (k : Bytes). same k y) (same_is n x e) ∙ d

-- where at most one of two tests holds
abbrev pub Apart : Bool → Bool → Type 0
Apart a b = a ≡ true → b ≡ false

tests_apart : (p q : Bool) (n x y : Bytes) → same x y ≡ false → Apart (p && same n x) (q && same n y)
tests_apart p q n x y d e = and_right q (same n y) (names_apart n x y d (second_so p (same n x) e))

-- ---- members

abbrev pub gather_member : Option (Option Constant) → Option (Option Bytes) → Option OnMember
gather_member None s = None
gather_member (Some c) None = None
gather_member (Some c) (Some s) = Some (record { constant = c; signature = s })

member_chain : (a b : Bool) (f : OnMember) (v : Option Constant) (w : Option Bytes) → Apart a b
    → cond a (put_constant f (once f.constant v)) (cond b (put_signature f (once f.signature w)) (Some f)) ≡ gather_member (one_of a f.constant v) (one_of b f.signature w)
member_chain true true f v w p = absurd (let q : true ≡ false = p refl in cc)
member_chain true false f v w p = go (once f.constant v) where
  go : (o : Option Constant) → put_constant f o ≡ gather_member (kept o) (Some f.signature)
  go None = refl
  go (Some c) = refl
member_chain false true f v w p = go (once f.signature w) where
  go : (o : Option Bytes) → put_signature f o ≡ gather_member (Some f.constant) (kept o)
  go None = refl
  go (Some c) = refl
member_chain false false f v w p = refl

abbrev pub member_constant : Bool → PoolOf → Option Constant → Attribute → Option (Option Constant)
member_constant method pool = of_name (constant_value_of pool) (not method) (codes "ConstantValue")

abbrev pub member_signature : PoolOf → Option Bytes → Attribute → Option (Option Bytes)
member_signature pool = of_name (signature_of pool) (nat_le 49 pool.major) (codes "Signature")

take_member_is : (method : Bool) (pool : PoolOf) (f : OnMember) (a : Attribute) → member_takes method pool f a ≡ gather_member (member_constant method pool f.constant a) (member_signature pool f.signature a)
unfolding member_takes
take_member_is method pool f a =
    member_chain (not method && has_this_name a (codes "ConstantValue")) (nat_le 49 pool.major && has_this_name a (codes "Signature")) f (constant_value_of pool a.body) (signature_of pool a.body)
    (tests_apart (not method) (nat_le 49 pool.major) a.name (codes "ConstantValue") (codes "Signature") refl)

member_parts : (c : Option (Option Constant)) (s : Option (Option Bytes)) (t : OnMember) → gather_member c s ≡ Some t → (c ≡ Some t.constant) × (s ≡ Some t.signature)
member_parts None s t e = absurd cc
member_parts (Some c) None t e = absurd cc
member_parts (Some c) (Some s) t e =
    let q : record { constant = c; signature = s } ≡ t = cc in
    (ap (λ (u : OnMember). Some u.constant) q, ap (λ (u : OnMember). Some u.signature) q)

gathered_member : (c : Option (Option Constant)) (s : Option (Option Bytes)) (x : Option Constant) (y : Option Bytes) → c ≡ Some x → s ≡ Some y → gather_member c s ≡ Some (record { constant = x; signature = y })
gathered_member c s x y p q = rw (p, q) refl

-- what is found with all attributes, name by name
taken_member_parts : (method : Bool) (pool : PoolOf) (ats : List Attribute) (f t : OnMember) → taken (member_takes method pool) f ats ≡ Some t
    → (taken (member_constant method pool) f.constant ats ≡ Some t.constant) × (taken (member_signature pool) f.signature ats ≡ Some t.signature)
taken_member_parts method pool [] f t e = let q : f ≡ t = cc in (ap (λ (u : OnMember). Some u.constant) q, ap (λ (u : OnMember). Some u.signature) q)
taken_member_parts method pool (a ∷ ats) f t e =
    let k = some_then (member_takes method pool f a) (λ (u : OnMember). taken (member_takes method pool) u ats) t e in
    let p = member_parts (member_constant method pool f.constant a) (member_signature pool f.signature a) k.0 (sym (take_member_is method pool f a) ∙ k.1) in
    let ih = taken_member_parts method pool ats k.0 t k.2 in (
      ap (λ (o : Option (Option Constant)). o |>> λ u. taken (member_constant method pool) u ats) p.0 ∙ ih.0,
      ap (λ (o : Option (Option Bytes)). o |>> λ u. taken (member_signature pool) u ats) p.1 ∙ ih.1,
    )

taken_member : (method : Bool) (pool : PoolOf) (ats : List Attribute) (f t : OnMember)
    → taken (member_constant method pool) f.constant ats ≡ Some t.constant → taken (member_signature pool) f.signature ats ≡ Some t.signature → taken (member_takes method pool) f ats ≡ Some t
taken_member method pool [] f t e d =
    let p : f.constant ≡ t.constant = cc in
    let q : f.signature ≡ t.signature = cc in
    ap (λ (c : Option Constant). Some (record { constant = c; signature = f.signature })) p ∙ ap (λ (s : Option Bytes). Some (record { constant = t.constant; signature = s })) q
taken_member method pool (a ∷ ats) f t e d =
    let c = some_then (member_constant method pool f.constant a) (λ (u : Option Constant). taken (member_constant method pool) u ats) t.constant e in
    let s = some_then (member_signature pool f.signature a) (λ (u : Option Bytes). taken (member_signature pool) u ats) t.signature d in
    let g : member_takes method pool f a ≡ Some (record { constant = c.0; signature = s.0 }) = take_member_is method pool f a ∙ gathered_member (member_constant method pool f.constant a) (member_signature pool f.signature a) c.0 s.0 c.1 s.1 in
    ap (λ (o : Option OnMember). o |>> λ u. taken (member_takes method pool) u ats) g ∙ taken_member method pool ats (record { constant = c.0; signature = s.0 }) t c.2 s.2

pub member_says : (method : Bool) (pool : PoolOf) (ats : List Attribute) (t : OnMember) → taken (member_takes method pool) nothing_on_member ats ≡ Some t → SayOnMember method pool ats t
member_says method pool ats t e =
    let p = taken_member_parts method pool ats nothing_on_member t e in
    record {
      constant = once_say (constant_value_of pool) (IsConstantValue pool) (constant_is_one pool) (not method) (codes "ConstantValue") ats t.constant p.0;
      signature = once_say (signature_of pool) (IsSignature pool) (signature_is_one pool) (nat_le 49 pool.major) (codes "Signature") ats t.signature p.1;
    }

pub member_said : (method : Bool) (pool : PoolOf) (ats : List Attribute) (t : OnMember) → SayOnMember method pool ats t → taken (member_takes method pool) nothing_on_member ats ≡ Some t
member_said method pool ats t h =
    taken_member method pool ats nothing_on_member t
    (once_said (constant_value_of pool) (IsConstantValue pool) (constant_is_one pool) (not method) (codes "ConstantValue") ats t.constant h.constant)
    (once_said (signature_of pool) (IsSignature pool) (signature_is_one pool) (nat_le 49 pool.major) (codes "Signature") ats t.signature h.signature)

-- ---- the class

abbrev pub gather_class : Option (Option (List Bytes)) → Option (Option Bytes) → Option (Option (List Bytes)) → Option (Option Bytes) → Option OnClass
gather_class None h m s = None
gather_class (Some p) None m s = None
gather_class (Some p) (Some h) None s = None
gather_class (Some p) (Some h) (Some m) None = None
gather_class (Some p) (Some h) (Some m) (Some s) = Some (record { permits = p; nest_host = h; nest_members = m; signature = s })

permits_kept : (f : OnClass) (o : Option (List Bytes)) → put_permits f o ≡ gather_class (kept o) (Some f.nest_host) (Some f.nest_members) (Some f.signature)
permits_kept f None = refl
permits_kept f (Some p) = refl

host_kept : (f : OnClass) (o : Option Bytes) → put_nest_host f o ≡ gather_class (Some f.permits) (kept o) (Some f.nest_members) (Some f.signature)
host_kept f None = refl
host_kept f (Some p) = refl

members_kept : (f : OnClass) (o : Option (List Bytes)) → put_nest_members f o ≡ gather_class (Some f.permits) (Some f.nest_host) (kept o) (Some f.signature)
members_kept f None = refl
members_kept f (Some p) = refl

signature_kept : (f : OnClass) (o : Option Bytes) → put_class_signature f o ≡ gather_class (Some f.permits) (Some f.nest_host) (Some f.nest_members) (kept o)
signature_kept f None = refl
signature_kept f (Some p) = refl

class_chain : (a b c d : Bool) (f : OnClass) (v : Option (List Bytes)) (w : Option Bytes) (x : Option (List Bytes)) (y : Option Bytes) → Apart a b → Apart a c → Apart a d → Apart b c → Apart b d → Apart c d
    → cond a (put_permits f (once f.permits v)) (cond b (put_nest_host f (once f.nest_host w)) (cond c (put_nest_members f (once f.nest_members x)) (cond d (put_class_signature f (once f.signature y)) (Some f))))
    ≡ gather_class (one_of a f.permits v) (one_of b f.nest_host w) (one_of c f.nest_members x) (one_of d f.signature y)
class_chain true b c d f v w x y ab ac ad bc bd ce = rw (ab refl, ac refl, ad refl) (permits_kept f (once f.permits v))
class_chain false true c d f v w x y ab ac ad bc bd ce = rw (bc refl, bd refl) (host_kept f (once f.nest_host w))
class_chain false false true d f v w x y ab ac ad bc bd ce = rw (ce refl) (members_kept f (once f.nest_members x))
class_chain false false false true f v w x y ab ac ad bc bd ce = signature_kept f (once f.signature y)
class_chain false false false false f v w x y ab ac ad bc bd ce = refl

abbrev pub class_permits : PoolOf → Option (List Bytes) → Attribute → Option (Option (List Bytes))
class_permits pool = of_name (class_list_of pool) (nat_le 61 pool.major) (codes "PermittedSubclasses")

abbrev pub class_host : PoolOf → Option Bytes → Attribute → Option (Option Bytes)
class_host pool = of_name (nest_host_of pool) (nat_le 55 pool.major) (codes "NestHost")

abbrev pub class_members : PoolOf → Option (List Bytes) → Attribute → Option (Option (List Bytes))
class_members pool = of_name (class_list_of pool) (nat_le 55 pool.major) (codes "NestMembers")

abbrev pub class_signature : PoolOf → Option Bytes → Attribute → Option (Option Bytes)
class_signature pool = of_name (signature_of pool) (nat_le 49 pool.major) (codes "Signature")

take_class_is : (pool : PoolOf) (f : OnClass) (a : Attribute) → class_takes pool f a ≡ gather_class (class_permits pool f.permits a) (class_host pool f.nest_host a) (class_members pool f.nest_members a) (class_signature pool f.signature a)
unfolding class_takes
take_class_is pool f a =
    class_chain (nat_le 61 pool.major && has_this_name a (codes "PermittedSubclasses")) (nat_le 55 pool.major && has_this_name a (codes "NestHost")) (nat_le 55 pool.major && has_this_name a (codes "NestMembers")) (nat_le 49 pool.major && has_this_name a (codes "Signature"))
    f (class_list_of pool a.body) (nest_host_of pool a.body) (class_list_of pool a.body) (signature_of pool a.body)
    (tests_apart (nat_le 61 pool.major) (nat_le 55 pool.major) a.name (codes "PermittedSubclasses") (codes "NestHost") refl)
    (tests_apart (nat_le 61 pool.major) (nat_le 55 pool.major) a.name (codes "PermittedSubclasses") (codes "NestMembers") refl)
    (tests_apart (nat_le 61 pool.major) (nat_le 49 pool.major) a.name (codes "PermittedSubclasses") (codes "Signature") refl)
    (tests_apart (nat_le 55 pool.major) (nat_le 55 pool.major) a.name (codes "NestHost") (codes "NestMembers") refl)
    (tests_apart (nat_le 55 pool.major) (nat_le 49 pool.major) a.name (codes "NestHost") (codes "Signature") refl)
    (tests_apart (nat_le 55 pool.major) (nat_le 49 pool.major) a.name (codes "NestMembers") (codes "Signature") refl)

-- four parts that are all there
pub record AreParts (p : Option (Option (List Bytes))) (h : Option (Option Bytes)) (m : Option (Option (List Bytes))) (s : Option (Option Bytes)) (t : OnClass) : Type 0 where
  pub permits : p ≡ Some t.permits
  pub nest_host : h ≡ Some t.nest_host
  pub nest_members : m ≡ Some t.nest_members
  pub signature : s ≡ Some t.signature

class_parts : (p : Option (Option (List Bytes))) (h : Option (Option Bytes)) (m : Option (Option (List Bytes))) (s : Option (Option Bytes)) (t : OnClass) → gather_class p h m s ≡ Some t → AreParts p h m s t
class_parts None h m s t e = absurd cc
class_parts (Some p) None m s t e = absurd cc
class_parts (Some p) (Some h) None s t e = absurd cc
class_parts (Some p) (Some h) (Some m) None t e = absurd cc
class_parts (Some p) (Some h) (Some m) (Some s) t e =
    let q : record { permits = p; nest_host = h; nest_members = m; signature = s } ≡ t = cc in
    record {
      permits = ap (λ (u : OnClass). Some u.permits) q;
      nest_host = ap (λ (u : OnClass). Some u.nest_host) q;
      nest_members = ap (λ (u : OnClass). Some u.nest_members) q;
      signature = ap (λ (u : OnClass). Some u.signature) q;
    }

gathered_class : (p : Option (Option (List Bytes))) (h : Option (Option Bytes)) (m : Option (Option (List Bytes))) (s : Option (Option Bytes)) (t : OnClass) → AreParts p h m s t → gather_class p h m s ≡ Some t
gathered_class p h m s t k = rw (k.permits, k.nest_host, k.nest_members, k.signature) refl

abbrev AllParts : PoolOf → OnClass → List Attribute → OnClass → Type 0
AllParts pool f ats t = AreParts (taken (class_permits pool) f.permits ats) (taken (class_host pool) f.nest_host ats) (taken (class_members pool) f.nest_members ats) (taken (class_signature pool) f.signature ats) t

taken_class_parts : (pool : PoolOf) (ats : List Attribute) (f t : OnClass) → taken (class_takes pool) f ats ≡ Some t → AllParts pool f ats t
taken_class_parts pool [] f t e =
    let q : f ≡ t = cc in
    record {
      permits = ap (λ (u : OnClass). Some u.permits) q;
      nest_host = ap (λ (u : OnClass). Some u.nest_host) q;
      nest_members = ap (λ (u : OnClass). Some u.nest_members) q;
      signature = ap (λ (u : OnClass). Some u.signature) q;
    }
taken_class_parts pool (a ∷ ats) f t e =
    let k = some_then (class_takes pool f a) (λ (u : OnClass). taken (class_takes pool) u ats) t e in
    let p = class_parts (class_permits pool f.permits a) (class_host pool f.nest_host a) (class_members pool f.nest_members a) (class_signature pool f.signature a) k.0 (sym (take_class_is pool f a) ∙ k.1) in
    let ih = taken_class_parts pool ats k.0 t k.2 in
    record {
      permits = ap (λ (o : Option (Option (List Bytes))). o |>> λ u. taken (class_permits pool) u ats) p.permits ∙ ih.permits;
      nest_host = ap (λ (o : Option (Option Bytes)). o |>> λ u. taken (class_host pool) u ats) p.nest_host ∙ ih.nest_host;
      nest_members = ap (λ (o : Option (Option (List Bytes))). o |>> λ u. taken (class_members pool) u ats) p.nest_members ∙ ih.nest_members;
      signature = ap (λ (o : Option (Option Bytes)). o |>> λ u. taken (class_signature pool) u ats) p.signature ∙ ih.signature;
    }

taken_class : (pool : PoolOf) (ats : List Attribute) (f t : OnClass) → AllParts pool f ats t → taken (class_takes pool) f ats ≡ Some t
taken_class pool [] f t k = gathered_class (Some f.permits) (Some f.nest_host) (Some f.nest_members) (Some f.signature) t k
taken_class pool (a ∷ ats) f t k =
    let p = some_then (class_permits pool f.permits a) (λ (u : Option (List Bytes)). taken (class_permits pool) u ats) t.permits k.permits in
    let h = some_then (class_host pool f.nest_host a) (λ (u : Option Bytes). taken (class_host pool) u ats) t.nest_host k.nest_host in
    let m = some_then (class_members pool f.nest_members a) (λ (u : Option (List Bytes)). taken (class_members pool) u ats) t.nest_members k.nest_members in
    let s = some_then (class_signature pool f.signature a) (λ (u : Option Bytes). taken (class_signature pool) u ats) t.signature k.signature in
    let next : OnClass = record { permits = p.0; nest_host = h.0; nest_members = m.0; signature = s.0 } in
    let g : class_takes pool f a ≡ Some next = take_class_is pool f a ∙ gathered_class (class_permits pool f.permits a) (class_host pool f.nest_host a) (class_members pool f.nest_members a) (class_signature pool f.signature a) next (record { permits = p.1; nest_host = h.1; nest_members = m.1; signature = s.1 }) in
    ap (λ (o : Option OnClass). o |>> λ u. taken (class_takes pool) u ats) g ∙ taken_class pool ats next t (record { permits = p.2; nest_host = h.2; nest_members = m.2; signature = s.2 })

pub class_says : (pool : PoolOf) (ats : List Attribute) (t : OnClass) → taken (class_takes pool) nothing_on_class ats ≡ Some t → SayOnClass pool ats t
class_says pool ats t e =
    let p = taken_class_parts pool ats nothing_on_class t e in
    record {
      permits = once_say (class_list_of pool) (AreClasses pool) (classes_are_one pool) (nat_le 61 pool.major) (codes "PermittedSubclasses") ats t.permits p.permits;
      nest_host = once_say (nest_host_of pool) (IsHost pool) (host_is_one pool) (nat_le 55 pool.major) (codes "NestHost") ats t.nest_host p.nest_host;
      nest_members = once_say (class_list_of pool) (AreClasses pool) (classes_are_one pool) (nat_le 55 pool.major) (codes "NestMembers") ats t.nest_members p.nest_members;
      signature = once_say (signature_of pool) (IsSignature pool) (signature_is_one pool) (nat_le 49 pool.major) (codes "Signature") ats t.signature p.signature;
    }

pub class_said : (pool : PoolOf) (ats : List Attribute) (t : OnClass) → SayOnClass pool ats t → taken (class_takes pool) nothing_on_class ats ≡ Some t
class_said pool ats t h =
    taken_class pool ats nothing_on_class t (record {
      permits = once_said (class_list_of pool) (AreClasses pool) (classes_are_one pool) (nat_le 61 pool.major) (codes "PermittedSubclasses") ats t.permits h.permits;
      nest_host = once_said (nest_host_of pool) (IsHost pool) (host_is_one pool) (nat_le 55 pool.major) (codes "NestHost") ats t.nest_host h.nest_host;
      nest_members = once_said (class_list_of pool) (AreClasses pool) (classes_are_one pool) (nat_le 55 pool.major) (codes "NestMembers") ats t.nest_members h.nest_members;
      signature = once_said (signature_of pool) (IsSignature pool) (signature_is_one pool) (nat_le 49 pool.major) (codes "Signature") ats t.signature h.signature;
    })
