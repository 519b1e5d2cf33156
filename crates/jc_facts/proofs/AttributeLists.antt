-- Attributes of a list: what is found with each of them in turn is what the attributes of each name say.
use Rattle.std.proofs.Common.{◌≡◌, ℕ, suc, zero, Bool, true, false, cond, ◌&&◌, List, [], ◌∷◌, length, Option, Some, None, Result, Ok, refl, sym, ap, subst, ◌∙◌}
use Rattle.std.specs.Prelude.{filter}
use Rattle.jc_desc.specs.declared.fault.Fault.{Fault}
use Rattle.jc_desc.specs.declared.fault.Reason.TheVariants as reasons
use Rattle.jc_desc.specs.Faults.{◌>>=◌, number_at, part_at}
use Rattle.jc_desc.specs.Pool.{PoolOf}
use Rattle.jc_desc.specs.PoolAnswers.{utf8_in}
use Rattle.jc_desc.proofs.Parts.{bind_ok, part_is, part_again}
use Rattle.jc_facts.specs.Names.{Bytes, same}
use Rattle.jc_facts.specs.file.Attributes.{need, ◌|>>◌}
use Rattle.jc_facts.specs.file.ClassParts.{Attribute}
use Rattle.jc_facts.specs.file.ClassGrammar.{IsNumberAt, AreItems, AreCounted, IsAttributeAt, named, SayOnce}
use Rattle.jc_facts.specs.file.ClassSteps.{attribute_from, attributes_at, counted_attributes_at, once, has_this_name}
use Rattle.jc_facts.proofs.Front.{need_ok, number_stands, number_read, Stands, IsRead}
use Rattle.jc_facts.proofs.Options.{some_then}

abbrev Number : Type 0
Number = ℕ × Bytes

-- ---- one attribute

abbrev to_body : PoolOf → Bytes → Number → Number → Result (Attribute × Bytes) Fault
to_body pool bytes index len =
    need (utf8_in pool index.0) (length bytes) reasons.BadIndex >>= λ name. part_at len.0 len.1 >>= λ body. Ok (record { name = name; body = body.0 }, body.1)

pub attribute_stands : (pool : PoolOf) → Stands (attribute_from pool) (IsAttributeAt pool)
unfolding attribute_from
attribute_stands pool bytes x e =
    let a = bind_ok (number_at 2 bytes) (λ (index : Number). number_at 4 index.1 >>= λ len. to_body pool bytes index len) x e in
    let b = bind_ok (number_at 4 a.0.1) (λ (len : Number). to_body pool bytes a.0 len) x a.2 in
    let n = bind_ok (need (utf8_in pool a.0.0) (length bytes) reasons.BadIndex) (λ (name : Bytes). part_at b.0.0 b.0.1 >>= λ body. Ok (record { name = name; body = body.0 }, body.1)) x b.2 in
    let d = bind_ok (part_at b.0.0 b.0.1) (λ (body : Bytes × Bytes). Ok (record { name = n.0; body = body.0 }, body.1)) x n.2 in
    let p = part_is b.0.0 b.0.1 d.0.0 d.0.1 d.1 in
    let q : (record { name = n.0; body = d.0.0 }, d.0.1) ≡ x = (let g = d.2 in cc) in
    subst (λ (y : Attribute × Bytes). IsAttributeAt pool bytes y.0 y.1) q (record {
      index = a.0.0;
      after_index = a.0.1;
      after_length = b.0.1;
      index_is = number_stands 2 bytes a.0 a.1;
      name_is = need_ok (utf8_in pool a.0.0) (length bytes) reasons.BadIndex n.0 n.1;
      length_is = subst (λ (k : ℕ). IsNumberAt 4 a.0.1 k b.0.1) (sym p.1) (number_stands 4 a.0.1 b.0 b.1);
      whole = p.0;
    })

pub attribute_read : (pool : PoolOf) → IsRead (attribute_from pool) (IsAttributeAt pool)
unfolding attribute_from
attribute_read pool bytes a rest h =
    let part : part_at (length a.body) h.after_length ≡ Ok (a.body, rest) = ap (λ (bs : Bytes). part_at (length a.body) bs) h.whole ∙ part_again (length a.body) a.body rest refl in
    rw (number_read 2 bytes h.index h.after_index h.index_is, number_read 4 h.after_index (length a.body) h.after_length h.length_is, h.name_is, part) refl

-- ---- all of them in turn

-- what is found with each in turn
abbrev pub taken : {S : Type 0} → (S → Attribute → Option S) → S → List Attribute → Option S
taken take s [] = Some s
taken take s (a ∷ ats) = take s a |>> λ t. taken take t ats

pub attributes_stand : {S : Type 0} (take : S → Attribute → Option S) (pool : PoolOf) (n : ℕ) (s : S) (bytes : Bytes) (x : S × Bytes) → attributes_at take pool n s bytes ≡ Ok x
    → (ats : List Attribute) × (length ats ≡ n) × AreItems (IsAttributeAt pool) bytes ats x.1 × (taken take s ats ≡ Some x.0)
unfolding attributes_at
attributes_stand {S} take pool zero s bytes x e =
    let q : (s, bytes) ≡ x = cc in
    subst (λ (y : S × Bytes). (ats : List Attribute) × (length ats ≡ 0) × AreItems (IsAttributeAt pool) bytes ats y.1 × (taken take s ats ≡ Some y.0)) q ([], refl, refl, refl)
attributes_stand {S} take pool (suc n) s bytes x e =
    let a = bind_ok (attribute_from pool bytes) (λ (one : Attribute × Bytes). need (take s one.0) (length bytes) reasons.BadAttribute >>= λ next. attributes_at take pool n next one.1) x e in
    let b = bind_ok (need (take s a.0.0) (length bytes) reasons.BadAttribute) (λ (next : S). attributes_at take pool n next a.0.1) x a.2 in
    let t : take s a.0.0 ≡ Some b.0 = need_ok (take s a.0.0) (length bytes) reasons.BadAttribute b.0 b.1 in
    let ih = attributes_stand take pool n b.0 a.0.1 x b.2 in
    (a.0.0 ∷ ih.0, ap (λ (k : ℕ). suc k) ih.1, (a.0.1, attribute_stands pool bytes a.0 a.1, ih.2), ap (λ (o : Option S). o |>> λ u. taken take u ih.0) t ∙ ih.3)

pub attributes_read : {S : Type 0} (take : S → Attribute → Option S) (pool : PoolOf) (s t : S) (bytes : Bytes) (ats : List Attribute) (rest : Bytes) → AreItems (IsAttributeAt pool) bytes ats rest → taken take s ats ≡ Some t
    → attributes_at take pool (length ats) s bytes ≡ Ok (t, rest)
unfolding attributes_at
attributes_read {S} take pool s t bytes [] rest h e = let q : s ≡ t = cc in ap (λ (u : S). Ok (u, bytes)) q ∙ ap (λ (bs : Bytes). Ok (t, bs)) h
attributes_read {S} take pool s t bytes (a ∷ ats) rest h e =
    let k = some_then (take s a) (λ (u : S). taken take u ats) t e in
    rw (attribute_read pool bytes a h.0 h.1, k.1, attributes_read take pool k.0 t h.0 ats rest h.2 k.2) refl

pub counted_attributes_stand : {S : Type 0} (take : S → Attribute → Option S) (pool : PoolOf) (s : S) (bytes : Bytes) (x : S × Bytes) → counted_attributes_at take pool s bytes ≡ Ok x
    → (ats : List Attribute) × AreCounted (IsAttributeAt pool) bytes ats x.1 × (taken take s ats ≡ Some x.0)
unfolding counted_attributes_at
counted_attributes_stand {S} take pool s bytes x e =
    let a = bind_ok (number_at 2 bytes) (λ (n : Number). attributes_at take pool n.0 s n.1) x e in
    let k = attributes_stand take pool a.0.0 s a.0.1 x a.2 in
    (k.0, record { after_count = a.0.1; count_is = subst (λ (m : ℕ). IsNumberAt 2 bytes m a.0.1) (sym k.1) (number_stands 2 bytes a.0 a.1); items_are = k.2 }, k.3)

pub counted_attributes_read : {S : Type 0} (take : S → Attribute → Option S) (pool : PoolOf) (s t : S) (bytes : Bytes) (ats : List Attribute) (rest : Bytes) → AreCounted (IsAttributeAt pool) bytes ats rest → taken take s ats ≡ Some t
    → counted_attributes_at take pool s bytes ≡ Ok (t, rest)
unfolding counted_attributes_at
counted_attributes_read {S} take pool s t bytes ats rest h e = rw (number_read 2 bytes (length ats) h.after_count h.count_is, attributes_read take pool s t h.after_count ats rest h.items_are e) refl

-- ---- the attributes of one name

-- what is kept of a value that is there
abbrev pub kept : {A : Type 0} → Option A → Option (Option A)
kept None = None
kept (Some x) = Some (Some x)

-- with one attribute, of this name and read or not
abbrev pub one_of : {A : Type 0} → Bool → Option A → Option A → Option (Option A)
one_of here o value = cond here (kept (once o value)) (Some o)

abbrev pub of_name : {A : Type 0} → (Bytes → Option A) → Bool → Bytes → Option A → Attribute → Option (Option A)
of_name form read name o a = one_of (read && has_this_name a name) o (form a.body)

-- with all attributes that are left by their name
abbrev pub all_of : {A : Type 0} → (Bytes → Option A) → Option A → List Attribute → Option (Option A)
all_of form o [] = Some o
all_of form o (a ∷ ats) = kept (once o (form a.body)) |>> λ p. all_of form p ats

filtered : {A : Type 0} (form : Bytes → Option A) (name : Bytes) (o : Option A) (a : Attribute) (ats : List Attribute) (b : Bool) → has_this_name a name ≡ b
    → ((p : Option A) → taken (of_name form true name) p ats ≡ all_of form p (filter (λ a. same a.name name) ats))
    → taken (of_name form true name) o (a ∷ ats) ≡ all_of form o (filter (λ a. same a.name name) (a ∷ ats))
filtered {A} form name o a ats true e ih =
    let go : (r : Option (Option A)) → (r |>> λ t. taken (of_name form true name) t ats) ≡ (r |>> λ p. all_of form p (filter (λ a. same a.name name) ats)) = after ih in
    rw e (go (kept (once o (form a.body)))) where
      after : ((p : Option A) → taken (of_name form true name) p ats ≡ all_of form p (filter (λ a. same a.name name) ats)) → (r : Option (Option A)) → (r |>> λ t. taken (of_name form true name) t ats) ≡ (r |>> λ p. all_of form p (filter (λ a. same a.name name) ats))
      after ih None = refl
      after ih (Some p) = ih p
filtered {A} form name o a ats false e ih = rw e (ih o)

taken_is : {A : Type 0} (form : Bytes → Option A) (name : Bytes) (ats : List Attribute) (o : Option A) → taken (of_name form true name) o ats ≡ all_of form o (filter (λ a. same a.name name) ats)
taken_is {A} form name [] o = refl
taken_is {A} form name (a ∷ ats) o = filtered form name o a ats (has_this_name a name) refl (taken_is form name ats)

skipped : {A : Type 0} (form : Bytes → Option A) (name : Bytes) (ats : List Attribute) (o : Option A) → taken (of_name form false name) o ats ≡ Some o
skipped {A} form name [] o = refl
skipped {A} form name (a ∷ ats) o = skipped form name ats o

-- the form of contents, as a relation and as what is read
pub record AreOne {A : Type 0} (form : Bytes → Option A) (F : Bytes → A → Type 0) : Type 0 where
  pub stands : (body : Bytes) (x : A) → form body ≡ Some x → F body x
  pub is_read : (body : Bytes) (x : A) → F body x → form body ≡ Some x

single : {A : Type 0} (form : Bytes → Option A) (F : Bytes → A → Type 0) → AreOne form F → (a : Attribute) (v : Option A) (o : Option A) → form a.body ≡ v → (kept v |>> λ p. all_of form p []) ≡ Some o → SayOnce F (a ∷ []) o
single {A} form F one a None o e h = absurd cc
single {A} form F one a (Some x) None e h = absurd cc
single {A} form F one a (Some x) (Some y) e h = let q : x ≡ y = cc in subst (F a.body) q (one.stands a.body x e)

twice : {A : Type 0} (form : Bytes → Option A) (a b : Attribute) (ats : List Attribute) (v : Option A) (o : Option A) → (kept v |>> λ p. all_of form p (b ∷ ats)) ≡ Some o → ⊥
twice {A} form a b ats None o h = (let q : None ≡ Some o = h in cc)
twice {A} form a b ats (Some x) o h = (let q : None ≡ Some o = h in cc)

all_say : {A : Type 0} (form : Bytes → Option A) (F : Bytes → A → Type 0) → AreOne form F → (ats : List Attribute) (o : Option A) → all_of form None ats ≡ Some o → SayOnce F ats o
all_say {A} form F one [] None h = tt
all_say {A} form F one [] (Some x) h = absurd cc
all_say {A} form F one (a ∷ []) o h = single form F one a (form a.body) o refl h
all_say {A} form F one (a ∷ b ∷ ats) o h = absurd (twice form a b ats (form a.body) o h)

all_said : {A : Type 0} (form : Bytes → Option A) (F : Bytes → A → Type 0) → AreOne form F → (ats : List Attribute) (o : Option A) → SayOnce F ats o → all_of form None ats ≡ Some o
all_said {A} form F one [] None h = refl
all_said {A} form F one [] (Some x) h = absurd h
all_said {A} form F one (a ∷ []) None h = absurd h
all_said {A} form F one (a ∷ []) (Some x) h = rw (one.is_read a.body x h) refl
all_said {A} form F one (a ∷ b ∷ ats) None h = absurd h
all_said {A} form F one (a ∷ b ∷ ats) (Some x) h = absurd h

pub once_say : {A : Type 0} (form : Bytes → Option A) (F : Bytes → A → Type 0) → AreOne form F → (read : Bool) (name : Bytes) (ats : List Attribute) (o : Option A) → taken (of_name form read name) None ats ≡ Some o → SayOnce F (named read name ats) o
once_say {A} form F one true name ats o h = all_say form F one (filter (λ a. same a.name name) ats) o (sym (taken_is form name ats None) ∙ h)
once_say {A} form F one false name ats o h = all_say form F one [] o (sym (skipped form name ats None) ∙ h)

pub once_said : {A : Type 0} (form : Bytes → Option A) (F : Bytes → A → Type 0) → AreOne form F → (read : Bool) (name : Bytes) (ats : List Attribute) (o : Option A) → SayOnce F (named read name ats) o → taken (of_name form read name) None ats ≡ Some o
once_said {A} form F one true name ats o h = taken_is form name ats None ∙ all_said form F one (filter (λ a. same a.name name) ats) o h
once_said {A} form F one false name ats o h = skipped form name ats None ∙ all_said form F one [] o h
