-- The items of a method that is written are those that its body types to.
use Rattle.std.proofs.Common.{◌≡◌, ℕ, ◌-◌, ◌<◌, ◌≤◌, true, false, not, ◌&&◌, List, [], ◌∷◌, ◌++◌, length, Option, Some, None, Ok, refl, sym, ap, ◌∙◌, arith, nat_lt, append_assoc}
use Rattle.std.specs.List.{list_all}
use Rattle.std.specs.Prelude.{is_some, nat_le}
use Rattle.std.proofs.lemmas.Bool.{and_parts, and_from, leb-true, le-leb, lt-ltb}
use Rattle.std.proofs.lemmas.List.{append-nil}
use Rattle.std.proofs.lemmas.List.Folds.{list_all-append}
use Rattle.jc_desc.specs.Pool.{PoolOf}
use Rattle.jc_desc.specs.Reading.{slots_of_method}
use Rattle.jc_facts.specs.declared.blueprint.Body.{Body}
use Rattle.jc_facts.specs.declared.blueprint.Step.{Step}
use Rattle.jc_facts.specs.declared.class_facts.ClassFacts.{ClassFacts}
use Rattle.jc_facts.specs.declared.class_facts.Member.{Member}
use Rattle.jc_facts.specs.declared.client.Item.{Item}
use Rattle.jc_facts.specs.Flags.{static_flag}
use Rattle.jc_facts.specs.Names.{Bytes}
use Rattle.jc_facts.specs.file.Rules.{slots_fit_in}
use Rattle.jc_facts.specs.file.Attributes.{◌|>>◌, CodeOf}
use Rattle.jc_facts.specs.file.ClassParts.{Attribute, ClassHead}
use Rattle.jc_facts.specs.file.ClassSteps.{member_head_from}
use Rattle.jc_desc.specs.Faults.{number_at}
use Rattle.jc_facts.specs.code.ClientItems.{around, layout_of, items_of_code, code_items, attributes_items, attribute_items, method_items, methods_items}
use Rattle.jc_facts.specs.code.Code.{catches_at}
use Rattle.jc_facts.specs.written.PoolEntries.{two, counted, PoolEntry, text, has, is_good}
use Rattle.jc_facts.specs.written.Bodies.{steps_bytes, places_at_most, steps_needs}
use Rattle.jc_facts.specs.written.Written.{member_head, code_name, body_of_code, method_attributes, method_bytes, methods_bytes, attribute_bytes, body_needs, methods_needs, are_short, fits_body, fits_bodies, fits_count, body_is_good}
use Rattle.jc_facts.specs.code.Typing.{Kinds, method_kinds, start_of, typed_code, is_nil}
use Rattle.jc_facts.specs.written.TypedSteps.{typed_steps}
use Rattle.jc_facts.specs.written.TypedItems.{around_method, typed_body, or_nothing, body_items, bodies_items, is_callable_step, body_typed, bodies_typed}
use Rattle.jc_facts.proofs.AttributeLists.{attribute_read}
use Rattle.jc_facts.proofs.ClassMembers.{head_read}
use Rattle.jc_facts.proofs.Front.{number_read}
use Rattle.jc_facts.proofs.ReadValid.{member_valid}
use Rattle.jc_write.proofs.ValidMembers.{valid_slots}
use Rattle.jc_write.proofs.Linked.{Answers}
use Rattle.jc_write.proofs.PiecesStand.{short_front, attribute_stands}
use Rattle.jc_write.proofs.MembersStand.{is_sound, head_stands, code_short}
use Rattle.jc_write.proofs.CodeRead.{code_again}
use Rattle.jc_write.proofs.WholeFile.{head_of}
use Rattle.jc_write.proofs.CodeTyped.{AreRead, code_types, has_bytes}
use Rattle.jc_write.proofs.CodeScanned.{all_scanned, scans}
use Rattle.jc_write.proofs.SamePool.{within, same_steps}
use Rattle.jc_write.proofs.BodyRead.{steps_read}
use Rattle.jc_write.proofs.StartLocals.{few_places, start_places}

-- ---- a body

same_typed : (p : PoolOf) (c : ClassFacts) (m : Member) (ss : List Step) (o : Option Kinds)
    → (o |>> λ k. typed_steps (within p c m) k.result 0 (start_of (within p c m) k.params) ss) ≡ (o |>> λ k. typed_steps (around_method c m) k.result 0 (start_of (around_method c m) k.params) ss)
same_typed p c m ss None = refl
same_typed p c m ss (Some k) = same_steps p c m k.result ss 0 (start_of (within p c m) k.params)

with_kinds : (p : PoolOf) (c : ClassFacts) (m : Member) (ss : List Step) (o : Option Kinds) (found : List Item) → (o |>> λ k. typed_steps (around_method c m) k.result 0 (start_of (around_method c m) k.params) ss) ≡ Some found
    → (k : Kinds) × (o ≡ Some k) × (typed_steps (within p c m) k.result 0 (start_of (within p c m) k.params) ss ≡ Some found)
with_kinds p c m ss None found e = absurd cc
with_kinds p c m ss (Some k) found e = (k, refl, same_steps p c m k.result ss 0 (start_of (within p c m) k.params) ∙ e)

some_steps : (p : PoolOf) (c : ClassFacts) (m : Member) (k : Kinds) (pool : List PoolEntry) (ss : List Step) (found : List Item) → typed_steps (within p c m) k.result 0 (start_of (within p c m) k.params) ss ≡ Some found → 1 ≤ length (steps_bytes pool ss)
unfolding typed_steps
some_steps p c m k pool [] found e = absurd cc
some_steps p c m k pool (s ∷ ss) found e = not_empty (steps_bytes pool (s ∷ ss)) (has_bytes pool s (steps_bytes pool ss)) where
  not_empty : (bs : Bytes) → is_nil bs ≡ false → 1 ≤ length bs
  not_empty [] h = absurd cc
  not_empty (b ∷ bs) h = omega arith

is_some_from : (o : Option (List Item)) (found : List Item) → o ≡ Some found → is_some o ≡ true
is_some_from o found e = rw e refl

-- what is known of a method with a body
pub record IsBody (pool : List PoolEntry) (p : PoolOf) (c : ClassFacts) (m : Member) (body : Body) : Type 0 where
  pub answers : Answers pool p
  pub slots : slots_fit_in (not (static_flag m.flags)) (slots_of_method m.descriptor) ≡ true
  pub needs : list_all (has pool) (steps_needs body.steps) ≡ true
  pub good : list_all is_good (steps_needs body.steps) ≡ true
  pub callable : list_all is_callable_step body.steps ≡ true
  pub code_fits : length (steps_bytes pool body.steps) ≤ 65535
  pub stack_fits : places_at_most body.steps ≤ 65535

abbrev the_code : List PoolEntry → Body → CodeOf
the_code pool body = record { start = 8; bytes = steps_bytes pool body.steps; catches = [] }

body_read : (pool : List PoolEntry) (p : PoolOf) (c : ClassFacts) (m : Member) (body : Body) (found : List Item) → IsBody pool p c m body → (k : Kinds) → method_kinds m.descriptor ≡ Some k
    → typed_steps (within p c m) k.result 0 (start_of (within p c m) k.params) body.steps ≡ Some found → AreRead (within p c m) pool body.steps
body_read pool p c m body found h k d t =
    steps_read (within p c m) pool h.answers k.result body.steps h.needs h.good h.callable 0 (start_of (within p c m) k.params) (start_places (within p c m) k d h.slots) (is_some_from _ found t)

laid_out : (pool : List PoolEntry) (p : PoolOf) (c : ClassFacts) (m : Member) (body : Body) → IsBody pool p c m body → 1 ≤ length (steps_bytes pool body.steps) → layout_of (body_of_code pool m body) ≡ Some (the_code pool body)
unfolding layout_of
laid_out pool p c m body h l =
    let places = few_places m h.slots in
    let a : nat_le 1 (length (steps_bytes pool body.steps)) ≡ true = le-leb _ _ l in
    let b : nat_le (length (steps_bytes pool body.steps)) 65535 ≡ true = le-leb _ _ h.code_fits in
    rw (code_again pool m body (omega (arith, h.stack_fits)) (omega (arith, places)) (omega (arith, h.code_fits)), a, b) refl

code_found : (pool : List PoolEntry) (p : PoolOf) (c : ClassFacts) (m : Member) (body : Body) (left : ℕ) (found : List Item) → IsBody pool p c m body → typed_body c m body ≡ Some found
    → code_items (within p c m) false left (body_of_code pool m body) ≡ Ok found
unfolding code_items items_of_code typed_body catches_at
code_found pool p c m body left found h t =
    let k = with_kinds p c m body.steps (method_kinds m.descriptor) found t in
    let r = body_read pool p c m body found h k.0 k.1 k.2 in
    let e : typed_code (within p c m) (the_code pool body) ≡ Some found = code_types (within p c m) pool body.steps r ∙ same_typed p c m body.steps (method_kinds m.descriptor) ∙ t in
    let s = scans (within p c m) (left - 14) pool body.steps (all_scanned (within p c m) pool body.steps r) (length (steps_bytes pool body.steps)) 0 (omega arith) in
    let l = laid_out pool p c m body h (some_steps p c m k.0 pool body.steps found k.2) in
    rw (l, s.1, e) refl

-- ---- a method

abbrev code_attribute : List PoolEntry → Member → Body → Attribute
code_attribute pool m body = record { name = code_name; body = body_of_code pool m body }

code_attributes : (pool : List PoolEntry) (p : PoolOf) (c : ClassFacts) (m : Member) (body : Body) (found : List Item) (rest : Bytes) → IsBody pool p c m body → has pool (text code_name) ≡ true → typed_body c m body ≡ Some found
    → attributes_items (within p c m) false 1 (attribute_bytes pool (code_attribute pool m body) ++ rest) ≡ Ok (found, rest)
unfolding attributes_items attribute_items
code_attributes pool p c m body found rest h n t =
    let short : nat_lt (length (body_of_code pool m body)) 4294967296 ≡ true = lt-ltb _ _ (code_short pool m body h.code_fits) in
    let stands = attribute_stands pool p h.answers (code_attribute pool m body) rest (and_from (has pool (text code_name)) _ n short) in
    let e = attribute_read p (attribute_bytes pool (code_attribute pool m body) ++ rest) (code_attribute pool m body) rest stands in
    rw (e, code_found pool p c m body (length (attribute_bytes pool (code_attribute pool m body) ++ rest)) found h t) (ap (λ (xs : List Item). Ok (xs, rest)) (append-nil found))

attributes_found : (pool : List PoolEntry) (p : PoolOf) (w : Answers pool p) (c : ClassFacts) (m : Member) (b : Option Body) (rest : Bytes) → slots_fit_in (not (static_flag m.flags)) (slots_of_method m.descriptor) ≡ true
    → list_all (has pool) (body_needs b) ≡ true → fits_body pool b ≡ true → body_is_good b ≡ true → body_typed c m b ≡ true
    → (number : ℕ) × (after : Bytes) × (counted (attribute_bytes pool) (method_attributes pool m b) ++ rest ≡ two number ++ after) × (number < 65536) × (attributes_items (within p c m) false number after ≡ Ok (body_items c m b, rest))
unfolding attributes_items
attributes_found pool p w c m None rest s n f g t = (0, rest, refl, omega arith, refl)
attributes_found pool p w c m (Some body) rest s n f g t = by_type (typed_body c m body) refl typed.0 where
  needs : (has pool (text code_name) ≡ true) × (list_all (has pool) (steps_needs body.steps) ≡ true)
  needs = and_parts (has pool (text code_name)) (list_all (has pool) (steps_needs body.steps)) n

  limits : (fits_count (length (steps_bytes pool body.steps)) ≡ true) × (fits_count (places_at_most body.steps) ≡ true)
  limits = and_parts (fits_count (length (steps_bytes pool body.steps))) (fits_count (places_at_most body.steps)) f

  typed : (is_some (typed_body c m body) ≡ true) × (list_all is_callable_step body.steps ≡ true)
  typed = and_parts (is_some (typed_body c m body)) (list_all is_callable_step body.steps) t

  is_body : IsBody pool p c m body
  is_body = record { answers = w; slots = s; needs = needs.1; good = g; callable = typed.1; code_fits = leb-true _ 65535 limits.0; stack_fits = leb-true _ 65535 limits.1 }

  at : Attribute
  at = record { name = code_name; body = body_of_code pool m body }

  by_type : (o : Option (List Item)) → typed_body c m body ≡ o → is_some o ≡ true
      → (number : ℕ) × (after : Bytes) × (counted (attribute_bytes pool) (method_attributes pool m (Some body)) ++ rest ≡ two number ++ after) × (number < 65536) × (attributes_items (within p c m) false number after ≡ Ok (or_nothing (typed_body c m body), rest))
  by_type None e h = absurd cc
  by_type (Some found) e h = (
    1,
    attribute_bytes pool at ++ rest,
    ap (λ (bs : Bytes). two 1 ++ (bs ++ rest)) (append-nil (attribute_bytes pool at)),
    omega arith,
    rw e (code_attributes pool p c m body found rest is_body needs.0 e),
  )

method_parts : (p : PoolOf) (head : ClassHead) (bytes more after : Bytes) (m : Member) (n : ℕ) → member_head_from true p head.flags bytes ≡ Ok (m, more) → number_at 2 more ≡ Ok (n, after)
    → method_items p head None bytes ≡ attributes_items (around p head None m) false n after
unfolding method_items
method_parts p head bytes more after m n a b = rw (a, b) refl

method_found : (pool : List PoolEntry) (p : PoolOf) (w : Answers pool p) (c : ClassFacts) (m : Member) (b : Option Body) (rest : Bytes) → is_sound pool true p.major c.flags m ≡ true
    → list_all (has pool) (body_needs b) ≡ true → fits_body pool b ≡ true → body_is_good b ≡ true → body_typed c m b ≡ true
    → method_items p (head_of c) None (method_bytes pool m b ++ rest) ≡ Ok (body_items c m b, rest)
method_found pool p w c m b rest h n f g t =
    let valid = and_parts (nat_lt m.flags 65536) (member_valid true p.major c.flags m) (and_parts (has pool (text m.name) && has pool (text m.descriptor)) (nat_lt m.flags 65536 && member_valid true p.major c.flags m) h).1 in
    let a = attributes_found pool p w c m b rest (valid_slots p.major c.flags m valid.1) n f g t in
    let more : Bytes = counted (attribute_bytes pool) (method_attributes pool m b) ++ rest in
    let e : method_bytes pool m b ++ rest ≡ member_head pool m ++ more = append_assoc (member_head pool m) (counted (attribute_bytes pool) (method_attributes pool m b)) rest in
    let head = ap (λ (bs : Bytes). member_head_from true p c.flags bs) e ∙ head_read true p c.flags (member_head pool m ++ more) m more (head_stands pool p w true c.flags m more h) in
    let number = ap (λ (bs : Bytes). number_at 2 bs) a.2 ∙ number_read 2 (two a.0 ++ a.1) a.0 a.1 (short_front a.0 a.1 a.3) in
    method_parts p (head_of c) (method_bytes pool m b ++ rest) more a.1 m a.0 head number ∙ a.4

-- ---- all methods

pub methods_found : (pool : List PoolEntry) (p : PoolOf) (w : Answers pool p) (c : ClassFacts) (ms : List Member) (bs : List (Option Body)) (rest : Bytes) → length bs ≡ length ms → list_all (has pool) (methods_needs ms bs) ≡ true → are_short ms ≡ true
    → list_all (member_valid true p.major c.flags) ms ≡ true → fits_bodies pool bs ≡ true → list_all body_is_good bs ≡ true → bodies_typed c ms bs ≡ true
    → methods_items p (head_of c) None (length ms) (methods_bytes pool ms bs ++ rest) ≡ Ok (bodies_items c ms bs, rest)
unfolding methods_items
methods_found pool p w c [] bs rest l h s v f g t = refl
methods_found pool p w c (m ∷ ms) [] rest l h s v f g t = absurd (omega (arith, l))
methods_found pool p w c (m ∷ ms) (b ∷ bs) rest l h s v f g t =
    let a1 = and_parts (has pool (text m.name)) (list_all (has pool) (text m.descriptor ∷ (body_needs b ++ methods_needs ms bs))) h in
    let a2 = and_parts (has pool (text m.descriptor)) (list_all (has pool) (body_needs b ++ methods_needs ms bs)) a1.1 in
    let e = and_parts (list_all (has pool) (body_needs b)) (list_all (has pool) (methods_needs ms bs)) (sym (list_all-append (has pool) (body_needs b) (methods_needs ms bs)) ∙ a2.1) in
    let q = and_parts (nat_lt m.flags 65536) (are_short ms) s in
    let d = and_parts (member_valid true p.major c.flags m) (list_all (member_valid true p.major c.flags) ms) v in
    let k = and_parts (fits_body pool b) (fits_bodies pool bs) f in
    let o = and_parts (body_is_good b) (list_all body_is_good bs) g in
    let y = and_parts (body_typed c m b) (bodies_typed c ms bs) t in
    let here : is_sound pool true p.major c.flags m ≡ true = rw (a1.0, a2.0, q.0, d.0) refl in
    let next : Bytes = methods_bytes pool ms bs ++ rest in
    let one = method_found pool p w c m b next here e.0 k.0 o.0 y.0 in
    let others = methods_found pool p w c ms bs rest (omega (arith, l)) e.1 q.1 d.1 k.1 o.1 y.1 in
    rw (append_assoc (method_bytes pool m b) (methods_bytes pool ms bs) rest, one, others) refl
