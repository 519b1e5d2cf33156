-- The notes on classes that don't load.
use Rattle.std.proofs.Common.{◌≡◌, ◌≤◌, ℕ, take, Bool, true, false, cond, List, [], ◌∷◌, ◌++◌, refl, sym, ◌∙◌, ap, subst, Option, Some, None, is_some, is_none, ◌⊎◌, inl, inr}
use Rattle.std.specs.List.{filter_map}
use Rattle.std.specs.declared.cmp.Ordering.TheVariants.{Less}
use Rattle.std.proofs.lemmas.Bool.{and_parts}
use Rattle.jc_facts.specs.declared.class_facts.ClassFacts.{ClassFacts}
use Rattle.jc_facts.specs.declared.link_error.LinkError.{LinkError}
use Rattle.jc_facts.specs.declared.verdict.Note.{Note}
use Rattle.jc_facts.specs.declared.verdict.Note.TheVariants as note
use Rattle.jc_facts.specs.Names.{Bytes, same}
use Rattle.jc_facts.specs.Options.{and_then}
use Rattle.jc_facts.specs.Exactly.{Before}
use Rattle.jc_facts.specs.world.World.{World, class_named, find_class, size, differ_by_name}
use Rattle.jc_facts.specs.world.Loading.{load_fault}
use Rattle.jc_promises.specs.rule.Notes.{NoteStands, in_release}
use Rattle.jc_facts.specs.Orders.{note_order}
use Rattle.jc_facts.specs.Exactly.{HasExactly}
use Rattle.jc_facts.proofs.Exact.{Gives}
use Rattle.jc_facts.proofs.Same.{same_is}
use Rattle.jc_facts.proofs.InOrder.{exact_same, exact_append, exact_given}
use Rattle.jc_index.proofs.Merged.{two_lists}
use Rattle.jc_index.specs.Ids.{names}
use Rattle.jc_index.specs.Sides.{IsSide}
use Rattle.jc_index.proofs.Numbers.{names-rise, names-in, names-find}
use Rattle.jc_declared.specs.steps.Notes.{unloadable, IsUnloadable, NoteIn}
use Rattle.jc_sides.proofs.ByClass.{whole}

-- ---- platform and release

found_after : (xs ys : List ClassFacts) (x : Bytes) → is_some (class_named ys x) ≡ true → is_some (class_named (xs ++ ys) x) ≡ true
unfolding class_named
found_after [] ys x h = h
found_after (c ∷ xs) ys x h = go (same c.name x) (found_after xs ys x h)
  where
    go : (b : Bool) → is_some (class_named (xs ++ ys) x) ≡ true → is_some (cond b (Some c) (class_named (xs ++ ys) x)) ≡ true
    go true r = refl
    go false r = r

-- of lists whose names differ only one has the name
not_before : (xs ys : List ClassFacts) (x : Bytes) → differ_by_name (xs ++ ys) ≡ true → is_some (class_named ys x) ≡ true → is_some (class_named xs x) ≡ false
unfolding class_named differ_by_name
not_before [] ys x d h = refl
not_before (c ∷ xs) ys x d h = go (same c.name x) refl (not_before xs ys x p.1 h)
  where
    p : (is_none (class_named (xs ++ ys) c.name) ≡ true) × (differ_by_name (xs ++ ys) ≡ true)
    p = and_parts (is_none (class_named (xs ++ ys) c.name)) (differ_by_name (xs ++ ys)) d

    clash : (o : Option ClassFacts) → is_none o ≡ true → is_some o ≡ true → ⊥
    clash None a b = absurd (cc)
    clash (Some z) a b = absurd (cc)

    go : (b : Bool) → same c.name x ≡ b → is_some (class_named xs x) ≡ false → is_some (cond b (Some c) (class_named xs x)) ≡ false
    go true e r = absurd (clash (class_named (xs ++ ys) c.name) p.0 (found_after xs ys c.name (subst (λ (z : Bytes). is_some (class_named ys z) ≡ true) (sym (same_is c.name x e)) h)))
    go false e r = r

-- a class of the release isn't one of the platform's
pub of_release : (W : World) → IsSide W → W.clients ≡ [] → (x : Bytes) → is_some (in_release W x) ≡ true → is_some (class_named W.platform x) ≡ false
of_release W s bare x h = not_before W.platform W.release x (subst (λ (cs : List ClassFacts). differ_by_name cs ≡ true) (two_lists W bare) s.differ) h

class_named-either : (xs ys : List ClassFacts) (x : Bytes) → is_some (class_named (xs ++ ys) x) ≡ true → is_some (class_named xs x) ≡ false → is_some (class_named ys x) ≡ true
unfolding class_named
class_named-either [] ys x h d = h
class_named-either (c ∷ xs) ys x h d = go (same c.name x) h d (class_named-either xs ys x)
  where
    go : (b : Bool) → is_some (cond b (Some c) (class_named (xs ++ ys) x)) ≡ true → is_some (cond b (Some c) (class_named xs x)) ≡ false
        → (is_some (class_named (xs ++ ys) x) ≡ true → is_some (class_named xs x) ≡ false → is_some (class_named ys x) ≡ true) → is_some (class_named ys x) ≡ true
    go true h d r = absurd (cc)
    go false h d r = r h d

-- and another class is one of the release
pub not_platform : (W : World) → IsSide W → W.clients ≡ [] → (x : Bytes) → is_some (find_class W x) ≡ true → is_some (class_named W.platform x) ≡ false → is_some (in_release W x) ≡ true
unfolding find_class
not_platform W s bare x h d = class_named-either W.platform W.release x (subst (λ (cs : List ClassFacts). is_some (class_named cs x) ≡ true) (two_lists W bare) h) d

-- ---- the note as it is made

pub loaded_note : (W : World) (old : Bool) (x : Bytes) → load_fault W x ≡ None → unloadable W old x ≡ None
unfolding and_then
loaded_note W old x h = rw h (go (is_some (class_named W.platform x)))
  where
    go : (b : Bool) → cond {A = Option Note} b None None ≡ None
    go true = refl
    go false = refl

pub made_note : (W : World) (old : Bool) (x y : Bytes) (e : LinkError) → is_some (class_named W.platform x) ≡ false → load_fault W x ≡ Some e → y ≡ x → unloadable W old x ≡ Some (note.Unloadable old y e)
unfolding and_then
made_note W old x y e p l n = rw (p, l, n) refl

-- ---- what is noted

-- a note of the class, with its error
pub record IsNoted (W : World) (old : Bool) (x : Bytes) (n : Note) : Type 0 where
  pub error : LinkError
  pub is : n ≡ note.Unloadable old x error
  pub fault : load_fault W x ≡ Some error
  pub apart : is_some (class_named W.platform x) ≡ false

noted_by : (W : World) (old : Bool) (x : Bytes) (n : Note) (b : Bool) → is_some (class_named W.platform x) ≡ b → (o : Option LinkError) → load_fault W x ≡ o
    → cond b None (and_then (λ e. Some (note.Unloadable old x e)) o) ≡ Some n → IsNoted W old x n
unfolding and_then
noted_by W old x n true p o l q = absurd (cc)
noted_by W old x n false p None l q = absurd (cc)
noted_by W old x n false p (Some e) l q = record { error = e; is = (let k : note.Unloadable old x e ≡ n = cc in sym k); fault = l; apart = p }

noted : (W : World) (old : Bool) (x : Bytes) (n : Note) → unloadable W old x ≡ Some n → IsNoted W old x n
noted W old x n h = noted_by W old x n (is_some (class_named W.platform x)) refl (load_fault W x) refl h

-- it is one of the side
noted_in : (W : World) → IsSide W → W.clients ≡ [] → (old : Bool) (x : Bytes) (n : Note) → is_some (find_class W x) ≡ true → IsNoted W old x n → NoteIn W old n
noted_in W s bare old x n f i = subst (NoteIn W old) (sym i.is) (refl, not_platform W s bare x f i.apart, i.fault)

found_release : (W : World) → IsSide W → W.clients ≡ [] → (x : Bytes) → is_some (in_release W x) ≡ true → is_some (find_class W x) ≡ true
unfolding find_class
found_release W s bare x h = subst (λ (cs : List ClassFacts). is_some (class_named cs x) ≡ true) (sym (two_lists W bare)) (found_after W.platform W.release x h)

-- each of the side is given
in_noted : (W : World) → IsSide W → W.clients ≡ [] → (old : Bool) (n : Note) → NoteIn W old n → Gives (unloadable W old) (names W) n
unfolding and_then
in_noted W s bare old (note.Unloadable b x e) h = record {
  place = x;
  is_in = names-in W x (found_release W s bare x h.1);
  gives = rw (of_release W s bare x h.1, h.2, h.0) refl;
}
in_noted W s bare old (note.Fixed x k) h = absurd h

note_later : (old : Bool) (x y : Bytes) (d e : LinkError) → Before x y → note_order (note.Unloadable old x d) (note.Unloadable old y e) ≡ Less
note_later true x y d e h = rw h refl
note_later false x y d e h = rw h refl

-- what the names of a side give
notes_in : (W : World) → IsSide W → W.clients ≡ [] → (old : Bool) → HasExactly note_order (NoteIn W old) (filter_map (unloadable W old) (names W))
notes_in W s bare old =
    exact_given note_order (unloadable W old) later (NoteIn W old) (names W) (names-rise W s.differ)
    (λ x n c h. noted_in W s bare old x n (names-find W x c) (noted W old x n h)) (in_noted W s bare old)
  where
    later : (x y : Bytes) (m n : Note) → Before x y → unloadable W old x ≡ Some m → unloadable W old y ≡ Some n → note_order m n ≡ Less
    later x y m n b h k =
        let i = noted W old x m h in
        let j = noted W old y n k in
        ap (λ (z : Note). note_order z n) i.is ∙ ap (note_order (note.Unloadable old x i.error)) j.is ∙ note_later old x y i.error j.error b

-- after the loop
pub noted_all : (W : World) → IsSide W → W.clients ≡ [] → (old : Bool) (n : ℕ) (ns : List Note) → size W ≤ n → ns ≡ filter_map (unloadable W old) (take n (names W)) → HasExactly note_order (NoteIn W old) ns
noted_all W s bare old n ns l e = subst (HasExactly note_order (NoteIn W old)) (sym (whole (unloadable W old) W n ns l e)) (notes_in W s bare old)

-- ---- of both sides

to_stands : (O N : World) (n : Note) → NoteIn O true n ⊎ NoteIn N false n → IsUnloadable n × NoteStands O N n
to_stands O N (note.Unloadable true x e) (inl h) = (tt, (h.1, h.2))
to_stands O N (note.Unloadable false x e) (inl h) = absurd (let z : false ≡ true = h.0 in cc)
to_stands O N (note.Unloadable true x e) (inr h) = absurd (let z : true ≡ false = h.0 in cc)
to_stands O N (note.Unloadable false x e) (inr h) = (tt, (h.1, h.2))
to_stands O N (note.Fixed x k) (inl h) = absurd h
to_stands O N (note.Fixed x k) (inr h) = absurd h

from_stands : (O N : World) (n : Note) → IsUnloadable n × NoteStands O N n → NoteIn O true n ⊎ NoteIn N false n
from_stands O N (note.Unloadable true x e) h = inl (refl, h.1.0, h.1.1)
from_stands O N (note.Unloadable false x e) h = inr (refl, h.1.0, h.1.1)
from_stands O N (note.Fixed x k) h = absurd h.0

old_first : (O N : World) (m n : Note) → NoteIn O true m → NoteIn N false n → note_order m n ≡ Less
old_first O N (note.Unloadable b x d) (note.Unloadable c y e) h k = rw (h.0, k.0) refl
old_first O N (note.Unloadable b x d) (note.Fixed y l) h k = absurd k
old_first O N (note.Fixed x l) n h k = absurd h

pub notes_exact : (O N : World) (ms ns : List Note) → HasExactly note_order (NoteIn O true) ms → HasExactly note_order (NoteIn N false) ns → HasExactly note_order (λ n. IsUnloadable n × NoteStands O N n) (ms ++ ns)
notes_exact O N ms ns h k =
    exact_same note_order (λ n. NoteIn O true n ⊎ NoteIn N false n) (λ n. IsUnloadable n × NoteStands O N n) (ms ++ ns) (to_stands O N) (from_stands O N)
    (exact_append note_order (NoteIn O true) (NoteIn N false) ms ns h k (old_first O N))
