-- The notes on constants.
use Rattle.std.proofs.Common.{◌≡◌, ◌<◌, ◌≤◌, ◌+◌, ◌-◌, ℕ, Bool, true, false, not, cond, ◌&&◌, List, [], ◌∷◌, ◌++◌, length, get_or, take, drop, refl, sym, ◌∙◌, ap, subst, arith, Bor, Option, Some, None, is_some, nat_lt}
use Rattle.std.specs.Prelude.{option_map}
use Rattle.std.specs.BTreeMap as tree
use Rattle.std.specs.List.{Contains, find as first_where, filter_map, cons_option}
use Rattle.std.specs.Ordering.{is_eq}
use Rattle.std.specs.declared.cmp.Ordering.TheVariants.{Less}
use Rattle.std.proofs.lemmas.Bool.{and_parts, both_ways}
use Rattle.std.proofs.lemmas.List.{at_drop_more}
use Rattle.std.proofs.lemmas.List.Elements.{All-contains_itself, filter_map-append}
use Rattle.std.proofs.lemmas.Map.Views.{btree_map_contains_key_iff}
use Rattle.jc_facts.specs.declared.class_facts.ClassFacts.{ClassFacts}
use Rattle.jc_facts.specs.declared.class_facts.Constant.{Constant}
use Rattle.jc_facts.specs.declared.class_facts.Fixed.{Fixed}
use Rattle.jc_facts.specs.declared.class_facts.Member.{Member}
use Rattle.jc_facts.specs.declared.key.Key.{Key}
use Rattle.jc_facts.specs.declared.verdict.Note.{Note}
use Rattle.jc_facts.specs.declared.verdict.Note.TheVariants as note
use Rattle.jc_facts.specs.Exactly.{Before, HasExactly, NamesRise}
use Rattle.jc_facts.specs.Flags.{static_flag, final_flag}
use Rattle.jc_facts.specs.Names.{Bytes, same, same_key}
use Rattle.jc_facts.specs.KeyOrder.{key_cmp, key_total, key_ties}
use Rattle.jc_facts.specs.Options.{and_then, some_and, some_where}
use Rattle.jc_promises.specs.rule.Notes.{in_release, value_of_constant, has_lost_constant, has_static_final}
use Rattle.jc_facts.specs.Records.{same_constant}
use Rattle.jc_promises.specs.rule.Bases.{is_kept, is_class_usable}
use Rattle.jc_facts.specs.Orders.{note_order, noted_class}
use Rattle.jc_facts.specs.world.World.{World, find_class, size, class_named, own_field_of}
use Rattle.jc_facts.proofs.Exactly.{OfNames, exact_over, grown_start, grown_more, grown_all}
use Rattle.jc_facts.proofs.InOrder.{exact_none}
use Rattle.jc_facts.proofs.KeySets.{key_exact, rises}
use Rattle.jc_facts.proofs.Options.{some_where-is}
use Rattle.jc_sound.proofs.Standing.{usable_parts}
use Rattle.jc_worlds.proofs.Loaded.{loads-found}
use Rattle.jc_index.specs.Ids.{names, name_at}
use Rattle.jc_index.proofs.Merged.{two_lists}
use Rattle.jc_index.specs.Sides.{IsSide}
use Rattle.jc_index.proofs.Numbers.{names-in, names-length, names-rise}
use Rattle.jc_declared.specs.steps.Notes.{AreConstants, fixed_at, value_in, changed_in, static_final_flags, constant_note, is_in_both, loses, IsConstantNote, OnConstants}
use Rattle.jc_declared.specs.steps.Own.{flags_of, field_flags_of}
use Rattle.jc_declared.proofs.NoteUnloadable.{of_release, not_platform}
use Rattle.jc_sides.specs.Rules.{IsItemRule, IsOf}
use Rattle.jc_sides.specs.SidesOf.{SidesOf, AreSides}
use Rattle.jc_sides.proofs.BaseParts.{kept_parts}
use Rattle.jc_sides.proofs.ItemRules.{made_where}
use Rattle.jc_sides.proofs.Subjects.{same_name}

-- ---- classes of a release

later_list : (xs ys : List ClassFacts) (x : Bytes) → is_some (class_named xs x) ≡ false → class_named (xs ++ ys) x ≡ class_named ys x
unfolding class_named
later_list [] ys x h = refl
later_list (c ∷ xs) ys x h = go (same c.name x) h (later_list xs ys x)
  where
    go : (b : Bool) → is_some (cond b (Some c) (class_named xs x)) ≡ false → (is_some (class_named xs x) ≡ false → class_named (xs ++ ys) x ≡ class_named ys x) → cond b (Some c) (class_named (xs ++ ys) x) ≡ class_named ys x
    go true e r = absurd (cc)
    go false e r = r e

-- a class of the release is found as such
found_is : (W : World) → IsSide W → W.clients ≡ [] → (x : Bytes) → is_some (in_release W x) ≡ true → find_class W x ≡ in_release W x
unfolding find_class
found_is W s bare x h = ap (λ (cs : List ClassFacts). class_named cs x) (two_lists W bare) ∙ later_list W.platform W.release x (of_release W s bare x h)

-- a class of the platform isn't the release's
unreleased : (W : World) → IsSide W → W.clients ≡ [] → (x : Bytes) → is_some (class_named W.platform x) ≡ true → is_some (in_release W x) ≡ false
unreleased W s bare x h = go (is_some (in_release W x)) refl
  where
    go : (b : Bool) → is_some (in_release W x) ≡ b → b ≡ false
    go false e = refl
    go true e = absurd (both_ways (is_some (class_named W.platform x)) (of_release W s bare x e) h)

-- ---- of one class

both_rows : (a b c : Bool) → (a && b && c) ≡ true → (a ≡ true) × (b ≡ true) × (c ≡ true)
both_rows true true true h = (refl, refl, refl)
both_rows true true false h = absurd (cc)
both_rows true false c h = absurd (cc)
both_rows false b c h = absurd (cc)

-- a class of the platform is of neither release
pub not_both : (s : SidesOf) → AreSides s → (x : Bytes) → is_some (class_named s.old.platform x) ≡ true → is_in_both s x ≡ false
not_both s are x h = go (is_kept s.old s.new x) (is_some (in_release s.old x)) (is_some (in_release s.new x)) (unreleased s.old are.old_side are.run.old_bare x h)
  where
    go : (a b c : Bool) → b ≡ false → (a && b && c) ≡ false
    go true true c h = absurd (cc)
    go true false c h = refl
    go false b c h = refl

-- and another one that is kept is of both
pub both_kept : (s : SidesOf) → AreSides s → (x : Bytes) → is_some (class_named s.old.platform x) ≡ false → is_kept s.old s.new x ≡ true → is_in_both s x ≡ true
both_kept s are x h k =
    let p = kept_parts s x k in
    let o = not_platform s.old are.old_side are.run.old_bare x p.there h in
    let n = not_platform s.new are.new_side are.run.new_bare x (ap is_some (loads-found s.new x p.loads_now).1) (subst (λ (cs : List ClassFacts). is_some (class_named cs x) ≡ false) are.run.platform h) in
    rw (k, o, n) refl

module _ (s : SidesOf) (are : AreSides s) (x : Bytes) (c d : ClassFacts) (before : Some c ≡ find_class s.old x) (after : Some d ≡ find_class s.new x) (both : is_in_both s x ≡ true) where
  parts_of : (is_kept s.old s.new x ≡ true) × (is_some (in_release s.old x) ≡ true) × (is_some (in_release s.new x) ≡ true)
  parts_of = both_rows (is_kept s.old s.new x) (is_some (in_release s.old x)) (is_some (in_release s.new x)) both

  old_is : in_release s.old x ≡ Some c
  old_is = sym (before ∙ found_is s.old are.old_side are.run.old_bare x parts_of.1)

  new_is : in_release s.new x ≡ Some d
  new_is = sym (after ∙ found_is s.new are.new_side are.run.new_bare x parts_of.2)

  loses_is : (k : Key) → loses s x k ≡ has_lost_constant c d k
  loses_is k = rw (parts_of.0, old_is, new_is) refl

  pub not_noted : (k : Key) → has_lost_constant c d k ≡ false → None ≡ constant_note s x k
  not_noted k h = rw (loses_is k, h) refl

  -- y is the class under its own name
  pub noted : (y : Bytes) (k l : Key) → y ≡ x → l ≡ k → has_lost_constant c d k ≡ true → Some (note.Fixed y l) ≡ constant_note s x k
  noted y k l n e h = rw (loses_is k, h) (ap (λ (z : Bytes). Some (note.Fixed z l)) n ∙ ap (λ (i : Key). Some (note.Fixed x i)) e)

-- ---- by the maps and the flags

not_third : (a b c : Bool) → c ≡ false → (a && b && c) ≡ false
not_third true true c h = h
not_third true false c h = refl
not_third false b c h = refl

not_front : (a b c : Bool) → (a && b) ≡ false → (a && b && c) ≡ false
not_front true true c h = absurd (cc)
not_front true false c h = refl
not_front false b c h = refl

all_three : (a b c : Bool) → (a && b) ≡ true → c ≡ true → (a && b && c) ≡ true
all_three true true c h q = q
all_three true false c h q = absurd (cc)
all_three false b c h q = absurd (cc)

by_flags : (o : Option Member) → some_and static_final_flags (flags_of o) ≡ some_and (λ (m : Member). static_flag m.flags && final_flag m.flags) o
by_flags None = refl
by_flags (Some m) = refl

there_by_flags : (o : Option Member) → is_some (flags_of o) ≡ is_some o
there_by_flags None = refl
there_by_flags (Some m) = refl

-- the value of the record's constant
abbrev value_of : Option Fixed → Option Constant
value_of o = and_then (λ f. Some f.value) o

changed_is : (c d : ClassFacts) (k : Key) → Bool
changed_is c d k = some_and (λ v. not (some_and (same_constant v) (value_of_constant d k))) (value_of_constant c k)

module _ (s : SidesOf) (are : AreSides s) (x : Bytes) (both : is_in_both s x ≡ true) (was now : tree.BTreeMap Key (Bor Fixed)) (old : AreConstants s.old x was) (new : AreConstants s.new x now) where
  kept_is : is_kept s.old s.new x ≡ true
  kept_is = (both_rows (is_kept s.old s.new x) (is_some (in_release s.old x)) (is_some (in_release s.new x)) both).0

  records : (c : ClassFacts) × (d : ClassFacts) × (find_class s.old x ≡ Some c) × (find_class s.new x ≡ Some d)
  unfolding is_kept
  records =
      let q = and_parts (is_class_usable s.old x) (is_class_usable s.new x) kept_is in
      let o = usable_parts s.old x q.0 in
      let n = usable_parts s.new x q.1 in
      (o.class, n.class, o.is_there, n.is_there)

  c : ClassFacts
  c = records.0

  d : ClassFacts
  d = records.1

  before : Some c ≡ find_class s.old x
  unfolding c records
  before = sym records.2

  after : Some d ≡ find_class s.new x
  unfolding d records
  after = sym records.3

  changes_as : (k : Key) → changed_in was now k ≡ changed_is c d k
  unfolding changed_is
  changes_as k =
      ap (λ (o : Option Fixed). some_and (λ v. not (some_and (same_constant v) (value_of o))) (value_in was k)) (new d (sym after) k)
      ∙ ap (λ (o : Option Fixed). some_and (λ v. not (some_and (same_constant v) (value_of_constant d k))) (value_of o)) (old c (sym before) k)

  declares_as : (k : Key) → (some_and static_final_flags (field_flags_of s.old x k) && is_some (field_flags_of s.new x k)) ≡ (has_static_final c k && is_some (own_field_of d k))
  unfolding and_then
  declares_as k =
      rw (← before, ← after) (ap (λ b. b && is_some (flags_of (own_field_of d k))) (by_flags (own_field_of c k)) ∙ ap (λ b. has_static_final c k && b) (there_by_flags (own_field_of d k)))

  pub unchanged : (k : Key) (b : Bool) → b ≡ changed_in was now k → b ≡ false → None ≡ constant_note s x k
  unfolding changed_is has_lost_constant
  unchanged k b e h = not_noted s are x c d before after both k (not_third (has_static_final c k) (is_some (own_field_of d k)) (changed_is c d k) (sym (changes_as k) ∙ sym e ∙ h))

  pub undeclared : (k l : Key) (b : Bool) → l ≡ k → b ≡ (some_and static_final_flags (field_flags_of s.old x l) && is_some (field_flags_of s.new x l)) → b ≡ false → None ≡ constant_note s x k
  unfolding changed_is has_lost_constant
  undeclared k l b q e h =
      not_noted s are x c d before after both k
      (not_front (has_static_final c k) (is_some (own_field_of d k)) (changed_is c d k)
      (subst (λ (i : Key). (has_static_final c i && is_some (own_field_of d i)) ≡ false) q (sym (declares_as l) ∙ sym e ∙ h)))

  pub noted_by : (y : Bytes) (k l : Key) (b e : Bool) → y ≡ x → l ≡ k → b ≡ changed_in was now k → b ≡ true → e ≡ (some_and static_final_flags (field_flags_of s.old x l) && is_some (field_flags_of s.new x l)) → e ≡ true → Some (note.Fixed y l) ≡ constant_note s x k
  unfolding changed_is has_lost_constant
  noted_by y k l b e n q p t r u =
      noted s are x c d before after both y k l n q
      (all_three (has_static_final c k) (is_some (own_field_of d k)) (changed_is c d k)
      (subst (λ (i : Key). (has_static_final c i && is_some (own_field_of d i)) ≡ true) q (sym (declares_as l) ∙ sym r ∙ u)) (sym (changes_as k) ∙ sym p ∙ t))

-- ---- the map, from its last constant on

-- it has what the last ones have
abbrev pub HasLast : List Fixed → ℕ → tree.BTreeMap Key (Bor Fixed) → Type 0
HasLast fs n map = (q : Key) → option_map (λ f. f.now) (tree.get key_cmp map q) ≡ first_where (λ (f : Fixed). same_key f.key q) (drop (length fs - n) fs)

option_cond : (b : Bool) (x : Bor Fixed) (o : Option (Bor Fixed)) → option_map (λ f. f.now) (cond b (Some x) o) ≡ cond b (Some x.now) (option_map (λ f. f.now) o)
option_cond true x o = refl
option_cond false x o = refl

pub last_more : (fs : List Fixed) (n at : ℕ) (x : Bor Fixed) (f : Fixed) (k : Key) (old new : tree.BTreeMap Key (Bor Fixed)) → n < length fs → at ≡ length fs - 1 - n → x.now ≡ f → f ≡ get_or fs at f → k ≡ f.key → HasLast fs n old → tree.Updates key_cmp old new k (Some x) → HasLast fs (n + 1) new
last_more fs n at x f k old new l e v is w h u q =
    let p : Fixed → Bool = λ (g : Fixed). same_key g.key q in
    let start : at ≡ length fs - (n + 1) = omega (arith, e) in
    let rest : length fs - n ≡ at + 1 = omega (arith, e) in
    let b : at < length fs = omega (arith, e) in
    ap (option_map (λ (g : Bor Fixed). g.now)) (u.0 q)
    ∙ option_cond (is_eq (key_cmp k q)) x (tree.get key_cmp old q)
    ∙ ap (λ t. cond t (Some x.now) (option_map (λ (g : Bor Fixed). g.now) (tree.get key_cmp old q))) (sym (key_ties k q))
    ∙ ap (cond (same_key k q) (Some x.now)) (h q ∙ ap (λ i. first_where p (drop i fs)) rest)
    ∙ ap (λ (g : Fixed). cond (same_key k q) (Some g) (first_where p (drop (at + 1) fs))) v
    ∙ ap (λ (j : Key). cond (same_key j q) (Some f) (first_where p (drop (at + 1) fs))) w
    ∙ ap (λ (g : Fixed). cond (p g) (Some g) (first_where p (drop (at + 1) fs))) is
    ∙ sym (at_drop_more (first_where p) fs at f b)
    ∙ ap (λ i. first_where p (drop i fs)) start

-- ---- the classes

module _ (s : SidesOf) (x : Bytes) (k : Key) (h : loses s x k ≡ true) where
  kept_of : is_kept s.old s.new x ≡ true
  kept_of = (and_parts (is_kept s.old s.new x) (some_and (λ c. some_and (λ d. has_lost_constant c d k) (in_release s.new x)) (in_release s.old x)) h).0

  -- the records of the releases
  pub record Records : Type 0 where
    pub before : ClassFacts
    pub after : ClassFacts
    pub old : in_release s.old x ≡ Some before
    pub new : in_release s.new x ≡ Some after
    pub loses_it : has_lost_constant before after k ≡ true

  records_of : Records
  records_of = go (in_release s.old x) refl (in_release s.new x) refl (and_parts (is_kept s.old s.new x) (some_and (λ c. some_and (λ d. has_lost_constant c d k) (in_release s.new x)) (in_release s.old x)) h).1
    where
      go : (o : Option ClassFacts) → in_release s.old x ≡ o → (n : Option ClassFacts) → in_release s.new x ≡ n → some_and (λ c. some_and (λ d. has_lost_constant c d k) n) o ≡ true → Records
      go None e n f q = absurd (cc)
      go (Some c) e None f q = absurd (cc)
      go (Some c) e (Some d) f q = record { before = c; after = d; old = e; new = f; loses_it = q }

  lost_both : is_in_both s x ≡ true
  lost_both = let r = records_of in rw (kept_of, r.old, r.new) refl

-- ---- the notes

-- the note of a key stands
note_stands : (s : SidesOf) (x : Bytes) (k : Key) (n : Note) → constant_note s x k ≡ Some n → (n ≡ note.Fixed x k) × IsOf noted_class (IsConstantNote s) x n
note_stands s x k n h =
    let w = made_where (loses s x k) (note.Fixed x k) n h in
    (sym w.1, subst (IsOf noted_class (IsConstantNote s) x) w.1 (refl, (tt, w.0)))

-- its class and its key give it
note_made : (s : SidesOf) (n : Note) → IsConstantNote s n → (k : Key) × (constant_note s (noted_class n) k ≡ Some n)
note_made s (note.Unloadable old y e) h = absurd h.0
note_made s (note.Fixed y k) h = (k, ap (λ b. some_where b (note.Fixed y k)) h.1)

note_key_before : (x : Bytes) (k l : Key) → key_cmp k l ≡ Less → note_order (note.Fixed x k) (note.Fixed x l) ≡ Less
note_key_before x k l h = rw (same_name x, h) refl

note_class_before : (s : SidesOf) (m n : Note) → IsConstantNote s m → IsConstantNote s n → Before (noted_class m) (noted_class n) → note_order m n ≡ Less
note_class_before s (note.Unloadable b x e) n p q h = absurd p.0
note_class_before s (note.Fixed x k) (note.Unloadable b y e) p q h = absurd q.0
note_class_before s (note.Fixed x k) (note.Fixed y l) p q h = rw h refl

on_covered : (s : SidesOf) (n : Note) → IsConstantNote s n → Contains (names s.old) (noted_class n) × (is_in_both s (noted_class n) ≡ true)
unfolding is_kept
on_covered s (note.Unloadable b x e) p = absurd p.0
on_covered s (note.Fixed x k) p =
    let u = (and_parts (is_class_usable s.old x) (is_class_usable s.new x) (kept_of s x k p.1)).0 in
    (names-in s.old x (ap is_some (usable_parts s.old x u).is_there), lost_both s x k p.1)

pub is_rule : IsItemRule note_order noted_class constant_note IsConstantNote is_in_both
is_rule = record {
  stands = λ s x k n e. (note_stands s x k n e).1;
  kept = λ s x c. (both_rows (is_kept s.old s.new x) (is_some (in_release s.old x)) (is_some (in_release s.new x)) c).0;
  made = note_made;
  by_key = λ s x k l m n b e d. ap (λ (z : Note). note_order z n) (note_stands s x k m e).0 ∙ ap (note_order (note.Fixed x k)) (note_stands s x l n d).0 ∙ note_key_before x k l b;
  by_class = note_class_before;
  on_covered = λ s are n p. on_covered s n p;
}

-- ---- the notes on one class

-- a note is on a constant that the old class has
constant_there : (s : SidesOf) → AreSides s → (x : Bytes) (was : tree.BTreeMap Key (Bor Fixed)) → AreConstants s.old x was → (k : Key) (n : Note) → constant_note s x k ≡ Some n → is_some (tree.get key_cmp was k) ≡ true
unfolding has_lost_constant and_then changed_is
constant_there s are x was h k n m =
    let l = (made_where (loses s x k) (note.Fixed x k) n m).0 in
    let r = records_of s x k l in
    let f : find_class s.old x ≡ Some r.before = found_is s.old are.old_side are.run.old_bare x (ap is_some r.old) ∙ r.old in
    let v = (and_parts (has_static_final r.before k && is_some (own_field_of r.after k)) (changed_is r.before r.after k) (lost_as r.before r.after k ∙ r.loses_it)).1 in
    value_there (tree.get key_cmp was k) (fixed_at r.before k) (h r.before f k) (some_there (λ v. not (some_and (same_constant v) (value_of_constant r.after k))) (fixed_at r.before k) v)
  where
    lost_as : (c d : ClassFacts) (k : Key) → (has_static_final c k && is_some (own_field_of d k) && changed_is c d k) ≡ has_lost_constant c d k
    lost_as c d k = refl

    some_there : (test : Constant → Bool) (o : Option Fixed) → some_and test (value_of o) ≡ true → is_some o ≡ true
    some_there test None h = absurd (cc)
    some_there test (Some f) h = refl

    value_there : (o : Option (Bor Fixed)) (p : Option Fixed) → option_map (λ f. f.now) o ≡ p → is_some p ≡ true → is_some o ≡ true
    value_there None p e h = absurd (let z : is_some p ≡ false = ap is_some (sym e) in cc)
    value_there (Some f) p e h = refl

-- what the map's keys give
pub on_exact : (s : SidesOf) → AreSides s → (x : Bytes) (was : tree.BTreeMap Key (Bor Fixed)) → tree.IsOrdered key_cmp was → AreConstants s.old x was → HasExactly note_order (OnConstants s x) (filter_map (constant_note s x) (tree.keys was))
on_exact s are x was ordered h =
    exact_over key_cmp note_order (constant_note s x) (is_rule.by_key s x) (Contains (tree.keys was)) (OnConstants s x) (tree.keys was)
    (record { in_order = rises (tree.keys was) ordered; sound = All-contains_itself (tree.keys was); complete = λ k c. c })
    (λ k n c m. is_rule.stands s x k n m)
    (λ n p.
    let k = is_rule.made s n p.1 in
    let m : constant_note s x k.0 ≡ Some n = subst (λ (y : Bytes). constant_note s y k.0 ≡ Some n) p.0 k.1 in
    record { place = k.0; stands = listed k.0 (constant_there s are x was h k.0 n m); gives = m })
  where
    listed : (k : Key) → is_some (tree.get key_cmp was k) ≡ true → Contains (tree.keys was) k
    listed k t = (btree_map_contains_key_iff key_total key_exact was k).0 t

-- one more key
pub key_more : (h : Key → Option Note) (front : List Key) (k : Key) (o : Option Note) (fs gs : List Note) → fs ≡ filter_map h front → o ≡ h k → gs ≡ fs ++ cons_option o [] → gs ≡ filter_map h (front ++ k ∷ [])
key_more h front k o fs gs e q g =
    g ∙ ap (λ (xs : List Note). xs ++ cons_option o []) e ∙ ap (λ (p : Option Note). filter_map h front ++ cons_option p []) q ∙ sym (filter_map-append h front (k ∷ []))

-- there are none on a class that isn't of both releases
pub on_none : (s : SidesOf) (x : Bytes) → is_in_both s x ≡ false → HasExactly note_order (OnConstants s x) []
on_none s x h = exact_none note_order (OnConstants s x) still
  where
    still : (n : Note) → OnConstants s x n → ⊥
    still n p = let t : is_in_both s x ≡ true = subst (λ (y : Bytes). is_in_both s y ≡ true) p.0 (on_covered s n p.1).1 in let f = h in cc

pub both_unkept : (s : SidesOf) (x : Bytes) → is_kept s.old s.new x ≡ false → is_in_both s x ≡ false
both_unkept s x h = rw h refl

-- ---- the notes on all classes

module _ (s : SidesOf) (are : AreSides s) where
  rise : NamesRise (λ x. x) (names s.old)
  rise = names-rise s.old are.old_side.differ

  -- the notes on these classes
  abbrev pub OfThese : List Bytes → Note → Type 0
  OfThese xs = OfNames noted_class (IsConstantNote s) xs

  pub start : (ns : List Note) → ns ≡ [] → HasExactly note_order (OfThese []) ns
  start = grown_start note_order noted_class (IsConstantNote s) (note_class_before s) (names s.old) rise

  -- one more class; the table's world is the old side's
  pub one_more : (W : World) → W ≡ s.old → (n k : ℕ) (ns found ms : List Note) → n < size W → some_where (nat_lt n (size W)) n ≡ Some k → HasExactly note_order (OfThese (take n (names s.old))) ns
      → HasExactly note_order (OnConstants s (name_at s.old k)) found → ms ≡ ns ++ found → HasExactly note_order (OfThese (take (n + 1) (names s.old))) ms
  one_more W v n k ns found ms l is h e g =
      grown_more note_order noted_class (IsConstantNote s) (note_class_before s) (names s.old) rise n ns found ms (subst (λ m. n < m) (sym (names-length s.old)) (subst (λ (V : World). n < size V) v l)) h
      (subst (λ (m : ℕ). HasExactly note_order (OnConstants s (name_at s.old m)) found) (some_where-is (nat_lt n (size W)) n k is) e) g

  pub all_classes : (W : World) → W ≡ s.old → (n : ℕ) (ns : List Note) → size W ≤ n → HasExactly note_order (OfThese (take n (names s.old))) ns → HasExactly note_order (IsConstantNote s) ns
  all_classes W v n ns l h =
      grown_all note_order noted_class (IsConstantNote s) (note_class_before s) (names s.old) rise n ns (subst (λ m. m ≤ n) (sym (names-length s.old)) (subst (λ (V : World). size V ≤ n) v l))
      (λ m p. (on_covered s m p).0) h
