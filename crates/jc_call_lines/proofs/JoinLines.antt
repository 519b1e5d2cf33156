-- Lines on superclasses where values met: when one is due, and their order.
use Rattle.std.proofs.Common.{◌≡◌, ◌<◌, ◌≤◌, ◌+◌, ◌++◌, ℕ, Bool, true, false, not, ◌&&◌, ◌||◌, List, [], ◌∷◌, map, take, refl, sym, ◌∙◌, ap, subst, Option, None, Some, is_some, nat_lt}
use Rattle.std.specs.Prelude.{IsTrue}
use Rattle.std.specs.List.{Contains, cons_option, filter_map}
use Rattle.std.specs.Cmp.Lexicographic.{nat_list_cmp_total}
use Rattle.std.specs.declared.cmp.Ordering.TheVariants.{Less}
use Rattle.std.proofs.lemmas.Bool.{and_parts, and_from, or_right}
use Rattle.std.proofs.lemmas.Cmp.{nat_cmp_total, tied_itself}
use Rattle.jc_acts.specs.Seats.{loses_class}
use Rattle.jc_acts.specs.Touched.{left_chain_of}
use Rattle.jc_acts.proofs.SeatChains.{keeps}
use Rattle.jc_call_kinds.specs.declared.call_line.CallKind.TheVariants.{Joined}
use Rattle.jc_call_kinds.specs.declared.call_line.CallLine.{CallLine}
use Rattle.jc_calls.specs.Joins.{is_found, is_joined, join_lost}
use Rattle.jc_calls.proofs.Parted.{IsParted, parted}
use Rattle.jc_calls.specs.Lines.{is_due, line_order, place_of}
use Rattle.jc_facts.specs.declared.class_facts.ClassFacts.{ClassFacts}
use Rattle.jc_facts.specs.declared.key.Key.{Key}
use Rattle.jc_facts.specs.Exactly.{Before, HasExactly, NamesRise, by_names}
use Rattle.jc_facts.specs.Names.{Bytes, same}
use Rattle.jc_facts.specs.Options.{some_where}
use Rattle.jc_facts.specs.world.Assignment.{is_class_assignable, is_interface_of}
use Rattle.jc_facts.specs.world.Hierarchy.{in_chain}
use Rattle.jc_facts.specs.world.Loading.{load_fault, loads}
use Rattle.jc_facts.specs.world.World.{World, find_class, size}
use Rattle.jc_facts.proofs.Exact.{Gives, given}
use Rattle.jc_facts.proofs.Exactly.{OfNames, grown_start, grown_more, grown_all}
use Rattle.jc_facts.proofs.InOrder.{exact_given, given_rise}
use Rattle.jc_facts.proofs.Options.{some_where-is}
use Rattle.jc_index.specs.Ids.{name_at, names}
use Rattle.jc_index.proofs.Numbers.{names-in, names-length, names-rise}
use Rattle.jc_lemmas.proofs.Bools.{contradicts}
use Rattle.jc_lemmas.proofs.Listed.{any_has}
use Rattle.jc_lemmas.proofs.Options.{none_where}
use Rattle.jc_promises.specs.rule.Bases.{is_class_usable}
use Rattle.jc_promises.specs.rule.Exposed.{is_hidden}
use Rattle.jc_sides.specs.Rules.{IsOf}
use Rattle.jc_sides.specs.SidesOf.{SidesOf, AreSides}
use Rattle.jc_sides.proofs.ItemRules.{made_where}
use Rattle.jc_worlds.proofs.Chains.{chain_there, none_above}
use Rattle.jc_worlds.proofs.Unrolled.{own_chain}
use Rattle.jc_call_lines.specs.steps.JoinLines.{AreTargets, is_handed, is_left, is_losing, is_target, join_line, joined_line, left_by, may_be_held, share_seat, target_at}
use Rattle.jc_call_lines.specs.steps.Kinds.{OfKind}
use Rattle.jc_call_lines.proofs.JoinSeats.{found_is}

-- ---- when one is due

pub not_hidden : (s : SidesOf) (x t : Bytes) → is_hidden s.old t ≡ false → false ≡ join_lost s.old s.new x t
unfolding join_lost
not_hidden s x t h = sym (ap (λ b. b && is_joined s.old s.new x t && not (is_class_assignable s.new x t) && not (is_found s.old s.new x t)) h)

never_last : (a b c d : Bool) → c ≡ false → (a && b && c && d) ≡ false
never_last true true c d h = ap (λ z. z && d) h
never_last true false c d h = refl
never_last false b c d h = refl

pub still_there : (s : SidesOf) (x t : Bytes) (b : Bool) → b ≡ is_class_assignable s.new x t → b ≡ true → false ≡ join_lost s.old s.new x t
unfolding join_lost
still_there s x t b e h = sym (never_last (is_hidden s.old t) (is_joined s.old s.new x t) (not (is_class_assignable s.new x t)) (not (is_found s.old s.new x t)) (ap not (sym e ∙ h)))

module _ (s : SidesOf) (x t : Bytes) (was : in_chain s.old x t ≡ true) (a : Bool) (ea : a ≡ is_class_assignable s.new x t) (na : a ≡ false) (b : Bool) (eb : b ≡ (share_seat s (x ∷ t ∷ []) || is_handed s x t)) where
  told : is_found s.old s.new x t ≡ b
  told = found_is s x t was (sym ea ∙ na) ∙ sym eb

  pub is_told : b ≡ true → false ≡ join_lost s.old s.new x t
  unfolding join_lost
  is_told h = sym (ap (λ z. is_hidden s.old t && is_joined s.old s.new x t && not (is_class_assignable s.new x t) && not z) (told ∙ h) ∙ last (is_hidden s.old t && is_joined s.old s.new x t && not (is_class_assignable s.new x t)))
    where
      last : (p : Bool) → (p && false) ≡ false
      last true = refl
      last false = refl

  pub lost_is : (r : Bool) → b ≡ false → is_hidden s.old t ≡ true → r ≡ is_joined s.old s.new x t → r ≡ join_lost s.old s.new x t
  unfolding join_lost
  lost_is r h hidden e =
      e ∙ sym (
      ap (λ z. is_hidden s.old t && is_joined s.old s.new x t && not (is_class_assignable s.new x t) && not z) (told ∙ h)
      ∙ ap (λ z. is_hidden s.old t && is_joined s.old s.new x t && not z && true) (sym ea ∙ na)
      ∙ ap (λ z. z && is_joined s.old s.new x t && true && true) hidden ∙ twice (is_joined s.old s.new x t))
    where
      twice : (p : Bool) → (p && true && true) ≡ p
      twice true = refl
      twice false = refl

pub not_above : (s : SidesOf) (x t : Bytes) (b : Bool) → b ≡ in_chain s.old x t → b ≡ false → None ≡ join_line s x t
not_above s x t b e h = ap (λ z. some_where z (joined_line x t)) (go (join_lost s.old s.new x t) refl)
  where
    go : (c : Bool) → join_lost s.old s.new x t ≡ c → false ≡ join_lost s.old s.new x t
    go false q = sym q
    go true q = absurd (contradicts (in_chain s.old x t) (parted s.old s.new x t q).above (sym e ∙ h))

pub no_line : (s : SidesOf) (x t : Bytes) (b : Bool) → b ≡ join_lost s.old s.new x t → b ≡ false → None ≡ join_line s x t
no_line s x t b e h = ap (λ z. some_where z (joined_line x t)) (sym h ∙ e)

pub line_is : (s : SidesOf) (x t y u : Bytes) (b : Bool) → b ≡ join_lost s.old s.new x t → b ≡ true → y ≡ x → u ≡ t → Some (joined_line y u) ≡ join_line s x t
line_is s x t y u b e h p q = ap (λ z. Some (joined_line z u)) p ∙ ap (λ z. Some (joined_line x z)) q ∙ ap (λ z. some_where z (joined_line x t)) (sym h ∙ e)

-- a hidden class stands in its own chain
pub own_place : (s : SidesOf) (t : Bytes) → is_hidden s.old t ≡ true → in_chain s.old t t ≡ true
unfolding is_hidden
own_place s t h = own_chain s.old t (none_where (load_fault s.old t) (and_parts (loads s.old t) (not (is_class_usable s.old t)) h).0)

-- ---- of one class

abbrev pub OfJoin : SidesOf → CallLine → Type 0
OfJoin s l = OfKind Joined s.old s.new l

stands : (s : SidesOf) (x t : Bytes) (l : CallLine) → join_line s x t ≡ Some l → (l.«class» ≡ x) × OfJoin s l
stands s x t l e =
    let p = made_where (join_lost s.old s.new x t) (joined_line x t) l e in
    (ap (λ (c : CallLine). c.«class») (sym p.1), subst (OfJoin s) p.1 (refl, p.0))

made : (s : SidesOf) (l : CallLine) → OfJoin s l → (t : Bytes) × (join_lost s.old s.new l.«class» t ≡ true) × (join_line s l.«class» t ≡ Some l)
made s l h = go l.key l.target refl refl (subst (λ k. IsTrue (is_due s.old s.new k l.«class» l.key l.target)) h.0 h.1)
  where
    go : (o : Option Key) (p : Option Bytes) → l.key ≡ o → l.target ≡ p → IsTrue (is_due s.old s.new Joined l.«class» o p) → (t : Bytes) × (join_lost s.old s.new l.«class» t ≡ true) × (join_line s l.«class» t ≡ Some l)
    go None (Some t) e f d =
        let is : joined_line l.«class» t ≡ l = λ i. record { kind = sym h.0 i; «class» = l.«class»; key = sym e i; target = sym f i } in
        (t, d, ap (λ (b : Bool). some_where b (joined_line l.«class» t)) d ∙ ap Some is)
    go None None e f d = absurd (let clash : false ≡ true = d in cc)
    go (Some k) p e f d = absurd (let clash : false ≡ true = d in cc)

target_before : (x t u : Bytes) → Before t u → line_order (joined_line x t) (joined_line x u) ≡ Less
target_before x t u h = rw (tied_itself nat_list_cmp_total x, h) refl

targets_rise : (s : SidesOf) → AreSides s → (ts : List ℕ) → AreTargets s ts → NamesRise (λ x. x) (map (name_at s.old) ts)
targets_rise s are ts h = subst (NamesRise (λ x. x)) (sym h.names) (given_rise (by_names (λ (x : Bytes). x)) (target_at s) later (names s.old) (names-rise s.old are.old_side.differ))
  where
    later : (x y f g : Bytes) → Before x y → target_at s x ≡ Some f → target_at s y ≡ Some g → by_names (λ (x : Bytes). x) f g ≡ Less
    later x y f g b e k =
        let p = (made_where (is_target s x) x f e).1 in
        let q = (made_where (is_target s y) y g k).1 in
        subst (λ z. by_names (λ (x : Bytes). x) z g ≡ Less) p (subst (λ z. by_names (λ (x : Bytes). x) x z ≡ Less) q b)

-- a class that was left by one that is due is among them
is_among : (s : SidesOf) (ts : List ℕ) → AreTargets s ts → (x t : Bytes) → join_lost s.old s.new x t ≡ true → Contains (map (name_at s.old) ts) t
unfolding is_hidden
is_among s ts h x t d =
    subst (λ xs. Contains xs t) (sym h.names) (given (target_at s) (names s.old) t t (there t (in_there t p.above)) (ap (λ b. some_where b t) target))
  where
    p : IsParted s.old s.new x t
    p = parted s.old s.new x t d

    in_there : (y : Bytes) → in_chain s.old x y ≡ true → is_some (find_class s.old y) ≡ true
    in_there y i = chain_there s.old x y i

    there : (y : Bytes) → is_some (find_class s.old y) ≡ true → Contains (names s.old) y
    there y i = names-in s.old y i

    gone : in_chain s.new x t ≡ false
    gone = go (in_chain s.new x t) refl
      where
        go : (b : Bool) → in_chain s.new x t ≡ b → b ≡ false
        go false e = refl
        go true e = absurd (contradicts (is_class_assignable s.new x t) (or_right (same x t || is_interface_of s.new t) (in_chain s.new x t) e) p.left)

    loses : loses_class s x ≡ true
    loses = go (loses_class s x) refl
      where
        go : (b : Bool) → loses_class s x ≡ b → b ≡ true
        go true e = refl
        go false e = absurd (contradicts (in_chain s.new x t) (keeps s x e t p.above) gone)

    x_there : is_some (find_class s.old x) ≡ true
    x_there = go (find_class s.old x) refl
      where
        go : (o : Option ClassFacts) → find_class s.old x ≡ o → is_some o ≡ true
        go (Some c) f = refl
        go None f = absurd (contradicts (in_chain s.old x t) p.above (none_above s.old x t f))

    left : is_left s t ≡ true
    left = any_has (left_by s t) (names s.old) x (there x x_there)
        (and_from (is_losing s x) (left_chain_of s t x) (and_from (may_be_held s x) (loses_class s x) p.held loses) (and_from (in_chain s.old x t) (not (in_chain s.new x t)) p.above (ap not gone)))

    target : is_target s t ≡ true
    target = and_from (is_hidden s.old t) (is_left s t) p.hidden left

of_map : {A B C : Type 0} (f : B → Option C) (g : A → B) (xs : List A) → filter_map (λ x. f (g x)) xs ≡ filter_map f (map g xs)
of_map f g [] = refl
of_map f g (x ∷ xs) = ap (cons_option (f (g x))) (of_map f g xs)

-- the lines on a class
pub class_exact : (s : SidesOf) → AreSides s → (ts : List ℕ) → AreTargets s ts → (x : Bytes) (ls : List CallLine) → ls ≡ filter_map (λ t. join_line s x (name_at s.old t)) ts → HasExactly line_order (IsOf (λ (l : CallLine). l.«class») (OfJoin s) x) ls
class_exact s are ts h x ls e =
    subst (HasExactly line_order (IsOf (λ (l : CallLine). l.«class») (OfJoin s) x)) (sym (e ∙ of_map (join_line s x) (name_at s.old) ts))
    (exact_given line_order (join_line s x) later (IsOf (λ (l : CallLine). l.«class») (OfJoin s) x) (map (name_at s.old) ts) (targets_rise s are ts h) (λ t l c d. stands s x t l d) complete)
  where
    later : (t u : Bytes) (l m : CallLine) → Before t u → join_line s x t ≡ Some l → join_line s x u ≡ Some m → line_order l m ≡ Less
    later t u l m b p q =
        let v = (made_where (join_lost s.old s.new x t) (joined_line x t) l p).1 in
        let w = (made_where (join_lost s.old s.new x u) (joined_line x u) m q).1 in
        subst (λ (c : CallLine). line_order c m ≡ Less) v (subst (λ (c : CallLine). line_order (joined_line x t) c ≡ Less) w (target_before x t u b))

    complete : (l : CallLine) → IsOf (λ (l : CallLine). l.«class») (OfJoin s) x l → Gives (join_line s x) (map (name_at s.old) ts) l
    complete l p =
        let w = made s l p.1 in
        record {
          place = w.0;
          is_in = is_among s ts h x w.0 (subst (λ y. join_lost s.old s.new y w.0 ≡ true) p.0 w.1);
          gives = subst (λ y. join_line s y w.0 ≡ Some l) p.0 w.2;
        }

-- ---- of all classes

class_before : (l m : CallLine) → l.kind ≡ m.kind → Before l.«class» m.«class» → line_order l m ≡ Less
class_before l m e h = rw (e, tied_itself nat_cmp_total (place_of m.kind), h) refl

module _ (s : SidesOf) (are : AreSides s) where
  rise : NamesRise (λ x. x) (names s.old)
  rise = names-rise s.old are.old_side.differ

  apart : (l m : CallLine) → OfJoin s l → OfJoin s m → Before l.«class» m.«class» → line_order l m ≡ Less
  apart l m p q b = class_before l m (p.0 ∙ sym q.0) b

  pub start : (ls : List CallLine) → ls ≡ [] → HasExactly line_order (OfNames (λ (l : CallLine). l.«class») (OfJoin s) []) ls
  start = grown_start line_order (λ (l : CallLine). l.«class») (OfJoin s) apart (names s.old) rise

  -- one more class; the table's world is the old side's
  pub one_more : (W : World) → W ≡ s.old → (n k : ℕ) (ls found ms : List CallLine) → n < size W → some_where (nat_lt n (size W)) n ≡ Some k → HasExactly line_order (OfNames (λ (l : CallLine). l.«class») (OfJoin s) (take n (names s.old))) ls
      → HasExactly line_order (IsOf (λ (l : CallLine). l.«class») (OfJoin s) (name_at s.old k)) found → ms ≡ ls ++ found → HasExactly line_order (OfNames (λ (l : CallLine). l.«class») (OfJoin s) (take (n + 1) (names s.old))) ms
  one_more W v n k ls found ms l is h e g =
      grown_more line_order (λ (l : CallLine). l.«class») (OfJoin s) apart (names s.old) rise n ls found ms (subst (λ m. n < m) (sym (names-length s.old)) (subst (λ (V : World). n < size V) v l)) h
      (subst (λ (m : ℕ). HasExactly line_order (IsOf (λ (l : CallLine). l.«class») (OfJoin s) (name_at s.old m)) found) (some_where-is (nat_lt n (size W)) n k is) e) g

  -- a line's class is one of the side
  named : (l : CallLine) → OfJoin s l → Contains (names s.old) l.«class»
  named l p = let w = made s l p in names-in s.old l.«class» (is_there (find_class s.old l.«class») refl (parted s.old s.new l.«class» w.0 w.1).above)
    where
      is_there : (o : Option ClassFacts) → find_class s.old l.«class» ≡ o → in_chain s.old l.«class» (made s l p).0 ≡ true → is_some o ≡ true
      is_there (Some c) f i = refl
      is_there None f i = absurd (contradicts (in_chain s.old l.«class» (made s l p).0) i (none_above s.old l.«class» (made s l p).0 f))

  pub all_classes : (W : World) → W ≡ s.old → (n : ℕ) (ls : List CallLine) → size W ≤ n → HasExactly line_order (OfNames (λ (l : CallLine). l.«class») (OfJoin s) (take n (names s.old))) ls → HasExactly line_order (OfJoin s) ls
  all_classes W v n ls l h =
      grown_all line_order (λ (l : CallLine). l.«class») (OfJoin s) apart (names s.old) rise n ls (subst (λ m. m ≤ n) (sym (names-length s.old)) (subst (λ (V : World). size V ≤ n) v l)) named h
