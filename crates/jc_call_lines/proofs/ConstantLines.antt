-- Lines on classes of which a switch may list all values.
use Rattle.std.proofs.Common.{◌≡◌, ◌<◌, ◌≤◌, ◌+◌, ◌++◌, ◌∷◌, [], ℕ, Bool, true, false, not, cond, ◌&&◌, ◌||◌, List, length, map, refl, sym, ◌∙◌, ap, subst, Option, None, Some, take, drop, nat_lt}
use Rattle.std.specs.Prelude.{IsTrue}
use Rattle.std.specs.List.{All, Contains, filter, filter_map, cons_option, list_any}
use Rattle.std.specs.List.Sorted.{IsPermutation}
use Rattle.std.specs.declared.cmp.Ordering.TheVariants.{Less}
use Rattle.std.proofs.lemmas.Bool.{and_parts}
use Rattle.std.proofs.lemmas.List.{take-append-drop}
use Rattle.std.proofs.lemmas.List.Elements.{All-contains_itself, All-weaker}
use Rattle.std.proofs.lemmas.List.Sorted.{list_any-IsPermutation}
use Rattle.jc_call_kinds.specs.declared.call_line.CallKind.TheVariants.{Constants}
use Rattle.jc_call_kinds.specs.declared.call_line.CallLine.{CallLine}
use Rattle.jc_facts.specs.declared.class_facts.ClassFacts.{ClassFacts}
use Rattle.jc_facts.specs.declared.class_facts.Member.{Member}
use Rattle.jc_facts.specs.declared.key.Key.{Key}
use Rattle.jc_facts.specs.Exactly.{Before, HasExactly, NamesRise, Rises}
use Rattle.jc_facts.specs.Flags.{enum_flag}
use Rattle.jc_facts.specs.Names.{Bytes, same, is_name_among}
use Rattle.jc_facts.specs.Options.{some_where}
use Rattle.jc_facts.specs.world.World.{World, class_is, find_class, size}
use Rattle.jc_facts.proofs.Exact.{Gives, given_back}
use Rattle.jc_facts.proofs.Exactly.{rise_front}
use Rattle.jc_facts.proofs.InOrder.{exact_given, given_rise}
use Rattle.jc_facts.proofs.Options.{some_where-is}
use Rattle.jc_facts.proofs.World.{found_name}
use Rattle.jc_lemmas.proofs.Listed.{EachOf, list_any-same}
use Rattle.jc_promises.specs.rule.Bases.{is_kept, is_steady}
use Rattle.jc_calls.specs.Constants.{constants_added, gets_constant, has_constant, gets_objects, permits_more}
use Rattle.jc_calls.specs.Lines.{is_due, line_order}
use Rattle.jc_index.specs.Ids.{names, name_at}
use Rattle.jc_index.specs.Sides.{IsSide}
use Rattle.jc_index.proofs.Numbers.{names-in, names-rise}
use Rattle.jc_sides.specs.Limit.{HasMore, over}
use Rattle.jc_sides.specs.SidesOf.{SidesOf, AreSides}
use Rattle.jc_sides.proofs.BaseParts.{steady_parts}
use Rattle.jc_sides.proofs.ByClass.{step, whole}
use Rattle.jc_sides.proofs.ItemRules.{made_where}
use Rattle.jc_sides.proofs.NamedAbove.{steady_unkept}
use Rattle.jc_call_lines.specs.steps.ConstantLines.{constant_names, constants_line}
use Rattle.jc_call_lines.specs.steps.Kinds.{OfKind}

-- ---- names that stand in a set

-- what isn't named in the set isn't in the list
pub by_set : {A : Type 0} (test : A → Bool) (name : A → Bytes) (ys set : List Bytes) → IsPermutation ys set → (xs : List A)
    → list_any (λ x. test x && not (is_name_among set (name x))) xs ≡ list_any (λ x. test x && not (is_name_among ys (name x))) xs
by_set {A} test name ys set h xs = list_any-same (λ x. test x && not (is_name_among set (name x))) (λ x. test x && not (is_name_among ys (name x))) xs (each xs)
  where
    each : (zs : List A) → EachOf (λ x. (test x && not (is_name_among set (name x))) ≡ (test x && not (is_name_among ys (name x)))) zs
    each [] = tt
    each (z ∷ zs) = (ap (λ (b : Bool). test z && not b) (sym (list_any-IsPermutation (λ y. same y (name z)) ys set h)), each zs)

-- ---- constants of enums

named : (ms : List Member) (n : Bytes) → is_name_among (map (λ m. m.name) (filter (λ m. enum_flag m.flags) ms)) n ≡ list_any (λ m. enum_flag m.flags && same m.name n) ms
named [] n = refl
named (m ∷ ms) n = go (enum_flag m.flags) (named ms n)
  where
    rest : List Member
    rest = filter (λ k. enum_flag k.flags) ms

    go : (b : Bool) → is_name_among (map (λ k. k.name) rest) n ≡ list_any (λ k. enum_flag k.flags && same k.name n) ms
        → is_name_among (map (λ k. k.name) (cond b (m ∷ rest) rest)) n ≡ ((b && same m.name n) || list_any (λ k. enum_flag k.flags && same k.name n) ms)
    go true r = ap (λ (b : Bool). same m.name n || b) r
    go false r = r

-- an enum gets a constant where one isn't in the set of its names
pub gets_by_set : (c d : ClassFacts) (set : List Bytes) → IsPermutation (constant_names c) set → (b : Bool) → b ≡ list_any (λ m. enum_flag m.flags && not (is_name_among set m.name)) d.fields → enum_flag c.flags ≡ true → b ≡ gets_constant c d
gets_by_set c d set h b e enum =
    e ∙ by_set (λ m. enum_flag m.flags) (λ m. m.name) (constant_names c) set h d.fields
    ∙ list_any-same (λ m. enum_flag m.flags && not (is_name_among (constant_names c) m.name)) (λ m. enum_flag m.flags && not (has_constant c m.name)) d.fields (each d.fields)
    ∙ ap (λ (p : Bool). p && list_any (λ m. enum_flag m.flags && not (has_constant c m.name)) d.fields) (sym enum)
  where
    each : (ms : List Member) → EachOf (λ m. (enum_flag m.flags && not (is_name_among (constant_names c) m.name)) ≡ (enum_flag m.flags && not (has_constant c m.name))) ms
    each [] = tt
    each (m ∷ ms) = (ap (λ (p : Bool). enum_flag m.flags && not p) (named c.fields m.name), each ms)

-- ---- a class

module _ (s : SidesOf) (x : Bytes) where
  unsteady : is_steady s.old s.new x ≡ false → false ≡ constants_added s.old s.new x
  unfolding constants_added
  unsteady h = rw h refl

  pub not_kept : is_kept s.old s.new x ≡ false → false ≡ constants_added s.old s.new x
  not_kept h = unsteady (steady_unkept s x h)

  module _ (y : Bytes) (same : y ≡ x) where
    pub not_steady : (b : Bool) → b ≡ is_steady s.old s.new y → b ≡ false → false ≡ constants_added s.old s.new x
    not_steady b e f = unsteady (ap (is_steady s.old s.new) (sym same) ∙ sym e ∙ f)

    -- of a steady class its two records decide
    pub due_of : (c d : ClassFacts) (b p : Bool) → p ≡ is_steady s.old s.new y → p ≡ true → Some c ≡ find_class s.old y → Some d ≡ find_class s.new y → b ≡ (gets_constant c d || permits_more c.permits d.permits || gets_objects c d)
        → b ≡ constants_added s.old s.new x
    unfolding constants_added
    due_of c d b p e t before after q =
        let steady : is_steady s.old s.new x ≡ true = ap (is_steady s.old s.new) (sym same) ∙ sym e ∙ t in
        let old : Some c ≡ find_class s.old x = before ∙ ap (find_class s.old) same in
        let new : Some d ≡ find_class s.new x = after ∙ ap (find_class s.new) same in
        q ∙ rw (steady, ← old, ← new) refl

-- ---- the line on a class

abbrev line : Bytes → CallLine
line x = record { kind = Constants; «class» = x; key = None; target = None }

pub no_line : (s : SidesOf) (x : Bytes) (b : Bool) → b ≡ constants_added s.old s.new x → b ≡ false → None ≡ constants_line s x
no_line s x b e f = ap (λ (p : Bool). some_where p (line x)) (sym f ∙ e)

pub line_is : (s : SidesOf) (W : World) (n : ℕ) → W ≡ s.old → (c : ClassFacts) (name : Bytes) (b : Bool) → Some c ≡ find_class W (name_at W n) → name ≡ c.name → b ≡ constants_added s.old s.new (name_at s.old n) → b ≡ true
    → Some (line name) ≡ constants_line s (name_at s.old n)
line_is s W n v c name b found e q t =
    let is : name ≡ name_at s.old n = e ∙ found_name W (name_at W n) c found ∙ ap (λ (V : World). name_at V n) v in
    ap (λ (x : Bytes). Some (line x)) is ∙ ap (λ (p : Bool). some_where p (line (name_at s.old n))) (sym t ∙ q)

-- ---- the lines on all classes

module _ (s : SidesOf) where
  later : (x y : Bytes) (f g : CallLine) → Before x y → constants_line s x ≡ Some f → constants_line s y ≡ Some g → line_order f g ≡ Less
  later x y f g b e k =
      let p = (made_where (constants_added s.old s.new x) (line x) f e).1 in
      let q = (made_where (constants_added s.old s.new y) (line y) g k).1 in
      subst (λ (l : CallLine). line_order l g ≡ Less) p (subst (λ (l : CallLine). line_order (line x) l ≡ Less) q (rw b refl))

  stands : (x : Bytes) (f : CallLine) → constants_line s x ≡ Some f → OfKind Constants s.old s.new f
  stands x f e =
      let p = made_where (constants_added s.old s.new x) (line x) f e in
      subst (OfKind Constants s.old s.new) p.1 (refl, p.0)

  of_class : (f : CallLine) → OfKind Constants s.old s.new f → (f.key ≡ None) × (f.target ≡ None) × (constants_added s.old s.new f.«class» ≡ true)
  of_class f h = go f.key f.target (subst (λ k. IsTrue (is_due s.old s.new k f.«class» f.key f.target)) h.0 h.1)
    where
      go : (k : Option Key) (t : Option Bytes) → IsTrue (is_due s.old s.new Constants f.«class» k t) → (k ≡ None) × (t ≡ None) × (constants_added s.old s.new f.«class» ≡ true)
      go None None h = (refl, refl, h)
      go None (Some t) h = absurd (let clash : false ≡ true = h in cc)
      go (Some k) t h = absurd (let clash : false ≡ true = h in cc)

  gives : (f : CallLine) → OfKind Constants s.old s.new f → constants_line s f.«class» ≡ Some f
  gives f h =
      let p = of_class f h in
      let is : line f.«class» ≡ f = λ i. record { kind = sym h.0 i; «class» = f.«class»; key = sym p.0 i; target = sym p.1 i } in
      ap (λ (b : Bool). some_where b (line f.«class»)) p.2 ∙ ap Some is

  steady : (x : Bytes) → constants_added s.old s.new x ≡ true → is_steady s.old s.new x ≡ true
  unfolding constants_added
  steady x h = (and_parts (is_steady s.old s.new x) (class_is s.old (λ c. class_is s.new (λ d. gets_constant c d || permits_more c.permits d.permits || gets_objects c d) x) x) h).0

  exact : IsSide s.old → HasExactly line_order (OfKind Constants s.old s.new) (filter_map (constants_line s) (names s.old))
  exact side = exact_given line_order (constants_line s) later (OfKind Constants s.old s.new) (names s.old) (names-rise s.old side.differ) (λ x f c e. stands x f e) complete
    where
      complete : (f : CallLine) → OfKind Constants s.old s.new f → Gives (constants_line s) (names s.old) f
      complete f h = record { place = f.«class»; is_in = names-in s.old f.«class» ((steady_parts s f.«class» (steady f.«class» (of_class f h).2)).both.there); gives = gives f h }

  -- one more class; the table's world is the old side's
  pub one_more : (W : World) → W ≡ s.old → (n k : ℕ) (fs gs : List CallLine) (o : Option CallLine) → n < size W → some_where (nat_lt n (size W)) n ≡ Some k → fs ≡ filter_map (constants_line s) (take n (names s.old))
      → o ≡ constants_line s (name_at s.old k) → gs ≡ fs ++ cons_option o [] → gs ≡ filter_map (constants_line s) (take (n + 1) (names s.old))
  one_more W v n k fs gs o l is e q g =
      step (constants_line s) s.old n fs gs o (subst (λ (V : World). n < size V) v l) e (q ∙ ap (λ m. constants_line s (name_at s.old m)) (some_where-is (nat_lt n (size W)) n k is)) g

  given_stand : (xs : List Bytes) → All (OfKind Constants s.old s.new) (filter_map (constants_line s) xs)
  given_stand xs =
      All-weaker (Contains (filter_map (constants_line s) xs)) (OfKind Constants s.old s.new) (λ f c. let g = given_back (constants_line s) xs f c in stands g.place f g.gives)
      (filter_map (constants_line s) xs) (All-contains_itself (filter_map (constants_line s) xs))

  -- the first classes alone give more than the limit allows
  pub past : AreSides s → (most : Option ℕ) (n : ℕ) (fs : List CallLine) → fs ≡ filter_map (constants_line s) (take n (names s.old)) → over (length fs) most ≡ true → HasMore line_order (OfKind Constants s.old s.new) most
  past are most n fs e o = record {
    some = fs;
    in_order = subst (Rises line_order) (sym e) (given_rise line_order (constants_line s) later (take n (names s.old))
        (rise_front (take n (names s.old)) (drop n (names s.old)) (subst (NamesRise (λ x. x)) (sym (take-append-drop n (names s.old))) (names-rise s.old are.old_side.differ))));
    stand = subst (All (OfKind Constants s.old s.new)) (sym e) (given_stand (take n (names s.old)));
    many = o;
  }

  -- all classes
  pub all_classes : AreSides s → (W : World) → W ≡ s.old → (n : ℕ) (fs : List CallLine) → size W ≤ n → fs ≡ filter_map (constants_line s) (take n (names s.old)) → HasExactly line_order (OfKind Constants s.old s.new) fs
  all_classes are W v n fs l e =
      subst (HasExactly line_order (OfKind Constants s.old s.new)) (sym (whole (constants_line s) s.old n fs (subst (λ (V : World). size V ≤ n) v l) e)) (exact are.old_side)
