-- The members of all classes are numbered, one class after the other.
use Rattle.std.proofs.Common.{◌≡◌, ℕ, ◌≤◌, ◌<◌, ◌+◌, List, [], ◌∷◌, ◌++◌, length, map, take, drop, get_or, sym, ◌∙◌, ap, subst, Option, Some, arith, ◌⊎◌, inl, inr, length-append}
use Rattle.std.specs.Prelude.{slice_get}
use Rattle.std.proofs.lemmas.Bool.{cases_lt}
use Rattle.std.proofs.lemmas.List.{drop_more, take_more, map-append}
use Rattle.std.proofs.Math.ListN.{drop_of_length-le, get_or-append}
use Rattle.std.proofs.Math.Seq.{get_or-append_seam}
use Rattle.jc_facts.specs.declared.class_facts.ClassFacts.{ClassFacts}
use Rattle.jc_facts.specs.declared.class_facts.Member.{Member}
use Rattle.jc_facts.specs.declared.key.Key.{Key}
use Rattle.jc_facts.specs.Names.{key_of}
use Rattle.jc_facts.specs.world.World.{World, size}
use Rattle.jc_index.specs.Ids.{name_at, names}
use Rattle.jc_index.proofs.Numbers.{names-length}
use Rattle.jc_rows.specs.declared.numbering.Numbering.{Numbering}
use Rattle.jc_rows.specs.Keys.{with_key, with_keys, with_keys_of, with_all_keys, class_with_rows, numbered_keys}
use Rattle.jc_rows.specs.steps.Numbering.{AreNumbers, IsNumbering, AddsNumbers, members_in, AddsClass, HasNumbersBefore, IsNumberingBefore}
use Rattle.jc_rows.proofs.KeyLists.{Stay, stay_key, stay_keys, stay_class, numbers_stay}

-- ---- the members of a class

-- so many members are numbered
pub record IsAddingMembers (before : List Key) (ms : List Member) (at : ℕ) (keys : List Key) (ns : List ℕ) : Type 0 where
  pub keys_are : with_keys keys (drop at ms) ≡ with_keys before ms
  pub right : AreNumbers keys (take at ms) ns

pub member-next : (before : List Key) (ms : List Member) (at : ℕ) (keys now : List Key) (ns : List ℕ) (m : Member) (n : ℕ) → at < length ms → m ≡ get_or ms at m → now ≡ with_key keys (key_of m) → slice_get now n ≡ Some (key_of m)
    → IsAddingMembers before ms at keys ns → IsAddingMembers before ms (at + 1) now (ns ++ (n ∷ []))
member-next before ms at keys now ns m n l e f s a = record {
  keys_are =
      ap (λ (ks : List Key). with_keys ks (drop (at + 1) ms)) f
      ∙ sym (ap (with_keys keys) (drop_more ms at m l ∙ ap (λ (z : Member). z ∷ drop (at + 1) ms) (sym e))) ∙ a.keys_are;
  right =
      map-append (slice_get now) ns (n ∷ [])
      ∙ ap (λ (os : List (Option Key)). os ++ (slice_get now n ∷ [])) (numbers_stay keys now (subst (Stay keys) (sym f) (stay_key keys (key_of m))) (take at ms) ns a.right)
      ∙ ap (λ (o : Option Key). map (λ (z : Member). Some (key_of z)) (take at ms) ++ (o ∷ [])) s
      ∙ sym (map-append (λ (z : Member). Some (key_of z)) (take at ms) (m ∷ []))
      ∙ ap (map (λ (z : Member). Some (key_of z))) (sym (take_more ms at m l ∙ ap (λ (z : Member). take at ms ++ (z ∷ [])) (sym e)));
}

-- ---- a class

pub adds_class : (before after : Numbering) (c : ClassFacts) (middle : List Key) (fields methods : List ℕ)
    → middle ≡ with_keys before.keys c.fields → AreNumbers middle c.fields fields → after.keys ≡ with_keys middle c.methods → AreNumbers after.keys c.methods methods
    → after.fields.items ≡ before.fields.items ++ (fields ∷ []) → after.methods.items ≡ before.methods.items ++ (methods ∷ []) → AddsClass before (Some c) after
adds_class before after c middle fields methods m f k g a b = record {
  keys = k ∙ ap (λ (ks : List Key). with_keys ks c.methods) m;
  fields = record { numbers = fields; added = a; right = numbers_stay middle after.keys (subst (Stay middle) (sym k) (stay_keys middle c.methods)) c.fields fields f };
  methods = record { numbers = methods; added = b; right = g };
}

module _ (W : World) (at : ℕ) (o : Option ClassFacts) (l : at < size W) (f : class_with_rows W (name_at W at) ≡ o) where
  -- the names from here on
  from_here : drop at (names W) ≡ name_at W at ∷ drop (at + 1) (names W)
  from_here = drop_more (names W) at [] (let e = names-length W in omega (arith, e, l))

  more : (keys now : List Key) (members : ClassFacts → List Member) (before after : List (List ℕ)) → Stay keys now → HasNumbersBefore W keys members at before → AddsNumbers now (members_in members o) before after → HasNumbersBefore W now members (at + 1) after
  more keys now members before after s h a = subst (HasNumbersBefore W now members (at + 1)) (sym a.added) (record {
    count = length-append before (a.numbers ∷ []) ∙ (let e = h.count in omega (arith, e));
    right = λ n d k g. go n d g (cases_lt n at) k;
  })
    where
      last : get_or (before ++ (a.numbers ∷ [])) at [] ≡ a.numbers
      last = ap (λ (i : ℕ). get_or (before ++ (a.numbers ∷ [])) i []) (sym h.count) ∙ get_or-append_seam before a.numbers [] []

      go : (n : ℕ) (d : ClassFacts) → class_with_rows W (name_at W n) ≡ Some d → (n < at) ⊎ (at ≤ n) → n < at + 1 → AreNumbers now (members d) (get_or (before ++ (a.numbers ∷ [])) n [])
      go n d g (inl k) j = subst (AreNumbers now (members d)) (sym (get_or-append before (a.numbers ∷ []) [] n (let e = h.count in omega (arith, e, k)))) (numbers_stay keys now s (members d) (get_or before n []) (h.right n d k g))
      go n d g (inr k) j =
          let e : n ≡ at = omega (arith, k, j) in
          let p : o ≡ Some d = sym f ∙ ap (λ (i : ℕ). class_with_rows W (name_at W i)) (sym e) ∙ g in
          subst (λ (i : ℕ). AreNumbers now (members d) (get_or (before ++ (a.numbers ∷ [])) i [])) (sym e)
          (subst (AreNumbers now (members d)) (sym last) (subst (λ (z : Option ClassFacts). AreNumbers now (members_in members z) a.numbers) p a.right))

  pub class-next : (before after : Numbering) → IsNumberingBefore W at before → AddsClass before o after → IsNumberingBefore W (at + 1) after
  class-next before after b a = record {
    keys =
        ap (λ (ks : List Key). with_all_keys W ks (drop (at + 1) (names W))) (a.keys ∙ ap (with_keys_of before.keys) (sym f))
        ∙ sym (ap (with_all_keys W before.keys) from_here) ∙ b.keys;
    fields = more before.keys after.keys (λ (d : ClassFacts). d.fields) before.fields.items after.fields.items stay b.fields a.fields;
    methods = more before.keys after.keys (λ (d : ClassFacts). d.methods) before.methods.items after.methods.items stay b.methods a.methods;
  }
    where
      stay : Stay before.keys after.keys
      stay n k e = subst (λ (ks : List Key). slice_get ks n ≡ Some k) (sym a.keys) (stay_class before.keys o n k e)

pub numbering-end : (W : World) (at : ℕ) (numbering : Numbering) → at ≡ size W → IsNumberingBefore W at numbering → IsNumbering W numbering
unfolding numbered_keys
numbering-end W at numbering e b = record {
  keys = is;
  fields = record { count = b.fields.count ∙ e; right = λ n c l f. subst (λ (ks : List Key). AreNumbers ks c.fields (get_or numbering.fields.items n [])) is (b.fields.right n c (omega (arith, e, l)) f) };
  methods = record { count = b.methods.count ∙ e; right = λ n c l f. subst (λ (ks : List Key). AreNumbers ks c.methods (get_or numbering.methods.items n [])) is (b.methods.right n c (omega (arith, e, l)) f) };
}
  where
    is : numbering.keys ≡ with_all_keys W [] (names W)
    is = sym (ap (with_all_keys W numbering.keys) (drop_of_length-le (names W) (let h = names-length W in omega (arith, e, h)))) ∙ b.keys
