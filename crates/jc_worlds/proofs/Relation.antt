-- The walk that looks for final methods finds what the relation says.
use Rattle.std.proofs.Common.{◌≡◌, Bool, true, false, cond, List, [], ◌∷◌, ◌++◌, refl, sym, ◌∙◌, ap, subst, Option, Some, None, not, ◌||◌, ◌&&◌, ◌⊎◌, inl, inr}
use Rattle.std.proofs.lemmas.Bool.{and_parts, and_from, or_cases, or_left, or_right}
use Rattle.jc_facts.specs.declared.class_facts.ClassFacts.{ClassFacts}
use Rattle.jc_facts.specs.declared.key.Key.{Key}
use Rattle.jc_facts.specs.Names.{in_same_package}
use Rattle.jc_facts.specs.Flags.{public_flag, private_flag, protected_flag, package_private, final_flag, no_static_flag}
use Rattle.jc_facts.specs.world.World.{DeclaredMember, declared_method}
use Rattle.jc_facts.specs.world.Overriding.{directly_overrides, Overrides, directly, through, OverridesFinal, is_overridden_by_any, linked, overrides_this_final, reaches_final}
use Rattle.jc_lemmas.proofs.Listed.{EachOf, EachOf-map}
use Rattle.std.proofs.lemmas.List.Folds.{list_any-append}
use Rattle.jc_worlds.proofs.Finals.{links}
use Rattle.std.proofs.lemmas.List.{append_assoc}

-- the methods that are linked to those below, after these classes
unfoldable pub linked_all : Key → List DeclaredMember → List ClassFacts → List DeclaredMember
linked_all k below [] = below
linked_all k below (c ∷ cs) = linked_all k (linked below (declared_method k c)) cs

abbrev reaches : Key → List ClassFacts → DeclaredMember → List DeclaredMember → Bool
reaches k cs a below = is_overridden_by_any (linked_all k below cs) a

reaches-append : (k : Key) (a : DeclaredMember) (cs : List ClassFacts) (xs ys : List DeclaredMember) → reaches k cs a (xs ++ ys) ≡ (reaches k cs a xs || reaches k cs a ys)
unfolding linked_all
reaches-append k a [] xs ys = list_any-append (λ b. directly_overrides b a) xs ys
reaches-append k a (c ∷ cs) xs ys = go (declared_method k c) (reaches-append k a cs)
  where
    go : (o : Option DeclaredMember) → ((us vs : List DeclaredMember) → reaches k cs a (us ++ vs) ≡ (reaches k cs a us || reaches k cs a vs))
        → is_overridden_by_any (linked_all k (linked (xs ++ ys) o) cs) a ≡ (is_overridden_by_any (linked_all k (linked xs o) cs) a || is_overridden_by_any (linked_all k (linked ys o) cs) a)
    go None r = r xs ys
    go (Some w) r = ap (λ b. is_overridden_by_any (linked_all k (cond b (w ∷ (xs ++ ys)) (xs ++ ys)) cs) a) (list_any-append (λ b. directly_overrides b w) xs ys)
        ∙ links (λ l. is_overridden_by_any (linked_all k l cs) a) r xs ys w (final_flag w.member.flags) (is_overridden_by_any xs w) (is_overridden_by_any ys w)

linked_all-append : (k : Key) (below : List DeclaredMember) (xs ys : List ClassFacts) → linked_all k below (xs ++ ys) ≡ linked_all k (linked_all k below xs) ys
unfolding linked_all
linked_all-append k below [] ys = refl
linked_all-append k below (c ∷ xs) ys = linked_all-append k (linked below (declared_method k c)) xs ys

-- what is linked stays
reaches-own : (k : Key) (a m : DeclaredMember) (cs : List ClassFacts) (below : List DeclaredMember) → directly_overrides m a ≡ true → reaches k cs a (m ∷ below) ≡ true
unfolding linked_all
reaches-own k a m [] below h = or_left (directly_overrides m a) (is_overridden_by_any below a) h
reaches-own k a m (c ∷ cs) below h = go (declared_method k c) (reaches-own k a m cs below h)
  where
    go : (o : Option DeclaredMember) → is_overridden_by_any (linked_all k (m ∷ below) cs) a ≡ true → is_overridden_by_any (linked_all k (linked (m ∷ below) o) cs) a ≡ true
    go None r = r
    go (Some w) r = by (is_overridden_by_any (m ∷ below) w)
      where
        by : (b : Bool) → is_overridden_by_any (linked_all k (cond b (w ∷ m ∷ below) (m ∷ below)) cs) a ≡ true
        by false = r
        by true = reaches-append k a cs (w ∷ []) (m ∷ below) ∙ or_right (reaches k cs a (w ∷ [])) (reaches k cs a (m ∷ below)) r

-- one way
pub reaches-from : (k : Key) {m a : DeclaredMember} (between : List ClassFacts) → Overrides k m between a → is_overridden_by_any (linked_all k (m ∷ []) between) a ≡ true
unfolding linked_all
reaches-from k {m} {a} between (directly xs h) = reaches-own k a m between [] h
reaches-from k {m} {a} between (through below c above b d p u v) =
    go (reaches-from k below u) (reaches-from k above v)
  where
    go : is_overridden_by_any (linked_all k (m ∷ []) below) b ≡ true → is_overridden_by_any (linked_all k (b ∷ []) above) a ≡ true → is_overridden_by_any (linked_all k (m ∷ []) (below ++ c ∷ above)) a ≡ true
    go x y =
        ap (λ l. is_overridden_by_any l a) (linked_all-append k (m ∷ []) below (c ∷ above))
        ∙ ap (λ o. is_overridden_by_any (linked_all k (linked (linked_all k (m ∷ []) below) o) above) a) d
        ∙ ap (λ z. is_overridden_by_any (linked_all k (cond z (b ∷ linked_all k (m ∷ []) below) (linked_all k (m ∷ []) below)) above) a) x
        ∙ reaches-append k a above (b ∷ []) (linked_all k (m ∷ []) below) ∙ or_left (reaches k above a (b ∷ [])) (reaches k above a (linked_all k (m ∷ []) below)) y

nil : (xs : List ClassFacts) → xs ++ [] ≡ xs
nil [] = refl
nil (x ∷ xs) = ap (λ r. x ∷ r) (nil xs)

-- a method that is linked to m after these classes
data IsLinked (k : Key) (m : DeclaredMember) : List ClassFacts → DeclaredMember → Type 0 where
  itself : {cs : List ClassFacts} → IsLinked k m cs m
  above : {b : DeclaredMember} (xs : List ClassFacts) (c : ClassFacts) (ys : List ClassFacts) → declared_method k c ≡ Some b → Overrides k m xs b → IsLinked k m (xs ++ c ∷ ys) b

-- what overrides something is an instance method that is not private
overrider : (m a : DeclaredMember) → directly_overrides m a ≡ true → (no_static_flag m.member.flags ≡ true) × (no_static_flag a.member.flags ≡ true) × (not (private_flag m.member.flags) ≡ true)
    × ((public_flag a.member.flags || protected_flag a.member.flags || (package_private a.member.flags && in_same_package m.owner a.owner)) ≡ true)
overrider m a h =
    let p = and_parts (no_static_flag m.member.flags && no_static_flag a.member.flags && not (private_flag m.member.flags)) (public_flag a.member.flags || protected_flag a.member.flags || (package_private a.member.flags && in_same_package m.owner a.owner)) h in
    let q = and_parts (no_static_flag m.member.flags && no_static_flag a.member.flags) (not (private_flag m.member.flags)) p.0 in
    let r = and_parts (no_static_flag m.member.flags) (no_static_flag a.member.flags) q.0 in
    (r.0, r.1, q.1, p.1)

starts : (k : Key) {m a : DeclaredMember} (xs : List ClassFacts) → Overrides k m xs a → (no_static_flag m.member.flags ≡ true) × (not (private_flag m.member.flags) ≡ true)
starts k {m} {a} xs (directly ys h) = let p = overrider m a h in (p.0, p.2)
starts k {m} {a} xs (through below c ys b d p u v) = starts k below u

module _ (k : Key) (m : DeclaredMember) where
  by_one : (pre : List ClassFacts) (b w : DeclaredMember) → IsLinked k m pre b → directly_overrides b w ≡ true → Overrides k m pre w
  by_one pre b w itself h = directly pre h
  by_one pre b w (above xs c ys d o) h = go (or_cases (public_flag w.member.flags || protected_flag w.member.flags) (package_private w.member.flags && in_same_package b.owner w.owner) p.3)
    where
      p : (no_static_flag b.member.flags ≡ true) × (no_static_flag w.member.flags ≡ true) × (not (private_flag b.member.flags) ≡ true)
          × ((public_flag w.member.flags || protected_flag w.member.flags || (package_private w.member.flags && in_same_package b.owner w.owner)) ≡ true)
      p = overrider b w h

      s : (no_static_flag m.member.flags ≡ true) × (not (private_flag m.member.flags) ≡ true)
      s = starts k xs o

      go : ((public_flag w.member.flags || protected_flag w.member.flags) ≡ true) ⊎ ((package_private w.member.flags && in_same_package b.owner w.owner) ≡ true) → Overrides k m (xs ++ c ∷ ys) w
      go (inl q) = directly (xs ++ c ∷ ys) (and_from (no_static_flag m.member.flags && no_static_flag w.member.flags && not (private_flag m.member.flags)) (public_flag w.member.flags || protected_flag w.member.flags || (package_private w.member.flags && in_same_package m.owner w.owner))
          (and_from (no_static_flag m.member.flags && no_static_flag w.member.flags) (not (private_flag m.member.flags)) (and_from (no_static_flag m.member.flags) (no_static_flag w.member.flags) s.0 p.1) s.1)
          (or_left (public_flag w.member.flags || protected_flag w.member.flags) (package_private w.member.flags && in_same_package m.owner w.owner) q))
      go (inr q) = through xs c ys b d (and_parts (package_private w.member.flags) (in_same_package b.owner w.owner) q).0 o (directly ys h)

  to_overrides : (pre : List ClassFacts) (below : List DeclaredMember) (w : DeclaredMember) → EachOf (IsLinked k m pre) below → is_overridden_by_any below w ≡ true → Overrides k m pre w
  to_overrides pre [] w l h = absurd (cc)
  to_overrides pre (b ∷ bs) w l h = go (or_cases (directly_overrides b w) (is_overridden_by_any bs w) h) (to_overrides pre bs w l.1)
    where
      go : (directly_overrides b w ≡ true) ⊎ (is_overridden_by_any bs w ≡ true) → (is_overridden_by_any bs w ≡ true → Overrides k m pre w) → Overrides k m pre w
      go (inl q) r = by_one pre b w l.0 q
      go (inr q) r = r q

  further : (pre more : List ClassFacts) (b : DeclaredMember) → IsLinked k m pre b → IsLinked k m (pre ++ more) b
  further pre more b itself = itself
  further pre more b (above xs c ys d o) = subst (λ z. IsLinked k m z b) (sym (append_assoc xs (c ∷ ys) more)) (above xs c (ys ++ more) d o)

  all_linked : (cs pre : List ClassFacts) (below : List DeclaredMember) → EachOf (IsLinked k m pre) below → EachOf (IsLinked k m (pre ++ cs)) (linked_all k below cs)
  unfolding linked_all
  all_linked [] pre below l = subst (λ z. EachOf (IsLinked k m z) below) (sym (nil pre)) l
  all_linked (c ∷ cs) pre below l = subst (λ z. EachOf (IsLinked k m z) (linked_all k (linked below (declared_method k c)) cs)) (append_assoc pre (c ∷ []) cs) (all_linked cs (pre ++ c ∷ []) (linked below (declared_method k c)) (go (declared_method k c) refl))
    where
      is_kept : EachOf (IsLinked k m (pre ++ c ∷ [])) below
      is_kept = EachOf-map (further pre (c ∷ [])) below l

      go : (o : Option DeclaredMember) → declared_method k c ≡ o → EachOf (IsLinked k m (pre ++ c ∷ [])) (linked below o)
      go None e = is_kept
      go (Some w) e = by (is_overridden_by_any below w) refl
        where
          by : (b : Bool) → is_overridden_by_any below w ≡ b → EachOf (IsLinked k m (pre ++ c ∷ [])) (cond b (w ∷ below) below)
          by false h = is_kept
          by true h = (above pre c [] e (to_overrides pre below w l h), is_kept)

  -- the other way
  pub overrides-from : (between : List ClassFacts) (a : DeclaredMember) → is_overridden_by_any (linked_all k (m ∷ []) between) a ≡ true → Overrides k m between a
  overrides-from between a h = to_overrides between (linked_all k (m ∷ []) between) a (all_linked between [] (m ∷ []) (itself, tt)) h

-- the final method that the walk meets
record IsMet (k : Key) (below : List DeclaredMember) (cs : List ClassFacts) : Type 0 where
  between : List ClassFacts
  class : ClassFacts
  rest : List ClassFacts
  split : cs ≡ between ++ class ∷ rest
  method : DeclaredMember
  declared : declared_method k class ≡ Some method
  final : final_flag method.member.flags ≡ true
  reached : is_overridden_by_any (linked_all k below between) method ≡ true

met : (k : Key) (below : List DeclaredMember) (cs : List ClassFacts) → reaches_final k below cs ≡ true → IsMet k below cs
unfolding reaches_final linked_all
met k below [] h = absurd (cc)
met k below (c ∷ cs) h = go (or_cases (overrides_this_final below (declared_method k c)) (reaches_final k (linked below (declared_method k c)) cs) h) (met k (linked below (declared_method k c)) cs)
  where
    here : (o : Option DeclaredMember) → declared_method k c ≡ o → overrides_this_final below o ≡ true → IsMet k below (c ∷ cs)
    here None e q = absurd (cc)
    here (Some a) e q =
        let p = and_parts (is_overridden_by_any below a) (final_flag a.member.flags) q in
        record { between = []; class = c; rest = cs; split = refl; method = a; declared = e; final = p.1; reached = p.0 }

    go : (overrides_this_final below (declared_method k c) ≡ true) ⊎ (reaches_final k (linked below (declared_method k c)) cs ≡ true) → (reaches_final k (linked below (declared_method k c)) cs ≡ true → IsMet k (linked below (declared_method k c)) cs) → IsMet k below (c ∷ cs)
    go (inl q) r = here (declared_method k c) refl q
    go (inr q) r = let w = r q in record { between = c ∷ w.between; class = w.class; rest = w.rest; split = ap (λ z. c ∷ z) w.split; method = w.method; declared = w.declared; final = w.final; reached = w.reached }

meets-at : (k : Key) (between : List ClassFacts) (c : ClassFacts) (rest : List ClassFacts) (a : DeclaredMember) (below : List DeclaredMember) → declared_method k c ≡ Some a → final_flag a.member.flags ≡ true → is_overridden_by_any (linked_all k below between) a ≡ true → reaches_final k below (between ++ c ∷ rest) ≡ true
unfolding reaches_final linked_all
meets-at k [] c rest a below d f r = or_left (overrides_this_final below (declared_method k c)) (reaches_final k (linked below (declared_method k c)) rest) (rw d (and_from (is_overridden_by_any below a) (final_flag a.member.flags) r f))
meets-at k (e ∷ es) c rest a below d f r = or_right (overrides_this_final below (declared_method k e)) (reaches_final k (linked below (declared_method k e)) (es ++ c ∷ rest)) (meets-at k es c rest a (linked below (declared_method k e)) d f r)

-- the walk meets a final method exactly where the method overrides one
pub meets_final-exact : (k : Key) (m : DeclaredMember) (cs : List ClassFacts) → (reaches_final k (m ∷ []) cs ≡ true → OverridesFinal k m cs) × (OverridesFinal k m cs → reaches_final k (m ∷ []) cs ≡ true)
meets_final-exact k m cs = (
  λ h. let w = met k (m ∷ []) cs h in record { between = w.between; class = w.class; rest = w.rest; split = w.split; method = w.method; declared = w.declared; final = w.final; overrides = overrides-from k m w.between w.method w.reached },
  λ o. subst (λ z. reaches_final k (m ∷ []) z ≡ true) (sym o.split) (meets-at k o.between o.class o.rest o.method (m ∷ []) o.declared o.final (reaches-from k o.between o.overrides)),
)
