-- Methods that override final ones: what a walk up the superclasses of a class meets, and that a method whose key no final instance method has overrides none.
use Rattle.std.proofs.Common.{◌≡◌, ℕ, suc, Bool, true, false, cond, ◌||◌, List, [], ◌∷◌, ◌++◌, refl, sym, ◌∙◌, ap, Option, Some, None, zero, ◌<◌, ◌+◌, not, ◌&&◌, subst, ◌≤◌, length, drop, get_or}
use Rattle.jc_facts.specs.declared.class_facts.ClassFacts.{ClassFacts}
use Rattle.jc_facts.specs.declared.key.Key.{Key}
use Rattle.jc_facts.specs.world.World.{World, DeclaredMember, find_class, declared_method, size, own_method_of, found_in}
use Rattle.jc_facts.specs.world.Overriding.{is_overridden_by_any, linked, overrides_this_final, reaches_final, directly_overrides, overrides_some_final}
use Rattle.jc_worlds.proofs.Finals.{meets_final-append}
use Rattle.jc_index.specs.Ids.{name_at, superclass_of, id_of}
use Rattle.jc_index.specs.steps.Walking.{chain_from, is_final_instance, declares_final_instance, HaveAllFinal}
use Rattle.jc_loading.specs.steps.Met.{linked_last}
use Rattle.jc_index.proofs.Walking.{from-step, from-none, from-nothing, chain-super}
use Rattle.jc_facts.specs.declared.class_facts.Member.{Member}
use Rattle.jc_facts.specs.Names.{Bytes, key_of}
use Rattle.jc_facts.specs.Flags.{final_flag, no_static_flag, private_flag, static_flag}
use Rattle.jc_facts.specs.Options.{some_and, and_then}
use Rattle.jc_facts.specs.file.Valid.{has_key}
use Rattle.jc_facts.specs.world.Search.{descend}
use Rattle.jc_facts.specs.world.Hierarchy.{chain, chain_step, of_super}
use Rattle.jc_desc.specs.Names.{is_init_name, is_clinit_name}
use Rattle.std.proofs.lemmas.List.{drop_more, drop_all}
use Rattle.jc_lemmas.proofs.Listed.{EachOf}
use Rattle.jc_worlds.proofs.Descent.{descend-absent, descend-none_left, descend-found}
use Rattle.std.proofs.lemmas.Bool.{and_right}
use Rattle.std.proofs.Math.Bool.{or_comm, and-false}

-- ---- the methods that are met

meets-last : (k : Key) (xs : List DeclaredMember) (a : DeclaredMember) (cs : List ClassFacts) → reaches_final k (a ∷ xs) cs ≡ reaches_final k (xs ++ a ∷ []) cs
meets-last k xs a cs = meets_final-append k (a ∷ []) xs cs ∙ or_comm (reaches_final k (a ∷ []) cs) (reaches_final k xs cs) ∙ sym (meets_final-append k xs (a ∷ []) cs)

-- one class further up
pub meets-step : (k : Key) (below : List DeclaredMember) (c : ClassFacts) (cs : List ClassFacts) → reaches_final k below (c ∷ cs) ≡ (overrides_this_final below (declared_method k c) || reaches_final k (linked_last below (declared_method k c)) cs)
unfolding reaches_final
meets-step k below c cs = ap (λ b. overrides_this_final below (declared_method k c) || b) (go (declared_method k c))
  where
    choose : (a : DeclaredMember) (b : Bool) → reaches_final k (cond b (a ∷ below) below) cs ≡ reaches_final k (cond b (below ++ a ∷ []) below) cs
    choose a true = meets-last k below a cs
    choose a false = refl

    go : (o : Option DeclaredMember) → reaches_final k (linked below o) cs ≡ reaches_final k (linked_last below o) cs
    go None = refl
    go (Some a) = choose a (is_overridden_by_any below a)

pub meets-nothing : (k : Key) (below : List DeclaredMember) → reaches_final k below [] ≡ false
unfolding reaches_final
meets-nothing k below = refl

-- ---- a step of the walk

meets-at : (W : World) (k : Key) (below : List DeclaredMember) (m n id : ℕ) (next : Option ℕ) (c : ClassFacts) → m ≡ suc n → next ≡ Some id → Some c ≡ find_class W (name_at W id)
    → reaches_final k below (chain_from W m next) ≡ (overrides_this_final below (declared_method k c) || reaches_final k (linked_last below (declared_method k c)) (chain_from W n (superclass_of W (name_at W id))))
meets-at W k below m n id next c q e f =
    ap (λ o. reaches_final k below (chain_from W m o)) e
    ∙ ap (reaches_final k below) (from-step W m n id c q (sym f))
    ∙ meets-step k below c (chain_from W n (superclass_of W (name_at W id)))

pub meets-out : (W : World) (k : Key) (below : List DeclaredMember) (m : ℕ) (next : Option ℕ) → next ≡ None → reaches_final k below (chain_from W m next) ≡ false
meets-out W k below m next e = ap (λ o. reaches_final k below (chain_from W m o)) e ∙ ap (reaches_final k below) (from-nothing W m) ∙ meets-nothing k below

pub meets-end : (W : World) (k : Key) (below : List DeclaredMember) (m : ℕ) (next : Option ℕ) → m ≡ 0 → reaches_final k below (chain_from W m next) ≡ false
meets-end W k below m next e = ap (λ n. reaches_final k below (chain_from W n next)) e ∙ ap (reaches_final k below) (from-none W next) ∙ meets-nothing k below

-- a final method is met
pub meets-found : (W : World) (k : Key) (below : List DeclaredMember) (m n id : ℕ) (next : Option ℕ) (c : ClassFacts) (met : Bool) → m ≡ suc n → next ≡ Some id → Some c ≡ find_class W (name_at W id)
    → met ≡ overrides_this_final below (declared_method k c) → met ≡ true → reaches_final k below (chain_from W m next) ≡ true
meets-found W k below m n id next c met q e f h t =
    let o : overrides_this_final below (declared_method k c) ≡ true = sym h ∙ t in
    meets-at W k below m n id next c q e f ∙ rw o refl

-- none is met in this class
pub meets-on : (W : World) (k : Key) (below after : List DeclaredMember) (m n id : ℕ) (next up : Option ℕ) (c : ClassFacts) (met : Bool) → m ≡ suc n → next ≡ Some id → Some c ≡ find_class W (name_at W id)
    → met ≡ overrides_this_final below (declared_method k c) → met ≡ false → after ≡ linked_last below (declared_method k c) → up ≡ superclass_of W (name_at W id)
    → reaches_final k below (chain_from W m next) ≡ reaches_final k after (chain_from W n up)
meets-on W k below after m n id next up c met q e f h t a u =
    let o : overrides_this_final below (declared_method k c) ≡ false = sym h ∙ t in
    meets-at W k below m n id next c q e f ∙ rw (o, a, u) refl

-- ---- a private or static method

quiet : (k : Key) (m : DeclaredMember) → ((a : DeclaredMember) → directly_overrides m a ≡ false) → (cs : List ClassFacts) → reaches_final k (m ∷ []) cs ≡ false
unfolding reaches_final
quiet k m h [] = refl
quiet k m h (c ∷ cs) = go (declared_method k c) (quiet k m h cs)
  where
    go : (o : Option DeclaredMember) → reaches_final k (m ∷ []) cs ≡ false → (overrides_this_final (m ∷ []) o || reaches_final k (linked (m ∷ []) o) cs) ≡ false
    go None r = r
    go (Some a) r = rw (h a) r

-- it overrides nothing
pub private-quiet : (k : Key) (m : DeclaredMember) → private_flag m.member.flags ≡ true → (cs : List ClassFacts) → reaches_final k (m ∷ []) cs ≡ false
private-quiet k m p cs = quiet k m (λ a. directly (no_static_flag m.member.flags) (no_static_flag a.member.flags) _) cs
  where
    directly : (i j q : Bool) → (i && j && not (private_flag m.member.flags) && q) ≡ false
    directly true true q = rw p refl
    directly true false q = refl
    directly false j q = refl

pub static-quiet : (k : Key) (m : DeclaredMember) → static_flag m.member.flags ≡ true → (cs : List ClassFacts) → reaches_final k (m ∷ []) cs ≡ false
static-quiet k m p cs = quiet k m (λ a. rw p refl) cs

-- ---- a key that no final instance method has

none-over : (below : List DeclaredMember) (a : DeclaredMember) → no_static_flag a.member.flags ≡ false → is_overridden_by_any below a ≡ false
none-over [] a h = refl
none-over (b ∷ below) a h = go (no_static_flag b.member.flags) (no_static_flag a.member.flags) _ _ (is_overridden_by_any below a) h (none-over below a h)
  where
    go : (i j q r rest : Bool) → j ≡ false → rest ≡ false → ((i && j && q && r) || rest) ≡ false
    go true true q r rest e k = absurd (cc)
    go true false q r rest e k = k
    go false j q r rest e k = k

unfixed-class : (k : Key) (below : List DeclaredMember) (c : ClassFacts) → declares_final_instance k c ≡ false → overrides_this_final below (declared_method k c) ≡ false
unfolding found_in
unfixed-class k below c h = go (own_method_of c k) h
  where
    last : (a : DeclaredMember) (f i : Bool) → final_flag a.member.flags ≡ f → no_static_flag a.member.flags ≡ i → (f && i) ≡ false → (is_overridden_by_any below a && f) ≡ false
    last a true true p q r = absurd (cc)
    last a true false p q r = rw (none-over below a q) refl
    last a false i p q r = and-false (is_overridden_by_any below a)

    go : (o : Option Member) → some_and is_final_instance o ≡ false → overrides_this_final below (found_in c o) ≡ false
    go None r = refl
    go (Some m) r = last (record { owner = c.name; member = m }) (final_flag m.flags) (no_static_flag m.flags) refl refl r

unfixed-all : (k : Key) (cs : List ClassFacts) → EachOf (λ c. declares_final_instance k c ≡ false) cs → (below : List DeclaredMember) → reaches_final k below cs ≡ false
unfolding reaches_final
unfixed-all k [] h below = refl
unfixed-all k (c ∷ cs) h below = rw (unfixed-class k below c h.0) (unfixed-all k cs h.1 (linked below (declared_method k c)))

-- what stands above a class has others as its subclasses
walked : (W : World) (P : ClassFacts → Type 0) → ((x : Bytes) (b : ClassFacts) → find_class W x ≡ Some b → (s : Bytes) → b.superclass ≡ Some s → (c : ClassFacts) → find_class W s ≡ Some c → P c)
    → (n : ℕ) (x : Bytes) (b : ClassFacts) → find_class W x ≡ Some b → EachOf P (of_super (descend W [] [] chain_step n) b.superclass)
unfolding chain_step
walked W P h n x b f = go n x b f b.superclass refl
  where
    Above : ℕ → Type 0
    Above n = (y : Bytes) (d : ClassFacts) → find_class W y ≡ Some d → (o : Option Bytes) → d.superclass ≡ o → EachOf P (of_super (descend W [] [] chain_step n) o)

    first : (s : Bytes) (o : Option ClassFacts) → find_class W s ≡ o → EachOf P (descend W [] [] chain_step zero s)
    first s None e = subst (EachOf P) (sym (descend-absent W [] [] chain_step zero s e)) tt
    first s (Some c) e = subst (EachOf P) (sym (descend-none_left W [] [] chain_step s c e)) tt

    more : (n : ℕ) → Above n → (s : Bytes) → ((c : ClassFacts) → find_class W s ≡ Some c → P c) → (o : Option ClassFacts) → find_class W s ≡ o → EachOf P (descend W [] [] chain_step (suc n) s)
    more n r s p None e = subst (EachOf P) (sym (descend-absent W [] [] chain_step (suc n) s e)) tt
    more n r s p (Some c) e = subst (EachOf P) (sym (descend-found W [] [] chain_step n s c e)) (p c e, r s c e c.superclass refl)

    go : (n : ℕ) → Above n
    go n y d e None q = tt
    go zero y d e (Some s) q = first s (find_class W s) refl
    go (suc n) y d e (Some s) q = more n (go n) s (h y d e s q) (find_class W s) refl

over-chain : (W : World) (s : Option Bytes) → of_super (chain W) s ≡ of_super (descend W [] [] chain_step (size W)) s
unfolding chain
over-chain W None = refl
over-chain W (Some s) = refl

unfixed : (W : World) (ks : List Key) (k : Key) (below : List DeclaredMember) (x : Bytes) (c : ClassFacts) → HaveAllFinal W ks → find_class W x ≡ Some c → has_key k ks ≡ false → reaches_final k below (of_super (chain W) c.superclass) ≡ false
unfixed W ks k below x c h f e =
    ap (reaches_final k below) (over-chain W c.superclass)
    ∙ unfixed-all k (of_super (descend W [] [] chain_step (size W)) c.superclass) (walked W (λ d. declares_final_instance k d ≡ false) (λ y b g s q d p. h k e y b g s q d p) (size W) x c f) below

-- ---- a method of a class

pub plain-private : (a : Bool) (k : Key) (m : DeclaredMember) (cs : List ClassFacts) → private_flag m.member.flags ≡ true → (a && reaches_final k (m ∷ []) cs) ≡ false
plain-private a k m cs p = and_right a (reaches_final k (m ∷ []) cs) (private-quiet k m p cs)

pub plain-static : (a : Bool) (k : Key) (m : DeclaredMember) (cs : List ClassFacts) → static_flag m.member.flags ≡ true → (a && reaches_final k (m ∷ []) cs) ≡ false
plain-static a k m cs p = and_right a (reaches_final k (m ∷ []) cs) (static-quiet k m p cs)

pub plain-unfixed : (W : World) (ks : List Key) (a : Bool) (k : Key) (m : DeclaredMember) (x : Bytes) (c : ClassFacts) → HaveAllFinal W ks → find_class W x ≡ Some c → has_key k ks ≡ false → (a && reaches_final k (m ∷ []) (of_super (chain W) c.superclass)) ≡ false
plain-unfixed W ks a k m x c h f e = and_right a (reaches_final k (m ∷ []) (of_super (chain W) c.superclass)) (unfixed W ks k (m ∷ []) x c h f e)

pub plain-met : (W : World) (j k : Key) (m : DeclaredMember) (s : Option Bytes) (up : Option ℕ) (i : Bool) → j ≡ k → up ≡ and_then (id_of W) s → i ≡ false
    → reaches_final j (m ∷ []) (chain_from W (size W) up) ≡ (not i && reaches_final k (m ∷ []) (of_super (chain W) s))
plain-met W j k m s up i e u h = rw (h, e, u) (ap (reaches_final k (m ∷ [])) (sym (chain-super W s)))

-- ---- the methods of a class, one after the other

-- the method of the class named x overrides a final one
abbrev pub overrides_one : Bytes → Member → List ClassFacts → Bool
overrides_one x m above = not (is_init_name m.name || is_clinit_name m.name) && reaches_final (key_of m) (record { owner = x; member = m } ∷ []) above

overrides-step : (x : Bytes) (ms : List Member) (above : List ClassFacts) (i : ℕ) (m : Member) → i < length ms → m ≡ get_or ms i m
    → overrides_some_final x (drop i ms) above ≡ (overrides_one x m above || overrides_some_final x (drop (i + 1) ms) above)
unfolding overrides_some_final
overrides-step x ms above i m l g = ap (λ ns. overrides_some_final x ns above) (drop_more ms i m l) ∙ ap (λ n. overrides_one x n above || overrides_some_final x (drop (i + 1) ms) above) (sym g)

-- the walk over the methods of a class, `items`: none of those before i overrides a final one
module _ (x : Bytes) (ms items : List Member) (same : items ≡ ms) (above : List ClassFacts) (i : ℕ) (ahead : overrides_some_final x ms above ≡ overrides_some_final x (drop i ms) above) where
  one_more : (m : Member) → i < length items → m ≡ get_or items i m → overrides_some_final x ms above ≡ (overrides_one x m above || overrides_some_final x (drop (i + 1) ms) above)
  one_more m l g = ahead ∙ overrides-step x ms above i m (subst (λ (ns : List Member). i < length ns) same l) (subst (λ (ns : List Member). m ≡ get_or ns i m) same g)

  pub overrides_found : (m : Member) (b : Bool) → i < length items → m ≡ get_or items i m → b ≡ overrides_one x m above → b ≡ true → true ≡ overrides_some_final x ms above
  overrides_found m b l g h t = let o : overrides_one x m above ≡ true = sym h ∙ t in sym (one_more m l g ∙ ap (λ c. c || overrides_some_final x (drop (i + 1) ms) above) o)

  pub overrides_next : (m : Member) (b : Bool) → i < length items → m ≡ get_or items i m → b ≡ overrides_one x m above → b ≡ false → overrides_some_final x ms above ≡ overrides_some_final x (drop (i + 1) ms) above
  overrides_next m b l g h t = let o : overrides_one x m above ≡ false = sym h ∙ t in one_more m l g ∙ ap (λ c. c || overrides_some_final x (drop (i + 1) ms) above) o

  pub overrides_end : length items ≤ i → false ≡ overrides_some_final x ms above
  unfolding overrides_some_final
  overrides_end l = sym (ahead ∙ ap (λ ns. overrides_some_final x ns above) (drop_all i ms (subst (λ (ns : List Member). length ns ≤ i) same l)))
