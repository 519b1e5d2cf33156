-- Two parts that agree: what is said of the interfaces of the one is true of the other.
use Rattle.std.proofs.Common.{◌≡◌, Bool, true, List, refl, sym, ◌∙◌, ap, subst, Option, Some, None, not, ◌&&◌}
use Rattle.std.specs.Bool.{beq}
use Rattle.std.specs.List.{list_any, list_all, filter, Contains}
use Rattle.std.proofs.lemmas.Bool.{and_parts, and_from}
use Rattle.std.specs.Cmp.{both_ways}
use Rattle.jc_facts.specs.declared.class_facts.ClassFacts.{ClassFacts}
use Rattle.jc_facts.specs.declared.key.Key.{Key}
use Rattle.jc_facts.specs.Names.{Bytes, same}
use Rattle.jc_facts.specs.Options.{some_and}
use Rattle.jc_facts.specs.world.World.{World, class_named, find_class}
use Rattle.jc_facts.specs.world.Hierarchy.{names_in, is_superinterface}
use Rattle.jc_facts.specs.world.Inheritance.{offers}
use Rattle.jc_facts.proofs.World.{class_named-name, class_named-each, IsOf}
use Rattle.jc_facts.proofs.Same.{same_is, same_itself}
use Rattle.jc_lemmas.proofs.Bools.{beq_is}
use Rattle.jc_lemmas.proofs.Listed.{EachOf, each_in, each_from, any_has, any_passes, in_filter, filter_in, list_all-each}
use Rattle.jc_promises.specs.rule.Selection.{declares_abstract}
use Rattle.jc_promises.specs.rule.Warnings.{is_below_other, stays_in, parts_agree}

-- a class that is found stands in the list
pub class_named-in : (cs : List ClassFacts) (x : Bytes) (c : ClassFacts) → class_named cs x ≡ Some c → Contains cs c
class_named-in cs x c e = class_named-each (Contains cs) cs x c (each_from (Contains cs) cs (λ x h. h)) e

-- an interface of this name that offers the key, and of whose method f says so, by whether it is abstract
abbrev pub is_offered : (Bool → Bool) → Key → Bytes → ClassFacts → Bool
is_offered f k z c = offers k c && same c.name z && f (declares_abstract k c)

-- one that offers the key, of another name, and below the interface of this name
abbrev pub is_beside : World → Key → Bytes → ClassFacts → Bool
is_beside W k z c = offers k c && not (same c.name z) && is_superinterface W c.name z

module _ (O N : World) (k : Key) (xs ys : List ClassFacts) (gx : EachOf (IsOf O) xs) (gy : EachOf (IsOf N) ys) (agree : parts_agree O N k (filter (offers k) xs) (filter (offers k) ys) ≡ true) where
  abbrev before : List ClassFacts
  before = filter (offers k) xs

  abbrev after : List ClassFacts
  after = filter (offers k) ys

  parts : (list_all (stays_in O N k before after) before ≡ true) × (list_all (λ d. names_in before d.name) after ≡ true)
  unfolding parts_agree
  parts = and_parts (list_all (stays_in O N k before after) before) (list_all (λ d. names_in before d.name) after) agree

  -- what an old interface is now
  record StaysAs (c : ClassFacts) : Type 0 where
    now : ClassFacts
    is_in : Contains ys now
    offers_it : offers k now ≡ true
    name : now.name ≡ c.name
    kind : declares_abstract k c ≡ declares_abstract k now
    above : (i : ClassFacts) → Contains xs i → offers k i ≡ true → is_below_other O c.name i.name ≡ is_below_other N c.name i.name

  stays : (c : ClassFacts) → Contains xs c → offers k c ≡ true → StaysAs c
  stays c h o = go (class_named after c.name) refl p.0
    where
      alike : stays_in O N k before after c ≡ true
      alike = each_in (λ c. stays_in O N k before after c ≡ true) before c (list_all-each (stays_in O N k before after) before parts.0) (filter_in (offers k) xs c h o)

      p : (some_and (λ d. beq (declares_abstract k c) (declares_abstract k d)) (class_named after c.name) ≡ true) × (list_all (λ i. beq (is_below_other O c.name i.name) (is_below_other N c.name i.name)) before ≡ true)
      p = and_parts (some_and (λ d. beq (declares_abstract k c) (declares_abstract k d)) (class_named after c.name)) (list_all (λ i. beq (is_below_other O c.name i.name) (is_below_other N c.name i.name)) before) alike

      above : (i : ClassFacts) → Contains xs i → offers k i ≡ true → is_below_other O c.name i.name ≡ is_below_other N c.name i.name
      above i hi oi = beq_is (is_below_other O c.name i.name) (is_below_other N c.name i.name)
          (each_in (λ (i : ClassFacts). beq (is_below_other O c.name i.name) (is_below_other N c.name i.name) ≡ true) before i
          (list_all-each (λ i. beq (is_below_other O c.name i.name) (is_below_other N c.name i.name)) before p.1) (filter_in (offers k) xs i hi oi))

      go : (o : Option ClassFacts) → class_named after c.name ≡ o → some_and (λ d. beq (declares_abstract k c) (declares_abstract k d)) o ≡ true → StaysAs c
      go None e q = absurd (cc)
      go (Some d) e q =
          let f = in_filter (offers k) ys d (class_named-in after c.name d e) in
          record {
            now = d;
            is_in = f.0;
            offers_it = f.1;
            name = class_named-name after c.name d e;
            kind = beq_is (declares_abstract k c) (declares_abstract k d) q;
            above = above;
          }

  -- what a new interface was
  record WasAs (d : ClassFacts) : Type 0 where
    old : ClassFacts
    is_in : Contains xs old
    offers_it : offers k old ≡ true
    name : old.name ≡ d.name

  was : (d : ClassFacts) → Contains ys d → offers k d ≡ true → WasAs d
  was d h o =
      let e : names_in before d.name ≡ true = each_in (λ (d : ClassFacts). names_in before d.name ≡ true) after d (list_all-each (λ d. names_in before d.name) after parts.1) (filter_in (offers k) ys d h o) in
      let p = any_passes (λ c. same c.name d.name) before e in
      let f = in_filter (offers k) xs p.one p.is_in in
      record { old = p.one; is_in = f.0; offers_it = f.1; name = same_is p.one.name d.name p.passes }

  -- two classes of one name are one
  one_new : (c d : ClassFacts) → Contains ys c → Contains ys d → c.name ≡ d.name → c ≡ d
  one_new c d hc hd e =
      let a : find_class N c.name ≡ Some c = each_in (IsOf N) ys c gy hc in
      let b : find_class N d.name ≡ Some d = each_in (IsOf N) ys d gy hd in
      let q : Some c ≡ Some d = sym a ∙ ap (find_class N) e ∙ b in cc

  pub offered_alike : (f : Bool → Bool) (z : Bytes) → list_any (is_offered f k z) xs ≡ list_any (is_offered f k z) ys
  offered_alike f z = both_ways (list_any (is_offered f k z) xs) (list_any (is_offered f k z) ys) there back
    where
      there : list_any (is_offered f k z) xs ≡ true → list_any (is_offered f k z) ys ≡ true
      there h =
          let p = any_passes (is_offered f k z) xs h in
          let c : ClassFacts = p.one in
          let q = and_parts (offers k c && same c.name z) (f (declares_abstract k c)) p.passes in
          let r = and_parts (offers k c) (same c.name z) q.0 in
          let s = stays c p.is_in r.0 in
          let d : ClassFacts = s.now in
          any_has (is_offered f k z) ys d s.is_in
          (and_from (offers k d && same d.name z) (f (declares_abstract k d)) (and_from (offers k d) (same d.name z) s.offers_it (subst (λ n. same n z ≡ true) (sym s.name) r.1)) (subst (λ b. f b ≡ true) s.kind q.1))

      back : list_any (is_offered f k z) ys ≡ true → list_any (is_offered f k z) xs ≡ true
      back h =
          let p = any_passes (is_offered f k z) ys h in
          let d : ClassFacts = p.one in
          let q = and_parts (offers k d && same d.name z) (f (declares_abstract k d)) p.passes in
          let r = and_parts (offers k d) (same d.name z) q.0 in
          let w = was d p.is_in r.0 in
          let c : ClassFacts = w.old in
          let s = stays c w.is_in w.offers_it in
          let e : s.now ≡ d = one_new s.now d s.is_in p.is_in (s.name ∙ w.name) in
          any_has (is_offered f k z) xs c w.is_in
          (and_from (offers k c && same c.name z) (f (declares_abstract k c)) (and_from (offers k c) (same c.name z) w.offers_it (subst (λ n. same n z ≡ true) (sym w.name) r.1))
          (subst (λ b. f b ≡ true) (ap (declares_abstract k) (sym e) ∙ sym s.kind) q.1))

  module _ (z : Bytes) (closed_x : (y : Bytes) → names_in xs y ≡ true → is_superinterface O y z ≡ true → names_in xs z ≡ true) (closed_y : (y : Bytes) → names_in ys y ≡ true → is_superinterface N y z ≡ true → names_in ys z ≡ true)
      (old_offers : (e : ClassFacts) → Contains xs e → e.name ≡ z → offers k e ≡ true) (new_offers : (e : ClassFacts) → Contains ys e → e.name ≡ z → offers k e ≡ true) where
    named : (c : ClassFacts) (cs : List ClassFacts) → Contains cs c → names_in cs c.name ≡ true
    named c cs h = any_has (λ d. same d.name c.name) cs c h (same_itself c.name)

    pub beside_alike : list_any (is_beside O k z) xs ≡ list_any (is_beside N k z) ys
    beside_alike = both_ways (list_any (is_beside O k z) xs) (list_any (is_beside N k z) ys) there back
      where
        -- the interface z itself
        at_old : names_in xs z ≡ true → (e : ClassFacts) × Contains xs e × (e.name ≡ z)
        at_old h = let p = any_passes (λ (c : ClassFacts). same c.name z) xs h in (p.one, p.is_in, same_is p.one.name z p.passes)

        at_new : names_in ys z ≡ true → (e : ClassFacts) × Contains ys e × (e.name ≡ z)
        at_new h = let p = any_passes (λ (c : ClassFacts). same c.name z) ys h in (p.one, p.is_in, same_is p.one.name z p.passes)

        there : list_any (is_beside O k z) xs ≡ true → list_any (is_beside N k z) ys ≡ true
        there h =
            let p = any_passes (is_beside O k z) xs h in
            let c : ClassFacts = p.one in
            let q = and_parts (offers k c && not (same c.name z)) (is_superinterface O c.name z) p.passes in
            let r = and_parts (offers k c) (not (same c.name z)) q.0 in
            let e = at_old (closed_x c.name (named c xs p.is_in) q.1) in
            let s = stays c p.is_in r.0 in
            let d : ClassFacts = s.now in
            let u : is_below_other O c.name z ≡ true = and_from (not (same c.name z)) (is_superinterface O c.name z) r.1 q.1 in
            let v : is_below_other N c.name z ≡ true = ap (is_below_other N c.name) (sym e.2) ∙ sym (s.above e.0 e.1 (old_offers e.0 e.1 e.2)) ∙ ap (is_below_other O c.name) e.2 ∙ u in
            any_has (is_beside N k z) ys d s.is_in
            (and_from (offers k d && not (same d.name z)) (is_superinterface N d.name z) (and_from (offers k d) (not (same d.name z)) s.offers_it (subst (λ n. not (same n z) ≡ true) (sym s.name) r.1))
            (subst (λ n. is_superinterface N n z ≡ true) (sym s.name) (and_parts (not (same c.name z)) (is_superinterface N c.name z) v).1))

        back : list_any (is_beside N k z) ys ≡ true → list_any (is_beside O k z) xs ≡ true
        back h =
            let p = any_passes (is_beside N k z) ys h in
            let d : ClassFacts = p.one in
            let q = and_parts (offers k d && not (same d.name z)) (is_superinterface N d.name z) p.passes in
            let r = and_parts (offers k d) (not (same d.name z)) q.0 in
            let e = at_new (closed_y d.name (named d ys p.is_in) q.1) in
            let w = was d p.is_in r.0 in
            let u = was e.0 e.1 (new_offers e.0 e.1 e.2) in
            let c : ClassFacts = w.old in
            let s = stays c w.is_in w.offers_it in
            let n : u.old.name ≡ z = u.name ∙ e.2 in
            let b : is_below_other N c.name z ≡ true = subst (λ n. is_below_other N n z ≡ true) (sym w.name) (and_from (not (same d.name z)) (is_superinterface N d.name z) r.1 q.1) in
            let v : is_below_other O c.name z ≡ true = ap (is_below_other O c.name) (sym n) ∙ s.above u.old u.is_in u.offers_it ∙ ap (is_below_other N c.name) n ∙ b in
            any_has (is_beside O k z) xs c w.is_in
            (and_from (offers k c && not (same c.name z)) (is_superinterface O c.name z) (and_from (offers k c) (not (same c.name z)) w.offers_it (subst (λ n. not (same n z) ≡ true) (sym w.name) r.1)) (and_parts (not (same c.name z)) (is_superinterface O c.name z) v).1)
