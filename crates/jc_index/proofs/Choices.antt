-- What the steps of the lookup on superinterfaces choose, by numbers of classes.
use Rattle.std.proofs.Common.{◌≡◌, ◌<◌, ℕ, Bool, true, false, cond, not, ◌||◌, ◌&&◌, List, [], ◌∷◌, ◌++◌, refl, sym, ◌∙◌, ap, subst, Option, Some, None, is_some, eqb, ◌⊎◌, inl, inr}
use Rattle.std.specs.Prelude.{IsTrue}
use Rattle.std.specs.List.{list_all, filter, Contains}
use Rattle.std.proofs.lemmas.Bool.{or_parts, and_parts, not-true}
use Rattle.std.proofs.lemmas.List.Elements.{Contains-append_left, Contains-append_right, Contains-append_cases}
use Rattle.jc_facts.specs.declared.class_facts.ClassFacts.{ClassFacts}
use Rattle.jc_facts.specs.declared.class_facts.Member.{Member}
use Rattle.jc_facts.specs.declared.key.Key.{Key}
use Rattle.jc_facts.specs.Names.{Bytes, same}
use Rattle.jc_facts.specs.Flags.{private_flag, static_flag, abstract_flag}
use Rattle.jc_facts.specs.Options.{and_then}
use Rattle.jc_facts.specs.world.World.{World, find_class, size, classes, own_method_of, found_in, DeclaredMember, differ_by_name}
use Rattle.jc_facts.specs.world.Hierarchy.{superinterfaces, is_superinterface}
use Rattle.jc_facts.specs.world.Loading.{load_fault}
use Rattle.jc_facts.specs.world.Lookup.{if_inheritable, declared_by, is_maximal, is_concrete, only_or, superinterface_choices}
use Rattle.jc_lemmas.proofs.Listed.{EachOf, here, there, none, cases, each_in, any_has, empty_from, any_passes, in_filter, filter_in}
use Rattle.jc_facts.proofs.Same.{same_is, same_itself}
use Rattle.jc_facts.proofs.World.{IsOf, find-name}
use Rattle.jc_worlds.proofs.Above.{superinterfaces-each}
use Rattle.jc_index.specs.Ids.{name_at, id_of}
use Rattle.jc_index.specs.Lookups.{IsFound, IsChoice}
use Rattle.jc_index.specs.declared.ids.Found.{Found}
use Rattle.jc_index.proofs.Numbers.{id_of-Some, id-find}
use Rattle.jc_index.proofs.Aboves.{same_number}
use Rattle.jc_index.specs.steps.Choosing.{as_found, if_candidate, candidate_at, rival_at, best_at, if_best, is_strictly_below, has_rival_below, FindsAbove}

-- ---- lists

-- ---- what a list of classes declares

-- the member as a method of the class of this name
abbrev pub as_method : Bytes → Member → DeclaredMember
as_method x m = record { owner = x; member = m }

-- a class of the list declares the method of the key neither private nor static
pub record IsDeclaredIn (k : Key) (cs : List ClassFacts) (m : DeclaredMember) : Type 0 where
  pub class : ClassFacts
  pub is_in : Contains cs class
  pub member : Member
  pub own : own_method_of class k ≡ Some member
  pub counts : (private_flag member.flags || static_flag member.flags) ≡ false
  pub is : record { owner = class.name; member = member } ≡ m

pub in_declared : (k : Key) (cs : List ClassFacts) (m : DeclaredMember) → Contains (declared_by k cs) m → IsDeclaredIn k cs m
unfolding declared_by if_inheritable found_in
in_declared k [] m h = absurd (none m h)
in_declared k (c ∷ cs) m h = go (Contains-append_cases (if_inheritable (found_in c (own_method_of c k))) (declared_by k cs) m h) (in_declared k cs m)
  where
    by : (n : Member) → own_method_of c k ≡ Some n → (b : Bool) → (private_flag n.flags || static_flag n.flags) ≡ b → Contains (cond b [] (record { owner = c.name; member = n } ∷ [])) m → IsDeclaredIn k (c ∷ cs) m
    by n e true p t = absurd (none m t)
    by n e false p t = at (cases (record { owner = c.name; member = n }) [] m t)
      where
        at : ((record { owner = c.name; member = n }) ≡ m) ⊎ Contains [] m → IsDeclaredIn k (c ∷ cs) m
        at (inl i) = record { «class» = c; is_in = here c cs; member = n; own = e; counts = p; is = i }
        at (inr t) = absurd (none m t)

    own : (o : Option Member) → own_method_of c k ≡ o → Contains (if_inheritable (found_in c o)) m → IsDeclaredIn k (c ∷ cs) m
    own None e t = absurd (none m t)
    own (Some n) e t = by n e (private_flag n.flags || static_flag n.flags) refl t

    go : Contains (if_inheritable (found_in c (own_method_of c k))) m ⊎ Contains (declared_by k cs) m → (Contains (declared_by k cs) m → IsDeclaredIn k cs m) → IsDeclaredIn k (c ∷ cs) m
    go (inl t) more = own (own_method_of c k) refl t
    go (inr t) more =
        let r : IsDeclaredIn k cs m = more t in
        record { «class» = r.class; is_in = there r.class c cs r.is_in; member = r.member; own = r.own; counts = r.counts; is = r.is }

declared_in : (k : Key) (cs : List ClassFacts) (c : ClassFacts) (n : Member) → Contains cs c → own_method_of c k ≡ Some n → (private_flag n.flags || static_flag n.flags) ≡ false
    → Contains (declared_by k cs) (record { owner = c.name; member = n })
unfolding declared_by if_inheritable found_in
declared_in k [] c n h e p = absurd (none c h)
declared_in k (b ∷ cs) c n h e p = go (cases b cs c h) (declared_in k cs c n)
  where
    m : DeclaredMember
    m = record { owner = c.name; member = n }

    own : Contains (if_inheritable (found_in c (own_method_of c k))) (record { owner = c.name; member = n })
    own = rw (e, p) (here m [])

    go : (b ≡ c) ⊎ Contains cs c → (Contains cs c → own_method_of c k ≡ Some n → (private_flag n.flags || static_flag n.flags) ≡ false → Contains (declared_by k cs) (record { owner = c.name; member = n }))
        → Contains (if_inheritable (found_in b (own_method_of b k)) ++ declared_by k cs) (record { owner = c.name; member = n })
    go (inl i) more =
        subst (λ (a : ClassFacts). Contains (if_inheritable (found_in a (own_method_of a k)) ++ declared_by k cs) (record { owner = c.name; member = n })) (sym i)
        (Contains-append_left (if_inheritable (found_in c (own_method_of c k))) (declared_by k cs) m own)
    go (inr t) more = Contains-append_right (if_inheritable (found_in b (own_method_of b k))) (declared_by k cs) m (more t e p)

-- ---- candidates by numbers

-- the class of number n declares r so
pub record IsCandidate (W : World) (k : Key) (n : ℕ) (r : Found) : Type 0 where
  pub class : ClassFacts
  pub found : find_class W (name_at W n) ≡ Some class
  pub member : Member
  pub own : own_method_of class k ≡ Some member
  pub counts : (private_flag member.flags || static_flag member.flags) ≡ false
  pub is : record { owner = n; flags = member.flags } ≡ r

candidate_from : (W : World) (k : Key) (n : ℕ) (c : ClassFacts) (m : Member) → find_class W (name_at W n) ≡ Some c → own_method_of c k ≡ Some m → (private_flag m.flags || static_flag m.flags) ≡ false
    → candidate_at W k n ≡ Some (record { owner = n; flags = m.flags })
unfolding and_then
candidate_from W k n c m f o p = rw (f, o, p) refl

candidate_is : (W : World) (k : Key) (n : ℕ) (r : Found) → candidate_at W k n ≡ Some r → IsCandidate W k n r
unfolding and_then
candidate_is W k n r e = class_of (find_class W (name_at W n)) refl e
  where
    class_of : (o : Option ClassFacts) → find_class W (name_at W n) ≡ o → if_candidate (as_found n (and_then (λ c. own_method_of c k) o)) ≡ Some r → IsCandidate W k n r
    class_of None f e = absurd (let clash : None ≡ Some r = e in cc)
    class_of (Some c) f e = member_of (own_method_of c k) refl e
      where
        counted : (m : Member) → own_method_of c k ≡ Some m → (b : Bool) → (private_flag m.flags || static_flag m.flags) ≡ b → cond b None (Some (record { owner = n; flags = m.flags })) ≡ Some r → IsCandidate W k n r
        counted m o true p e = absurd (let clash : None ≡ Some r = e in cc)
        counted m o false p e = record { «class» = c; found = f; member = m; own = o; counts = p; is = let i : record { owner = n; flags = m.flags } ≡ r = cc in i }

        member_of : (o : Option Member) → own_method_of c k ≡ o → if_candidate (as_found n o) ≡ Some r → IsCandidate W k n r
        member_of None o e = absurd (let clash : None ≡ Some r = e in cc)
        member_of (Some m) o e = counted m o (private_flag m.flags || static_flag m.flags) refl e

-- ---- the superinterfaces of a class that loads

-- a superinterface, and its number
pub record IsNumbered (W : World) (x : Bytes) (c : ClassFacts) : Type 0 where
  pub number : ℕ
  pub below : number < size W
  pub name : name_at W number ≡ c.name
  pub above : is_superinterface W x (name_at W number) ≡ true
  pub found : find_class W (name_at W number) ≡ Some c

module _ (W : World) (x : Bytes) (loads : load_fault W x ≡ None) where
  known : EachOf (IsOf W) (superinterfaces W x)
  known = superinterfaces-each W (IsOf W) (λ y c e l i. ap (find_class W) (find-name W y c e) ∙ e) x loads

  numbered : (c : ClassFacts) → Contains (superinterfaces W x) c → IsNumbered W x c
  numbered c h = go (id_of W c.name) refl
    where
      is : find_class W c.name ≡ Some c
      is = each_in (IsOf W) (superinterfaces W x) c known h

      go : (o : Option ℕ) → id_of W c.name ≡ o → IsNumbered W x c
      go None e = absurd (let z : false ≡ true = sym (ap is_some e) ∙ id-find W c.name ∙ ap is_some is in cc)
      go (Some n) e =
          let i = id_of-Some W c.name n e in
          let up : is_superinterface W x c.name ≡ true = any_has (λ b. same b.name c.name) (superinterfaces W x) c h (same_itself c.name) in
          record { number = n; below = i.0; name = i.1; above = ap (is_superinterface W x) i.1 ∙ up; found = ap (find_class W) i.1 ∙ is }

  -- the class of a superinterface's number
  numbered_in : (n : ℕ) (c : ClassFacts) → is_superinterface W x (name_at W n) ≡ true → find_class W (name_at W n) ≡ Some c → Contains (superinterfaces W x) c
  numbered_in n c h f =
      let p = any_passes (λ b. same b.name (name_at W n)) (superinterfaces W x) h in
      let is : find_class W p.one.name ≡ Some p.one = each_in (IsOf W) (superinterfaces W x) p.one known p.is_in in
      let e : Some p.one ≡ Some c = sym is ∙ ap (find_class W) (same_is p.one.name (name_at W n) p.passes) ∙ f in
      subst (Contains (superinterfaces W x)) (let q : p.one ≡ c = cc in q) p.is_in

  module _ (k : Key) where
    -- a method of the list, by its number
    pub record IsOne (m : DeclaredMember) : Type 0 where
      pub number : ℕ
      pub below : number < size W
      pub name : name_at W number ≡ m.owner
      pub above : is_superinterface W x (name_at W number) ≡ true
      pub candidate : candidate_at W k number ≡ Some (record { owner = number; flags = m.member.flags })

    pub one_of : (m : DeclaredMember) → Contains (declared_by k (superinterfaces W x)) m → IsOne m
    one_of m h =
        let d : IsDeclaredIn k (superinterfaces W x) m = in_declared k (superinterfaces W x) m h in
        let n : IsNumbered W x d.class = numbered d.class d.is_in in
        subst IsOne d.is (record { number = n.number; below = n.below; name = n.name; above = n.above; candidate = candidate_from W k n.number d.class d.member n.found d.own d.counts })

    -- a candidate of a superinterface is a method of the list
    pub record IsListed (n : ℕ) (r : Found) : Type 0 where
      pub method : DeclaredMember
      pub is_in : Contains (declared_by k (superinterfaces W x)) method
      pub owner : name_at W n ≡ method.owner
      pub flags : r.flags ≡ method.member.flags
      pub number : r.owner ≡ n

    pub listed : (n : ℕ) (r : Found) → is_superinterface W x (name_at W n) ≡ true → candidate_at W k n ≡ Some r → IsListed n r
    listed n r h e =
        let c : IsCandidate W k n r = candidate_is W k n r e in
        let m : DeclaredMember = record { owner = c.class.name; member = c.member } in
        record {
          method = m;
          is_in = declared_in k (superinterfaces W x) c.class c.member (numbered_in n c.class h c.found) c.own c.counts;
          owner = sym (find-name W (name_at W n) c.class c.found);
          flags = ap (λ (f : Found). f.flags) (sym c.is);
          number = ap (λ (f : Found). f.owner) (sym c.is);
        }

    pub listed_found : (n : ℕ) (r : Found) → n < size W → (l : IsListed n r) → IsFound W r l.method
    listed_found n r b l = record { below = subst (λ j. j < size W) (sym l.number) b; owner = ap (name_at W) l.number ∙ l.owner; flags = l.flags }

    -- two methods of the list whose owners are one are one
    pub only_one : (m n : DeclaredMember) → Contains (declared_by k (superinterfaces W x)) m → Contains (declared_by k (superinterfaces W x)) n → m.owner ≡ n.owner → m ≡ n
    only_one m n hm hn e = sym c.is ∙ whole ∙ d.is
      where
        c : IsDeclaredIn k (superinterfaces W x) m
        c = in_declared k (superinterfaces W x) m hm

        d : IsDeclaredIn k (superinterfaces W x) n
        d = in_declared k (superinterfaces W x) n hn

        names : c.class.name ≡ d.class.name
        names = ap (λ (v : DeclaredMember). v.owner) c.is ∙ e ∙ ap (λ (v : DeclaredMember). v.owner) (sym d.is)

        class_is : c.class ≡ d.class
        class_is =
            let p : find_class W c.class.name ≡ Some c.class = each_in (IsOf W) (superinterfaces W x) c.class known c.is_in in
            let q : find_class W d.class.name ≡ Some d.class = each_in (IsOf W) (superinterfaces W x) d.class known d.is_in in
            let r : Some c.class ≡ Some d.class = sym p ∙ ap (find_class W) names ∙ q in cc

        member_is : c.member ≡ d.member
        member_is = let r : Some c.member ≡ Some d.member = sym c.own ∙ ap (λ (v : ClassFacts). own_method_of v k) class_is ∙ d.own in cc

        whole : as_method c.class.name c.member ≡ as_method d.class.name d.member
        whole = rw (names, member_is) refl

    -- ---- any

    pub any_choice : (o : Option Found) → FindsAbove W x (candidate_at W k) o → IsChoice W o (declared_by k (superinterfaces W x))
    any_choice None h = empty_from (declared_by k (superinterfaces W x)) (λ m c.
        let i : IsOne m = one_of m c in
        let z : None ≡ Some (record { owner = i.number; flags = m.member.flags }) = sym (h i.number i.below i.above) ∙ i.candidate in cc)
    any_choice (Some r) h = let l : IsListed h.0 r = listed h.0 r h.2 h.3 in (l.method, l.is_in, listed_found h.0 r h.1 l)

    -- ---- those below another

    abbrev is_rival : Bytes → DeclaredMember → Bool
    is_rival y o = not (same o.owner y) && is_superinterface W o.owner y

    pub rivals : (of : ℕ) (o : Option Found) → FindsAbove W x (rival_at W k of) o → is_some o ≡ has_rival_below W x k (name_at W of)
    rivals of None h = go (has_rival_below W x k (name_at W of)) refl
      where
        go : (b : Bool) → has_rival_below W x k (name_at W of) ≡ b → false ≡ b
        go false e = refl
        go true e =
            let p = any_passes (is_rival (name_at W of)) (declared_by k (superinterfaces W x)) e in
            let i : IsOne p.one = one_of p.one p.is_in in
            let s : is_strictly_below W i.number of ≡ true = ap (λ (y : Bytes). not (same y (name_at W of)) && is_superinterface W y (name_at W of)) i.name ∙ p.passes in
            let f : Found = record { owner = i.number; flags = p.one.member.flags } in
            absurd (let z : None ≡ Some f = sym (h i.number i.below i.above) ∙ ap (λ b. cond b (candidate_at W k i.number) None) s ∙ i.candidate in cc)
    rivals of (Some r) h = sym (go (is_strictly_below W h.0 of) refl h.3)
      where
        go : (b : Bool) → is_strictly_below W h.0 of ≡ b → cond b (candidate_at W k h.0) None ≡ Some r → has_rival_below W x k (name_at W of) ≡ true
        go false e q = absurd (let clash : None ≡ Some r = q in cc)
        go true e q =
            let l : IsListed h.0 r = listed h.0 r h.2 q in
            any_has (is_rival (name_at W of)) (declared_by k (superinterfaces W x)) l.method l.is_in
            (ap (λ (y : Bytes). not (same y (name_at W of)) && is_superinterface W y (name_at W of)) (sym l.owner) ∙ e)

    -- ---- those that are chosen before others

    abbrev pub best : List DeclaredMember
    best = filter is_concrete (filter (is_maximal W (declared_by k (superinterfaces W x))) (declared_by k (superinterfaces W x)))

    -- a method of the list that is chosen before others
    pub best_one : (m : DeclaredMember) → Contains best m → (Contains (declared_by k (superinterfaces W x)) m) × (abstract_flag m.member.flags ≡ false) × (has_rival_below W x k m.owner ≡ false)
    best_one m h =
        let a = in_filter is_concrete (filter (is_maximal W (declared_by k (superinterfaces W x))) (declared_by k (superinterfaces W x))) m h in
        let b = in_filter (is_maximal W (declared_by k (superinterfaces W x))) (declared_by k (superinterfaces W x)) m a.0 in
        (b.0, not-true (abstract_flag m.member.flags) a.1, not-true (has_rival_below W x k m.owner) b.1)

    pub one_best : (m : DeclaredMember) → Contains (declared_by k (superinterfaces W x)) m → abstract_flag m.member.flags ≡ false → has_rival_below W x k m.owner ≡ false → Contains best m
    one_best m h a r = filter_in is_concrete (filter (is_maximal W (declared_by k (superinterfaces W x))) (declared_by k (superinterfaces W x))) m
        (filter_in (is_maximal W (declared_by k (superinterfaces W x))) (declared_by k (superinterfaces W x)) m h (ap not r)) (ap not a)

    -- the number of one that is chosen before others
    pub best_is : (n : ℕ) (r : Found) → best_at W x k n ≡ Some r → (candidate_at W k n ≡ Some r) × (abstract_flag r.flags ≡ false) × (has_rival_below W x k (name_at W r.owner) ≡ false)
    best_is n r e = go (candidate_at W k n) refl e
      where
        at : (f : Found) (b : Bool) → candidate_at W k n ≡ Some f → (abstract_flag f.flags || has_rival_below W x k (name_at W f.owner)) ≡ b → cond b None (Some f) ≡ Some r
            → (candidate_at W k n ≡ Some r) × (abstract_flag r.flags ≡ false) × (has_rival_below W x k (name_at W r.owner) ≡ false)
        at f true q p e = absurd (let clash : None ≡ Some r = e in cc)
        at f false q p e =
            let i : f ≡ r = cc in
            let o = or_parts (abstract_flag f.flags) (has_rival_below W x k (name_at W f.owner)) p in
            (q ∙ e, ap (λ (v : Found). abstract_flag v.flags) (sym i) ∙ o.0, ap (λ (v : Found). has_rival_below W x k (name_at W v.owner)) (sym i) ∙ o.1)

        go : (o : Option Found) → candidate_at W k n ≡ o → if_best W x k o ≡ Some r → (candidate_at W k n ≡ Some r) × (abstract_flag r.flags ≡ false) × (has_rival_below W x k (name_at W r.owner) ≡ false)
        go None q e = absurd (let clash : None ≡ Some r = e in cc)
        go (Some f) q e = at f (abstract_flag f.flags || has_rival_below W x k (name_at W f.owner)) q refl e

    -- one of a list is a choice of it or of all
    pub only_choice : (r : Found) (m : DeclaredMember) (ms : List DeclaredMember) → Contains ms m → ((n : DeclaredMember) → Contains ms n → Contains (declared_by k (superinterfaces W x)) n) → IsFound W r m
        → IsChoice W (Some r) (only_or ms (declared_by k (superinterfaces W x)))
    unfolding only_or
    only_choice r m [] h sub f = absurd (none m h)
    only_choice r m (n ∷ ms) h sub f = go (list_all (λ o. same o.owner n.owner) ms) refl (cases n ms m h)
      where
        all_same : (ns : List DeclaredMember) → list_all (λ o. same o.owner n.owner) ns ≡ true → Contains ns m → m.owner ≡ n.owner
        all_same [] e c = absurd (none m c)
        all_same (o ∷ ns) e c = at (cases o ns m c) (all_same ns (and_parts (same o.owner n.owner) (list_all (λ o. same o.owner n.owner) ns) e).1)
          where
            at : (o ≡ m) ⊎ Contains ns m → (Contains ns m → m.owner ≡ n.owner) → m.owner ≡ n.owner
            at (inl i) more = ap (λ (v : DeclaredMember). v.owner) (sym i) ∙ same_is o.owner n.owner (and_parts (same o.owner n.owner) (list_all (λ o. same o.owner n.owner) ns) e).0
            at (inr c) more = more c

        go : (b : Bool) → list_all (λ o. same o.owner n.owner) ms ≡ b → (n ≡ m) ⊎ Contains ms m → IsChoice W (Some r) (cond b (n ∷ []) (declared_by k (superinterfaces W x)))
        go true e (inl i) = (n, here n [], subst (IsFound W r) (sym i) f)
        go true e (inr c) = (n, here n [], subst (IsFound W r) (only_one m n (sub m h) (sub n (here n ms)) (all_same ms e c)) f)
        go false e c = (m, sub m h, f)

-- ---- one class and another

-- the class of another number, which is a superinterface
pub strictly : (W : World) → IsTrue (differ_by_name (classes W)) → (n m : ℕ) (b : Bool) → n < size W → m < size W → eqb n m ≡ false → b ≡ (same (name_at W n) (name_at W m) || is_superinterface W (name_at W n) (name_at W m)) → b ≡ true
    → is_strictly_below W n m ≡ true
strictly W d n m b l h e p t =
    let s : same (name_at W n) (name_at W m) ≡ false = same_number W d n m l h ∙ e in
    let u : is_superinterface W (name_at W n) (name_at W m) ≡ true = sym (ap (λ v. v || is_superinterface W (name_at W n) (name_at W m)) s) ∙ sym p ∙ t in
    rw (s, u) refl

pub strictly_chosen : (W : World) (k : Key) (n m : ℕ) → is_strictly_below W n m ≡ true → candidate_at W k n ≡ rival_at W k m n
strictly_chosen W k n m e = sym (ap (λ b. cond b (candidate_at W k n) None) e)

-- ---- what is chosen is declared

pub choices_declared : (W : World) (x : Bytes) (k : Key) (m : DeclaredMember) → Contains (superinterface_choices W x k) m → Contains (declared_by k (superinterfaces W x)) m
unfolding superinterface_choices only_or
choices_declared W x k m h =
    go (filter is_concrete (filter (is_maximal W (declared_by k (superinterfaces W x))) (declared_by k (superinterfaces W x))))
    (λ n c. (in_filter (is_maximal W (declared_by k (superinterfaces W x))) (declared_by k (superinterfaces W x)) n
    (in_filter is_concrete (filter (is_maximal W (declared_by k (superinterfaces W x))) (declared_by k (superinterfaces W x))) n c).0).0) h
  where
    either : (b : Bool) (n : DeclaredMember) → Contains (declared_by k (superinterfaces W x)) n → Contains (cond b (n ∷ []) (declared_by k (superinterfaces W x))) m → Contains (declared_by k (superinterfaces W x)) m
    either true n c h = at (cases n [] m h)
      where
        at : (n ≡ m) ⊎ Contains [] m → Contains (declared_by k (superinterfaces W x)) m
        at (inl i) = subst (Contains (declared_by k (superinterfaces W x))) i c
        at (inr d) = absurd (none m d)
    either false n c h = h

    go : (ms : List DeclaredMember) → ((n : DeclaredMember) → Contains ms n → Contains (declared_by k (superinterfaces W x)) n) → Contains (only_or ms (declared_by k (superinterfaces W x))) m → Contains (declared_by k (superinterfaces W x)) m
    go [] sub h = h
    go (n ∷ ms) sub h = either (list_all (λ o. same o.owner n.owner) ms) n (sub n (here n ms)) h
