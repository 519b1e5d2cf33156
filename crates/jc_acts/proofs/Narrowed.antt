-- Most seats need not be asked.
use Rattle.std.proofs.Common.{◌≡◌, Bool, true, false, cond, not, List, [], ◌∷◌, map, refl, sym, ◌∙◌, ap, subst, Option, Some, None, Result, Ok, Err, take, ◌||◌, ◌&&◌}
use Rattle.std.specs.List.{filter, All}
use Rattle.std.proofs.lemmas.Bool.{not-false}
use Rattle.std.proofs.lemmas.List.Elements.{recursion_from_All, All-from_recursion}
use Rattle.jc_facts.specs.declared.act.Act.{Act}
use Rattle.jc_facts.specs.declared.link_error.LinkError.{LinkError}
use Rattle.jc_facts.specs.declared.link_error.LinkError.TheVariants.{IllegalAccessError}
use Rattle.jc_facts.specs.Names.{Bytes, object_name}
use Rattle.jc_facts.specs.Flags.{public_flag, protected_flag, static_flag, final_flag}
use Rattle.jc_facts.specs.Options.{or_else}
use Rattle.jc_facts.specs.world.World.{World, DeclaredMember}
use Rattle.jc_facts.specs.world.Hierarchy.{in_chain}
use Rattle.jc_facts.specs.world.Loading.{fault_where}
use Rattle.jc_facts.specs.client.Acts.{is_put_act}
use Rattle.jc_facts.specs.client.Outcome.{kind_fault}
use Rattle.jc_facts.specs.world.Access.{is_member_open}
use Rattle.jc_promises.specs.rule.OpenActs.{where_open}
use Rattle.jc_promises.specs.rule.Bases.{is_base_class}
use Rattle.jc_lemmas.proofs.Listed.{EachOf}
use Rattle.jc_worlds.proofs.Above.{fault_where-none}
use Rattle.jc_facts.proofs.Options.{or_else-none, or_else-both}
use Rattle.jc_worlds.proofs.Bare.{has_root}
use Rattle.jc_sound.proofs.Uses.{and-map, or-map}
use Rattle.jc_index.specs.Ids.{names, name_at}
use Rattle.jc_index.specs.Sides.{IsSide}
use Rattle.jc_index.specs.declared.ids.Found.{Found}
use Rattle.jc_sides.specs.SharedOf.{AreThose, IsShared, name_of, SharedOf}
use Rattle.jc_sides.specs.SidesOf.{SidesOf}
use Rattle.jc_sides.proofs.BaseParts.{base_class_parts}
use Rattle.jc_acts.specs.Seats.{all_seats}
use Rattle.jc_acts.specs.steps.Firsts.{with_or, first_at}
use Rattle.jc_acts.specs.steps.LookedUp.{member_of, use_at, looked_use, closed_use}
use Rattle.jc_acts.specs.declared.lookup.Looked.{Looked}
use Rattle.jc_acts.proofs.Firsts.{first_none}
use Rattle.jc_acts.proofs.Roots.{only_root}
use Rattle.jc_index.proofs.Sides.{side_valid}

-- ---- what is open

-- what stands above the root stands above each base class
above_base : (sides : SidesOf) → IsSide sides.new → (a : Bytes) → is_base_class sides.old sides.new a ≡ true → (y : Bytes) → in_chain sides.new object_name y ≡ true → in_chain sides.new a y ≡ true
above_base sides s a b y h =
    subst (λ (z : Bytes). in_chain sides.new a z ≡ true) (sym (only_root sides.new s y h)) (has_root sides.new (side_valid sides.new s) a (base_class_parts sides a b).both.loads_now)

-- a member that is open to a seat is open where as much stands above
pub open_further : (W V : World) (a b c : Bytes) (m : DeclaredMember) → (in_chain W a m.owner ≡ true → in_chain V b m.owner ≡ true) → (in_chain W a c ≡ true → in_chain V b c ≡ true) → is_member_open W a c m ≡ true → is_member_open V b c m ≡ true
open_further W V a b c m owner through h =
    or-map (public_flag m.member.flags) (protected_flag m.member.flags && in_chain W a m.owner && (static_flag m.member.flags || in_chain W a c)) (protected_flag m.member.flags && in_chain V b m.owner && (static_flag m.member.flags || in_chain V b c)) h
    (λ n r. and-map (protected_flag m.member.flags && in_chain W a m.owner) (static_flag m.member.flags || in_chain W a c) (protected_flag m.member.flags && in_chain V b m.owner) (static_flag m.member.flags || in_chain V b c) r
    (λ u. and-map (protected_flag m.member.flags) (in_chain W a m.owner) (protected_flag m.member.flags) (in_chain V b m.owner) u (λ z. z) owner)
    (λ u. or-map (static_flag m.member.flags) (in_chain W a c) (in_chain V b c) u (λ _ w. through w)))

-- the steps after access
abbrev pub after_access : Act → DeclaredMember → Option LinkError
after_access what m = or_else (kind_fault what m) (fault_where (is_put_act what && final_flag m.member.flags) IllegalAccessError)

pub use_further : (W V : World) (a b c : Bytes) (what : Act) (m : DeclaredMember) → (in_chain W a m.owner ≡ true → in_chain V b m.owner ≡ true) → (in_chain W a c ≡ true → in_chain V b c ≡ true) → use_at W a c what m ≡ None → use_at V b c what m ≡ None
use_further W V a b c what m owner through h =
    let p = or_else-none (fault_where (not (is_member_open W a c m)) IllegalAccessError) (after_access what m) h in
    let o : is_member_open V b c m ≡ true = open_further W V a b c m owner through (not-false (is_member_open W a c m) (fault_where-none (not (is_member_open W a c m)) IllegalAccessError p.0)) in
    or_else-both (fault_where (not (is_member_open V b c m)) IllegalAccessError) (after_access what m) (rw o refl) p.1

public_use : (W : World) (a c : Bytes) (what : Act) (m : DeclaredMember) → public_flag m.member.flags ≡ true → use_at W a c what m ≡ after_access what m
unfolding or_else
public_use W a c what m p = rw p refl

shut_use : (W : World) (a c : Bytes) (what : Act) (m : DeclaredMember) → public_flag m.member.flags ≡ false → protected_flag m.member.flags ≡ false → use_at W a c what m ≡ Some IllegalAccessError
unfolding or_else
shut_use W a c what m p q = rw (p, q) refl

not_open : (e : LinkError) (o r : Option LinkError) → o ≡ Some e → where_open o r ≡ None
not_open e o r h = ap (λ z. where_open z r) h

-- ---- the two ways

module _ (sides : SidesOf) (so : IsSide sides.old) (sn : IsSide sides.new) (x : Bytes) (u : Looked) (what : Act) where
  -- neither public nor protected: open to nobody
  pub shut : public_flag u.before.flags ≡ false → protected_flag u.before.flags ≡ false → (a : Bytes) → closed_use sides x u what a ≡ None
  shut p q a = not_open IllegalAccessError (use_at sides.old a x what (member_of sides.old u.before)) (looked_use sides.new a x what u.after) (shut_use sides.old a x what (member_of sides.old u.before) p q)

  -- public: what is closed to a base class is closed to the root
  pub by_root : public_flag u.before.flags ≡ true → closed_use sides x u what object_name ≡ None → (a : Bytes) → is_base_class sides.old sides.new a ≡ true → closed_use sides x u what a ≡ None
  by_root p h a b =
      go (after_access what (member_of sides.old u.before)) (public_use sides.old object_name x what (member_of sides.old u.before) p) (public_use sides.old a x what (member_of sides.old u.before) p)
    where
      now : (l : Result Found LinkError) → looked_use sides.new object_name x what l ≡ None → looked_use sides.new a x what l ≡ None
      now (Err e) k = absurd (cc)
      now (Ok g) k = use_further sides.new sides.new object_name a x what (member_of sides.new g) (above_base sides sn a b (name_at sides.new g.owner)) (above_base sides sn a b x) k

      go : (r : Option LinkError) → use_at sides.old object_name x what (member_of sides.old u.before) ≡ r → use_at sides.old a x what (member_of sides.old u.before) ≡ r → closed_use sides x u what a ≡ None
      go (Some e) c d = not_open e (use_at sides.old a x what (member_of sides.old u.before)) (looked_use sides.new a x what u.after) d
      go None c d =
          ap (λ z. where_open z (looked_use sides.new a x what u.after)) d
          ∙ now u.after (sym (ap (λ z. where_open z (looked_use sides.new object_name x what u.after)) c) ∙ h)

-- ---- lists of seats

pub each_base : (P : Bytes → Type 0) (p : Bytes → Bool) (xs : List Bytes) → ((a : Bytes) → p a ≡ true → P a) → EachOf P (filter p xs)
each_base P p [] h = tt
each_base P p (x ∷ xs) h = go (p x) refl (each_base P p xs h)
  where
    go : (b : Bool) → p x ≡ b → EachOf P (filter p xs) → EachOf P (cond b (x ∷ filter p xs) (filter p xs))
    go true e r = (h x e, r)
    go false e r = r

module _ (sides : SidesOf) (so : IsSide sides.old) (sn : IsSide sides.new) (x : Bytes) (u : Looked) (what : Act) where
  -- the root alone
  pub root_enough : (not (public_flag u.before.flags) && protected_flag u.before.flags) ≡ false → first_at (closed_use sides x u what) (object_name ∷ []) ≡ first_at (closed_use sides x u what) (all_seats sides)
  unfolding first_at
  root_enough h = go (closed_use sides x u what object_name) refl
    where
      shut_or_root : closed_use sides x u what object_name ≡ None → (b : Bool) → public_flag u.before.flags ≡ b → (c : Bool) → protected_flag u.before.flags ≡ c → (not b && c) ≡ false → (a : Bytes) → is_base_class sides.old sides.new a ≡ true → closed_use sides x u what a ≡ None
      shut_or_root e true p c q k a i = by_root sides so sn x u what p e a i
      shut_or_root e false p true q k a i = absurd (cc)
      shut_or_root e false p false q k a i = shut sides so sn x u what p q a

      go : (o : Option LinkError) → closed_use sides x u what object_name ≡ o → with_or object_name o None ≡ with_or object_name o (first_at (closed_use sides x u what) (filter (is_base_class sides.old sides.new) (names sides.old)))
      go (Some e) c = refl
      go None c =
          sym (first_none (closed_use sides x u what) (filter (is_base_class sides.old sides.new) (names sides.old)) (each_base (λ a. closed_use sides x u what a ≡ None) (is_base_class sides.old sides.new) (names sides.old) (shut_or_root c (public_flag u.before.flags) refl (protected_flag u.before.flags) refl h)))

-- the first seat is the root
pub root_first : (sides : SidesOf) (all : List SharedOf) → map name_of all ≡ all_seats sides → map name_of (take 1 all) ≡ object_name ∷ []
root_first sides [] e = absurd (cc)
root_first sides (b ∷ bs) e = let n : name_of b ≡ object_name = cc in ap (λ y. y ∷ []) n

-- the root and then the base classes
module _ (sides : SidesOf) (root : SharedOf) (bases all : List SharedOf) where
  pub all_named : name_of root ≡ object_name → AreThose (is_base_class sides.old sides.new) sides bases → all ≡ root ∷ bases → map name_of all ≡ all_seats sides
  all_named name those is = ap (map name_of) is ∙ ap (λ x. x ∷ map name_of bases) name ∙ ap (λ xs. object_name ∷ xs) those.all

  pub all_shared : IsShared sides root → AreThose (is_base_class sides.old sides.new) sides bases → all ≡ root ∷ bases → All (IsShared sides) all
  all_shared shared those is = subst (All (IsShared sides)) (sym is) (All-from_recursion (IsShared sides) (root ∷ bases) (shared, recursion_from_All (IsShared sides) bases those.shared))
