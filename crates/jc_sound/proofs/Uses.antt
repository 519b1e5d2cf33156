-- What a use asks of the member found, with two releases.
use Rattle.std.proofs.Common.{◌≡◌, Bool, true, false, cond, List, refl, sym, ◌∙◌, ap, subst, Option, Some, None, not, ◌||◌, ◌&&◌, ◌⊎◌, inl, inr}
use Rattle.std.proofs.lemmas.Bool.{and_parts, and_from, or_cases, or_left, or_right, not-false}
use Rattle.jc_facts.specs.declared.class_facts.ClassFacts.{ClassFacts}
use Rattle.jc_facts.specs.declared.act.Act.{Act}
use Rattle.jc_facts.specs.declared.act.Act.TheVariants.{InvokeInterface}
use Rattle.jc_facts.specs.declared.key.Key.{Key}
use Rattle.jc_facts.specs.declared.client.Place.{Place}
use Rattle.jc_facts.specs.declared.link_error.LinkError.{LinkError}
use Rattle.jc_facts.specs.declared.link_error.LinkError.TheVariants.{IllegalAccessError, IncompatibleClassChangeError}
use Rattle.jc_facts.specs.Names.{Bytes, same, in_same_package, package_name, object_name}
use Rattle.jc_facts.specs.Flags.{public_flag, private_flag, protected_flag, package_private, static_flag, no_static_flag, final_flag}
use Rattle.jc_facts.specs.world.World.{World, DeclaredMember, with_clients}
use Rattle.jc_facts.specs.Options.{or_else}
use Rattle.jc_facts.specs.world.Hierarchy.{in_chain}
use Rattle.jc_facts.specs.world.Access.{is_member_accessible, are_nestmates, is_member_open}
use Rattle.jc_facts.specs.world.Loading.{fault_where}
use Rattle.jc_facts.specs.world.Assignment.{is_assignable, is_interface_of, passes_protected_check}
use Rattle.jc_facts.specs.client.Acts.{Form, MethodForm, form_of, is_act_on_static, is_put_act, is_special}
use Rattle.jc_facts.specs.client.Outcome.{puts_own, assignment_ok, receiver_ok, is_direct_super}
use Rattle.jc_promises.specs.client.Reach.{is_invoke_interface}
use Rattle.jc_promises.specs.rule.OpenActs.{act_fault}
use Rattle.jc_facts.proofs.Same.{same_is}
use Rattle.jc_worlds.proofs.Above.{fault_where-none}
use Rattle.jc_facts.proofs.Options.{or_else-none, or_else-both}
use Rattle.jc_worlds.proofs.Packages.{same_nest-package}
use Rattle.jc_sound.proofs.OpenActs.{IsSeat}
use Rattle.jc_worlds.proofs.Choices.{is_member_accessible-public, passes_protected_check-public}
use Rattle.jc_sound.proofs.Ground.{Ground, only_root}
use Rattle.jc_sound.proofs.Looked.{looked, look_up-takes, look_up-from, IsUsed}
use Rattle.jc_lemmas.proofs.Bools.{contradicts}

pub and-map : (a b a' b' : Bool) → (a && b) ≡ true → (a ≡ true → a' ≡ true) → (b ≡ true → b' ≡ true) → (a' && b') ≡ true
and-map a b a' b' h f g = let p = and_parts a b h in and_from a' b' (f p.0) (g p.1)

pub or-map : (a b b' : Bool) → (a || b) ≡ true → (a ≡ false → b ≡ true → b' ≡ true) → (a || b') ≡ true
or-map true b b' h f = refl
or-map false b b' h f = f refl h

not_special : (act : Act) → is_invoke_interface act ≡ true → is_special act ≡ true → ⊥
not_special InvokeInterface i s = cc
not_special _ i s = cc

-- what a member that is not public asks of a class of another package
pub record IsInherited (V : World) (x t : Bytes) (m : DeclaredMember) : Type 0 where
  pub protected : protected_flag m.member.flags ≡ true
  pub chain : in_chain V x m.owner ≡ true
  pub through : (static_flag m.member.flags || in_chain V x t || in_chain V t x) ≡ true

pub inherited : (V : World) (x t : Bytes) (m : DeclaredMember) → (package_name x ≡ package_name m.owner → ⊥) → public_flag m.member.flags ≡ false → is_member_accessible V x t m ≡ true → IsInherited V x t m
unfolding is_member_accessible
inherited V x t m apart np h = last (or_cases (p || b || c) d h)
  where
    p : Bool
    p = public_flag m.member.flags

    b : Bool
    b = in_same_package x m.owner && (protected_flag m.member.flags || package_private m.member.flags)

    c : Bool
    c = protected_flag m.member.flags && in_chain V x m.owner && (static_flag m.member.flags || in_chain V x t || in_chain V t x)

    d : Bool
    d = private_flag m.member.flags && are_nestmates V x m.owner

    first : (p ≡ true) ⊎ (b ≡ true) → IsInherited V x t m
    first (inl q) = absurd (contradicts (public_flag m.member.flags) q np)
    first (inr q) = absurd (apart (same_is (package_name x) (package_name m.owner) (and_parts (in_same_package x m.owner) (protected_flag m.member.flags || package_private m.member.flags) q).0))

    third : ((p || b) ≡ true) ⊎ (c ≡ true) → IsInherited V x t m
    third (inl q) = first (or_cases p b q)
    third (inr q) =
        let u = and_parts (protected_flag m.member.flags && in_chain V x m.owner) (static_flag m.member.flags || in_chain V x t || in_chain V t x) q in
        let v = and_parts (protected_flag m.member.flags) (in_chain V x m.owner) u.0 in
        record { protected = v.0; chain = v.1; through = u.1 }

    last : ((p || b || c) ≡ true) ⊎ (d ≡ true) → IsInherited V x t m
    last (inl q) = third (or_cases (p || b) c q)
    last (inr q) = absurd (apart (same_nest-package V x m.owner (and_parts (private_flag m.member.flags) (are_nestmates V x m.owner) q).1))

pub is_member_accessible-inherited : (V : World) (x t : Bytes) (m : DeclaredMember) → IsInherited V x t m → is_member_accessible V x t m ≡ true
unfolding is_member_accessible
is_member_accessible-inherited V x t m i =
    or_left (p || b || c) d (or_right (p || b) c (and_from (protected_flag m.member.flags && in_chain V x m.owner) (static_flag m.member.flags || in_chain V x t || in_chain V t x) (and_from (protected_flag m.member.flags) (in_chain V x m.owner) i.protected i.chain) i.through))
  where
    p : Bool
    p = public_flag m.member.flags

    b : Bool
    b = in_same_package x m.owner && (protected_flag m.member.flags || package_private m.member.flags)

    c : Bool
    c = protected_flag m.member.flags && in_chain V x m.owner && (static_flag m.member.flags || in_chain V x t || in_chain V t x)

    d : Bool
    d = private_flag m.member.flags && are_nestmates V x m.owner

-- what an act that is open to a seat says of the member
pub record IsOpenTo (W : World) (a c : Bytes) (what : Act) (m : DeclaredMember) : Type 0 where
  pub access : is_member_open W a c m ≡ true
  pub kind : cond (is_act_on_static what) (no_static_flag m.member.flags) (static_flag m.member.flags) ≡ false
  pub final : (is_put_act what && final_flag m.member.flags) ≡ false

abbrev pub seat_use : World → Bytes → Bytes → Act → DeclaredMember → Option LinkError
seat_use W a c what m =
    or_else (fault_where (not (is_member_open W a c m)) IllegalAccessError)
    (or_else (fault_where (cond (is_act_on_static what) (no_static_flag m.member.flags) (static_flag m.member.flags)) IncompatibleClassChangeError)
    (fault_where (is_put_act what && final_flag m.member.flags) IllegalAccessError))

pub open-parts : (W : World) (a c : Bytes) (what : Act) (m : DeclaredMember) → seat_use W a c what m ≡ None → IsOpenTo W a c what m
open-parts W a c what m h = record {
  access = not-false (is_member_open W a c m) (fault_where-none (not (is_member_open W a c m)) IllegalAccessError p.0);
  kind = fault_where-none (cond (is_act_on_static what) (no_static_flag m.member.flags) (static_flag m.member.flags)) IncompatibleClassChangeError q.0;
  final = fault_where-none (is_put_act what && final_flag m.member.flags) IllegalAccessError q.1;
}
  where
    p : (fault_where (not (is_member_open W a c m)) IllegalAccessError ≡ None) × (or_else (fault_where (cond (is_act_on_static what) (no_static_flag m.member.flags) (static_flag m.member.flags)) IncompatibleClassChangeError) (fault_where (is_put_act what && final_flag m.member.flags) IllegalAccessError) ≡ None)
    p = or_else-none _ _ h

    q : (fault_where (cond (is_act_on_static what) (no_static_flag m.member.flags) (static_flag m.member.flags)) IncompatibleClassChangeError ≡ None) × (fault_where (is_put_act what && final_flag m.member.flags) IllegalAccessError ≡ None)
    q = or_else-none _ _ p.1

pub open-from : (W : World) (a c : Bytes) (what : Act) (m : DeclaredMember) → IsOpenTo W a c what m → seat_use W a c what m ≡ None
open-from W a c what m u = or_else-both _ _ (rw u.access refl) (or_else-both _ _ (rw u.kind refl) (rw u.final refl))

-- the act that an act with invokespecial goes by
pub record GoesBy (act what : Act) : Type 0 where
  pub form : form_of what ≡ form_of act
  pub kind : is_act_on_static what ≡ is_act_on_static act
  pub put : is_put_act what ≡ is_put_act act

module _ (O N : World) (cs : List ClassFacts) (g : Ground O N cs) (x : Bytes) (act : Act) (t : Bytes) (r : Option Bytes) (place : Place) where
  abbrev VO : World
  VO = with_clients O cs

  abbrev VN : World
  VN = with_clients N cs

  -- what is assigned with the old release is with the new one; the receiver of invokeinterface is asked only below the class that it names
  pub record Holds : Type 0 where
    pub receiver : (s : Bytes) → r ≡ Some s → is_assignable VO s t ≡ true → is_assignable VN s t ≡ true
    pub self : (s : Bytes) → r ≡ Some s → (is_invoke_interface act ≡ true → in_chain VN x t ≡ true) → is_assignable VO s x ≡ true → is_assignable VN s x ≡ true
    pub direct : is_special act ≡ true → (form_of act ≡ MethodForm → is_interface_of VN t ≡ false) → is_direct_super VO x t ≡ true → is_direct_super VN x t ≡ true

  abbrev pub NotAnInterface : Type 0
  NotAnInterface = form_of act ≡ MethodForm → is_interface_of VN t ≡ false

  pub assignment-kept : Holds → (m m' : DeclaredMember) → NotAnInterface → ((s : Bytes) → r ≡ Some s → is_act_on_static act ≡ false → passes_protected_check VO x t m s ≡ true → passes_protected_check VN x t m' s ≡ true)
      → assignment_ok VO x act t m r ≡ true → assignment_ok VN x act t m' r ≡ true
  unfolding assignment_ok receiver_ok
  assignment-kept h m m' i p a =
      and-map (not (is_special act) || is_direct_super VO x t) (is_act_on_static act || receiver_ok VO x act t m r) (not (is_special act) || is_direct_super VN x t) (is_act_on_static act || receiver_ok VN x act t m' r) a
      (λ q. or-map (not (is_special act)) (is_direct_super VO x t) (is_direct_super VN x t) q (λ s d. h.direct (not-false (is_special act) s) i d))
      (λ q. or-map (is_act_on_static act) (receiver_ok VO x act t m r) (receiver_ok VN x act t m' r) q (λ s d. by r refl s d))
    where
      by : (o : Option Bytes) → r ≡ o → is_act_on_static act ≡ false → receiver_ok VO x act t m o ≡ true → receiver_ok VN x act t m' o ≡ true
      by None e s d = refl
      by (Some z) e s d =
          and-map (is_assignable VO z t && passes_protected_check VO x t m z) (not (is_special act) || is_assignable VO z x) (is_assignable VN z t && passes_protected_check VN x t m' z) (not (is_special act) || is_assignable VN z x) d
          (λ u. and-map (is_assignable VO z t) (passes_protected_check VO x t m z) (is_assignable VN z t) (passes_protected_check VN x t m' z) u (h.receiver z e) (p z e s))
          (λ u. or-map (not (is_special act)) (is_assignable VO z x) (is_assignable VN z x) u (λ q w. h.self z e (λ i. absurd (not_special act i (not-false (is_special act) q))) w))

  -- a public member of the right kind
  pub public_use : Holds → NotAnInterface → (m m' : DeclaredMember) → IsUsed VO x act t r place m → public_flag m'.member.flags ≡ true → protected_flag m'.member.flags ≡ false
      → cond (is_act_on_static act) (no_static_flag m'.member.flags) (static_flag m'.member.flags) ≡ false → (is_put_act act && final_flag m'.member.flags) ≡ false → IsUsed VN x act t r place m'
  public_use h i m m' u p np kind final = record {
    access = is_member_accessible-public VN x t m' p;
    kind = kind;
    final = rw final refl;
    assignment = assignment-kept h m m' i (λ s e st _. passes_protected_check-public VN x t m' s np) u.assignment;
  }

  pub protected-kept : (m : DeclaredMember) (s : Bytes) → in_chain VO x t ≡ in_chain VN x t → (in_chain VN x t ≡ true → is_assignable VO s x ≡ true → is_assignable VN s x ≡ true) → passes_protected_check VO x t m s ≡ true → passes_protected_check VN x t m s ≡ true
  unfolding passes_protected_check
  protected-kept m s e f h =
      or-map (not (in_chain VN x t && protected_flag m.member.flags && not (in_same_package m.owner x))) (is_assignable VO s x) (is_assignable VN s x)
      (subst (λ b. (not (b && protected_flag m.member.flags && not (in_same_package m.owner x)) || is_assignable VO s x) ≡ true) e h)
      (λ n q. f (and_parts (in_chain VN x t) (protected_flag m.member.flags) (and_parts (in_chain VN x t && protected_flag m.member.flags) (not (in_same_package m.owner x)) (not-false (in_chain VN x t && protected_flag m.member.flags && not (in_same_package m.owner x)) n)).0).0 q)

  -- the same member
  pub same_use : Holds → NotAnInterface → (m : DeclaredMember) → in_chain VO x t ≡ in_chain VN x t → is_member_accessible VO x t m ≡ is_member_accessible VN x t m → IsUsed VO x act t r place m → IsUsed VN x act t r place m
  same_use h i m e f u = record {
    access = sym f ∙ u.access;
    kind = u.kind;
    final = u.final;
    assignment = assignment-kept h m m i (λ s q st w. protected-kept m s e (λ i. h.self s q (λ _. i)) w) u.assignment;
  }

  -- an inherited one
  protected_use : Holds → NotAnInterface → (m m' : DeclaredMember) → IsUsed VO x act t r place m → IsInherited VN x t m'
      → (static_flag m'.member.flags ≡ false → (s : Bytes) → r ≡ Some s → passes_protected_check VO x t m s ≡ true → passes_protected_check VN x t m' s ≡ true)
      → cond (is_act_on_static act) (no_static_flag m'.member.flags) (static_flag m'.member.flags) ≡ false → (is_put_act act && final_flag m'.member.flags) ≡ false → IsUsed VN x act t r place m'
  protected_use h i m m' u j p kind final = record {
    access = is_member_accessible-inherited VN x t m' j;
    kind = kind;
    final = rw final refl;
    assignment = assignment-kept h m m' i (λ s e st w. p (instance st kind) s e w) u.assignment;
  }
    where
      instance : is_act_on_static act ≡ false → cond (is_act_on_static act) (no_static_flag m'.member.flags) (static_flag m'.member.flags) ≡ false → static_flag m'.member.flags ≡ false
      instance e q = subst (λ b. cond b (no_static_flag m'.member.flags) (static_flag m'.member.flags) ≡ false) e q

  -- the library class s, t itself or the seat of the client t, where a is the seat of x
  module _ (h : Holds) (k : Key) (s a : Bytes) (what : Act) (goes : GoesBy act what) (is_seat : IsSeat O N a)
      (stays : (b : Bytes) → IsSeat O N b → act_fault O b s k what ≡ None → act_fault N b s k what ≡ None)
      (not_interface : (m : DeclaredMember) → looked N (form_of act) s k ≡ Some m → NotAnInterface)
      (one_access : (m : DeclaredMember) → looked N (form_of act) s k ≡ Some m → public_flag m.member.flags ≡ true → protected_flag m.member.flags ≡ false)
      (at_root : s ≡ object_name → looked O (form_of act) s k ≡ looked N (form_of act) s k)
      (root_above : in_chain VN x object_name ≡ true)
      (above_old : (in_chain VO x t || in_chain VO t x) ≡ true → in_chain O a s ≡ true)
      (above_new : (in_chain VO x t || in_chain VO t x) ≡ true → in_chain N a s ≡ true → (in_chain VN x t || in_chain VN t x) ≡ true)
      (above_back : (in_chain VO x t || in_chain VO t x) ≡ true → in_chain VN x t ≡ true → in_chain VO x t ≡ true)
      (seat_new : (y : Bytes) → in_chain N a y ≡ true → in_chain VN x y ≡ true) where
    -- the member that the new release gives the act from the seat b
    abbrev Given : Bytes → Type 0
    Given b = (m : DeclaredMember) × (looked N (form_of act) s k ≡ Some m) × IsOpenTo N b s act m

    given : (m : DeclaredMember) → looked O (form_of act) s k ≡ Some m → IsUsed VO x act t r place m → (is_put_act act && final_flag m.member.flags) ≡ false → (b : Bytes) → IsSeat O N b → is_member_open O b s m ≡ true → Given b
    unfolding act_fault
    given m e u f b i o = by (form_of act) goes.form (is_act_on_static act) goes.kind (is_put_act act) goes.put e u.kind f
      where
        by : (fo : Form) → form_of what ≡ fo → (st : Bool) → is_act_on_static what ≡ st → (pu : Bool) → is_put_act what ≡ pu → looked O fo s k ≡ Some m
            → cond st (no_static_flag m.member.flags) (static_flag m.member.flags) ≡ false → (pu && final_flag m.member.flags) ≡ false
            → (m : DeclaredMember) × (looked N fo s k ≡ Some m) × IsOpenTo N b s act m
        by fo p st q pu w e kind final =
            let old : act_fault O b s k what ≡ None = look_up-from O (form_of what) s k (seat_use O b s what) (record {
              found = m;
              taken = ap (λ f. looked O f s k) p ∙ e;
              fine = open-from O b s what m (record { access = o; kind = ap (λ z. cond z (no_static_flag m.member.flags) (static_flag m.member.flags)) q ∙ kind; final = ap (λ z. z && final_flag m.member.flags) w ∙ final });
            }) in
            let new = look_up-takes N (form_of what) s k (seat_use N b s what) (stays b i old) in
            let parts = open-parts N b s what new.found new.fine in (
              new.found,
              ap (λ f. looked N f s k) (sym p) ∙ new.taken,
              record {
                access = parts.access;
                kind = ap (λ z. cond z (no_static_flag new.found.member.flags) (static_flag new.found.member.flags)) (sym goes.kind) ∙ parts.kind;
                final = ap (λ z. z && final_flag new.found.member.flags) (sym goes.put) ∙ parts.final;
              },
            )

    abbrev pub Result : Type 0
    Result = (m' : DeclaredMember) × (looked N (form_of act) s k ≡ Some m') × IsUsed VN x act t r place m'

    -- from java/lang/Object
    by_root : (m : DeclaredMember) → looked O (form_of act) s k ≡ Some m → IsUsed VO x act t r place m → public_flag m.member.flags ≡ true → Given object_name → Result
    by_root m e u p v = go (public_flag v.0.member.flags) refl
      where
        m' : DeclaredMember
        m' = v.0

        right : (protected_flag m'.member.flags && in_chain N object_name m'.owner) ≡ true → (static_flag m'.member.flags || in_chain N object_name s) ≡ true → public_flag m'.member.flags ≡ false → IsUsed VN x act t r place m'
        right q w np = by (static_flag m'.member.flags) refl
          where
            c : (protected_flag m'.member.flags ≡ true) × (in_chain N object_name m'.owner ≡ true)
            c = and_parts (protected_flag m'.member.flags) (in_chain N object_name m'.owner) q

            by : (b : Bool) → static_flag m'.member.flags ≡ b → IsUsed VN x act t r place m'
            by true st = protected_use h (not_interface m' v.1) m m' u (record {
              protected = c.0;
              chain = subst (λ z. in_chain VN x z ≡ true) (sym (only_root O N cs g m'.owner c.1)) root_above;
              through = rw st refl;
            }) (λ ns. absurd (contradicts (static_flag m'.member.flags) st ns)) v.2.kind v.2.final
            by false st =
                let z : in_chain N object_name s ≡ true = subst (λ b. (b || in_chain N object_name s) ≡ true) st w in
                let same_one : Some m ≡ Some m' = sym e ∙ at_root (only_root O N cs g s z) ∙ v.1 in
                let j : m ≡ m' = cc in
                absurd (contradicts (public_flag m'.member.flags) (subst (λ n. public_flag n.member.flags ≡ true) j p) np)

        split : public_flag m'.member.flags ≡ false → (public_flag m'.member.flags ≡ true) ⊎ ((protected_flag m'.member.flags && in_chain N object_name m'.owner && (static_flag m'.member.flags || in_chain N object_name s)) ≡ true) → IsUsed VN x act t r place m'
        split np (inl q) = absurd (contradicts (public_flag m'.member.flags) q np)
        split np (inr q) =
            let w = and_parts (protected_flag m'.member.flags && in_chain N object_name m'.owner) (static_flag m'.member.flags || in_chain N object_name s) q in
            right w.0 w.1 np

        go : (b : Bool) → public_flag m'.member.flags ≡ b → Result
        go true q = (m', v.1, public_use h (not_interface m' v.1) m m' u q (one_access m' v.1 q) v.2.kind v.2.final)
        go false q = (m', v.1, split q (or_cases (public_flag m'.member.flags) (protected_flag m'.member.flags && in_chain N object_name m'.owner && (static_flag m'.member.flags || in_chain N object_name s)) v.2.access))

    instance_of : (st : Bool) (m m' : DeclaredMember) → cond st (no_static_flag m.member.flags) (static_flag m.member.flags) ≡ false → cond st (no_static_flag m'.member.flags) (static_flag m'.member.flags) ≡ false → static_flag m'.member.flags ≡ false → static_flag m.member.flags ≡ false
    instance_of true m m' p q e = absurd (let z : not (static_flag m'.member.flags) ≡ false = q in let w : not false ≡ false = subst (λ b. not b ≡ false) e z in cc)
    instance_of false m m' p q e = p

    -- from the seat of x
    by_seat : (m : DeclaredMember) → IsUsed VO x act t r place m → (package_name x ≡ package_name m.owner → ⊥) → IsInherited VO x t m → Given a → Result
    unfolding passes_protected_check
    by_seat m u apart j v = go (public_flag v.0.member.flags) refl
      where
        m' : DeclaredMember
        m' = v.0

        both : static_flag m'.member.flags ≡ false → (in_chain VO x t || in_chain VO t x) ≡ true
        both ns = subst (λ b. (b || in_chain VO x t || in_chain VO t x) ≡ true) (instance_of (is_act_on_static act) m m' u.kind v.2.kind ns) j.through

        other : in_same_package m.owner x ≡ false
        other = by (in_same_package m.owner x) refl
          where
            by : (b : Bool) → in_same_package m.owner x ≡ b → b ≡ false
            by false e = refl
            by true e = absurd (apart (sym (same_is (package_name m.owner) (package_name x) e)))

        -- the receiver of an inherited instance member
        receiver : static_flag m'.member.flags ≡ false → (z : Bytes) → r ≡ Some z → passes_protected_check VO x t m z ≡ true → passes_protected_check VN x t m' z ≡ true
        receiver ns z e w = by (in_chain VN x t) refl
          where
            was : in_chain VN x t ≡ true → is_assignable VO z x ≡ true
            was q =
                let b : (not (true && true && not false) || is_assignable VO z x) ≡ true =
                subst (λ b. (not (true && true && not b) || is_assignable VO z x) ≡ true) other
                (subst (λ b. (not (true && b && not (in_same_package m.owner x)) || is_assignable VO z x) ≡ true) j.protected
                (subst (λ b. (not (b && protected_flag m.member.flags && not (in_same_package m.owner x)) || is_assignable VO z x) ≡ true) (above_back (both ns) q) w)) in b

            by : (b : Bool) → in_chain VN x t ≡ b → (not (b && protected_flag m'.member.flags && not (in_same_package m'.owner x)) || is_assignable VN z x) ≡ true
            by false q = refl
            by true q = or_right (not (true && protected_flag m'.member.flags && not (in_same_package m'.owner x))) (is_assignable VN z x) (h.self z e (λ _. q) (was q))

        through : (static_flag m'.member.flags || in_chain N a s) ≡ true → (static_flag m'.member.flags || in_chain VN x t || in_chain VN t x) ≡ true
        through w = by (static_flag m'.member.flags) refl w
          where
            by : (b : Bool) → static_flag m'.member.flags ≡ b → (b || in_chain N a s) ≡ true → (b || in_chain VN x t || in_chain VN t x) ≡ true
            by true st w = refl
            by false st w = above_new (both st) w

        split : public_flag m'.member.flags ≡ false → (public_flag m'.member.flags ≡ true) ⊎ ((protected_flag m'.member.flags && in_chain N a m'.owner && (static_flag m'.member.flags || in_chain N a s)) ≡ true) → IsUsed VN x act t r place m'
        split np (inl q) = absurd (contradicts (public_flag m'.member.flags) q np)
        split np (inr q) =
            let w = and_parts (protected_flag m'.member.flags && in_chain N a m'.owner) (static_flag m'.member.flags || in_chain N a s) q in
            let c = and_parts (protected_flag m'.member.flags) (in_chain N a m'.owner) w.0 in
            protected_use h (not_interface m' v.1) m m' u (record { protected = c.0; chain = seat_new m'.owner c.1; through = through w.1 }) receiver v.2.kind v.2.final

        go : (b : Bool) → public_flag m'.member.flags ≡ b → Result
        go true q = (m', v.1, public_use h (not_interface m' v.1) m m' u q (one_access m' v.1 q) v.2.kind v.2.final)
        go false q = (m', v.1, split q (or_cases (public_flag m'.member.flags) (protected_flag m'.member.flags && in_chain N a m'.owner && (static_flag m'.member.flags || in_chain N a s)) v.2.access))

    -- what the library class gave to the use it gives still
    pub library_use : (m : DeclaredMember) → looked O (form_of act) s k ≡ Some m → IsUsed VO x act t r place m → (same m.owner x ≡ false) → (package_name x ≡ package_name m.owner → ⊥) → (in_chain VO x m.owner ≡ in_chain O a m.owner) → Result
    library_use m e u other apart chain = go (public_flag m.member.flags) refl
      where
        final : (is_put_act act && final_flag m.member.flags) ≡ false
        final = by (is_put_act act && final_flag m.member.flags) (puts_own act place) (subst (λ z. (is_put_act act && final_flag m.member.flags && not (z && puts_own act place)) ≡ false) other u.final)
          where
            by : (b o : Bool) → (b && not (false && o)) ≡ false → b ≡ false
            by false o q = refl
            by true o q = absurd (cc)

        seat_ok : IsInherited VO x t m → is_member_open O a s m ≡ true
        seat_ok j = or_right (public_flag m.member.flags) _ (and_from (protected_flag m.member.flags && in_chain O a m.owner) (static_flag m.member.flags || in_chain O a s) (and_from (protected_flag m.member.flags) (in_chain O a m.owner) j.protected (sym chain ∙ j.chain)) (by (static_flag m.member.flags) j.through))
          where
            by : (b : Bool) → (b || in_chain VO x t || in_chain VO t x) ≡ true → (b || in_chain O a s) ≡ true
            by true w = refl
            by false w = above_old w

        go : (b : Bool) → public_flag m.member.flags ≡ b → Result
        go true p = by_root m e u p (given m e u final object_name (inl refl) (or_left (public_flag m.member.flags) _ p))
        go false p = let j = inherited VO x t m apart p u.access in by_seat m u apart j (given m e u final a is_seat (seat_ok j))
