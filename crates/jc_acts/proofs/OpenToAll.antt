-- A protected member that is open to a class is open to all seats below it: none of them has to be asked.
use Rattle.std.proofs.Common.{◌≡◌, ℕ, ◌<◌, Bool, true, false, cond, not, List, [], ◌∷◌, map, refl, sym, ◌∙◌, ap, subst, Option, Some, None, Result, Ok, Err, ◌||◌, ◌&&◌}
use Rattle.std.specs.Bool.{beq}
use Rattle.std.specs.List.{All}
use Rattle.std.proofs.lemmas.List.Elements.{All-from_recursion}
use Rattle.std.proofs.lemmas.Bool.{and_parts, not-false, not-true}
use Rattle.jc_lemmas.proofs.Bools.{beq_is}
use Rattle.jc_lemmas.proofs.Listed.{EachOf, each_from, each_in}
use Rattle.jc_facts.specs.declared.act.Act.{Act}
use Rattle.jc_facts.specs.declared.link_error.LinkError.{LinkError}
use Rattle.jc_facts.specs.declared.link_error.LinkError.TheVariants.{IllegalAccessError, IncompatibleClassChangeError}
use Rattle.jc_facts.specs.Names.{Bytes, object_name}
use Rattle.jc_facts.specs.Flags.{public_flag, protected_flag, static_flag, final_flag}
use Rattle.jc_facts.specs.world.World.{World, DeclaredMember, size}
use Rattle.jc_facts.specs.world.Hierarchy.{in_chain}
use Rattle.jc_facts.specs.world.Loading.{load_fault, fault_where}
use Rattle.jc_facts.specs.client.Acts.{is_act_on_static, is_put_act}
use Rattle.jc_facts.specs.client.Outcome.{kind_fault}
use Rattle.jc_facts.specs.world.Access.{is_member_open}
use Rattle.jc_promises.specs.rule.OpenActs.{where_open}
use Rattle.jc_promises.specs.rule.Bases.{is_base_class}
use Rattle.jc_facts.proofs.Options.{or_else-none, or_else-both}
use Rattle.jc_worlds.proofs.Above.{fault_where-none}
use Rattle.jc_worlds.proofs.Bare.{bare_loads}
use Rattle.jc_index.specs.Ids.{names, name_at}
use Rattle.jc_index.specs.Sides.{IsSide}
use Rattle.jc_index.proofs.Sides.{root_at}
use Rattle.jc_index.specs.declared.ids.Found.{Found}
use Rattle.jc_sides.specs.SharedOf.{SharedOf, name_of}
use Rattle.jc_sides.specs.SidesOf.{SidesOf, AreSides}
use Rattle.jc_sides.proofs.BaseParts.{base_class_parts}
use Rattle.jc_acts.specs.Seats.{all_seats}
use Rattle.jc_acts.specs.steps.Commons.{covers, kept_of, AreCommon, LoadsOnBoth}
use Rattle.jc_acts.specs.steps.Firsts.{first_at}
use Rattle.jc_acts.specs.steps.LookedUp.{member_of, use_at, looked_use, closed_use, as_usable, open_below, open_to_all}
use Rattle.jc_acts.specs.declared.lookup.Looked.{Looked}
use Rattle.jc_acts.proofs.Firsts.{first_none}
use Rattle.jc_acts.proofs.Narrowed.{after_access, open_further, each_base}
use Rattle.jc_acts.proofs.Wider.{through}

-- ---- the steps after access, by the flags

no_more : (put was now : Bool) → (was || not now) ≡ true → (put && was) ≡ false → (put && now) ≡ false
no_more false was now h k = refl
no_more true true now h k = absurd (cc)
no_more true false true h k = absurd (cc)
no_more true false false h k = refl

usable_after : (what : Act) (m g : DeclaredMember) → as_usable m.member.flags g.member.flags ≡ true → after_access what m ≡ None → after_access what g ≡ None
usable_after what m g u h =
    let p = and_parts (beq (static_flag g.member.flags) (static_flag m.member.flags)) (final_flag m.member.flags || not (final_flag g.member.flags)) u in
    let q = or_else-none (kind_fault what m) (fault_where (is_put_act what && final_flag m.member.flags) IllegalAccessError) h in
    let s : static_flag g.member.flags ≡ static_flag m.member.flags = beq_is (static_flag g.member.flags) (static_flag m.member.flags) p.0 in
    or_else-both (kind_fault what g) (fault_where (is_put_act what && final_flag g.member.flags) IllegalAccessError)
    (ap (λ b. fault_where (cond (is_act_on_static what) (not b) b) IncompatibleClassChangeError) s ∙ q.0)
    (ap (λ b. fault_where b IllegalAccessError) (no_more (is_put_act what) (final_flag m.member.flags) (final_flag g.member.flags) p.1 (fault_where-none (is_put_act what && final_flag m.member.flags) IllegalAccessError q.1)))

-- ---- one seat

-- who can use the protected member stands below the class that a seat has to stand below
holds : (W : World) (a x owner : Bytes) (fixed : Bool) → (in_chain W a owner && (fixed || in_chain W a x)) ≡ true → in_chain W a (cond fixed owner x) ≡ true
holds W a x owner true h = (and_parts (in_chain W a owner) true h).0
holds W a x owner false h = (and_parts (in_chain W a owner) (in_chain W a x) h).1

only_protected : (pub_ prot owner rest : Bool) → pub_ ≡ false → (pub_ || (prot && owner && rest)) ≡ true → (owner && rest) ≡ true
only_protected true prot owner rest e h = absurd (cc)
only_protected false true owner rest e h = h
only_protected false false owner rest e h = absurd (cc)

module _ (sides : SidesOf) (x : Bytes) (u : Looked) (what : Act) (a : Bytes) (loads : load_fault sides.new a ≡ None) where
  now_open : (n : ℕ) (l : Result Found LinkError) → in_chain sides.new a (name_at sides.new n) ≡ true → open_below sides.new (name_at sides.new n) x u.before.flags l ≡ true → after_access what (member_of sides.old u.before) ≡ None → looked_use sides.new a x what l ≡ None
  now_open n (Err e) i h k = absurd (cc)
  now_open n (Ok g) i h k =
      let p = and_parts (is_member_open sides.new (name_at sides.new n) x (member_of sides.new g)) (as_usable u.before.flags g.flags) h in
      let o : is_member_open sides.new a x (member_of sides.new g) ≡ true =
      open_further sides.new sides.new (name_at sides.new n) a x (member_of sides.new g)
      (λ j. through sides.new (name_at sides.new n) (name_at sides.new g.owner) j a loads i)
      (λ j. through sides.new (name_at sides.new n) x j a loads i) p.0 in
      or_else-both (fault_where (not (is_member_open sides.new a x (member_of sides.new g))) IllegalAccessError) (after_access what (member_of sides.new g)) (rw o refl) (usable_after what (member_of sides.old u.before) (member_of sides.new g) p.1 k)

  stays_open : (o : Option ℕ) → public_flag u.before.flags ≡ false → (in_chain sides.old a (cond (static_flag u.before.flags) (name_at sides.old u.before.owner) x) ≡ true → covers sides.new o a ≡ true) → open_to_all sides.new o x u.before.flags u.after ≡ true → closed_use sides x u what a ≡ None
  stays_open o p covered h = go (use_at sides.old a x what (member_of sides.old u.before)) refl
    where
      now : (o : Option ℕ) → covers sides.new o a ≡ true → open_to_all sides.new o x u.before.flags u.after ≡ true → after_access what (member_of sides.old u.before) ≡ None → looked_use sides.new a x what u.after ≡ None
      now None i k r = absurd (cc)
      now (Some n) i k r = now_open n u.after i k r

      go : (r : Option LinkError) → use_at sides.old a x what (member_of sides.old u.before) ≡ r → where_open r (looked_use sides.new a x what u.after) ≡ None
      go (Some e) c = refl
      go None c =
          let m : DeclaredMember = member_of sides.old u.before in
          let q = or_else-none (fault_where (not (is_member_open sides.old a x m)) IllegalAccessError) (after_access what m) c in
          let t : is_member_open sides.old a x m ≡ true = not-false (is_member_open sides.old a x m) (fault_where-none (not (is_member_open sides.old a x m)) IllegalAccessError q.0) in
          now o (covered (holds sides.old a x (name_at sides.old u.before.owner) (static_flag u.before.flags) (only_protected (public_flag u.before.flags) (protected_flag u.before.flags) (in_chain sides.old a (name_at sides.old u.before.owner)) (static_flag u.before.flags || in_chain sides.old a x) p t))) h q.1

-- ---- all seats

module _ (sides : SidesOf) (are : AreSides sides) where
  root_loads : (W : World) → IsSide W → load_fault W object_name ≡ None
  root_loads W s = bare_loads W object_name s.root.root (root_at W s) s.root.superclass s.root.interfaces

  each_loads : EachOf (LoadsOnBoth sides) (all_seats sides)
  each_loads =
      ((root_loads sides.old are.old_side, root_loads sides.new are.new_side), each_base (LoadsOnBoth sides) (is_base_class sides.old sides.new) (names sides.old) (λ b k. let p = (base_class_parts sides b k).both in (p.loads, p.loads_now)))

  pub all_load : (all : List SharedOf) → map name_of all ≡ all_seats sides → All (λ b. load_fault sides.new (name_of b) ≡ None) all
  all_load all e = All-from_recursion (λ b. load_fault sides.new (name_of b) ≡ None) all (go all (subst (EachOf (LoadsOnBoth sides)) (sym e) each_loads))
    where
      go : (bs : List SharedOf) → EachOf (LoadsOnBoth sides) (map name_of bs) → EachOf (λ b. load_fault sides.new (name_of b) ≡ None) bs
      go [] h = tt
      go (b ∷ bs) h = (h.0.1, go bs h.1)

  pub none_asked : (x : Bytes) (u : Looked) (what : Act) (commons : List (Option ℕ)) (holder : ℕ) → AreCommon sides.old sides.new (all_seats sides) commons → holder < size sides.old
      → name_at sides.old holder ≡ cond (static_flag u.before.flags) (name_at sides.old u.before.owner) x → (not (public_flag u.before.flags) && protected_flag u.before.flags) ≡ true → open_to_all sides.new (kept_of commons holder) x u.before.flags u.after ≡ true
      → first_at (closed_use sides x u what) [] ≡ first_at (closed_use sides x u what) (all_seats sides)
  unfolding first_at
  none_asked x u what commons holder c l name by h =
      sym (first_none (closed_use sides x u what) (all_seats sides) (each_from (λ a. closed_use sides x u what a ≡ None) (all_seats sides) (λ a i.
      stays_open sides x u what a (each_in (LoadsOnBoth sides) (all_seats sides) a each_loads i).1 (kept_of commons holder) (not-true (public_flag u.before.flags) (and_parts (not (public_flag u.before.flags)) (protected_flag u.before.flags) by).0)
      (λ j. c.covered a i holder l (subst (λ (z : Bytes). in_chain sides.old a z ≡ true) (sym name) j)) h)))

-- ---- the class that a seat has to stand below

pub holder_below : (W : World) (fixed : Bool) (m n : ℕ) → m < size W → n < size W → cond fixed m n < size W
holder_below W true m n k l = k
holder_below W false m n k l = l

pub holder_name : (W : World) (fixed : Bool) (m n : ℕ) (x : Bytes) → name_at W n ≡ x → name_at W (cond fixed m n) ≡ cond fixed (name_at W m) x
holder_name W true m n x e = refl
holder_name W false m n x e = e
