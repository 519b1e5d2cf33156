-- The steps of the use of a member, one by one.
use Rattle.std.proofs.Common.{◌≡◌, Bool, true, false, cond, List, [], ◌∷◌, refl, sym, ap, Some, None, ◌&&◌}
use Rattle.jc_lemmas.proofs.Listed.{EachOf}
use Rattle.jc_facts.specs.declared.act.Act.{Act}
use Rattle.jc_facts.specs.declared.link_error.LinkError.TheVariants.{IllegalAccessError, IncompatibleClassChangeError}
use Rattle.jc_facts.specs.Names.{Bytes}
use Rattle.jc_facts.specs.Flags.{static_flag, no_static_flag, final_flag}
use Rattle.jc_facts.specs.Options.{or_else}
use Rattle.jc_facts.specs.world.World.{World, DeclaredMember}
use Rattle.jc_facts.specs.client.Acts.{is_act_on_static, is_put_act}
use Rattle.jc_facts.specs.world.Access.{is_member_open}
use Rattle.jc_promises.specs.rule.OpenActs.{where_open}
use Rattle.jc_sides.specs.SidesOf.{SidesOf}
use Rattle.jc_acts.specs.declared.lookup.Looked.{Looked}
use Rattle.jc_acts.specs.steps.Firsts.{first_at}
use Rattle.jc_acts.specs.steps.LookedUp.{member_of, use_at, looked_use, closed_use}
use Rattle.jc_acts.proofs.Firsts.{first_none}

module _ (W : World) (a c : Bytes) (what : Act) (m : DeclaredMember) where
  pub not_accessible : is_member_open W a c m ≡ false → Some IllegalAccessError ≡ use_at W a c what m
  unfolding or_else
  not_accessible h = rw h refl

  pub other_kind : is_member_open W a c m ≡ true → cond (is_act_on_static what) (no_static_flag m.member.flags) (static_flag m.member.flags) ≡ true → Some IncompatibleClassChangeError ≡ use_at W a c what m
  unfolding or_else
  other_kind h k = rw (h, k) refl

  pub final_put : is_member_open W a c m ≡ true → cond (is_act_on_static what) (no_static_flag m.member.flags) (static_flag m.member.flags) ≡ false → (is_put_act what && final_flag m.member.flags) ≡ true → Some IllegalAccessError ≡ use_at W a c what m
  unfolding or_else
  final_put h k f = rw (h, k, f) refl

  pub open_use : is_member_open W a c m ≡ true → cond (is_act_on_static what) (no_static_flag m.member.flags) (static_flag m.member.flags) ≡ false → (is_put_act what && final_flag m.member.flags) ≡ false → None ≡ use_at W a c what m
  unfolding or_else
  open_use h k f = rw (h, k, f) refl

-- ---- acts on members of the other kind, which are open to no seat

module _ (s : SidesOf) (x : Bytes) (u : Looked) (what : Act) (k : cond (is_act_on_static what) (no_static_flag u.before.flags) (static_flag u.before.flags) ≡ true) where
  never_closed : (a : Bytes) → closed_use s x u what a ≡ None
  never_closed a = go (is_member_open s.old a x m) refl
    where
      m : DeclaredMember
      m = member_of s.old u.before

      go : (b : Bool) → is_member_open s.old a x m ≡ b → closed_use s x u what a ≡ None
      go false h = ap (λ o. where_open o (looked_use s.new a x what u.after)) (sym (not_accessible s.old a x what m h))
      go true h = ap (λ o. where_open o (looked_use s.new a x what u.after)) (sym (other_kind s.old a x what m h k))

  pub none_closed : (seats : List Bytes) → first_at (closed_use s x u what) seats ≡ None
  none_closed seats = first_none (closed_use s x u what) seats (each seats)
    where
      each : (xs : List Bytes) → EachOf (λ a. closed_use s x u what a ≡ None) xs
      each [] = tt
      each (a ∷ xs) = (never_closed a, each xs)
