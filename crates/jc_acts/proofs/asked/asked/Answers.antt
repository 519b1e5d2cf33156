use Rattle.std.proofs.Common.{◌≡◌, ◌<◌, ℕ, true, cond, None, sym, ap, subst, ◌∙◌, map, take}
use Rattle.std.proofs.lemmas.List.{get_or_read_under}
use Rattle.jc_facts.specs.Flags.{static_flag}
use Rattle.jc_facts.specs.Names.{Bytes}
use Rattle.jc_facts.specs.world.World.{size}
use Rattle.jc_sides.specs.SharedFields.{shared_of}
use Rattle.jc_sides.specs.SharedOf.{name_of}
use Rattle.jc_sides.specs.SidesFields.{worlds}
use Rattle.jc_sides.specs.SidesOf.{SidesOf}
use Rattle.jc_sides.proofs.Seen.{of_new}
use Rattle.jc_acts.specs.declared.lookup.Looked.{Looked}
use Rattle.jc_acts.specs.steps.Commons.{kept_of}
use Rattle.jc_acts.specs.steps.Firsts.{first_at}
use Rattle.jc_acts.specs.steps.LookedUp.{closed_use, open_to_all}
use Rattle.jc_acts.proofs.Narrowed.{root_enough, root_first}
use Rattle.jc_acts.proofs.OpenToAll.{none_asked, holder_below, holder_name}
use Rattle.jc_acts.proofs.asked.asked.Goals as goal

pub returns-then-not-is_by_seat-clause-enough : goal.returns-then-not-is_by_seat-clause-enough
returns-then-not-is_by_seat-clause-enough c = λ what.
    ap (first_at (closed_use c.args.sides.now (name_of c.args.class.now) c.args.looked.now what)) (ap (λ bs. map name_of (take 1 bs)) c.as_slice-all.ensures.value ∙ root_first c.args.sides.now c.args.seats.now.all.items c.requires.seats.all)
    ∙ root_enough c.args.sides.now c.requires.seats.sides.old_side c.requires.seats.sides.new_side (name_of c.args.class.now) c.args.looked.now what (sym c.is_by_seat.ensures ∙ c.if-not-is_by_seat.true)

pub returns-then-is_open_to_all-clause-enough : goal.returns-then-is_open_to_all-clause-enough
returns-then-is_open_to_all-clause-enough c = λ what.
    let s : SidesOf = c.args.sides.now in
    let x : Bytes = name_of c.args.class.now in
    let u : Looked = c.args.looked.now in
    let holder : ℕ = cond (static_flag u.before.flags) u.before.owner c.args.class.now.old in
    let below : holder < size s.old = holder_below s.old (static_flag u.before.flags) u.before.owner c.args.class.now.old c.requires.looked.before c.requires.class.old_below in
    let number : c.number.result ≡ holder = c.number.ensures ∙ c.holder.ensures in
    let kept : c.index-common.result.now ≡ kept_of c.args.seats.now.commons.items holder =
    get_or_read_under c.args.seats.now.commons.items c.number.result (size s.old) c.index-common.result.now None c.index-common.ensures (subst (λ n. n < size s.old) (sym number) below) (sym c.requires.seats.commons.inside.count)
    ∙ ap (kept_of c.args.seats.now.commons.items) number in
    let now : open_to_all s.new c.index-common.result.now x u.before.flags u.after ≡ true =
    of_new (worlds c.sides.inside) s c.sides.view_is (shared_of c.class.inside) c.args.class.now c.class.view_is c.requires.class (λ V y. open_to_all V c.index-common.result.now y u.before.flags u.after ≡ true) (sym c.is_open_to_all.ensures ∙ c.if-is_open_to_all.true) in
    none_asked s c.requires.seats.sides x u what c.args.seats.now.commons.items holder c.requires.seats.commons below
    (holder_name s.old (static_flag u.before.flags) u.before.owner c.args.class.now.old x c.requires.class.old_name)
    (sym c.is_by_seat.ensures ∙ c.if-not-is_by_seat.false)
    (subst (λ o. open_to_all s.new o x u.before.flags u.after ≡ true) kept now)
