use Rattle.std.proofs.Common.{◌<◌, ◌==◌, ℕ, List, true, false, sym, subst, ap, ◌∙◌}
use Rattle.std.specs.List.{All, filter, list_any}
use Rattle.jc_facts.specs.world.Hierarchy.{superinterfaces}
use Rattle.jc_facts.specs.world.World.{size}
use Rattle.jc_sides.specs.SidesOf.{SidesOf}
use Rattle.jc_index.specs.Ids.{name_at}
use Rattle.jc_select.specs.steps.Losing.{AreSet, has_left}
use Rattle.jc_select.specs.steps.Parts.{AreNamed}
use Rattle.jc_select.proofs.LostRows.{filtered}
use Rattle.jc_select.proofs.SetMarks.{cleared}
use Rattle.jc_select.proofs.losing.lost_between.Goals as goal

pub set_marks-requires : goal.set_marks-requires
set_marks-requires c =
    let now : AreNamed c.args.sides.now.new (superinterfaces c.args.sides.now.new (name_at c.args.sides.now.new c.args.now)) c.in_ok-after.after.items =
    subst (λ (s : SidesOf). AreNamed s.new (superinterfaces s.new (name_at s.new c.args.now)) c.in_ok-after.after.items) c.sides.view_is c.in_ok-after.ensures in
    subst (λ (m : ℕ). All (λ id. id < m) c.as_slice.result.now) (sym c.requires.marks) (subst (λ (is : List ℕ). All (λ id. id < size c.args.sides.now.new) is) (sym c.as_slice.ensures.value) now.within)

pub returns-clause-lost : goal.returns-clause-lost
returns-clause-lost c =
    filtered c.args.sides.now c.args.before c.args.now c.in_ok-all.all.items c.in_ok-after.after.items c.in_ok-lost.lost.items c.args.marks.now c.set_marks.new.marks c.requires.one c.requires.loads c.requires.loads_now
    (subst (λ (s : SidesOf). AreNamed s.old (superinterfaces s.old (name_at s.old c.args.before)) c.in_ok-all.all.items) c.sides.view_is c.in_ok-all.ensures)
    (subst (λ (s : SidesOf). AreNamed s.new (superinterfaces s.new (name_at s.new c.args.now)) c.in_ok-after.after.items) c.sides.view_is c.in_ok-after.ensures)
    c.requires.marks c.requires.clear
    (subst (λ (is : List ℕ). AreSet (λ n. list_any (λ k. k == n) is) true c.args.marks.now c.set_marks.new.marks) c.as_slice.ensures.value c.set_marks.ensures)
    (c.in_ok-lost.ensures ∙ ap (filter (has_left c.args.sides.now c.set_marks.new.marks)) c.as_slice-2.ensures.value)

pub returns-clause-clear : goal.returns-clause-clear
returns-clause-clear c =
    cleared (λ n. list_any (λ k. k == n) c.in_ok-after.after.items) c.args.marks.now c.set_marks.new.marks c.set_marks-2.new.marks c.requires.clear
    (subst (λ (is : List ℕ). AreSet (λ n. list_any (λ k. k == n) is) true c.args.marks.now c.set_marks.new.marks) c.as_slice.ensures.value c.set_marks.ensures)
    (subst (λ (is : List ℕ). AreSet (λ n. list_any (λ k. k == n) is) false c.set_marks.new.marks c.set_marks-2.new.marks) c.as_slice-3.ensures.value c.set_marks-2.ensures)
