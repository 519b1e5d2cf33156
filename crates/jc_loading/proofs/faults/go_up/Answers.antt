use Rattle.std.proofs.Common.{◌≡◌, ◌<◌, ◌++◌, ◌∷◌, [], List, length, sym, ◌∙◌, ap, subst, arith, true, Some, None}
use Rattle.std.specs.List.{All}
use Rattle.jc_facts.specs.declared.link_error.LinkError.TheVariants.{ClassCircularityError}
use Rattle.jc_loading.specs.declared.faults.Frame.{Frame}
use Rattle.jc_loading.specs.steps.Entering.{is_fresh, is_entered, state_of, AllHave}
use Rattle.jc_loading.proofs.Paths.{inside-states, bottom-push}
use Rattle.jc_loading.proofs.Turns.{enter, enter-work, fail, back, entered-known}
use Rattle.jc_loading.proofs.Ordering.{orders-entered, orders-noted, way-entered}
use Rattle.jc_loading.proofs.faults.go_up.Goals as goal

pub note-requires : goal.note-requires
note-requires c = record {
  path = subst (λ (fs : List Frame). All (λ (f : Frame). f.class < length c.args.states.now) fs) (sym c.as_slice.ensures.value) (inside-states c.args.index.now c.args.path.now.items c.args.top.class (length c.args.states.now) c.requires.way.leads c.requires.way.right.count);
  top = let e = c.requires.way.right.count in let i = c.requires.way.inside in omega arith;
}

pub returns-in_ok-push-in-Fresh-clause-turns : goal.returns-in_ok-push-in-Fresh-clause-turns
returns-in_ok-push-in-Fresh-clause-turns c =
    let W = c.args.index.now in
    let ss = c.args.states.now in
    let fs = c.args.path.now.items in
    let f : Frame = record { class = c.args.top.class; above = c.args.above } in
    let k : c.number-in-Fresh.result ≡ c.args.class = c.number-in-Fresh.ensures in
    let p : c.push.new.self.items ≡ fs ++ f ∷ [] = c.in_ok-push-in-Fresh.ensures.items in
    let l : c.args.class < length ss = let e = c.requires.way.right.count in let i = c.requires.inside in omega arith in
    let fresh : is_fresh (state_of ss c.args.class) ≡ true = ap (λ n. is_fresh (state_of ss n)) (sym c.number.ensures) ∙ ap is_fresh c.in-Fresh.is in
    rw (p, k) (enter W ss fs c.args.top c.args.above c.args.class c.requires.way c.requires.inside c.requires.leads, bottom-push fs f c.args.class, enter-work ss fs f c.args.class l fresh)

pub returns-in-Entered-clause-turns : goal.returns-in-Entered-clause-turns
returns-in-Entered-clause-turns c =
    let W = c.args.index.now in
    let ss = c.args.states.now in
    let fs = c.args.path.now.items in
    let k : c.number.result ≡ c.args.class = c.number.ensures in
    let open_ : is_entered (state_of ss c.args.class) ≡ true =
    entered-known (state_of ss c.args.class) (rw k at c.in-Entered.is) c.requires.unknown in
    fail W ss c.note.new.states fs c.args.top ClassCircularityError c.requires.way
    (back W ss fs c.args.top c.args.above c.args.class c.requires.way c.requires.leads open_)
    (subst (λ (gs : List Frame). AllHave ClassCircularityError ss gs c.args.top.class c.note.new.states) c.as_slice.ensures.value c.note.ensures)

pub returns-in_ok-push-in-Fresh-clause-ordered : goal.returns-in_ok-push-in-Fresh-clause-ordered
returns-in_ok-push-in-Fresh-clause-ordered c = λ order o.
    let W = c.args.index.now in
    let ss = c.args.states.now in
    let k : c.number-in-Fresh.result ≡ c.args.class = c.number-in-Fresh.ensures in
    let l : c.args.class < length ss = let e = c.requires.way.right.count in let i = c.requires.inside in omega arith in
    let m : c.number-in-Fresh.result < length ss = rw k l in (
      orders-entered W ss c.number-in-Fresh.result order m o,
      way-entered W ss c.args.path.now.items c.push.new.self.items c.args.top c.args.above c.args.class c.number-in-Fresh.result c.in_ok-push-in-Fresh.ensures.items k l c.requires.unknown c.requires.passed c.requires.past,
    )

pub returns-in-Entered-clause-ordered : goal.returns-in-Entered-clause-ordered
returns-in-Entered-clause-ordered c = λ order o. (
  orders-noted c.args.index.now c.args.states.now c.note.new.states c.as_slice.result.now c.args.top.class ClassCircularityError order c.note.ensures o,
  λ e. absurd (let q : Some ClassCircularityError ≡ None = e in cc),
)
