use Rattle.std.proofs.Common.{◌≡◌, ◌<◌, ℕ, Option, sym, ◌∙◌, ap, subst, arith, Some, None, get_or}
use Rattle.std.specs.Prelude.{IfSome}
use Rattle.jc_facts.specs.declared.link_error.LinkError.TheVariants.{NoClassDefFoundError}
use Rattle.jc_facts.specs.world.World.{size}
use Rattle.jc_loading.specs.declared.faults.State.TheVariants as states
use Rattle.jc_index.proofs.Numbers.{id_of-Some, find-None}
use Rattle.jc_worlds.proofs.Absent.{load_fault-absent}
use Rattle.jc_loading.proofs.Entering.{right_at, not-known}
use Rattle.jc_loading.proofs.faults.known_of.Goals as goal

pub bounds : goal.bounds
bounds c =
    let l : c.in-Some.id < size c.args.index.now = subst (λ (o : Option ℕ). IfSome o (λ id. id < size c.args.index.now)) c.in-Some.is c.requires.inside in
    omega (arith, l, c.requires.right.count)

pub returns-in-None-clause-says : goal.returns-in-None-clause-says
returns-in-None-clause-says c = λ x e. load_fault-absent c.args.index.now x (find-None c.args.index.now x (sym e ∙ c.in-None.is))

pub returns-in-None-clause-past : goal.returns-in-None-clause-past
returns-in-None-clause-past c = λ x e q. absurd (let clash : Some NoClassDefFoundError ≡ None = q in cc)

pub returns-in-Known-clause-says : goal.returns-in-Known-clause-says
returns-in-Known-clause-says c = λ x e.
    let h = id_of-Some c.args.index.now x c.in-Some.id (sym e ∙ c.in-Some.is) in
    right_at c.args.index.now c.args.states.now c.in-Some.id x c.in-Known.fault c.requires.right h.1 (sym (ap (λ n. get_or c.args.states.now n states.Fresh) c.number.ensures) ∙ c.in-Known.is)

pub returns-in-Known-clause-past : goal.returns-in-Known-clause-past
returns-in-Known-clause-past c = λ x e q. (
  c.in-Some.id,
  sym e ∙ c.in-Some.is,
  sym (ap (λ n. get_or c.args.states.now n states.Fresh) c.number.ensures) ∙ c.in-Known.is ∙ ap states.Known q,
)

pub returns-in-Fresh-clause-says : goal.returns-in-Fresh-clause-says
returns-in-Fresh-clause-says c = λ x e.
    let h = id_of-Some c.args.index.now x c.in-Some.id (sym e ∙ c.in-Some.is) in
    let n : c.number.result ≡ c.in-Some.id = c.number.ensures in
    (h.0, sym h.1, rw n at (not-known (get_or c.args.states.now c.number.result states.Fresh) c.in-Fresh.is))

pub returns-in-Fresh-clause-past : goal.returns-in-Fresh-clause-past
returns-in-Fresh-clause-past c = λ x e. tt
