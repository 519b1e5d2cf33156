use Rattle.std.proofs.Common.{◌≡◌, ◌∙◌, Some, sym, subst}
use Rattle.jc_acts.specs.Touched.{flag_at}
use Rattle.jc_exposed.specs.Exposing.{AreNamings}
use Rattle.jc_exposed.specs.Namings.{Gives}
use Rattle.jc_exposed.proofs.OwnNamings.{names_one, own_class}
use Rattle.jc_exposed.proofs.own.own_of_class.Goals as goal

pub returns : goal.returns
returns c = λ d e.
    let q : Some c.facts-facts.result.now ≡ Some d = c.facts-facts.ensures ∙ sym e in
    let is : c.facts-facts.result.now ≡ d = cc in
    subst (λ x. AreNamings c.args.table.now (flag_at c.args.wanted.now) x c.append.new.self.items) is
    (own_class c.args.table.now (flag_at c.args.wanted.now) c.facts-facts.result.now c.in_ok-namings.namings.items c.in_ok-calls.calls.items c.append.new.self.items c.in_ok-append.ensures.items
    (subst (λ ms. Gives (flag_at c.args.wanted.now) (names_one c.args.table.now (flag_at c.args.wanted.now) ms) c.in_ok-namings.namings.items) c.as_slice.ensures c.in_ok-namings.ensures)
    (subst (λ ms. Gives (flag_at c.args.wanted.now) (names_one c.args.table.now (flag_at c.args.wanted.now) ms) c.in_ok-calls.calls.items) c.as_slice-2.ensures c.in_ok-calls.ensures))
