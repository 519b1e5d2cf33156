use Rattle.std.proofs.Common.{◌≡◌, ◌<◌, ℕ, Some, length, get_or, arith, ◌∙◌, sym, ap, subst}
use Rattle.std.proofs.lemmas.List.{get_or_default}
use Rattle.jc_facts.specs.world.World.{size}
use Rattle.jc_index.proofs.Indexed.{number_is, no_number}
use Rattle.jc_index.proofs.Numbers.{id_of-Some}
use Rattle.jc_index.proofs.named_classes.NamedClasses.get.Goals as goal

pub index-requires : goal.index-requires
index-requires c =
    let l : c.in-Some.place < length c.self.inside.numbers.items =
    (number_is c.self.inside c.self.invariant c.args.self.now c.self.view_is c.args.name.now c.in-Some.place (sym c.in-Some.ensures)).0
    in
    omega (arith, c.self.inside.numbers.ok.0)

pub returns-in-Some-clause-value : goal.returns-in-Some-clause-value
returns-in-Some-clause-value c =
    let number = number_is c.self.inside c.self.invariant c.args.self.now c.self.view_is c.args.name.now c.in-Some.place (sym c.in-Some.ensures) in
    let is : c.new.result ≡ get_or c.self.inside.numbers.items c.in-Some.place 0 =
    c.new.ensures ∙ c.index.ensures ∙ get_or_default c.self.inside.numbers.items c.in-Some.place c.index.result.now 0 number.0
    in
    ap Some is ∙ number.1

pub returns-in-None-clause-value : goal.returns-in-None-clause-value
returns-in-None-clause-value c = no_number c.self.inside c.self.invariant c.args.self.now c.self.view_is c.args.name.now (sym c.in-None.ensures)

pub returns-in-Some-clause-of_table : goal.returns-in-Some-clause-of_table
returns-in-Some-clause-of_table c =
    let number = number_is c.self.inside c.self.invariant c.args.self.now c.self.view_is c.args.name.now c.in-Some.place (sym c.in-Some.ensures) in
    let is : c.new.result ≡ get_or c.self.inside.numbers.items c.in-Some.place 0 =
    c.new.ensures ∙ c.index.ensures ∙ get_or_default c.self.inside.numbers.items c.in-Some.place c.index.result.now 0 number.0
    in
    subst (λ (n : ℕ). n < size c.args.self.now) (sym is) (id_of-Some c.args.self.now c.args.name.now (get_or c.self.inside.numbers.items c.in-Some.place 0) (sym number.1)).0
