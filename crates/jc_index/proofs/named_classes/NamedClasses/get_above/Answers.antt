use Rattle.std.proofs.Common.{◌≡◌, ◌<◌, ℕ, Some, length, get_or, arith, ◌∙◌, sym, ap}
use Rattle.std.proofs.lemmas.List.{get_or_default}
use Rattle.jc_index.proofs.Indexed.{count_is, number_is, no_number, above_there}
use Rattle.jc_index.proofs.named_classes.NamedClasses.get_above.Goals as goal

pub index-requires : goal.index-requires
index-requires c = let many = count_is c.self.inside c.self.invariant c.args.self.now c.self.view_is in omega arith

pub place_above-requires : goal.place_above-requires
place_above-requires c =
    above_there c.self.inside c.self.invariant c.args.self.now c.self.view_is c.args.id c.args.at c.index.result.now c.args.name.now c.requires.inside
    (c.index.ensures ∙ ap (λ (k : ℕ). get_or c.self.inside.order.items k c.index.result.now) c.number.ensures) c.requires.named

pub index-requires-in-Some : goal.index-requires-in-Some
index-requires-in-Some c =
    let l : c.in-Some.place < length c.self.inside.numbers.items =
    (number_is c.self.inside c.self.invariant c.args.self.now c.self.view_is c.args.name.now c.in-Some.place (sym c.in-Some.ensures)).0
    in
    omega (arith, c.self.inside.numbers.ok.0)

pub returns-in-Some : goal.returns-in-Some
returns-in-Some c =
    let number = number_is c.self.inside c.self.invariant c.args.self.now c.self.view_is c.args.name.now c.in-Some.place (sym c.in-Some.ensures) in
    let is : c.new.result ≡ get_or c.self.inside.numbers.items c.in-Some.place 0 =
    c.new.ensures ∙ c.index-in-Some.ensures ∙ get_or_default c.self.inside.numbers.items c.in-Some.place c.index-in-Some.result.now 0 number.0
    in
    ap Some is ∙ number.1

pub returns-in-None : goal.returns-in-None
returns-in-None c = no_number c.self.inside c.self.invariant c.args.self.now c.self.view_is c.args.name.now (sym c.in-None.ensures)
