use Rattle.std.proofs.Common.{◌≡◌, Bool, ◌||◌, sym, ◌∙◌, ap}
use Rattle.std.specs.List.{list_any}
use Rattle.std.proofs.lemmas.Bool.{or_left}
use Rattle.jc_facts.specs.Options.{some_and}
use Rattle.jc_facts.specs.world.Hierarchy.{each, with_interfaces}
use Rattle.jc_index.specs.Ids.{name_at}
use Rattle.jc_acts.specs.Touched.{flag_at}
use Rattle.jc_acts.proofs.SetAbove.{at_number, flag_of, led_flags}
use Rattle.jc_acts.proofs.touched.is_set_at.Goals as goal

pub returns-then-flags-number : goal.returns-then-flags-number
returns-then-flags-number c = λ p are.
    let t = at_number c.args.table.now c.args.id c.requires.class in
    let here : flag_at c.args.flags.now c.number.result ≡ p t.facts.name = ap (flag_at c.args.flags.now) c.number.ensures ∙ flag_of c.args.table.now p c.args.flags.now are c.args.id c.requires.class t.facts (sym t.found) in
    c.if-flags-number.true ∙ sym (or_left (p t.facts.name) (list_any (λ e. p e.name) (each (with_interfaces c.args.table.now) t.facts.interfaces)) (sym here ∙ c.if-flags-number.true))
    ∙ sym (ap (some_and (λ d. p d.name || list_any (λ e. p e.name) (each (with_interfaces c.args.table.now) d.interfaces))) t.found)

pub returns-else-flags-number : goal.returns-else-flags-number
returns-else-flags-number c = λ p are.
    let t = at_number c.args.table.now c.args.id c.requires.class in
    let here : flag_at c.args.flags.now c.number.result ≡ p t.facts.name = ap (flag_at c.args.flags.now) c.number.ensures ∙ flag_of c.args.table.now p c.args.flags.now are c.args.id c.requires.class t.facts (sym t.found) in
    c.is_any_set.ensures ∙ led_flags c.args.table.now p c.args.flags.now are (name_at c.args.table.now c.args.id) t.facts t.found c.interfaces.result.now c.interfaces.ensures
    ∙ ap (λ (b : Bool). b || list_any (λ e. p e.name) (each (with_interfaces c.args.table.now) t.facts.interfaces)) (sym c.if-flags-number.false ∙ here)
    ∙ sym (ap (some_and (λ d. p d.name || list_any (λ e. p e.name) (each (with_interfaces c.args.table.now) d.interfaces))) t.found)
