use Rattle.std.proofs.Common.{◌≡◌, ◌<◌, ℕ, List, length, get_or, sym, ◌∙◌, ap, subst, arith}
use Rattle.jc_facts.specs.declared.class_facts.ClassFacts.{ClassFacts}
use Rattle.jc_facts.specs.world.World.{classes}
use Rattle.jc_index.specs.steps.Order.{AreNumbers}
use Rattle.jc_index.proofs.Numbers.{names_of-length}
use Rattle.jc_index.proofs.Places.{order_length}
use Rattle.jc_index.proofs.Standing.{order-apart, are_numbers, lent_back}
use Rattle.jc_index.proofs.order.numbers.Goals as goal

pub note_numbers-requires-clause-within : goal.note_numbers-requires-clause-within
note_numbers-requires-clause-within c = λ k d l.
    let cs : List ClassFacts = classes c.args.side.now in
    subst (λ (n : ℕ). get_or c.args.order.now k d < n)
    (sym (ap length c.deref_mut.ensures.value ∙ c.in_ok-numbers.ensures ∙ order_length cs c.args.order.now c.requires.order ∙ names_of-length cs))
    (c.requires.order.within k d l)

pub note_numbers-requires-clause-few : goal.note_numbers-requires-clause-few
note_numbers-requires-clause-few c =
    let many = order_length (classes c.args.side.now) c.args.order.now c.requires.order in
    let all = names_of-length (classes c.args.side.now) in
    omega (arith, c.count-few.ensures.count, c.count-few.ensures.few)

pub note_numbers-requires-clause-apart : goal.note_numbers-requires-clause-apart
note_numbers-requires-clause-apart c = order-apart (classes c.args.side.now) c.args.order.now c.requires.differ c.requires.order

pub returns : goal.returns
returns c =
    let cs : List ClassFacts = classes c.args.side.now in
    let same : length c.note_numbers.new.numbers ≡ length c.in_ok-numbers.numbers.items = c.note_numbers.ensures.count ∙ ap length c.deref_mut.ensures.value in
    subst (AreNumbers cs) (sym (lent_back c.in_ok-numbers.numbers.len c.note_numbers.new.numbers c.in_ok-numbers.numbers.items same c.in_ok-numbers.numbers.ok.0))
    (are_numbers cs c.args.order.now c.note_numbers.new.numbers c.requires.differ c.requires.order (same ∙ c.in_ok-numbers.ensures) c.note_numbers.ensures.each)
