use Rattle.std.proofs.Common.{◌≡◌, ◌<◌, ℕ, length, get_or}
use Rattle.jc_index.proofs.order.note_numbers.Given as goal

abbrev pub invariant-loop-n : goal.invariant-loop-n
invariant-loop-n l = (length l.numbers ≡ length l.initial.numbers) × ((k : ℕ) → k < l.n → get_or l.numbers (get_or l.order k 0) 0 ≡ k)
