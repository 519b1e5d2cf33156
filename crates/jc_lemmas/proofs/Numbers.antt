-- Numbers, beside the lemmas of std.
use Rattle.std.proofs.Common.{◌≡◌, ℕ, suc, false, nat_eq, arith}
use Rattle.std.proofs.lemmas.Bool.Decides.{nat_tests}

pub suc_zero : (n : ℕ) → nat_eq (suc n) 0 ≡ false
suc_zero n = grind (arith, nat_tests)
