use Rattle.std.proofs.Common.{◌≡◌, ℕ, List, [], ◌∷◌, Option, Some, None, refl}
use Rattle.std.specs.Prelude.{is_some, nat_eq}
use Rattle.jc_gate.specs.Seen.{seen, informed_by}
use Rattle.jc_gate.proofs.calls.Calls.new.Goals as goal

-- rules make no difference
unseen : (state : ℕ) (rules : List ℕ) → seen (λ s r. s) state rules ≡ state
unseen state [] = refl
unseen state (r ∷ rs) = unseen state rs

pub returns-clause-gate : goal.returns-clause-gate
returns-clause-gate c = record { named = refl; passes = by }
  where
    by : (told : Option ℕ) (rules : List ℕ) → nat_eq (seen (λ s r. s) (informed_by (λ s n. 1) 0 told) rules) 1 ≡ is_some told
    by None rules = rw (unseen 0 rules) refl
    by (Some n) rules = rw (unseen 1 rules) refl
