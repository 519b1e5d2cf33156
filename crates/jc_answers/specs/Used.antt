-- Which lines of a check explain what clients lose.
--     clients_by explained n      how many clients lose something that the line of this number explains
--     used_from explained n entries      the lines of these entries, numbered from n on, that explain a loss
use Rattle.std.specs.Prelude.{ℕ, ◌+◌, ◌==◌, cond, List, [], ◌∷◌, ◌++◌, count_by, Option}
use Rattle.std.specs.List.{list_any}
use Rattle.jc_facts.specs.declared.finding.Finding.{Finding}
use Rattle.jc_used.specs.Explains.{is_number}

-- a line, as it is numbered, and how many clients it breaks. A collision is here the finding that is printed as it is
pub record UsedOf : Type 0 where
  pub number : ℕ
  pub clients : ℕ
  pub finding : Finding

abbrev pub clients_by : List (List (Option ℕ)) → ℕ → ℕ
clients_by explained n = count_by (list_any (is_number n)) explained

-- the line, where it breaks a client
abbrev pub used_where : ℕ → ℕ → Finding → List UsedOf
used_where n clients f = cond (clients == 0) [] (record { number = n; clients = clients; finding = f } ∷ [])

abbrev pub used_from : List (List (Option ℕ)) → ℕ → List Finding → List UsedOf
used_from explained n [] = []
used_from explained n (f ∷ fs) = used_where n (clients_by explained n) f ++ used_from explained (n + 1) fs
