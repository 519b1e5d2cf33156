-- The words of an outcome, without the line end.
use Rattle.std.proofs.Common.{◌≡◌, ◌<◌, ℕ, true, false, [], ◌∷◌, ◌++◌, length, Option, Some, None, sym, ap, ◌∙◌, arith, rules}
use Rattle.std.specs.Prelude.{◌↔◌, codes, IsSome}
use Rattle.std.specs.Option.{option_to_list}
use Rattle.std.proofs.lemmas.List.{length-append, same_from_push}
use Rattle.jc_facts.specs.declared.outcome.Outcome.{Outcome}
use Rattle.jc_facts.specs.Names.{Bytes}
use Rattle.jc_report.specs.LinkText.{words_of_subject, word_of_outcome, line_of_outcome}

module _ (o : Outcome) where
  abbrev words : Bytes
  words = words_of_subject o.class o.item ++ codes " " ++ word_of_outcome o.error

  line_is : line_of_outcome o ≡ words ++ 10 ∷ []
  unfolding line_of_outcome
  line_is = search rules

  has_end : (line : Bytes) → line ≡ line_of_outcome o → 0 < length line
  has_end line e = omega (arith, ap length (e ∙ line_is), length-append words (10 ∷ []))

  pub without_end : (line front : Bytes) (last : Option ℕ) (n : ℕ) → n ≡ length line → line ≡ line_of_outcome o → line ≡ front ++ option_to_list last → IsSome last ↔ (0 < n) → front ≡ words
  without_end line front (Some x) n is e s v = (same_from_push front words x 10 (sym s ∙ e ∙ line_is)).0
  without_end line front None n is e s v = absurd (let clash : false ≡ true = v.1 (omega (arith, is, has_end line e)) in cc)
