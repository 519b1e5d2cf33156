-- Bytes that are written in steps.
use Rattle.std.proofs.Common.{◌≡◌, ◌≤◌, ◌-◌, true, false, ℕ, List, [], ◌++◌, length, take, drop, Option, Some, None, sym, ap, subst, ◌∙◌, arith, length-append, append_assoc, append-nil, take-append-drop}
use Rattle.std.specs.Io.KnownBytes.{Appends, Keeps}
use Rattle.std.proofs.KnownBytes.{Appends-trans, Appends-kept}
use Rattle.std.proofs.lemmas.List.{take_rest, take-append-le, take_all}
use Rattle.jcompat.specs.steps.Written.{IsWrittenSo}

-- ---- on the way

-- what is gone from the bytes was appended
pub record HasWritten (old now : Option (List ℕ)) (bytes rest : List ℕ) : Type 0 where
  pub done : List ℕ
  pub split : bytes ≡ done ++ rest
  pub appended : Appends old now done

take_front : (done rest : List ℕ) → take (length done) (done ++ rest) ≡ done
take_front done rest = take-append-le (length done) done rest (omega arith) ∙ take_all (length done) done (omega arith)

-- a step took so many
pub goes_on : (old now next : Option (List ℕ)) (bytes rest : List ℕ) (n : ℕ) → HasWritten old now bytes rest → Appends now next (take n rest) → HasWritten old next bytes (take (length rest - n) (drop n rest))
goes_on old now next bytes rest n h a = record {
  done = h.done ++ take n rest;
  split = h.split ∙ ap (λ l. h.done ++ l) (sym (take-append-drop n rest)) ∙ sym (append_assoc h.done (take n rest) (drop n rest)) ∙ ap (λ l. (h.done ++ take n rest) ++ l) (sym (take_rest rest n));
  appended = Appends-trans old now next h.done (take n rest) h.appended a;
}

-- it stopped, and the writer kept what it had
pub stops : (old now next : Option (List ℕ)) (bytes rest : List ℕ) → HasWritten old now bytes rest → Keeps now next → IsWrittenSo old next bytes false
stops old now next bytes rest h k = record {
  count = length h.done;
  within = subst (λ l. length h.done ≤ length l) (sym h.split) (omega (arith, length-append h.done rest));
  front = subst (λ l. Appends old next (take (length h.done) l)) (sym h.split) (subst (Appends old next) (sym (take_front h.done rest)) (Appends-kept old now next h.done h.appended k));
  all = λ e. absurd (let z : false ≡ true = e in cc);
}

-- a step took nothing
pub stops_short : (old now next : Option (List ℕ)) (bytes rest : List ℕ) (n : ℕ) → n ≡ 0 → HasWritten old now bytes rest → Appends now next (take n rest) → IsWrittenSo old next bytes false
stops_short old now next bytes rest n e h a = stops old now next bytes rest h (kept now next (subst (λ k. Appends now next (take k rest)) e a))
  where
    kept : (x y : Option (List ℕ)) → Appends x y [] → Keeps x y
    kept None y p = tt
    kept (Some x) None p = absurd p
    kept (Some x) (Some y) p = p ∙ append-nil x
