-- The JSON of what is said of clients, with the lines of a check that explain it, has no float.
use Rattle.std.proofs.Common.{◌≡◌, ℕ, false, List, Option, Some, None, Ordering, Less, Equal, Greater, refl}
use Rattle.std.proofs.lemmas.Bool.{or_parts, or_from}
use Rattle.std.specs.List.{zip}
use Rattle.std.specs.Prelude.{codes}
use Rattle.std.specs.Ordering.{nat_cmp, match_ordering}
use Rattle.std.specs.Cmp.Lexicographic.{slice_cmp}
use Rattle.serde_json.specs.Data.{Data, null, boolean, number, string, array, object, Members, no_members, member, put}
use Rattle.serde_json.specs.Written.{has_float, members_have_float}
use Rattle.jc_facts.specs.declared.finding.Finding.{Finding}
use Rattle.jc_facts.specs.declared.outcome.Outcome.{Outcome}
use Rattle.jc_facts.specs.Names.{Bytes}
use Rattle.jc_answers.specs.ClientsJson.{counted}
use Rattle.jc_answers.specs.Used.{UsedOf, used_from}
use Rattle.jc_answers.specs.UsedJson.{with_member, number_or_null, loss_json, explained_json, explained_client_json, used_line_json, used_json}
use Rattle.jc_answers.specs.declared.answer.Answer.{Answer}
use Rattle.jc_answers.specs.declared.answer.Answer.TheVariants as answers
use Rattle.jc_answers.proofs.Plain.{client_plain}
use Rattle.jc_report.specs.Json.{finding_json}
use Rattle.jc_report.specs.OutcomeJson.{outcome_json}
use Rattle.jc_report.proofs.Floats.{each_plain, finding_plain}
use Rattle.jc_report.proofs.Outcomes.{outcome_plain}

one_of : (o : Ordering) (a b c : Members) → members_have_float a ≡ false → members_have_float b ≡ false → members_have_float c ≡ false → members_have_float (match_ordering o a b c) ≡ false
one_of Less a b c x y z = x
one_of Equal a b c x y z = y
one_of Greater a b c x y z = z

put_plain : (k : Bytes) (d : Data) (ms : Members) → has_float d ≡ false → members_have_float ms ≡ false → members_have_float (put k d ms) ≡ false
put_plain k d no_members x y = or_from _ _ x refl
put_plain k d (member l e ms) x y =
    let parts = or_parts (has_float e) (members_have_float ms) y in
    one_of (slice_cmp nat_cmp k l) (member k d (member l e ms)) (member l d ms) (member l e (put k d ms)) (or_from _ _ x y) (or_from _ _ x parts.1)
    (or_from _ _ parts.0 (put_plain k d ms x parts.1))

with_plain : (k : Bytes) (d e : Data) → has_float d ≡ false → has_float e ≡ false → has_float (with_member k d e) ≡ false
with_plain k d null x y = refl
with_plain k d (boolean b) x y = refl
with_plain k d (number n) x y = y
with_plain k d (string s) x y = refl
with_plain k d (array ds) x y = y
with_plain k d (object ms) x y = put_plain k d ms x y

number_plain : (n : Option ℕ) → has_float (number_or_null n) ≡ false
number_plain None = refl
number_plain (Some n) = refl

loss_plain : (p : Outcome × Option ℕ) (n : ℕ) → has_float (loss_json p n) ≡ false
loss_plain p n = with_plain (codes "explained") (number_or_null p.1) (outcome_json p.0) (number_plain p.1) (outcome_plain p.0)

answer_plain : (a : Answer) (numbers : List (Option ℕ)) (n : ℕ) → has_float (explained_json a numbers n) ≡ false
answer_plain (answers.Judged losses) numbers n = rw (each_plain loss_json loss_plain 0 (zip losses.lost numbers)) refl
answer_plain (answers.Refused stop) numbers n = client_plain (answers.Refused stop) n

pub explained_plain : (p : Answer × List (Option ℕ)) (n : ℕ) → has_float (explained_client_json p n) ≡ false
explained_plain p n = answer_plain p.0 p.1 n

line_plain : (u : UsedOf) (n : ℕ) → has_float (used_line_json u n) ≡ false
line_plain u n = with_plain (codes "clients") (counted u.clients) (finding_json u.number u.finding) refl (finding_plain u.number u.finding)

pub used_plain : (all : List Answer) (explained : List (List (Option ℕ))) (entries : List Finding) → has_float (used_json all explained entries) ≡ false
used_plain all explained entries =
    rw (each_plain explained_client_json explained_plain 1 (zip all explained), each_plain used_line_json line_plain 0 (used_from explained 1 entries)) refl
