-- The JSON of a verdict has no float.
use Rattle.std.proofs.Common.{◌≡◌, ◌+◌, ℕ, false, List, [], ◌∷◌, Option, Some, None, refl, length}
use Rattle.std.proofs.lemmas.Bool.{or_from}
use Rattle.serde_json.specs.Data.{Data}
use Rattle.serde_json.specs.View.{items_of}
use Rattle.serde_json.specs.Written.{has_float, items_have_float}
use Rattle.jc_facts.specs.declared.key.Key.{Key}
use Rattle.jc_facts.specs.declared.finding.Finding.{Finding}
use Rattle.jc_facts.specs.declared.verdict.Collision.{Collision}
use Rattle.jc_facts.specs.declared.verdict.Note.{Note}
use Rattle.jc_facts.specs.declared.verdict.Note.TheVariants as notes
use Rattle.jc_facts.specs.declared.verdict.Verdict.{Verdict}
use Rattle.jc_facts.specs.Names.{Bytes}
use Rattle.jc_report.specs.Json.{name_or_null, member_or_null, finding_json, collision_json, note_json, verdict_json}
use Rattle.jc_report.specs.Listing.{values_from}

pub name_plain : (x : Option Bytes) → has_float (name_or_null x) ≡ false
name_plain None = refl
name_plain (Some x) = refl

pub member_plain : (k : Option Key) (x : Option Bytes) → has_float (member_or_null k x) ≡ false
member_plain None x = name_plain x
member_plain (Some k) x = refl

pub finding_plain : (n : ℕ) (f : Finding) → has_float (finding_json n f) ≡ false
finding_plain n f = rw (member_plain f.key f.target, name_plain f.seat) refl

collision_plain : (n : ℕ) (c : Collision) → has_float (collision_json n c) ≡ false
collision_plain n c = refl

pub note_plain : (n : Note) → has_float (note_json n) ≡ false
note_plain (notes.Unloadable old x e) = refl
note_plain (notes.Fixed x k) = refl

-- the objects of items
pub each_plain : {A : Type 0} (shaped : A → ℕ → Data) → ((x : A) (n : ℕ) → has_float (shaped x n) ≡ false) → (n : ℕ) (xs : List A) → items_have_float (items_of (values_from shaped n xs)) ≡ false
each_plain shaped h n [] = refl
each_plain shaped h n (x ∷ xs) = or_from _ _ (h x n) (each_plain shaped h (n + 1) xs)

pub verdict_plain : (v : Verdict) → has_float (verdict_json v) ≡ false
verdict_plain v =
    rw (
      each_plain (λ c n. collision_json n c) (λ c n. collision_plain n c) (length v.findings + 1) v.collisions,
      each_plain (λ f n. finding_json n f) (λ f n. finding_plain n f) 1 v.findings,
      each_plain (λ (note : Note) (n : ℕ). note_json note) (λ note n. note_plain note) 0 v.notes,
    )
    refl
