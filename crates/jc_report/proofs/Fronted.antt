-- The text of a verdict with a front before each line.
--     fronted_is      line by line, it is the text with the front before each of its lines
use Rattle.std.proofs.Common.{◌≡◌, ◌+◌, ◌/◌, ◌%◌, ◌==◌, ◌&&◌, Bool, true, false, not, ℕ, zero, suc, nat_lt, nat_le, List, [], ◌∷◌, ◌++◌, Option, Some, None, length, refl, sym, ap, subst, ◌∙◌, append_assoc, arith}
use Rattle.std.specs.Prelude.{codes, if◌then◌else◌}
use Rattle.std.specs.Fmt.{decimal, digits, digits_onto, digit_glyph}
use Rattle.std.specs.List.{list_all}
use Rattle.std.proofs.lemmas.List.Folds.{list_all-append}
use Rattle.jc_facts.specs.declared.act.Act.{Act}
use Rattle.jc_facts.specs.declared.act.Act.TheVariants as acts
use Rattle.jc_facts.specs.declared.key.Key.{Key}
use Rattle.jc_facts.specs.declared.link_error.LinkError.{LinkError}
use Rattle.jc_facts.specs.declared.link_error.LinkError.TheVariants as errors
use Rattle.jc_facts.specs.declared.finding.Finding.{Finding}
use Rattle.jc_facts.specs.declared.verdict.Collision.{Collision}
use Rattle.jc_facts.specs.declared.verdict.Note.{Note}
use Rattle.jc_facts.specs.declared.verdict.Note.TheVariants as note
use Rattle.jc_facts.specs.declared.verdict.Verdict.{Verdict}
use Rattle.jc_facts.specs.Names.{Bytes, is_descriptor_of_method}
use Rattle.jc_report.specs.Text.{hex_digit_of, printed_byte, printed, rule_name, word_of_act, name_of_error, printed_key, printed_name, printed_member, line_of_finding, line_of_collision, word_of_side, line_of_note, verdict_word, last_line_of, text_of}
use Rattle.jc_report.specs.HistoryText.{with_front}
use Rattle.jc_report.specs.Listing.{lines_from}
use Rattle.jc_report.specs.steps.Fronted.{fronted, fronted_text}
use Rattle.jc_report.proofs.TextPut.{parts}

-- ---- bytes of which none ends a line

abbrev ends_none : Bytes → Bool
ends_none bytes = list_all (λ b. not (b == 0x0a)) bytes

record EndsNone (bytes : Bytes) : Type 0 where
  plain : ends_none bytes ≡ true

both : {a b : Bytes} → EndsNone a → EndsNone b → EndsNone (a ++ b)
both {a} {b} h k = record { plain = list_all-append (λ c. not (c == 0x0a)) a b ∙ rw (h.plain, k.plain) refl }

text : {a : Bytes} → ends_none a ≡ true → EndsNone a
text e = record { plain = e }

glyph : (d : ℕ) → not (digit_glyph false d == 0x0a) ≡ true
glyph d = by (nat_lt d 10)
  where
    by : (b : Bool) → not ((if b then 48 + d else (if false then 55 + d else 87 + d)) == 0x0a) ≡ true
    by true = grind arith
    by false = grind arith

onto : (k n : ℕ) (acc : Bytes) → ends_none acc ≡ true → ends_none (digits_onto k 10 false n acc) ≡ true
onto zero n acc h = h
onto (suc k) n acc h = by (n / 10 == 0) (onto k (n / 10) (digit_glyph false (n % 10) ∷ acc) more)
  where
    more : ends_none (digit_glyph false (n % 10) ∷ acc) ≡ true
    more = rw (glyph (n % 10), h) refl

    by : (b : Bool) → ends_none (digits_onto k 10 false (n / 10) (digit_glyph false (n % 10) ∷ acc)) ≡ true
        → ends_none (if b then digit_glyph false (n % 10) ∷ acc else digits_onto k 10 false (n / 10) (digit_glyph false (n % 10) ∷ acc)) ≡ true
    by true e = more
    by false e = e

digits_end_none : (n : ℕ) → ends_none (decimal n) ≡ true
unfolding digits
digits_end_none n = onto 64 n [] refl

number : (n : ℕ) → EndsNone (decimal n)
number n = text (digits_end_none n)

hex : (d : ℕ) → not (hex_digit_of d == 0x0a) ≡ true
hex d = by (nat_lt d 10)
  where
    by : (b : Bool) → not ((if b then 48 + d else 87 + d) == 0x0a) ≡ true
    by true = grind arith
    by false = grind arith

one_byte : (b : ℕ) → ends_none (printed_byte b) ≡ true
one_byte b = by (b == 0x5c) (nat_le 0x21 b) refl (nat_le b 0x7e)
  where
    by : (x y : Bool) → nat_le 0x21 b ≡ y → (z : Bool)
        → ends_none (if x then 0x5c ∷ 0x5c ∷ [] else if y && z then b ∷ [] else 0x5c ∷ 0x78 ∷ hex_digit_of (b / 16) ∷ hex_digit_of (b % 16) ∷ []) ≡ true
    by true y e z = refl
    by false true e true = let above : not (b == 0x0a) ≡ true = grind (arith, e) in rw above refl
    by false true e false = rw (hex (b / 16), hex (b % 16)) refl
    by false false e z = rw (hex (b / 16), hex (b % 16)) refl

bytes : (xs : Bytes) → EndsNone (printed xs)
bytes [] = text refl
bytes (b ∷ bs) = both {a = printed_byte b} {b = printed bs} (text (one_byte b)) (bytes bs)

rule : (n : ℕ) → EndsNone (rule_name n)
rule n = by (n == 10) (n == 11) (n == 12)
  where
    by : (x y z : Bool) → EndsNone (if x then codes "Constant" else if y then codes "Capture" else if z then codes "Final" else codes "H" ++ decimal n)
    by true y z = text refl
    by false true z = text refl
    by false false true = text refl
    by false false false = both {a = codes "H"} (text refl) (number n)

act_ends_none : (a : Act) → ends_none (word_of_act a) ≡ true
act_ends_none acts.ClassRef = refl
act_ends_none acts.Extend = refl
act_ends_none acts.Implement = refl
act_ends_none acts.Assignment = refl
act_ends_none acts.NewObject = refl
act_ends_none acts.InitSuper = refl
act_ends_none acts.Override = refl
act_ends_none acts.GetStatic = refl
act_ends_none acts.PutStatic = refl
act_ends_none acts.GetField = refl
act_ends_none acts.PutField = refl
act_ends_none acts.InvokeVirtual = refl
act_ends_none acts.InvokeStatic = refl
act_ends_none acts.InvokeInterface = refl
act_ends_none acts.InvokeStaticInterface = refl
act_ends_none acts.InvokeSpecial = refl
act_ends_none acts.InvokeSpecialInterface = refl
act_ends_none acts.Inherit = refl

error_ends_none : (e : LinkError) → ends_none (name_of_error e) ≡ true
error_ends_none errors.NoClassDefFoundError = refl
error_ends_none errors.ClassCircularityError = refl
error_ends_none errors.IllegalAccessError = refl
error_ends_none errors.IncompatibleClassChangeError = refl
error_ends_none errors.NoSuchFieldError = refl
error_ends_none errors.NoSuchMethodError = refl
error_ends_none errors.InstantiationError = refl
error_ends_none errors.VerifyError = refl

act : (a : Act) → EndsNone (word_of_act a)
act a = text (act_ends_none a)

error : (e : LinkError) → EndsNone (name_of_error e)
error e = text (error_ends_none e)

key : (k : Key) → EndsNone (printed_key k)
key k = by (is_descriptor_of_method k.descriptor)
  where
    by : (b : Bool) → EndsNone (if b then printed k.name ++ printed k.descriptor else printed k.name ++ codes ":" ++ printed k.descriptor)
    by true = both (bytes k.name) (bytes k.descriptor)
    by false = both (both {b = codes ":"} (bytes k.name) (text refl)) (bytes k.descriptor)

name : (x : Option Bytes) → EndsNone (printed_name x)
name None = text refl
name (Some x) = bytes x

member : (k : Option Key) (t : Option Bytes) → EndsNone (printed_member k t)
member None t = name t
member (Some k) t = key k

side : (old : Bool) → EndsNone (word_of_side old)
side true = text refl
side false = text refl

word : (fs : List Finding) → EndsNone (verdict_word fs)
word [] = text refl
word (f ∷ fs) = text refl

-- ---- lines

-- one line, which ends where it ends
record IsLine (line : Bytes) : Type 0 where
  words : Bytes
  plain : EndsNone words
  whole : line ≡ words ++ 0x0a ∷ []

-- one more word, with a space before it
then_word : {front next : Bytes} → EndsNone front → EndsNone next → EndsNone (front ++ codes " " ++ next)
then_word {front} {next} h k = both {a = front ++ codes " "} (both {b = codes " "} h (text refl)) k

finding_words : (f : Finding) (n : ℕ) → EndsNone (decimal n ++ codes " " ++ rule_name f.rule ++ codes " " ++ printed f.class ++ codes " " ++ printed_member f.key f.target ++ codes " "
    ++ word_of_act f.act ++ codes " " ++ printed_name f.seat ++ codes " " ++ name_of_error f.error)
finding_words f n =
    then_word (then_word (then_word (then_word (then_word (then_word (number n) (rule f.rule)) (bytes f.class)) (member f.key f.target)) (act f.act)) (name f.seat)) (error f.error)

finding_line : (f : Finding) (n : ℕ) → IsLine (line_of_finding n f)
unfolding line_of_finding
finding_line f n = record { words = _; plain = finding_words f n; whole = refl }

collision_words : (c : Collision) (n : ℕ) → EndsNone (decimal n ++ codes " " ++ rule_name c.rule ++ codes " " ++ printed c.class ++ codes " " ++ printed_key c.key ++ codes " "
    ++ word_of_act c.act ++ codes " - " ++ name_of_error c.error)
collision_words c n =
    both (both {b = codes " - "} (then_word (then_word (then_word (then_word (number n) (rule c.rule)) (bytes c.class)) (key c.key)) (act c.act)) (text refl)) (error c.error)

collision_line : (c : Collision) (n : ℕ) → IsLine (line_of_collision n c)
unfolding line_of_collision
collision_line c n = record { words = _; plain = collision_words c n; whole = refl }

unloadable_words : (old : Bool) (x : Bytes) (e : LinkError) → EndsNone (codes "note unloadable " ++ word_of_side old ++ codes " " ++ printed x ++ codes " " ++ name_of_error e)
unloadable_words old x e = then_word (then_word (both {a = codes "note unloadable "} (text refl) (side old)) (bytes x)) (error e)

fixed_words : (x : Bytes) (k : Key) → EndsNone (codes "note constant " ++ printed x ++ codes " " ++ printed_key k)
fixed_words x k = then_word (both {a = codes "note constant "} (text refl) (bytes x)) (key k)

note_line : (x : Note) (n : ℕ) → IsLine (line_of_note x)
unfolding line_of_note
note_line (note.Unloadable old x e) n = record { words = _; plain = unloadable_words old x e; whole = refl }
note_line (note.Fixed x k) n = record { words = _; plain = fixed_words x k; whole = refl }

-- a number with what stands before it
then_number : {front : Bytes} (between : Bytes) (n : ℕ) → EndsNone front → ends_none between ≡ true → EndsNone (front ++ between ++ decimal n)
then_number {front} between n h e = both {a = front ++ between} (both h (text e)) (number n)

last_line : (v : Verdict) → IsLine (last_line_of v)
last_line v = record {
  words = counts ++ codes " notes";
  plain = both {a = counts} {b = codes " notes"} counted (text refl);
  whole = sym (append_assoc counts (codes " notes") (0x0a ∷ []));
}
  where
    counts : Bytes
    counts = verdict_word v.findings ++ codes ": " ++ decimal (length v.findings) ++ codes " findings, " ++ decimal (length v.collisions) ++ codes " collisions, " ++ decimal (length v.notes)

    counted : EndsNone counts
    counted =
        then_number (codes " collisions, ") (length v.notes)
        (then_number (codes " findings, ") (length v.collisions) (then_number (codes ": ") (length v.findings) (word v.findings) refl) refl) refl

-- ---- the front before each line

module _ (front : Bytes) where
  -- within a line there is none
  inside : (ws rest : Bytes) → ends_none ws ≡ true → with_front front false (ws ++ rest) ≡ ws ++ with_front front false rest
  inside [] rest h = refl
  inside (b ∷ bs) rest h = ap (λ (t : Bytes). b ∷ t) (by (b == 0x0a) refl (inside bs rest) h)
    where
      by : (x : Bool) → (b == 0x0a) ≡ x → (ends_none bs ≡ true → with_front front false (bs ++ rest) ≡ bs ++ with_front front false rest)
          → (not (b == 0x0a) && ends_none bs) ≡ true → with_front front (b == 0x0a) (bs ++ rest) ≡ bs ++ with_front front false rest
      by true e k h = absurd (let clash : (not true && ends_none bs) ≡ true = subst (λ (t : Bool). (not t && ends_none bs) ≡ true) e h in cc)
      by false e k h = subst (λ (t : Bool). with_front front t (bs ++ rest) ≡ bs ++ with_front front false rest) (sym e) (k (subst (λ (t : Bool). (not t && ends_none bs) ≡ true) e h))

  -- before a line there is one
  before : (ws rest : Bytes) → ends_none ws ≡ true → with_front front true (ws ++ 0x0a ∷ rest) ≡ front ++ (ws ++ 0x0a ∷ with_front front true rest)
  before [] rest h = refl
  before (b ∷ bs) rest h = ap (λ (t : Bytes). front ++ t) (inside (b ∷ bs) (0x0a ∷ rest) h)

  one_line : (line rest : Bytes) → IsLine line → with_front front true (line ++ rest) ≡ (front ++ line) ++ with_front front true rest
  one_line line rest is =
      ap (λ (t : Bytes). with_front front true (t ++ rest)) is.whole
      ∙ ap (with_front front true) (append_assoc is.words (0x0a ∷ []) rest)
      ∙ before is.words rest is.plain.plain
      ∙ ap (λ (t : Bytes). front ++ t) (sym (append_assoc is.words (0x0a ∷ []) (with_front front true rest)))
      ∙ ap (λ (t : Bytes). front ++ (t ++ with_front front true rest)) (sym is.whole)
      ∙ sym (append_assoc front line (with_front front true rest))

  all_lines : {A : Type 0} (printed : A → ℕ → Bytes) → ((x : A) (n : ℕ) → IsLine (printed x n)) → (n : ℕ) (xs : List A) (rest : Bytes)
      → with_front front true (lines_from printed n xs ++ rest) ≡ lines_from (fronted front printed) n xs ++ with_front front true rest
  all_lines printed are n [] rest = refl
  all_lines printed are n (x ∷ xs) rest =
      ap (with_front front true) (append_assoc (printed x n) (lines_from printed (n + 1) xs) rest)
      ∙ one_line (printed x n) (lines_from printed (n + 1) xs ++ rest) (are x n)
      ∙ ap (λ (t : Bytes). (front ++ printed x n) ++ t) (all_lines printed are (n + 1) xs rest)
      ∙ sym (append_assoc (front ++ printed x n) (lines_from (fronted front printed) (n + 1) xs) (with_front front true rest))

  only_line : (line : Bytes) → IsLine line → with_front front true line ≡ front ++ line
  only_line line is =
      ap (with_front front true) is.whole ∙ before is.words [] is.plain.plain ∙ ap (λ (t : Bytes). front ++ t) (sym is.whole)

  pub fronted_is : (v : Verdict) → with_front front true (text_of v) ≡ fronted_text front v
  unfolding fronted_text
  fronted_is v =
      ap (with_front front true) (parts v)
      ∙ all_lines (λ f n. line_of_finding n f) finding_line 1 v.findings _
      ∙ ap (λ (t : Bytes). lines_from (fronted front (λ f n. line_of_finding n f)) 1 v.findings ++ t)
      (all_lines (λ c n. line_of_collision n c) collision_line (length v.findings + 1) v.collisions _
      ∙ ap (λ (t : Bytes). lines_from (fronted front (λ c n. line_of_collision n c)) (length v.findings + 1) v.collisions ++ t)
      (all_lines (λ x n. line_of_note x) note_line 0 v.notes _
      ∙ ap (λ (t : Bytes). lines_from (fronted front (λ x n. line_of_note x)) 0 v.notes ++ t) (only_line (last_line_of v) (last_line v))))
