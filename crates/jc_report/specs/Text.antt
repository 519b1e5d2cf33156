-- The printed forms of names and verdicts, as bytes.
use Rattle.std.specs.Prelude.{ℕ, Bool, List, [], ◌∷◌, ◌++◌, ◌+◌, ◌/◌, ◌%◌, ◌==◌, ◌&&◌, nat_le, nat_lt, length, Option, Some, None, codes, if◌then◌else◌}
use Rattle.std.specs.List.{flat_map}
use Rattle.std.specs.Fmt.{decimal}
use Rattle.jc_facts.specs.declared.rule_numbers.TheConstants.{CONSTANT_ADDED, CAPTURE_ADDED, FINAL_ADDED}
use Rattle.jc_facts.specs.declared.key.Key.{Key}
use Rattle.jc_facts.specs.declared.act.Act.{Act}
use Rattle.jc_facts.specs.declared.act.Act.TheVariants as acts
use Rattle.jc_facts.specs.declared.link_error.LinkError.{LinkError}
use Rattle.jc_facts.specs.declared.link_error.LinkError.TheVariants as errors
use Rattle.jc_facts.specs.declared.finding.Finding.{Finding}
use Rattle.jc_facts.specs.declared.verdict.Collision.{Collision}
use Rattle.jc_facts.specs.declared.verdict.Note.{Note}
use Rattle.jc_facts.specs.declared.verdict.Note.TheVariants as notes
use Rattle.jc_facts.specs.declared.verdict.Verdict.{Verdict}
use Rattle.jc_facts.specs.Names.{Bytes, is_descriptor_of_method}

-- a lower-case hexadecimal digit
abbrev pub hex_digit_of : ℕ → ℕ
hex_digit_of d = if nat_lt d 10 then 48 + d else 87 + d

-- a byte from 0x21 to 0x7e is printed as itself, a backslash doubled, any other as \xNN
abbrev pub printed_byte : ℕ → Bytes
printed_byte b =
    if b == 0x5c then 0x5c ∷ 0x5c ∷ []
    else if nat_le 0x21 b && nat_le b 0x7e then b ∷ []
    else 0x5c ∷ 0x78 ∷ hex_digit_of (b / 16) ∷ hex_digit_of (b % 16) ∷ []

-- a name or a word, printed byte by byte
abbrev pub printed : Bytes → Bytes
printed = flat_map printed_byte

-- the printed name of a rule, by its number
abbrev pub rule_name : ℕ → Bytes
rule_name rule =
    if rule == CONSTANT_ADDED then codes "Constant"
    else if rule == CAPTURE_ADDED then codes "Capture"
    else if rule == FINAL_ADDED then codes "Final"
    else codes "H" ++ decimal rule

abbrev pub word_of_act : Act → Bytes
word_of_act acts.ClassRef = codes "class"
word_of_act acts.Extend = codes "extend"
word_of_act acts.Implement = codes "implement"
word_of_act acts.Assignment = codes "assign"
word_of_act acts.NewObject = codes "new"
word_of_act acts.InitSuper = codes "init"
word_of_act acts.Override = codes "override"
word_of_act acts.GetStatic = codes "getstatic"
word_of_act acts.PutStatic = codes "putstatic"
word_of_act acts.GetField = codes "getfield"
word_of_act acts.PutField = codes "putfield"
word_of_act acts.InvokeVirtual = codes "invokevirtual"
word_of_act acts.InvokeStatic = codes "invokestatic"
word_of_act acts.InvokeInterface = codes "invokeinterface"
word_of_act acts.InvokeStaticInterface = codes "invokestatic-interface"
word_of_act acts.InvokeSpecial = codes "invokespecial"
word_of_act acts.InvokeSpecialInterface = codes "invokespecial-interface"
word_of_act acts.Inherit = codes "inherit"

abbrev pub name_of_error : LinkError → Bytes
name_of_error errors.NoClassDefFoundError = codes "NoClassDefFoundError"
name_of_error errors.ClassCircularityError = codes "ClassCircularityError"
name_of_error errors.IllegalAccessError = codes "IllegalAccessError"
name_of_error errors.IncompatibleClassChangeError = codes "IncompatibleClassChangeError"
name_of_error errors.NoSuchFieldError = codes "NoSuchFieldError"
name_of_error errors.NoSuchMethodError = codes "NoSuchMethodError"
name_of_error errors.InstantiationError = codes "InstantiationError"
name_of_error errors.VerifyError = codes "VerifyError"

-- a method's key is its name and descriptor written together; a field's has a colon between them
abbrev pub printed_key : Key → Bytes
printed_key k =
    if is_descriptor_of_method k.descriptor then printed k.name ++ printed k.descriptor
    else printed k.name ++ codes ":" ++ printed k.descriptor

-- a name, or - where there is none
abbrev pub printed_name : Option Bytes → Bytes
printed_name None = codes "-"
printed_name (Some x) = printed x

-- the member of a finding: its key, or else its target
abbrev pub printed_member : Option Key → Option Bytes → Bytes
printed_member None target = printed_name target
printed_member (Some k) target = printed_key k

-- the line of a finding: number, rule, class, member, act, seat and error, with single spaces
unfoldable pub line_of_finding : ℕ → Finding → Bytes
line_of_finding number f =
    decimal number ++ codes " " ++ rule_name f.rule ++ codes " " ++ printed f.class ++ codes " " ++ printed_member f.key f.target ++ codes " "
    ++ word_of_act f.act ++ codes " " ++ printed_name f.seat ++ codes " " ++ name_of_error f.error ++ codes "\n"

-- the lines of findings, numbered from a first number on
abbrev pub lines_of_findings : ℕ → List Finding → Bytes
lines_of_findings number [] = []
lines_of_findings number (f ∷ fs) = line_of_finding number f ++ lines_of_findings (number + 1) fs

-- ---- verdicts

-- the line of a collision: number, rule, class, member, act, no seat, and error, with single spaces
unfoldable pub line_of_collision : ℕ → Collision → Bytes
line_of_collision number c =
    decimal number ++ codes " " ++ rule_name c.rule ++ codes " " ++ printed c.class ++ codes " " ++ printed_key c.key ++ codes " "
    ++ word_of_act c.act ++ codes " - " ++ name_of_error c.error ++ codes "\n"

-- the lines of collisions, numbered from a first number on
abbrev pub lines_of_collisions : ℕ → List Collision → Bytes
lines_of_collisions number [] = []
lines_of_collisions number (c ∷ cs) = line_of_collision number c ++ lines_of_collisions (number + 1) cs

-- a release
abbrev pub word_of_side : Bool → Bytes
word_of_side old = if old then codes "old" else codes "new"

-- the line of a note: a class of a release that doesn't load, with its load fault, or a constant that has changed
unfoldable pub line_of_note : Note → Bytes
line_of_note (notes.Unloadable old x e) = codes "note unloadable " ++ word_of_side old ++ codes " " ++ printed x ++ codes " " ++ name_of_error e ++ codes "\n"
line_of_note (notes.Fixed x k) = codes "note constant " ++ printed x ++ codes " " ++ printed_key k ++ codes "\n"

-- the lines of notes
abbrev pub lines_of_notes : List Note → Bytes
lines_of_notes [] = []
lines_of_notes (n ∷ ns) = line_of_note n ++ lines_of_notes ns

-- incompatible exactly where there is a finding
abbrev pub verdict_word : List Finding → Bytes
verdict_word [] = codes "compatible"
verdict_word (f ∷ fs) = codes "incompatible"

-- the last line: the word, and how many findings, collisions and notes there are
abbrev pub last_line_of : Verdict → Bytes
last_line_of v =
    verdict_word v.findings ++ codes ": " ++ decimal (length v.findings) ++ codes " findings, " ++ decimal (length v.collisions) ++ codes " collisions, "
    ++ decimal (length v.notes) ++ codes " notes\n"

-- the text of a verdict: a line for each finding, then for each collision, with numbers that go on, then for each note, and the last line
unfoldable pub text_of : Verdict → Bytes
text_of v = lines_of_findings 1 v.findings ++ lines_of_collisions (length v.findings + 1) v.collisions ++ lines_of_notes v.notes ++ last_line_of v
