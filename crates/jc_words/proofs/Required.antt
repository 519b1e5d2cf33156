-- Where `clap` takes the words, each option that has to be there has a value.
--     values_there      of a command whose arguments have long names alone, and whose uses all have values
--     check_values, link_values      of the commands
use Rattle.std.proofs.Common.{◌≡◌, ◌∙◌, ◌&&◌, ◌||◌, Bool, true, false, not, ℕ, zero, suc, List, [], ◌∷◌, ◌++◌, Option, Some, None, refl, sym, subst, length, drop, is_some}
use Rattle.std.specs.Prelude.{IsSome, codes, find, fold, encode_utf8, slice_get, if◌then◌else◌, option_and_then}
use Rattle.std.specs.List.{list_any}
use Rattle.std.specs.Option.{option_map_or}
use Rattle.std.specs.Str.{bytes_eq, chars}
use Rattle.clap.specs.Facts.{explicit_source}
use Rattle.clap.specs.Faults.{use_fault, settle_fault, react_fault, option_fault, long_fault, flag_word_fault, other_fault, word_fault, turn_fault, step_fault, walk_fault, level_fault, defaults_fault, fault_of}
use Rattle.clap.specs.Kinds.{Kinds, or_else, check_kinds}
use Rattle.clap.specs.Lexer.{long_of, short_of}
use Rattle.clap.specs.Simple.{Shape, App, argument_words, built, filled, matches_of, with_index}
use Rattle.clap.specs.Takes.{is_given}
use Rattle.clap.specs.Walk.{Held, Outcome, done, waits, plain, refused, Row, Rule, Step, next, trailing, subcommand, value, Text, Waiting, idle, option, positional, Walk}
use Rattle.clap.specs.Walk.{after_flag, after_step, arg_by_id, arg_by_index, arg_by_long, arg_by_short, bundle, bundle_met, bundle_step, finished, first_of, flag_met, has_long, has_row, long_met, long_or_other, nothing_held, option_met, option_word, plain_word, default_rows, reacted, reading_by}
use Rattle.clap.specs.Walk.{settled, settled_rows, short_met, short_or_plain, subcommand_met, subcommand_or_other, takes_values, to_positional, used, used_by_id, walk, walk_from, walked, walked_from, with_default, with_values, without, word_met}
use Rattle.clap.specs.declared.builder.value_parser.Reading.{Reading}
use Rattle.clap.specs.declared.error.kind.ErrorKind.TheVariants as kind
use Rattle.clap.specs.declared.parser.matches.ValueSource.{ValueSource}
use Rattle.clap.proofs.FaultLemmas.{leaf_fault}
use Rattle.jc_lemmas.proofs.Bools.{neither_last}
use Rattle.jc_words.specs.Arguments.{option_rule, flag_rule, taken, unless_fault}
use Rattle.jc_words.specs.Command.{check_arguments, link_arguments}

-- ---- rows with values

-- each of the rows has a value
abbrev HasValues : List Row → Type 0
HasValues [] = Unit {0}
HasValues (r ∷ rs) = IsSome (slice_get r.values 0) × HasValues rs

some_front : (xs ys : List Text) → IsSome (slice_get xs 0) → IsSome (slice_get (xs ++ ys) 0)
some_front [] ys h = absurd (cc)
some_front (x ∷ xs) ys h = refl

at_first : (b : Bool) (r : Row) (rs rest : List Row) → IsSome (slice_get r.values 0) → HasValues rs → HasValues rest → HasValues (if b then rs else r ∷ rest)
at_first true r rs rest h k l = k
at_first false r rs rest h k l = (h, l)

without_some : (id : Text) (rows : List Row) → HasValues rows → HasValues (without id rows)
without_some id [] h = tt
without_some id (r ∷ rs) h = at_first (bytes_eq r.id id) r rs (without id rs) h.0 h.1 (without_some id rs h.1)

changed_first : (b : Bool) (q r : Row) (rs rest : List Row) → IsSome (slice_get q.values 0) → IsSome (slice_get r.values 0) → HasValues rs → HasValues rest → HasValues (if b then q ∷ rs else r ∷ rest)
changed_first true q r rs rest g h k l = (g, k)
changed_first false q r rs rest g h k l = (h, l)

with_some : (id : Text) (how : Reading) (s : ValueSource) (v : Text) (vs : List Text) (rows : List Row) → HasValues rows → HasValues (with_values id how s (v ∷ vs) rows)
with_some id how s v vs [] h = (refl, tt)
with_some id how s v vs (r ∷ rs) h = changed_first (bytes_eq r.id id) _ r rs _ (some_front r.values (v ∷ vs) h.0) h.0 h.1 (with_some id how s v vs rs h.1)

given_default : (id : Text) (how : Reading) (values : List Text) (rows : List Row) → HasValues rows → HasValues (default_rows id how values rows)
given_default id how [] rows h = h
given_default id how (v ∷ vs) rows h = with_some id how _ v vs rows h

either_rows : (b : Bool) (xs ys : List Row) → HasValues xs → HasValues ys → HasValues (if b then xs else ys)
either_rows true xs ys h k = h
either_rows false xs ys h k = k

defaults_some : (c : List Rule) (rows : List Row) → HasValues rows → HasValues (fold with_default rows c)
defaults_some [] rows h = h
defaults_some (a ∷ rest) rows h = defaults_some rest (with_default rows a) (either_rows (has_row a.id rows) rows _ h (given_default a.id (reading_by a) a.defaults rows h))

-- ---- no fault

first_none : (a b : Kinds) → or_else a b ≡ [] → a ≡ []
first_none [] b e = refl
first_none (k ∷ ks) b e = e

then_none : (a b : Kinds) → or_else a b ≡ [] → b ≡ []
then_none [] b e = e
then_none (k ∷ ks) b e = absurd (cc)

-- ---- arguments

-- where a use of the argument is no fault, it has values
abbrev UsesValues : Rule → Type 0
UsesValues a = (again : Bool) (values : List Text) (rows : List Row) → use_fault again a values rows ≡ [] → HasValues rows → HasValues (used a values rows)

abbrev AnyUsesValues : Option Rule → Type 0
AnyUsesValues None = Unit {0}
AnyUsesValues (Some a) = UsesValues a

-- the arguments have long names alone, and each use of one has values
record IsLong (c : List Rule) : Type 0 where
  by_id : (id : Text) → AnyUsesValues (arg_by_id c id)
  by_long : (name : Text) → AnyUsesValues (arg_by_long c name)
  by_short : (x : ℕ) → arg_by_short c x ≡ None
  by_index : (i : ℕ) → arg_by_index c i ≡ None

-- ---- the walk over the words

module _ (s : Shape) (is_long : IsLong s.rules) where
  abbrev c : List Rule
  c = s.rules

  abbrev again : Bool
  again = s.args_override_self

  by_rule : (o : Option Rule) (values : List Text) (rows : List Row) → AnyUsesValues o → option_map_or (λ a. use_fault again a values rows) o [] ≡ [] → HasValues rows → HasValues (used_by_id o values rows)
  by_rule None values rows uses e some = some
  by_rule (Some a) values rows uses e some = uses again values rows e some

  by_pending : (p : Option (Text × List Text)) (rows : List Row) → option_map_or (λ q. option_map_or (λ a. use_fault again a q.1 rows) (arg_by_id c q.0) []) p [] ≡ [] → HasValues rows
      → HasValues (settled_rows c p rows)
  by_pending None rows e some = some
  by_pending (Some q) rows e some = by_rule (arg_by_id c q.0) q.1 rows (is_long.by_id q.0) e some

  settled_some : (h : Held) → settle_fault c again h ≡ [] → HasValues h.rows → HasValues (settled c h).rows
  settled_some h e some = by_pending h.pending h.rows e some

  reacted_some : (a : Rule) (values : List Text) (h : Held) → UsesValues a → react_fault c again a values h ≡ [] → HasValues h.rows → HasValues (reacted c a values h).rows
  reacted_some a values h uses e some = uses again values (settled c h).rows (then_none (settle_fault c again h) _ e) (settled_some h (first_none (settle_fault c again h) _ e) some)

  option_some : (a : Rule) (v : Option Text) (h : Held) → UsesValues a → option_fault c again a v h ≡ [] → HasValues h.rows → HasValues (option_met c a v h).0.rows
  option_some a (Some v) h uses e some = reacted_some a (v ∷ []) h uses e some
  option_some a None h uses e some = settled_some h e some

  flag_some : (a : Rule) (v : Option Text) (h : Held) → UsesValues a → (if is_some v then kind.TooManyValues ∷ [] else react_fault c again a [] h) ≡ [] → HasValues h.rows → HasValues (flag_met c a v h).0.rows
  flag_some a (Some v) h uses e some = some
  flag_some a None h uses e some = reacted_some a [] h uses e some

  argument_some : (b : Bool) (a : Rule) (v : Option Text) (h : Held) → UsesValues a
      → (if b then option_fault c again a v h else (if is_some v then kind.TooManyValues ∷ [] else react_fault c again a [] h)) ≡ [] → HasValues h.rows
      → HasValues (if b then option_met c a v h else flag_met c a v h).0.rows
  argument_some true a v h uses e some = option_some a v h uses e some
  argument_some false a v h uses e some = flag_some a v h uses e some

  long_some : (o : Option Rule) (v : Option Text) (h : Held) → AnyUsesValues o → long_fault c again o v h ≡ [] → HasValues h.rows → HasValues (long_met c o v h).0.rows
  long_some None v h uses e some = some
  long_some (Some a) v h uses e some = argument_some (takes_values a) a v h uses e some

  short_some : (o : Option Rule) (rest : Text) (h : Held) (follow : Held → Held × Outcome) → o ≡ None → HasValues h.rows → HasValues (short_met c o rest h follow).0.rows
  short_some None rest h follow none some = some
  short_some (Some a) rest h follow none some = absurd (cc)

  flag_step : (o : Option ℕ) (flags : Text) (skip : ℕ) (so_far : Outcome) (h : Held) (follow : Text → ℕ → Outcome → Held → Held × Outcome)
      → ((rest : Text) (n : ℕ) → HasValues (follow rest n so_far h).0.rows) → HasValues h.rows → HasValues (bundle_step c o flags skip so_far h follow).0.rows
  flag_step None flags skip so_far h follow rest some = some
  flag_step (Some x) flags zero so_far h follow rest some = short_some (arg_by_short c x) _ h _ (is_long.by_short x) some
  flag_step (Some x) flags (suc n) so_far h follow rest some = rest (drop (length (encode_utf8 x)) flags) n

  flags_some : (k : ℕ) (flags : Text) (skip : ℕ) (so_far : Outcome) (h : Held) → HasValues h.rows → HasValues (bundle_met c k flags skip so_far h).0.rows
  unfolding bundle_met
  flags_some zero flags skip so_far h some = some
  flags_some (suc k) flags skip so_far h some = flag_step (slice_get (chars flags) 0) flags skip so_far h (bundle_met c k) (λ rest n. flags_some k rest n so_far h some) some

  value_some : (o : Option Rule) (id word : Text) (h : Held) → HasValues h.rows → HasValues (option_word o id word h).0.rows
  value_some None id word h some = some
  value_some (Some a) id word h some = some

  plain_some : (waiting : Waiting) (word : Text) (h : Held) → HasValues h.rows → HasValues (plain_word c waiting word h).0.rows
  plain_some idle word h some = some
  plain_some (option id) word h some = value_some (arg_by_id c id) id word h some
  plain_some positional word h some = some

  after_some : (waiting : Waiting) (word : Text) (h : Held) (o : Outcome) → HasValues h.rows → HasValues (after_flag c waiting word h o).0.rows
  after_some waiting word h done some = some
  after_some waiting word h (waits id) some = some
  after_some waiting word h plain some = plain_some waiting word h some
  after_some waiting word h refused some = plain_some waiting word h some

  short_word_some : (o : Option Text) (waiting : Waiting) (word : Text) (h : Held) → HasValues h.rows → HasValues (short_or_plain c waiting word o h).0.rows
  short_word_some (Some flags) waiting word h some = after_some waiting word (bundle c flags h).0 (bundle c flags h).1 (flags_some (length flags) flags h.skip plain (record h { skip = 0 }) some)
  short_word_some None waiting word h some = plain_some waiting word h some

  flag_word_some : (o : Option (Text × Option Text)) (waiting : Waiting) (word : Text) (h : Held) → flag_word_fault c again o word h ≡ [] → HasValues h.rows
      → HasValues (long_or_other c waiting word o h).0.rows
  flag_word_some (Some p) waiting word h e some =
      after_some waiting word (long_met c (arg_by_long c p.0) p.1 h).0 (long_met c (arg_by_long c p.0) p.1 h).1 (long_some (arg_by_long c p.0) p.1 h (is_long.by_long p.0) e some)
  flag_word_some None waiting word h e some = short_word_some (short_of word) waiting word h some

  dashes_or_flag : (b : Bool) (waiting : Waiting) (position : ℕ) (word : Text) (h : Held) → (if b then [] else flag_word_fault c again (long_of word) word h) ≡ [] → HasValues h.rows
      → HasValues (if b then (h, trailing position) else long_or_other c waiting word (long_of word) h).0.rows
  dashes_or_flag true waiting position word h e some = some
  dashes_or_flag false waiting position word h e some = flag_word_some (long_of word) waiting word h e some

  no_subcommand : (waiting : Waiting) (word : Text) → subcommand_met [] waiting word ≡ None
  no_subcommand idle word = refl
  no_subcommand (option id) word = refl
  no_subcommand positional word = refl

  other_some : (o : Option Text) → o ≡ None → (waiting : Waiting) (position : ℕ) (word : Text) (h : Held) → other_fault s o word h ≡ [] → HasValues h.rows
      → HasValues (subcommand_or_other c o waiting position word h).0.rows
  other_some None none waiting position word h e some = dashes_or_flag (bytes_eq word (45 ∷ 45 ∷ [])) waiting position word h e some
  other_some (Some name) none waiting position word h e some = absurd (cc)

  met_some : (is_trailing : Bool) (waiting : Waiting) (position : ℕ) (word : Text) (h : Held) → word_fault s [] is_trailing waiting word h ≡ [] → HasValues h.rows
      → HasValues (word_met c [] is_trailing waiting position word h).0.rows
  met_some true waiting position word h e some = some
  met_some false waiting position word h e some = other_some (subcommand_met [] waiting word) (no_subcommand waiting word) waiting position word h e some

  placed_some : (o : Option Rule) → o ≡ None → (word : Text) (w : Walk) (h : Held) → HasValues h.rows → HasValues (to_positional c o word w h).held.rows
  placed_some None none word w h some = some
  placed_some (Some a) none word w h some = absurd (cc)

  step_some : (word : Text) (w : Walk) (h : Held) (step : Step) → HasValues h.rows → HasValues (after_step c word w h step).held.rows
  step_some word w h (next waiting) some = some
  step_some word w h (trailing position) some = some
  step_some word w h (subcommand name) some = some
  step_some word w h value some = placed_some (arg_by_index c w.position) (is_long.by_index w.position) word w h some

  turn_some : (stopped : Option (Text × List Text)) (w : Walk) (word : Text)
      → (if is_some stopped then [] else or_else (word_fault s [] w.is_trailing w.waiting word w.held)
      (step_fault s w.position (word_met c [] w.is_trailing w.waiting w.position word w.held).0 (word_met c [] w.is_trailing w.waiting w.position word w.held).1)) ≡ []
      → HasValues w.held.rows → HasValues (walked_from c [] stopped w word).held.rows
  turn_some (Some p) w word e some = some
  turn_some None w word e some =
      let met = word_met c [] w.is_trailing w.waiting w.position word w.held in
      step_some word w met.0 met.1 (met_some w.is_trailing w.waiting w.position word w.held (first_none (word_fault s [] w.is_trailing w.waiting word w.held) _ e) some)

  walked_some : (w : Walk) (word : Text) → turn_fault s [] w word ≡ [] → HasValues w.held.rows → HasValues (walked c [] w word).held.rows
  unfolding walked
  walked_some w word e some = turn_some w.stopped w word e some

  walk_some : (words : List Text) (w : Walk) → walk_fault s [] w words ≡ [] → HasValues w.held.rows → HasValues (fold (walked c []) w words).held.rows
  unfolding walk_fault
  walk_some [] w e some = some
  walk_some (word ∷ rest) w e some = walk_some rest (walked c [] w word) (then_none (turn_fault s [] w word) _ e) (walked_some w word (first_none (turn_fault s [] w word) _ e) some)

  -- the rows at the end
  finished_some : (words : List Text) (has : Bool) (below : Kinds) → level_fault s [] nothing_held words has below ≡ [] → HasValues (finished c (walk c [] nothing_held words).held)
  finished_some words has below e =
      let end = (walk c [] nothing_held words).held in
      let walks = walk_some words (walk_from nothing_held) (first_none (walk_fault s [] (walk_from nothing_held) words) _ e) tt in
      defaults_some c (settled c end).rows (settled_some end (first_none (settle_fault c again end) _ (then_none below _ (then_none (walk_fault s [] (walk_from nothing_held) words) _ e))) walks)

-- ---- what has to be there

-- an argument of the list that has to be there has a value
abbrev EachThere : List Rule → List Row → Type 0
EachThere [] rows = Unit {0}
EachThere (a ∷ rest) rows = (a.required ≡ true → IsSome (first_of a.id rows)) × EachThere rest rows

abbrev source_of : Option Row → Bool
source_of o = option_map_or (λ r. explicit_source r.source) o false

abbrev value_in : Option Row → Option Text
value_in o = option_and_then (λ r. slice_get r.values 0) o

value_first : (b : Bool) (r : Row) (o : Option Row) → IsSome (slice_get r.values 0) → (source_of o ≡ true → IsSome (value_in o)) → source_of (if b then Some r else o) ≡ true
    → IsSome (value_in (if b then Some r else o))
value_first true r o here rest e = here
value_first false r o here rest e = rest e

-- what is given has a value
given_value : (id : Text) (rows : List Row) → HasValues rows → is_given id rows ≡ true → IsSome (first_of id rows)
given_value id [] h e = absurd (cc)
given_value id (r ∷ rs) h e = value_first (bytes_eq r.id id) r (find (λ q. bytes_eq q.id id) rs) h.0 (given_value id rs h.1) e

one_given : (required given rest : Bool) → ((required && not given) || rest) ≡ false → required ≡ true → given ≡ true
one_given true true rest e is = refl
one_given true false rest e is = absurd (cc)
one_given false given rest e is = absurd (cc)

each_there : (c : List Rule) (rows : List Row) → HasValues rows → list_any (λ a. a.required && not (is_given a.id rows)) c ≡ false → EachThere c rows
each_there [] rows some e = tt
each_there (a ∷ rest) rows some e = (
  λ required. given_value a.id rows some (one_given a.required (is_given a.id rows) _ e required),
  each_there rest rows some (neither_last (a.required && not (is_given a.id rows)) _ e),
)

none_wanted : (help sub argument : Bool) → check_kinds help sub argument ≡ [] → argument ≡ false
none_wanted true sub argument e = absurd (cc)
none_wanted false true argument e = absurd (cc)
none_wanted false false true e = absurd (cc)
none_wanted false false false e = refl

values_there : (s : Shape) → IsLong s.rules → s.subcommand_negates_reqs ≡ false → (words : List Text) → level_fault s [] nothing_held words false [] ≡ []
    → EachThere s.rules (finished s.rules (walk s.rules [] nothing_held words).held)
values_there s is_long negates words e =
    let end = (walk s.rules [] nothing_held words).held in
    let behind = then_none (walk_fault s [] (walk_from nothing_held) words) _ e in
    let last = then_none (defaults_fault (settled s.rules end).rows s.rules) _ (then_none (settle_fault s.rules s.args_override_self end) _ behind) in
    each_there s.rules (finished s.rules end) (finished_some s is_long words false [] e) (wanted s.subcommand_negates_reqs negates _ (none_wanted _ _ _ last))
  where
    wanted : (b : Bool) → b ≡ false → (l : Bool) → (not (b && false) && l) ≡ false → l ≡ false
    wanted true is l e = absurd (cc)
    wanted false is l e = e

-- ---- the commands

abbrev EachUses : List Rule → Type 0
EachUses [] = Unit {0}
EachUses (a ∷ rest) = UsesValues a × EachUses rest

uses_if : (b : Bool) (a : Rule) (o : Option Rule) → UsesValues a → AnyUsesValues o → AnyUsesValues (if b then Some a else o)
uses_if true a o h k = h
uses_if false a o h k = k

find_uses : (p : Rule → Bool) (c : List Rule) → EachUses c → AnyUsesValues (find p c)
find_uses p [] h = tt
find_uses p (a ∷ rest) h = uses_if (p a) a (find p rest) h.0 (find_uses p rest h.1)

uses_option : (id : Text) (required : Bool) → UsesValues (with_index 1 (filled (record (option_rule id) { required = required })))
uses_option id required more [] rows e some = absurd (cc)
uses_option id required more (v ∷ vs) rows e some = with_some id _ _ v vs (without id rows) (without_some id rows some)

uses_flag : (id : Text) → UsesValues (with_index 1 (filled (flag_rule id)))
uses_flag id more [] rows e some = with_some id _ _ (codes "true") [] (without id rows) (without_some id rows some)
uses_flag id more (v ∷ vs) rows e some = with_some id _ _ v vs (without id rows) (without_some id rows some)

is_long_of : (c : List Rule) → EachUses c → ((x : ℕ) → arg_by_short c x ≡ None) → ((i : ℕ) → arg_by_index c i ≡ None) → IsLong c
is_long_of c uses short index = record {
  by_id = λ id. find_uses (λ a. bytes_eq a.id id) c uses;
  by_long = λ name. find_uses (λ a. not (is_some a.index) && has_long a name) c uses;
  by_short = short;
  by_index = index;
}

abbrev check_rules : List Rule
check_rules = (built check_arguments).top.rules

abbrev link_rules : List Rule
link_rules = (built link_arguments).top.rules

check_long : IsLong check_rules
check_long = is_long_of check_rules
    (uses_option (codes "platform") true, (uses_option (codes "old") true, (uses_option (codes "new") true, (uses_option (codes "witness") false, (uses_flag (codes "json"), (uses_option (codes "gate") false, (uses_option (codes "from") false, (uses_option (codes "to") false, (uses_flag (codes "warn"), (uses_flag (codes "signatures"), (uses_flag (codes "dropped"), (uses_flag (codes "calls"), (uses_flag (codes "modular"), tt)))))))))))))
    (λ x. refl) (λ i. refl)

link_long : IsLong link_rules
link_long = is_long_of link_rules (uses_option (codes "platform") true, (uses_option (codes "release") true, (uses_option (codes "client") true, (uses_flag (codes "modular"), tt)))) (λ x. refl) (λ i. refl)

-- the words are taken: no fault is listed, and these are the matches
taken_parts : (faults : Kinds) (found rows : List Row) → unless_fault faults found ≡ Some rows → (faults ≡ []) × (found ≡ rows)
taken_parts [] found rows e = (refl, cc)
taken_parts (k ∷ ks) found rows e = absurd (cc)

there_of : (app : App) → IsLong (built app).top.rules → (built app).subs ≡ [] → (built app).top.subcommand_negates_reqs ≡ false → (words : List Text) → fault_of app words ≡ []
    → EachThere (built app).top.rules (finished (built app).top.rules (walk (built app).top.rules [] nothing_held (argument_words app words)).held)
there_of app is_long leaf negates words e = values_there (built app).top is_long negates (argument_words app words) (sym (leaf_fault (built app) nothing_held (argument_words app words) leaf) ∙ e)

pub check_values : (words : List Text) (rows : List Row) → taken check_arguments words ≡ Some rows
    → IsSome (first_of (codes "platform") rows) × IsSome (first_of (codes "old") rows) × IsSome (first_of (codes "new") rows)
check_values words rows e =
    let t = taken_parts (fault_of check_arguments words) (matches_of check_arguments words) rows e in
    let there = there_of check_arguments check_long refl refl words t.0 in
    subst (λ (found : List Row). IsSome (first_of (codes "platform") found) × IsSome (first_of (codes "old") found) × IsSome (first_of (codes "new") found)) t.1
    (there.0 refl, there.1.0 refl, there.1.1.0 refl)

pub link_values : (words : List Text) (rows : List Row) → taken link_arguments words ≡ Some rows
    → IsSome (first_of (codes "platform") rows) × IsSome (first_of (codes "release") rows) × IsSome (first_of (codes "client") rows)
link_values words rows e =
    let t = taken_parts (fault_of link_arguments words) (matches_of link_arguments words) rows e in
    let there = there_of link_arguments link_long refl refl words t.0 in
    subst (λ (found : List Row). IsSome (first_of (codes "platform") found) × IsSome (first_of (codes "release") found) × IsSome (first_of (codes "client") found)) t.1
    (there.0 refl, there.1.0 refl, there.1.1.0 refl)
