-- What the words ask for.
use Rattle.std.specs.Prelude.{Bool, ℕ, ◌&&◌, nat_le, List, [], ◌∷◌, length, Option, Some, None, codes, ◌==◌, if◌then◌else◌, option_map}
use Rattle.std.specs.Prelude.{Result, Ok, Err}
use Rattle.std.specs.List.{slice_split}
use Rattle.std.specs.Str.{bytes_eq}
use Rattle.clap.specs.Walk.{Row, Text, first_of}
use Rattle.clap.specs.Simple.{App}
use Rattle.jc_words.specs.Arguments.{option_rule, required_rule, flag_rule, word_rule, words_rule, command_with, taken, value_of, values_of, is_on}
use Rattle.jc_words.specs.Number.{number_of}
use Rattle.jc_words.specs.declared.usage.Usage.{Usage}
use Rattle.jc_words.specs.declared.usage.Usage.TheVariants as usages

-- a check of two releases: the roots of the platform and of both, the folder for the witnesses where they are wanted, whether the report is JSON,
-- the names of the gates that are asked, the versions of the old and of the new release, where they are said, whether warnings, notes
-- on generic signatures, dropped interfaces and lines on calls are reported, and whether the releases may be named modules
pub record CheckOf : Type 0 where
  pub platform : Text
  pub old : Text
  pub new : Text
  pub witness : Option Text
  pub json : Bool
  pub gates : List Text
  pub from : Option Text
  pub to : Option Text
  pub warn : Bool
  pub signatures : Bool
  pub dropped : Bool
  pub calls : Bool
  pub modular : Bool

-- the linking of clients: the roots of the platform, of the release and of the clients, and whether the release may be a named module
pub record LinkOf : Type 0 where
  pub platform : Text
  pub release : Text
  pub client : Text
  pub modular : Bool

-- a row of releases: the roots of the platform and of each release, from the first to the last
pub record HistoryOf : Type 0 where
  pub platform : Text
  pub releases : List Text

-- clients of two releases: the roots of the platform and of both, whether the answer is JSON, whether the releases may be named modules, whether
-- the lines of their check that explain losses are reported, and the root of the tree of each client, in their order
pub record ClientsOf : Type 0 where
  pub platform : Text
  pub old : Text
  pub new : Text
  pub json : Bool
  pub modular : Bool
  pub used : Bool
  pub clients : List Text

-- what is asked for: a check of two releases, the linking of clients, the verdict on generated releases of so many classes, the verdicts on a
-- row of releases, which clients of two releases the new one breaks, or the page of help
pub data CommandOf : Type 0 where
  CheckCommand : CheckOf → CommandOf
  LinkCommand : LinkOf → CommandOf
  MakeCommand : ℕ → CommandOf
  HistoryCommand : HistoryOf → CommandOf
  ClientsCommand : ClientsOf → CommandOf
  HelpCommand : CommandOf

-- ---- check

abbrev pub check_arguments : App
check_arguments = command_with (codes "check")
    (required_rule (codes "platform") ∷ required_rule (codes "old") ∷ required_rule (codes "new")
    ∷ option_rule (codes "witness") ∷ flag_rule (codes "json") ∷ option_rule (codes "gate") ∷ option_rule (codes "from") ∷ option_rule (codes "to") ∷ flag_rule (codes "warn")
    ∷ flag_rule (codes "signatures") ∷ flag_rule (codes "dropped") ∷ flag_rule (codes "calls") ∷ flag_rule (codes "modular") ∷ [])

-- the gates that a value of `--gate` names, which is cut at each comma, or the one gate without it
abbrev pub gate_names : Option Text → List Text
gate_names None = codes "links" ∷ []
gate_names (Some value) = slice_split (λ b. b == 0x2c) value

-- the check of these matches
abbrev pub check_in : List Row → CheckOf
check_in rows = record {
  platform = value_of (codes "platform") rows;
  old = value_of (codes "old") rows;
  new = value_of (codes "new") rows;
  witness = first_of (codes "witness") rows;
  json = is_on (codes "json") rows;
  gates = gate_names (first_of (codes "gate") rows);
  from = first_of (codes "from") rows;
  to = first_of (codes "to") rows;
  warn = is_on (codes "warn") rows;
  signatures = is_on (codes "signatures") rows;
  dropped = is_on (codes "dropped") rows;
  calls = is_on (codes "calls") rows;
  modular = is_on (codes "modular") rows;
}

-- the check of the words after `check`, where `clap` takes them
abbrev pub check_by : List Text → Option CheckOf
check_by words = option_map check_in (taken check_arguments words)

-- ---- link

abbrev pub link_arguments : App
link_arguments = command_with (codes "link")
    (required_rule (codes "platform") ∷ required_rule (codes "release") ∷ required_rule (codes "client") ∷ flag_rule (codes "modular") ∷ [])

-- the linking of these matches
abbrev pub link_in : List Row → LinkOf
link_in rows = record {
  platform = value_of (codes "platform") rows;
  release = value_of (codes "release") rows;
  client = value_of (codes "client") rows;
  modular = is_on (codes "modular") rows;
}

-- the linking of the words after `link`, where `clap` takes them
abbrev pub link_by : List Text → Option LinkOf
link_by words = option_map link_in (taken link_arguments words)

-- ---- make

abbrev pub make_arguments : App
make_arguments = command_with (codes "make") (word_rule (codes "number") ∷ [])

-- a word that says no number is a fault
abbrev pub or_number : Text → Option ℕ → Result CommandOf Usage
or_number word None = Err (usages.Number word)
or_number word (Some n) = Ok (MakeCommand n)

-- the word in the place of the number, where `clap` takes the words after `make`
abbrev pub number_word : List Text → Option Text
number_word words = option_map (value_of (codes "number")) (taken make_arguments words)

-- what that word asks for, and words that aren't taken are a fault
abbrev pub make_of : Option Text → Result CommandOf Usage
make_of None = Err usages.Words
make_of (Some word) = or_number word (number_of word)

-- what the words after `make` ask for
abbrev pub make_by : List Text → Result CommandOf Usage
make_by words = make_of (number_word words)

-- ---- history

abbrev pub history_arguments : App
history_arguments = command_with (codes "history") (required_rule (codes "platform") ∷ words_rule (codes "releases") ∷ [])

-- the row of these matches
abbrev pub history_in : List Row → HistoryOf
history_in rows = record { platform = value_of (codes "platform") rows; releases = values_of (codes "releases") rows }

-- a row has from two to twenty releases
abbrev pub is_row : ℕ → Bool
is_row n = nat_le 2 n && nat_le n 20

-- another number of them is a fault
abbrev pub or_releases : HistoryOf → Result CommandOf Usage
or_releases h = if is_row (length h.releases) then Ok (HistoryCommand h) else Err (usages.Releases (length h.releases))

-- what the matches ask for, and words that aren't taken are a fault
abbrev pub history_by_matches : Option (List Row) → Result CommandOf Usage
history_by_matches None = Err usages.Words
history_by_matches (Some rows) = or_releases (history_in rows)

-- what the words after `history` ask for
abbrev pub history_by : List Text → Result CommandOf Usage
history_by words = history_by_matches (taken history_arguments words)

-- ---- clients

abbrev pub clients_arguments : App
clients_arguments = command_with (codes "clients")
    (required_rule (codes "platform") ∷ required_rule (codes "old") ∷ required_rule (codes "new") ∷ flag_rule (codes "json") ∷ flag_rule (codes "modular") ∷ flag_rule (codes "used")
    ∷ words_rule (codes "clients") ∷ [])

-- the clients of these matches
abbrev pub clients_in : List Row → ClientsOf
clients_in rows = record {
  platform = value_of (codes "platform") rows;
  old = value_of (codes "old") rows;
  new = value_of (codes "new") rows;
  json = is_on (codes "json") rows;
  modular = is_on (codes "modular") rows;
  used = is_on (codes "used") rows;
  clients = values_of (codes "clients") rows;
}

-- there are from one to a thousand clients
abbrev pub are_clients : ℕ → Bool
are_clients n = nat_le 1 n && nat_le n 1000

-- another number of them is a fault
abbrev pub or_clients : ClientsOf → Result CommandOf Usage
or_clients c = if are_clients (length c.clients) then Ok (ClientsCommand c) else Err (usages.Clients (length c.clients))

-- what the matches ask for, and words that aren't taken are a fault
abbrev pub clients_by_matches : Option (List Row) → Result CommandOf Usage
clients_by_matches None = Err usages.Words
clients_by_matches (Some rows) = or_clients (clients_in rows)

-- what the words after `clients` ask for
abbrev pub clients_by : List Text → Result CommandOf Usage
clients_by words = clients_by_matches (taken clients_arguments words)

-- ---- help

-- the words after `help`: there are none
abbrev pub help_by : List Text → Result CommandOf Usage
help_by [] = Ok HelpCommand
help_by (word ∷ words) = Err usages.Words

-- ---- all commands

-- a command that doesn't take the words is a fault of them
abbrev pub or_words : Option CommandOf → Result CommandOf Usage
or_words None = Err usages.Words
or_words (Some command) = Ok command

-- the command of this name, by the words after it
abbrev pub command_by : Text → List Text → Result CommandOf Usage
command_by name words =
    if bytes_eq name (codes "check") then or_words (option_map CheckCommand (check_by words))
    else if bytes_eq name (codes "link") then or_words (option_map LinkCommand (link_by words))
    else if bytes_eq name (codes "make") then make_by words
    else if bytes_eq name (codes "history") then history_by words
    else if bytes_eq name (codes "clients") then clients_by words
    else if bytes_eq name (codes "help") then help_by words
    else Err (usages.UnknownCommand name)

-- what the words ask for, or the first fault of them: the first word names a command, and `clap` reads those after it
abbrev pub asked : List Text → Result CommandOf Usage
asked [] = Err usages.NoCommand
asked (name ∷ words) = command_by name words
