-- The page that `help` prints, and which commands and options it names.
use Rattle.std.specs.Prelude.{Bool, ◌||◌, ◌==◌, nat_eq, List, [], ◌∷◌, ◌++◌, map, take, codes, if◌then◌else◌, Option, Some, None}
use Rattle.std.specs.List.{concat, slice_split, starts_with, flat_map}
use Rattle.std.specs.Str.{bytes_eq}
use Rattle.clap.specs.Walk.{Rule, Text}
use Rattle.clap.specs.Simple.{App}

-- its lines
unfoldable pub help_lines : List Text
help_lines =
    codes "Do clients that were compiled against the old release of a Java library still"
    ∷ codes "link with the new one? Each FOLDER, RELEASE and CLIENT is a folder of class"
    ∷ codes "files. The first line of a command has what must be given, the lines below it"
    ∷ codes "what may be."
    ∷ []
    ∷ codes "jcompat check --platform FOLDER --old FOLDER --new FOLDER"
    ∷ codes "  compares two releases over the platform that both need"
    ∷ codes "  --witness FOLDER  writes there, for each break, a client that has it"
    ∷ codes "  --json            prints JSON"
    ∷ codes "  --gate NAME,..    which gates decide the status: links (as without this),"
    ∷ codes "                    collisions, few, version, calls"
    ∷ codes "  --from VERSION    the version of the old release"
    ∷ codes "  --to VERSION      the version of the new release"
    ∷ codes "  --warn            prints too which calls may find no method to run"
    ∷ codes "  --signatures      prints too which generic signatures have changed"
    ∷ codes "  --dropped         prints too which interfaces classes no longer implement"
    ∷ codes "  --calls           prints too which calls and method references no longer"
    ∷ codes "                    run though all links"
    ∷ codes "  --modular         a release with a module-info.class is a named module"
    ∷ []
    ∷ codes "jcompat history --platform FOLDER RELEASE RELEASE.."
    ∷ codes "  compares each of 2 to 20 releases with the next one"
    ∷ []
    ∷ codes "jcompat clients --platform FOLDER --old FOLDER --new FOLDER CLIENT.."
    ∷ codes "  what each of 1 to 1,000 clients loses from the old release to the new one"
    ∷ codes "  --json            prints JSON"
    ∷ codes "  --modular         a release with a module-info.class is a named module"
    ∷ codes "  --used            prints too which line of check explains each loss"
    ∷ []
    ∷ codes "jcompat link --platform FOLDER --release FOLDER --client FOLDER"
    ∷ codes "  what becomes of each class of a client, and each use, over one release"
    ∷ codes "  --modular         a release with a module-info.class is a named module"
    ∷ []
    ∷ codes "jcompat make NUMBER"
    ∷ codes "  compares two generated releases of so many classes, from 1 to 4,096"
    ∷ []
    ∷ codes "jcompat help"
    ∷ codes "  prints this page"
    ∷ []
    ∷ codes "Status:"
    ∷ codes "  0  the gates pass, no release of the row breaks a client, no client loses"
    ∷ codes "     anything, all links; of make and help always"
    ∷ codes "  1  that isn't so"
    ∷ codes "  2  wrong words"
    ∷ codes "  3  wrong class files"
    ∷ codes "  4  a folder or a file can't be read"
    ∷ codes "  5  writing failed"
    ∷ codes "  6  there is no memory"
    ∷ codes "  7  a limit is passed"
    ∷ []

-- the page: its lines, each with its end
abbrev pub help_page : Text
help_page = concat (map (λ line. line ++ codes "\n") help_lines)

-- ---- what it names

-- the words of a text, which is cut at each space and at each end of a line
abbrev pub words_of : Text → List Text
words_of = slice_split (λ b. b == 0x20 || b == 0x0a)

-- whether the word is that of an option
abbrev pub is_option : Text → Bool
is_option word = starts_with nat_eq word (codes "--")

-- what stands here of commands and options: an option, or, behind the name of the program, a command
abbrev pub named_here : Text → List Text → List Text
named_here word words = if is_option word then word ∷ [] else if bytes_eq word (codes "jcompat") then take 1 words else []

-- the commands and the options among the words, in their order
abbrev pub named_in : List Text → List Text
named_in [] = []
named_in (word ∷ words) = named_here word words ++ named_in words

-- the option of an argument, which has one or is a word by itself
abbrev pub option_of : Option Text → List Text
option_of None = []
option_of (Some long) = (codes "--" ++ long) ∷ []

-- the name of a command, and its options in the order of its arguments
abbrev pub names_of : App → List Text
names_of app = app.top.name ∷ flat_map (λ (rule : Rule). option_of rule.long) app.top.rules
