-- Why there is no report: the line on standard error and the exit status.
use Rattle.std.specs.Prelude.{ℕ, [], ◌++◌, codes}
use Rattle.std.specs.Fmt.{decimal}
use Rattle.jc_desc.specs.declared.fault.Reason.{Reason}
use Rattle.jc_desc.specs.declared.fault.Reason.TheVariants as reasons
use Rattle.jc_facts.specs.declared.code_fault.CodeReason.{CodeReason}
use Rattle.jc_facts.specs.declared.code_fault.CodeReason.TheVariants as code_reasons
use Rattle.jc_facts.specs.Names.{Bytes}
use Rattle.jc_report.specs.Text.{printed}
use Rattle.jc_index.specs.declared.root.RootPart.{RootPart}
use Rattle.jc_index.specs.declared.root.RootPart.TheVariants as parts
use Rattle.jc_link.specs.declared.refusal.ClientPart.{ClientPart}
use Rattle.jc_link.specs.declared.refusal.ClientPart.TheVariants as client_parts
use Rattle.jc_words.specs.declared.usage.Usage.{Usage}
use Rattle.jc_words.specs.declared.usage.Usage.TheVariants as usages
use Rattle.jc_trees.specs.Tree.{tree_words}
use Rattle.jc_releases.specs.declared.status.TheConstants.{USAGE, BAD_INPUT, READ_FAULT, NO_MEMORY, LIMIT}
use Rattle.jc_trees.specs.declared.file_fault.FileFault.{FileFault}
use Rattle.jc_trees.specs.declared.file_fault.FileFault.TheVariants as faults
use Rattle.jc_trees.specs.declared.file_fault.TreeFault.{TreeFault}
use Rattle.jc_trees.specs.declared.file_fault.TreeFault.TheVariants as tree_faults
use Rattle.jc_releases.specs.declared.stop.Part.{Part}
use Rattle.jc_releases.specs.declared.stop.Part.TheVariants as report_parts
use Rattle.jc_releases.specs.declared.stop.Stop.{Stop}
use Rattle.jc_releases.specs.declared.stop.Stop.TheVariants as stops

abbrev pub reason_name : Reason → Bytes
reason_name reasons.BadMagic = codes "BadMagic"
reason_name reasons.BadVersion = codes "BadVersion"
reason_name reasons.Short = codes "Short"
reason_name reasons.BadTag = codes "BadTag"
reason_name reasons.BadUtf8 = codes "BadUtf8"
reason_name reasons.BadIndex = codes "BadIndex"
reason_name reasons.BadName = codes "BadName"
reason_name reasons.BadDescriptor = codes "BadDescriptor"
reason_name reasons.BadFlags = codes "BadFlags"
reason_name reasons.Duplicate = codes "Duplicate"
reason_name reasons.BadAttribute = codes "BadAttribute"
reason_name reasons.Trailing = codes "Trailing"

abbrev pub code_reason_name : CodeReason → Bytes
code_reason_name code_reasons.BadLayout = codes "BadLayout"
code_reason_name code_reasons.BadOpcode = codes "BadOpcode"
code_reason_name code_reasons.CutShort = codes "CutShort"
code_reason_name code_reasons.BadEntry = codes "BadEntry"

-- what is said of a class file
abbrev pub file_words : FileFault → Bytes
file_words faults.TooLong = codes "limit bytes"
file_words (faults.Malformed m) = reason_name m.reason ++ codes " at " ++ decimal m.offset
file_words (faults.Misplaced name) = codes "misplaced " ++ printed name
file_words (faults.BadCode offset reason) = codes "code " ++ code_reason_name reason ++ codes " at " ++ decimal offset

-- what is said of a tree that isn't read
abbrev pub unread_words : TreeFault → Bytes
unread_words tree_faults.TooManyFiles = codes "limit files"
unread_words tree_faults.LongPath = codes "limit path"
unread_words (tree_faults.File path fault) = printed path ++ codes ": " ++ file_words fault

-- the part of the platform's java/lang/Object that isn't as it has to be
abbrev pub part_name : RootPart → Bytes
part_name parts.Missing = codes "missing"
part_name parts.Flags = codes "flags"
part_name parts.Super = codes "super"
part_name parts.Interfaces = codes "interfaces"
part_name parts.Fields = codes "fields"
part_name parts.Permits = codes "permits"
part_name parts.Init = codes "init"

-- why a client may not have its name
abbrev pub client_part_name : ClientPart → Bytes
client_part_name client_parts.Declared = codes "declared"
client_part_name client_parts.Super = codes "super"
client_part_name client_parts.Package = codes "package"
client_part_name client_parts.Length = codes "length"
client_part_name client_parts.Encoding = codes "encoding"

-- why the words ask for nothing
abbrev pub usage_words : Usage → Bytes
usage_words usages.NoCommand = codes "no command"
usage_words (usages.UnknownCommand word) = codes "unknown command " ++ printed word
usage_words usages.Words = codes "words"
usage_words (usages.UnknownGate name) = codes "unknown gate " ++ printed name
usage_words (usages.Number word) = codes "number " ++ printed word
usage_words (usages.Releases n) = codes "releases " ++ decimal n
usage_words (usages.Clients n) = codes "clients " ++ decimal n
usage_words usages.VersionMissing = codes "version missing"
usage_words (usages.Version version) = codes "version " ++ printed version
usage_words (usages.Versions from to) = codes "versions " ++ printed from ++ codes " " ++ printed to

-- the part of a report that has more items than its limit
abbrev pub report_part_name : Part → Bytes
report_part_name report_parts.Findings = codes "findings"
report_part_name report_parts.Warnings = codes "warnings"
report_part_name report_parts.Dropped = codes "dropped"
report_part_name report_parts.Calls = codes "calls"

abbrev pub line_of : Stop → Bytes
line_of (stops.Usage usage) = codes "jcompat: usage: " ++ usage_words usage ++ codes "\n"
line_of (stops.Unread tree fault) = codes "jcompat: " ++ tree_words tree ++ codes ": " ++ unread_words fault ++ codes "\n"
line_of (stops.BadRoot part) = codes "jcompat: platform: bad root " ++ part_name part ++ codes "\n"
line_of (stops.Overlap tree name) = codes "jcompat: " ++ tree_words tree ++ codes ": overlap " ++ printed name ++ codes "\n"
line_of (stops.ClientName name part) = codes "jcompat: client: name " ++ printed name ++ codes " " ++ client_part_name part ++ codes "\n"
line_of (stops.TooMany part) = codes "jcompat: limit " ++ report_part_name part ++ codes "\n"
line_of (stops.ReadFault tree) = codes "jcompat: " ++ tree_words tree ++ codes ": read fault\n"
line_of stops.Memory = []

-- a limit, or something that isn't read
abbrev pub file_status : FileFault → ℕ
file_status faults.TooLong = LIMIT
file_status (faults.Malformed m) = BAD_INPUT
file_status (faults.Misplaced name) = BAD_INPUT
file_status (faults.BadCode offset reason) = BAD_INPUT

abbrev pub tree_status : TreeFault → ℕ
tree_status tree_faults.TooManyFiles = LIMIT
tree_status tree_faults.LongPath = LIMIT
tree_status (tree_faults.File path fault) = file_status fault

abbrev pub status_of : Stop → ℕ
status_of (stops.Usage usage) = USAGE
status_of (stops.Unread tree fault) = tree_status fault
status_of (stops.BadRoot part) = BAD_INPUT
status_of (stops.Overlap tree name) = BAD_INPUT
status_of (stops.ClientName name part) = BAD_INPUT
status_of (stops.TooMany part) = LIMIT
status_of (stops.ReadFault tree) = READ_FAULT
status_of stops.Memory = NO_MEMORY
