-- The numbers by which the commands go, in digits. The clauses cite the constants of the code, whatever these are; here it is said what they are.
use Rattle.std.specs.Prelude.{◌≡◌, Some, None, true, false, codes}
use Rattle.jc_base.specs.declared.trees.TheConstants.{MAX_BYTES as READ_BYTES}
use Rattle.jc_desc.specs.declared.versions.TheConstants.{OLDEST_MAJOR, SIGNATURE_MAJOR, ABSTRACT_INTERFACE_MAJOR, BOOTSTRAP_MAJOR, INTERFACE_CODE_MAJOR, NEST_MAJOR, STRICT_MINOR_MAJOR, SEAL_MAJOR, NEWEST_MAJOR}
use Rattle.jc_facts.specs.declared.rule_numbers.TheConstants.{CLASS_GONE, CLASS_CLOSED, INTERFACE_BECAME_CLASS, SUPERCLASS_LOST, CONSTRUCTOR_CLOSED, METHOD_MADE_FINAL, FIELD_CLOSED, METHOD_CLOSED, INTERFACE_METHOD_LOST, CONSTANT_ADDED, CAPTURE_ADDED, FINAL_ADDED}
use Rattle.jc_facts.specs.declared.limits.TheConstants.{MAX_SIDE_CLASSES, MAX_CLASS_NAME}
use Rattle.jc_trees.specs.declared.limits.TheConstants.{MAX_FILES, MAX_PATH}
use Rattle.jc_desc.specs.declared.limits.TheConstants.{MAX_CLASS_BYTES, MAX_TEXT, MAX_CODE}
use Rattle.jc_words.specs.Command.{is_row}
use Rattle.jc_words.specs.Number.{number_of}
use Rattle.jc_releases.specs.declared.limits.TheConstants.{MAX_FINDINGS, MAX_WARNINGS, MAX_DROPPED, MAX_CALLS}
use Rattle.jc_releases.specs.declared.status.TheConstants.{PASSED, NOT_PASSED, USAGE, BAD_INPUT, READ_FAULT, WRITE_FAULT, NO_MEMORY, LIMIT}

-- the exit statuses
pub record StatusesAre : Type 0 where
  pub passed : PASSED ≡ 0
  pub not_passed : NOT_PASSED ≡ 1
  pub usage : USAGE ≡ 2
  pub bad_input : BAD_INPUT ≡ 3
  pub read_fault : READ_FAULT ≡ 4
  pub write_fault : WRITE_FAULT ≡ 5
  pub no_memory : NO_MEMORY ≡ 6
  pub limit : LIMIT ≡ 7

-- the rules: H1 to H9 of findings, and those of collisions
pub record RulesAre : Type 0 where
  pub class_gone : CLASS_GONE ≡ 1
  pub class_closed : CLASS_CLOSED ≡ 2
  pub interface_became_class : INTERFACE_BECAME_CLASS ≡ 3
  pub superclass_lost : SUPERCLASS_LOST ≡ 4
  pub constructor_closed : CONSTRUCTOR_CLOSED ≡ 5
  pub method_made_final : METHOD_MADE_FINAL ≡ 6
  pub field_closed : FIELD_CLOSED ≡ 7
  pub method_closed : METHOD_CLOSED ≡ 8
  pub interface_method_lost : INTERFACE_METHOD_LOST ≡ 9
  pub constant_added : CONSTANT_ADDED ≡ 10
  pub capture_added : CAPTURE_ADDED ≡ 11
  pub final_added : FINAL_ADDED ≡ 12

-- the limits on what is read and on what is reported: class files of a tree, bytes of a path and of a class file, classes of a side, bytes of a class's name, of a text and of code, findings and
-- collisions of a verdict, warnings, dropped interfaces, lines on calls. A word asks for 1 to 4,096 generated classes, and a row has 2 to 20 releases
pub record LimitsAre : Type 0 where
  pub files : MAX_FILES ≡ 40000
  pub path : MAX_PATH ≡ 4096
  pub bytes : MAX_CLASS_BYTES ≡ 4194304
  pub read_bytes : READ_BYTES ≡ 4194304
  pub side_classes : MAX_SIDE_CLASSES ≡ 120000
  pub class_name : MAX_CLASS_NAME ≡ 4090
  pub text : MAX_TEXT ≡ 65535
  pub code : MAX_CODE ≡ 65535
  pub findings : MAX_FINDINGS ≡ 999999
  pub warnings : MAX_WARNINGS ≡ 999999
  pub dropped : MAX_DROPPED ≡ 999999
  pub calls : MAX_CALLS ≡ 999999
  pub fewest_made : (number_of (codes "0") ≡ None) × (number_of (codes "1") ≡ Some 1)
  pub most_made : (number_of (codes "4096") ≡ Some 4096) × (number_of (codes "4097") ≡ None)
  pub fewest_releases : (is_row 1 ≡ false) × (is_row 2 ≡ true)
  pub most_releases : (is_row 20 ≡ true) × (is_row 21 ≡ false)

-- the versions of class files from which on the rules of reading go (JVMS 4.1)
pub record VersionsAre : Type 0 where
  pub oldest : OLDEST_MAJOR ≡ 45
  pub signatures : SIGNATURE_MAJOR ≡ 49
  pub abstract_interfaces : ABSTRACT_INTERFACE_MAJOR ≡ 50
  pub bootstrap : BOOTSTRAP_MAJOR ≡ 51
  pub interface_code : INTERFACE_CODE_MAJOR ≡ 52
  pub nests : NEST_MAJOR ≡ 55
  pub strict_minor : STRICT_MINOR_MAJOR ≡ 56
  pub seals : SEAL_MAJOR ≡ 61
  pub newest : NEWEST_MAJOR ≡ 65
