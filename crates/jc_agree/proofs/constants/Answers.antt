use Rattle.std.proofs.Common.{refl}
use Rattle.std.specs.Fmt.{digits}
use Rattle.jc_agree.proofs.constants.Goals as goal

pub returns-clause-statuses : goal.returns-clause-statuses
returns-clause-statuses c = record {
  passed = refl;
  not_passed = refl;
  usage = refl;
  bad_input = refl;
  read_fault = refl;
  write_fault = refl;
  no_memory = refl;
  limit = refl;
}

pub returns-clause-rules : goal.returns-clause-rules
returns-clause-rules c = record {
  class_gone = refl;
  class_closed = refl;
  interface_became_class = refl;
  superclass_lost = refl;
  constructor_closed = refl;
  method_made_final = refl;
  field_closed = refl;
  method_closed = refl;
  interface_method_lost = refl;
  constant_added = refl;
  capture_added = refl;
  final_added = refl;
}

pub returns-clause-limits : goal.returns-clause-limits
unfolding digits
returns-clause-limits c = record {
  files = refl;
  path = refl;
  bytes = refl;
  read_bytes = refl;
  side_classes = refl;
  class_name = refl;
  text = refl;
  code = refl;
  findings = refl;
  warnings = refl;
  dropped = refl;
  calls = refl;
  fewest_made = (refl, refl);
  most_made = (refl, refl);
  fewest_releases = (refl, refl);
  most_releases = (refl, refl);
}

pub returns-clause-versions : goal.returns-clause-versions
returns-clause-versions c = record {
  oldest = refl;
  signatures = refl;
  abstract_interfaces = refl;
  bootstrap = refl;
  interface_code = refl;
  nests = refl;
  strict_minor = refl;
  seals = refl;
  newest = refl;
}
