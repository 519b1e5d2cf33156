-- The objects of lines on calls.
use Rattle.std.proofs.Common.{◌≡◌, false, None, refl}
use Rattle.serde_json.specs.Written.{has_float}
use Rattle.jc_call_kinds.specs.declared.call_line.CallLine.{CallLine}
use Rattle.jc_report.specs.CallForms.{call_value_of}
use Rattle.jc_report.proofs.Floats.{member_plain, name_plain}

pub call_value_plain : (l : CallLine) → has_float (call_value_of l) ≡ false
call_value_plain l = rw (member_plain l.key None, name_plain l.target) refl
