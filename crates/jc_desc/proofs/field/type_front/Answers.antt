use Rattle.std.proofs.Common.{sym}
use Rattle.jc_desc.specs.Views.{type_view}
use Rattle.jc_desc.proofs.Front.{text_is}
use Rattle.jc_desc.proofs.field.type_front.Goals as goal

pub returns-in-Some-clause-text : goal.returns-in-Some-clause-text
returns-in-Some-clause-text c = rw c.saturating_sub-len.ensures (text_is c.args.bytes.now (type_view c.in-Some.field) c.in-Some.rest.now (sym c.in-Some.ensures))
