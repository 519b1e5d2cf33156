use Rattle.std.proofs.Common.{◌∙◌}
use Rattle.jc_lemmas.proofs.Utf8.{utf8_where_ok}
use Rattle.jc_sides.proofs.clients.is_utf8.Goals as goal

pub returns : goal.returns
returns c = c.is_ok.ensures.value ∙ utf8_where_ok _ _ c.args.bytes.now (λ s p. p.1) (λ e q. q.0) c.from_utf8.result c.from_utf8.ensures.cases
