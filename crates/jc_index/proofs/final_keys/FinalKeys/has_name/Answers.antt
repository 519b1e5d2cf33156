use Rattle.std.proofs.Common.{◌∙◌, sym, ap}
use Rattle.jc_facts.specs.file.Valid.{has_key}
use Rattle.jc_index.proofs.HashedKeys.{no_key}
use Rattle.jc_index.proofs.final_keys.FinalKeys.has_name.Goals as goal

pub returns : goal.returns
returns c = λ q e f.
    ap (has_key q) (sym c.self.view_is) ∙ no_key c.self.inside.keys c.self.inside.names c.args.name.now q c.self.invariant e (sym c.has.ensures ∙ f)
