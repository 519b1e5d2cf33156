use Rattle.std.proofs.Common.{ap}
use Rattle.std.specs.Fmt.{styled_decimal}
use Rattle.std.specs.Prelude.{string_bytes}
use Rattle.jc_shown.proofs.WitnessPaths.{six_written}
use Rattle.jc_shown.proofs.witness_path.six_digits.Goals as goal

pub returns : goal.returns
returns c =
    six_written string_bytes c.format.result (styled_decimal c.laid_out.result c.args.number) c.args.number (ap (λ spec. styled_decimal spec c.args.number) c.laid_out.ensures) c.format.ensures.ok
