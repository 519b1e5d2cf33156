use Rattle.std.proofs.Common.{subst}
use Rattle.jc_rows.specs.Keys.{numbered_keys, IsNumber}
use Rattle.jc_sides.specs.SidesOf.{SidesOf}
use Rattle.jc_sides.proofs.key_numbers.KeyNumbers.of.Goals as goal

pub returns : goal.returns
returns c = record {
  old = subst (λ (s : SidesOf). IsNumber (numbered_keys s.old) c.args.key.now c.key_number.result) c.sides.view_is c.key_number.ensures.value;
  new = subst (λ (s : SidesOf). IsNumber (numbered_keys s.new) c.args.key.now c.key_number-2.result) c.sides.view_is c.key_number-2.ensures.value;
}
