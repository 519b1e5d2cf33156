use Rattle.std.proofs.Common.{refl}
use Rattle.jc_facts.specs.world.Types.{type_read}
use Rattle.jc_facts.specs.world.World.{class_named}
use Rattle.jc_facts.specs.Options.{and_then}
use Rattle.jc_desc.specs.Reading.{field_of, type_from, basic_from, class_from}
use Rattle.jc_used.specs.Above.{chain_of, above_of, class_in}
use Rattle.jc_used.specs.Explains.{explained_by}
use Rattle.jc_used.proofs.laws.lines_explain_their_own.Goals as goal

pub returns : goal.returns
unfolding explained_by chain_of above_of class_in type_read class_named and_then field_of type_from basic_from class_from
returns c = record {
  class_gone = refl;
  of_an_array = refl;
  other_class = refl;
  other_error = refl;
  shut_out = refl;
  let_in = refl;
  method_gone = refl;
  below_its_class = refl;
  of_another_class = refl;
}
