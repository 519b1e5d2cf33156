use Rattle.jc_facts.proofs.ClassFiles.{class_file_stands, class_file_read}
use Rattle.jc_read.proofs.laws.steps_read_the_record.Goals as goal

pub returns : goal.returns
returns c = λ bytes facts. (λ e. class_file_stands bytes facts e, λ h. class_file_read bytes facts h)
