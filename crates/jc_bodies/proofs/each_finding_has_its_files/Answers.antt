use Rattle.jc_bodies.proofs.FilesWhole.{each_has_its_files}
use Rattle.jc_bodies.proofs.each_finding_has_its_files.Goals as goal

pub returns : goal.returns
returns c = each_has_its_files
