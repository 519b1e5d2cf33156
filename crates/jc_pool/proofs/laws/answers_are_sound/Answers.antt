use Rattle.jc_desc.proofs.Sound.{class_sound, utf8_sound}
use Rattle.jc_pool.proofs.Members.{member_ref_sound, handle_sound}
use Rattle.jc_pool.proofs.laws.answers_are_sound.Goals as goal

pub returns-clause-texts : goal.returns-clause-texts
returns-clause-texts c = utf8_sound

pub returns-clause-classes : goal.returns-clause-classes
returns-clause-classes c = class_sound

pub returns-clause-members : goal.returns-clause-members
returns-clause-members c = member_ref_sound

pub returns-clause-handles : goal.returns-clause-handles
returns-clause-handles c = handle_sound
