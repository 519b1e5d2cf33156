-- What the attributes of a member say.
use Rattle.jc_facts.specs.file.ClassParts as parts
use Rattle.jc_read.specs.declared.on_member.OnMember.{OnMember}

abbrev pub on_member_view : OnMember → parts.OnMember
on_member_view f = record { constant = f.constant; signature = f.signature }
