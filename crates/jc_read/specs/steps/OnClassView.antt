-- What the attributes of the class say.
use Rattle.jc_facts.specs.file.ClassParts as parts
use Rattle.jc_read.specs.declared.on_class.OnClass.{OnClass}

abbrev pub on_class_view : OnClass → parts.OnClass
on_class_view f = record { permits = f.permits; nest_host = f.nest_host; nest_members = f.nest_members; signature = f.signature }
