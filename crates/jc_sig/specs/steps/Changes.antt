-- What has changed between two texts, as it is computed.
use Rattle.std.specs.Prelude.{Bool, true, false, Option, Some, None, option_map, if◌then◌else◌}
use Rattle.std.specs.Option.{option_eq}
use Rattle.jc_facts.specs.declared.key.Key.{Key}
use Rattle.jc_facts.specs.declared.sig_note.SigChange.{SigChange}
use Rattle.jc_facts.specs.Names.{Bytes, same, is_descriptor_of_method}
use Rattle.jc_sig.specs.Reading.{class_sig_of, method_sig_of, field_sig_of}
use Rattle.jc_sig.specs.Notes.{class_part, method_part, field_part, change_of}

-- of two texts, each of which may not be there
abbrev pub change_between : {A : Type 0} → (Bytes → Option A) → (A → A → SigChange) → Option Bytes → Option Bytes → SigChange
change_between read part before after = change_of part (option_map read before) (option_map read after)

-- of the class itself, of a method or of a field, where the texts aren't the same
abbrev pub class_change : Option Bytes → Option Bytes → SigChange
class_change before after = change_between class_sig_of class_part before after

abbrev pub member_change : Bool → Option Bytes → Option Bytes → SigChange
member_change true before after = change_between method_sig_of method_part before after
member_change false before after = change_between field_sig_of field_part before after

abbrev pub change_at : Option Key → Option Bytes → Option Bytes → SigChange
change_at None before after = class_change before after
change_at (Some k) before after = member_change (is_descriptor_of_method k.descriptor) before after

-- nothing where they are
abbrev pub changed : Option Key → Option Bytes → Option Bytes → Option SigChange
changed key before after = if option_eq same before after then None else Some (change_at key before after)
