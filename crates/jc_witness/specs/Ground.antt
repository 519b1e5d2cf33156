-- What clients are planned over: the two sides of a comparison.
use Rattle.std.specs.Prelude.{Bool, true, not, None, length, ◌||◌, ◌≡◌, ◌<◌, ◌^◌, IsTrue}
use Rattle.std.specs.List.{All}
use Rattle.jc_facts.specs.declared.act.Act.{Act}
use Rattle.jc_facts.specs.declared.key.Key.{Key}
use Rattle.jc_facts.specs.Names.{Bytes}
use Rattle.jc_desc.specs.Names.{is_clinit_name}
use Rattle.jc_facts.specs.client.Acts.{Form, FieldForm, MethodForm, InterfaceForm, form_of, is_act_on_field}
use Rattle.jc_facts.specs.world.World.{World}
use Rattle.jc_facts.specs.world.Assignment.{is_interface_of}
use Rattle.jc_facts.specs.world.Loading.{load_fault}
use Rattle.jc_facts.specs.world.Mentioned.{mentioned}
use Rattle.jc_facts.specs.file.ShortNames.{HasShortNames}
use Rattle.jc_sides.specs.SidesOf.{SidesOf, AreSides}

-- two sides of one run, which mention fewer than 2^64 names
pub record IsGround (s : SidesOf) : Type 0 where
  pub sides : AreSides s
  pub few : length (mentioned s.old s.new) < 2 ^ 64

-- the names of the side's classes and members are short
pub record HasShortSide (W : World) : Type 0 where
  pub platform : All HasShortNames W.platform
  pub release : All HasShortNames W.release

-- the class is of the kind of which the form speaks (JVMS 4.4.2)
abbrev pub is_of_form : World → Form → Bytes → Bool
is_of_form W FieldForm x = true
is_of_form W MethodForm x = not (is_interface_of W x)
is_of_form W InterfaceForm x = is_interface_of W x

-- the act can be looked up for the class x and the key: the class loads and is of the kind of which the act's reference speaks, and the
-- key of a method isn't that of a class initializer
pub record CanRefer (W : World) (what : Act) (x : Bytes) (k : Key) : Type 0 where
  pub loads : load_fault W x ≡ None
  pub kind : IsTrue (is_of_form W (form_of what) x)
  pub key : IsTrue (is_act_on_field what || not (is_clinit_name k.name))
