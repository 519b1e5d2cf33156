-- Which of the methods that superinterfaces declare is taken, where there may be several.
--     IsPick W x k f      f is maximally specific, and not abstract where one that is so isn't
--     Picks W x k found      the lookup finds such a one, or nothing where there is none
use Rattle.std.specs.Prelude.{◌≡◌, true, List, [], Option, None, Some}
use Rattle.std.specs.List.{Contains}
use Rattle.jc_facts.specs.declared.key.Key.{Key}
use Rattle.jc_facts.specs.Names.{Bytes}
use Rattle.jc_facts.specs.Flags.{abstract_flag}
use Rattle.jc_facts.specs.world.World.{World, DeclaredMember}
use Rattle.jc_facts.specs.world.Hierarchy.{superinterfaces}
use Rattle.jc_facts.specs.world.Lookup.{declared_by, is_maximal}
use Rattle.jc_index.specs.Lookups.{IsFound}
use Rattle.jc_index.specs.declared.ids.Found.{Found}

-- the methods of the key, neither private nor static, that superinterfaces of x declare
abbrev pub methods_above : World → Bytes → Key → List DeclaredMember
methods_above W x k = declared_by k (superinterfaces W x)

-- f is a maximally specific one of them (JVMS 5.4.3.3), and abstract only where all that are so are
pub record IsPick (W : World) (x : Bytes) (k : Key) (f : Found) : Type 0 where
  pub method : DeclaredMember
  pub is_in : Contains (methods_above W x k) method
  pub found : IsFound W f method
  pub maximal : is_maximal W (methods_above W x k) method ≡ true
  pub first : abstract_flag method.member.flags ≡ true
      → (m : DeclaredMember) → Contains (methods_above W x k) m → is_maximal W (methods_above W x k) m ≡ true → abstract_flag m.member.flags ≡ true

-- the lookup finds such a one, and nothing where superinterfaces declare none
abbrev pub Picks : World → Bytes → Key → Option Found → Type 0
Picks W x k None = methods_above W x k ≡ []
Picks W x k (Some f) = IsPick W x k f
