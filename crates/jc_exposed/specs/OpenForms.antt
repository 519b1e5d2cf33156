-- References that find a member which is open to a seat.
use Rattle.std.specs.Prelude.{Bool, not, is_none}
use Rattle.jc_facts.specs.declared.key.Key.{Key}
use Rattle.jc_facts.specs.declared.link_error.LinkError.TheVariants.{IllegalAccessError}
use Rattle.jc_facts.specs.Names.{Bytes}
use Rattle.jc_facts.specs.world.World.{World}
use Rattle.jc_facts.specs.world.Loading.{fault_where}
use Rattle.jc_facts.specs.client.Acts.{Form}
use Rattle.jc_facts.specs.client.Outcome.{look_up}
use Rattle.jc_facts.specs.world.Access.{is_member_open}

-- a reference of the form to the class c finds a member that is open to the seat a
unfoldable pub finds_open : World → Bytes → Bytes → Key → Form → Bool
finds_open O a c k f = is_none (look_up O f c k (λ m. fault_where (not (is_member_open O a c m)) IllegalAccessError))
