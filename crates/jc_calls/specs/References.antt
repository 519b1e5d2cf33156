-- Method references that no longer link, over the old side O and the new side N alone.
--     reference_lost O N c k      the handles of an act on the public method of the key k, named through the class c, were Ok and aren't, while the act goes on
use Rattle.std.specs.Prelude.{Bool, not, None, Some, is_none, is_some, ◌&&◌, ◌||◌}
use Rattle.std.specs.List.{list_any, list_all}
use Rattle.jc_facts.specs.declared.act.Act.{Act}
use Rattle.jc_facts.specs.declared.key.Key.{Key}
use Rattle.jc_facts.specs.declared.rule_numbers.TheConstants.{METHOD_CLOSED}
use Rattle.jc_facts.specs.Names.{Bytes}
use Rattle.jc_facts.specs.Flags.{public_flag}
use Rattle.jc_facts.specs.world.World.{World, DeclaredMember, class_is}
use Rattle.jc_facts.specs.world.Modules.{is_visible}
use Rattle.jc_facts.specs.client.Acts.{form_of}
use Rattle.jc_facts.specs.client.Outcome.{may_find}
use Rattle.jc_promises.specs.rule.Bases.{is_steady, is_key_of_method}
use Rattle.jc_promises.specs.rule.Findings.{finding_at}
use Rattle.jc_promises.specs.rule.OpenActs.{act_fault, first_seat, method_acts}
use Rattle.jc_calls.specs.Handles.{are_referable, is_said_of_named}

-- ---- one side

-- clients can name the class that is said to declare the method that the act finds: the one that they name, or one that is public and visible (JVMS 5.4.4).
-- No client is of a library's package
abbrev pub is_of_open : World → Act → DeclaredMember → Bool
is_of_open W what m = class_is W (λ c. is_said_of_named what c || (is_visible W c.name && public_flag c.flags)) m.owner

-- so it is with each that the act on the key k may find, named through the class c
abbrev pub are_of_open : World → Act → Bytes → Key → Bool
are_of_open W what c k = list_all (is_of_open W what) (may_find W (form_of what) c k)

-- ---- two sides

-- clients of some seat could do the act
abbrev pub is_open_to_some : World → World → Bytes → Key → Act → Bool
is_open_to_some O N c k what = is_some (first_seat O N (λ a. is_none (act_fault O a c k what)))

-- and take apart the handle that javac makes of it, as they no longer can
abbrev pub is_handle_lost : World → World → Bytes → Key → Act → Bool
is_handle_lost O N c k what = is_open_to_some O N c k what && are_referable O what c k && are_of_open O what c k && not (are_of_open N what c k)

-- a finding on the class and the key says that an act is closed
abbrev pub is_told : World → World → Bytes → Key → Bool
is_told O N c k = is_some (finding_at O N (record { rule = METHOD_CLOSED; «class» = c; key = Some k; target = None }))

-- the class is steady, the handles of an act on the method are lost, and no finding on both tells more
unfoldable pub reference_lost : World → World → Bytes → Key → Bool
reference_lost O N c k = is_key_of_method k && is_steady O N c && list_any (is_handle_lost O N c k) method_acts && not (is_told O N c k)
