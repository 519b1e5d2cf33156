-- The worked examples of two seats: a hidden class that is exposed to the clients below p/A, its hidden superclass to those below p/B, and a client
-- that hands a value from one to the other. With the new release the superclass has left the chain.
use Rattle.std.proofs.Common.{◌≡◌, true, false, List, [], ◌∷◌, refl, Option, Some, None, codes, lit<}
use Rattle.std.specs.Str.{is_utf8}
use Rattle.jc_facts.specs.declared.class_facts.ClassFacts.{ClassFacts}
use Rattle.jc_facts.specs.declared.class_facts.Member.{Member}
use Rattle.jc_facts.specs.declared.client.ClientClass.{ClientClass}
use Rattle.jc_facts.specs.declared.client.Item.{Item}
use Rattle.jc_facts.specs.declared.client.Item.TheVariants as item
use Rattle.jc_facts.specs.declared.client.Place.TheVariants.{Other}
use Rattle.jc_facts.specs.declared.act.Act.TheVariants.{InvokeStatic, GetField, PutField}
use Rattle.jc_facts.specs.declared.finding.Finding.{Finding}
use Rattle.jc_facts.specs.declared.link_error.LinkError.TheVariants.{VerifyError}
use Rattle.jc_facts.specs.Names.{Bytes, object_name, key_of}
use Rattle.jc_facts.specs.client.Outcome.{outcome}
use Rattle.jc_facts.specs.client.Seats.{seat}
use Rattle.jc_facts.specs.client.Valid.{facts_of}
use Rattle.jc_facts.specs.world.Loading.{loads}
use Rattle.jc_facts.specs.world.World.{World, with_clients}
use Rattle.jc_promises.specs.client.Reach.{opens, class_in_reach, is_in_reach}
use Rattle.jc_promises.specs.rule.Apart.{are_apart}
use Rattle.jc_promises.specs.rule.Exposed.{is_exposed}
use Rattle.jc_promises.specs.rule.Findings.{finding_at}
use Rattle.jc_sound.proofs.Examples.{computes, init, member, a_class, extending, over, on_target, exposed_finding, ascii}
use Rattle.jc_sound.proofs.WorkedClients.{p_A}

abbrev p_B : Bytes
p_B = codes "p/B"

abbrev Base : Bytes
Base = codes "p/Base"

abbrev Conf : Bytes
Conf = codes "p/Conf"

-- the package-private p/Base, and p/Conf below this class
abbrev hidden_base : ClassFacts
hidden_base = a_class Base 0x20 (Some object_name) [] [] (init 0 ∷ [])

abbrev hidden_conf : Bytes → ClassFacts
hidden_conf above = a_class Conf 0x20 (Some above) [] [] (init 0 ∷ [])

-- a client with these items
abbrev client : Bytes → Bytes → List Member → List Item → ClientClass
client x above fields items = record { facts = extending x above fields []; items = items }

-- ---- methods

-- protected static methods: p/A gives a p/Conf, and p/B takes a p/Base
abbrev conf : Member
conf = member (codes "conf") (codes "()Lp/Conf;") 0x0c

abbrev take : Member
take = member (codes "take") (codes "(Lp/Base;)V") 0x0c

abbrev by_methods : Bytes → World
by_methods above = over (hidden_base ∷ hidden_conf above ∷ extending p_A object_name [] (conf ∷ []) ∷ extending p_B object_name [] (take ∷ []) ∷ [])

abbrev old : World
old = by_methods Base

abbrev new : World
new = by_methods object_name

each_is_exposed_to_one_seat : (is_exposed old p_A Conf ≡ true) × (is_exposed old p_B Conf ≡ false) × (is_exposed old p_A Base ≡ false) × (is_exposed old p_B Base ≡ true)
unfolding computes
each_is_exposed_to_one_seat = (refl, refl, refl, refl)

handed_from_seat_to_seat : finding_at old new (on_target 4 Conf Base) ≡ Some (exposed_finding 4 Conf (Some Base) p_A VerifyError)
unfolding computes
handed_from_seat_to_seat = refl

-- ---- its clients

-- app/M, below p/A, calls conf; app/M$In, below p/B, passes what an accessor of app/M gives to take
abbrev M : Bytes
M = codes "app/M"

abbrev In : Bytes
In = codes "app/M$In"

abbrev passes : Item
passes = item.Assign Conf Base

abbrev by_accessor : List ClientClass
by_accessor =
    client M p_A [] (item.Access InvokeStatic M (key_of conf) None Other ∷ [])
    ∷ client In p_B [] (item.Access InvokeStatic In (key_of take) None Other ∷ passes ∷ [])
    ∷ []

accessor_opens_to_both : let V = with_clients old (facts_of by_accessor) in
    (seat V M ≡ Some p_A) × (seat V In ≡ Some p_B) × (is_in_reach V In by_accessor passes ≡ true) × (is_in_reach V M by_accessor passes ≡ true)
unfolding computes
accessor_opens_to_both = (refl, refl, refl, refl)

accessor_is_refused : (outcome (with_clients old (facts_of by_accessor)) In passes ≡ None) × (outcome (with_clients new (facts_of by_accessor)) In passes ≡ Some VerifyError)
unfolding computes
accessor_is_refused = (refl, refl)

-- without app/M the class isn't in reach
abbrev alone : List ClientClass
alone = client In p_B [] (item.Access InvokeStatic In (key_of take) None Other ∷ passes ∷ []) ∷ []

nobody_opens_it : is_in_reach (with_clients old (facts_of alone)) In alone passes ≡ false
unfolding computes
nobody_opens_it = refl

-- nor where app/M doesn't load, since an interface that it names isn't there
abbrev call : Item
call = item.Access InvokeStatic p_A (key_of conf) None Other

abbrev unloadable : ClientClass
unloadable = record { facts = a_class M 0x21 (Some p_A) (codes "q/Gone" ∷ []) [] (init 1 ∷ []); items = call ∷ [] }

opener_has_to_load : let V = with_clients old (facts_of (unloadable ∷ alone)) in
    (loads V M ≡ false) × (opens V M Conf call ≡ true) × (class_in_reach V In (unloadable ∷ alone) Conf ≡ false)
unfolding computes
opener_has_to_load = (refl, refl, refl)

-- app/M$In has the value in a field of its own, as a class that captures it has
abbrev captured : Member
captured = member (codes "val$x") (codes "Lp/Conf;") 0x1010

abbrev by_capture : List ClientClass
by_capture =
    client M p_A [] (item.Access InvokeStatic M (key_of conf) None Other ∷ [])
    ∷ client In p_B (captured ∷ []) (item.Access GetField In (key_of captured) (Some In) Other ∷ item.Access InvokeStatic In (key_of take) None Other ∷ passes ∷ [])
    ∷ []

-- its own field opens nothing, app/M does
capture_is_in_reach : let V = with_clients old (facts_of by_capture) in
    (opens V In Conf (item.Access GetField In (key_of captured) (Some In) Other) ≡ false) × (is_in_reach V In by_capture passes ≡ true) × (outcome V In passes ≡ None)
    × (outcome (with_clients new (facts_of by_capture)) In passes ≡ Some VerifyError)
unfolding computes
capture_is_in_reach = (refl, refl, refl, refl)

-- ---- fields

-- protected fields: p/A has a p/Conf, and p/B a p/Base
abbrev h : Member
h = member (codes "h") (codes "Lp/Conf;") 0x04

abbrev b : Member
b = member (codes "b") (codes "Lp/Base;") 0x04

abbrev by_fields : Bytes → World
by_fields above = over (hidden_base ∷ hidden_conf above ∷ extending p_A object_name (h ∷ []) [] ∷ extending p_B object_name (b ∷ []) [] ∷ [])

handed_to_a_field : finding_at (by_fields Base) (by_fields object_name) (on_target 4 Conf Base) ≡ Some (exposed_finding 4 Conf (Some Base) p_A VerifyError)
unfolding computes
handed_to_a_field = refl

abbrev by_field : List ClientClass
by_field =
    client M p_A [] (item.Access GetField M (key_of h) (Some M) Other ∷ [])
    ∷ client In p_B [] (passes ∷ item.Access PutField In (key_of b) (Some In) Other ∷ [])
    ∷ []

field_is_in_reach : let V = with_clients (by_fields Base) (facts_of by_field) in
    (is_in_reach V In by_field passes ≡ true) × (outcome V In passes ≡ None) × (outcome (with_clients (by_fields object_name) (facts_of by_field)) In passes ≡ Some VerifyError)
unfolding computes
field_is_in_reach = (refl, refl, refl)

-- ---- sealed seats

-- p/A and p/B with permitted names
abbrev sealed : Bytes → Member → List Bytes → ClassFacts
sealed x m names = record (extending x object_name [] (m ∷ [])) { major = 61; permits = Some names }

abbrev by_names : List Bytes → List Bytes → Bytes → World
by_names of_A of_B above = over (hidden_base ∷ hidden_conf above ∷ sealed p_A conf of_A ∷ sealed p_B take of_B ∷ [])

abbrev lost : List Bytes → List Bytes → Option Finding
lost of_A of_B = finding_at (by_names of_A of_B Base) (by_names of_A of_B object_name) (on_target 4 Conf Base)

utf8_M : is_utf8 M ≡ true
utf8_M = ascii M (lit< tt, (lit< tt, (lit< tt, (lit< tt, (lit< tt, tt)))))

abbrev L : Bytes
L = codes "app/L"

utf8_L : is_utf8 L ≡ true
utf8_L = ascii L (lit< tt, (lit< tt, (lit< tt, (lit< tt, (lit< tt, tt)))))

-- one name for both leaves one client, which has one superclass
one_name_is_no_two_clients : (are_apart (by_names (M ∷ []) (M ∷ []) Base) (by_names (M ∷ []) (M ∷ []) object_name) p_A p_B ≡ false) × (lost (M ∷ []) (M ∷ []) ≡ None)
unfolding computes
one_name_is_no_two_clients = (simp (utf8_M), simp (utf8_M))

two_names_are_two_clients : lost (M ∷ []) (M ∷ L ∷ []) ≡ Some (exposed_finding 4 Conf (Some Base) p_A VerifyError)
unfolding computes
two_names_are_two_clients = simp (utf8_M, utf8_L)
