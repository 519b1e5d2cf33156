-- Two releases with short names, and the old one with planned clients: worlds of valid classes with short names.
use Rattle.std.proofs.Common.{◌≡◌, ◌≤◌, true, refl, sym, subst, ◌&&◌, not, List, [], ◌∷◌, ◌++◌, length, nat_le, is_some}
use Rattle.std.specs.List.{list_all, All}
use Rattle.std.specs.Str.{is_utf8}
use Rattle.std.proofs.lemmas.Bool.{and_parts, and_from, le-leb, leb-true}
use Rattle.std.proofs.lemmas.List.Elements.{recursion_from_All}
use Rattle.jc_facts.specs.declared.class_facts.ClassFacts.{ClassFacts}
use Rattle.jc_facts.specs.declared.class_facts.Member.{Member}
use Rattle.jc_facts.specs.declared.client.ClientClass.{ClientClass}
use Rattle.jc_facts.specs.client.Valid.{IsValidClient, facts_of}
use Rattle.jc_facts.specs.client.Allowed.{is_allowed_name, has_package}
use Rattle.jc_facts.specs.world.Mentioned.{is_named_above}
use Rattle.jc_facts.specs.Names.{Bytes}
use Rattle.jc_facts.specs.file.Valid.{IsValidClass}
use Rattle.jc_facts.specs.world.World.{World, classes, find_class, with_clients}
use Rattle.jc_lemmas.proofs.Listed.{EachOf, EachOf-append, EachOf-both}
use Rattle.jc_facts.proofs.World.{class_named-each}
use Rattle.jc_bodies.specs.Files.{CanWrite}
use Rattle.jc_facts.specs.file.ShortNames.{IsShortMember, HasShortNames}
use Rattle.jc_bodies.proofs.Linking.{IsShort, IsSound}
use Rattle.jc_bodies.proofs.Written.{is_short_text, is_short_member}

short_members : (ms : List Member) → EachOf IsShortMember ms → list_all is_short_member ms ≡ true
short_members [] h = refl
short_members (m ∷ ms) h =
    let w = h.0 in
    and_from (is_short_member m) (list_all is_short_member ms) (and_from (is_short_text m.name) (is_short_text m.descriptor) (le-leb (length m.name) 65535 w.0) (le-leb (length m.descriptor) 65535 w.1)) (short_members ms h.1)

short_of : (c : ClassFacts) → HasShortNames c → IsShort c
short_of c h = record { name = h.name; fields = short_members c.fields (recursion_from_All IsShortMember c.fields h.fields); methods = short_members c.methods (recursion_from_All IsShortMember c.methods h.methods) }

-- a valid class with short names
abbrev pub IsGood : ClassFacts → Type 0
IsGood c = IsValidClass c × IsShort c

all_good : (cs : List ClassFacts) → All IsValidClass cs → All HasShortNames cs → EachOf IsGood cs
all_good cs v s = EachOf-both (λ c p q. (p, short_of c q)) cs (recursion_from_All IsValidClass cs v) (recursion_from_All HasShortNames cs s)

-- a name that is allowed is short
pub allowed_length : (W : World) (x : Bytes) → is_allowed_name W x ≡ true → length x ≤ 4090
unfolding is_allowed_name
allowed_length W x h =
    let p = and_parts (not (is_some (find_class W x)) && not (is_named_above W x) && not (has_package W x) && nat_le (length x) 4090) (is_utf8 x) h in
    leb-true (length x) 4090 (and_parts (not (is_some (find_class W x)) && not (is_named_above W x) && not (has_package W x)) (nat_le (length x) 4090) p.0).1

sound_from : (W : World) → EachOf IsGood W.platform → EachOf IsGood W.release → EachOf IsGood W.clients → IsSound W
unfolding find_class
sound_from W p r c =
    let all : EachOf IsGood (classes W) = EachOf-append IsGood (W.platform ++ W.release) W.clients (EachOf-append IsGood W.platform W.release p r) c in
    record { valid = λ x d e. (class_named-each IsGood (classes W) x d all e).0; short = λ x d e. (class_named-each IsGood (classes W) x d all e).1 }

module _ (O N : World) (can : CanWrite O N) where
  good_platform : EachOf IsGood O.platform
  good_platform = all_good O.platform can.plan.pair.platform_valid can.platform_short

  good_old : EachOf IsGood O.release
  good_old = all_good O.release can.plan.pair.old_valid can.old_short

  pub sound_clients : (clients : List ClassFacts) → EachOf IsGood clients → IsSound (with_clients O clients)
  sound_clients clients c = sound_from (with_clients O clients) good_platform good_old c

  pub sound_old : IsSound O
  sound_old = sound_from O good_platform good_old (subst (EachOf IsGood) (sym can.plan.pair.run.old_bare) tt)

  pub sound_new : IsSound N
  sound_new =
      sound_from N (subst (EachOf IsGood) can.plan.pair.run.platform good_platform) (all_good N.release can.plan.pair.new_valid can.new_short) (subst (EachOf IsGood) (sym can.plan.pair.run.new_bare) tt)

-- clients whose members have short names
abbrev pub HasShortMembers : ClientClass → Type 0
HasShortMembers c = (list_all is_short_member c.facts.fields ≡ true) × (list_all is_short_member c.facts.methods ≡ true)

pub clients_good : (O : World) (cs : List ClientClass) → EachOf IsValidClient cs → EachOf (λ c. is_allowed_name O c.facts.name ≡ true) cs → EachOf HasShortMembers cs → EachOf IsGood (facts_of cs)
clients_good O [] v a s = tt
clients_good O (c ∷ cs) v a s =
    let w = s.0 in
    let v0 : IsValidClient c = v.0 in
    ((v0.facts, record { name = allowed_length O c.facts.name a.0; fields = w.0; methods = w.1 }), clients_good O cs v.1 a.1 s.1)
