-- Two sides of counted classes mention few names.
use Rattle.std.proofs.Common.{◌≤◌, ◌+◌, ◌*◌, List, [], ◌∷◌, length, Option, Some, None, All, arith, lit≤}
use Rattle.std.proofs.lemmas.List.{length-append}
use Rattle.std.proofs.lemmas.List.Elements.{recursion_from_All}
use Rattle.jc_facts.specs.declared.class_facts.ClassFacts.{ClassFacts}
use Rattle.jc_facts.specs.Names.{Bytes}
use Rattle.jc_facts.specs.world.World.{World, classes}
use Rattle.jc_facts.specs.world.Mentioned.{permitted, mentions, all_mentions}
use Rattle.jc_facts.specs.world.Search.{supers, supers_of}
use Rattle.jc_complete.specs.Premises.{HasCountedNames, FewAreMentioned}
use Rattle.jc_lemmas.proofs.Listed.{EachOf}

supers_few : (s : Option Bytes) (is : List Bytes) → length (supers_of s is) ≤ length is + 1
supers_few None is = omega arith
supers_few (Some s) is = omega arith

mentions_few : (c : ClassFacts) → HasCountedNames c → length (mentions c) ≤ 40000000000000000000
mentions_few c h = omega (arith, length-append (supers c) (permitted c.permits), supers_few c.superclass c.interfaces, h.interfaces, h.permits)

all_few : (cs : List ClassFacts) → EachOf HasCountedNames cs → length (all_mentions cs) ≤ 40000000000000000000 * length cs
all_few [] h = lit≤ tt
all_few (c ∷ cs) h = omega (arith, length-append (mentions c) (all_mentions cs), mentions_few c h.0, all_few cs h.1)

side_few : (W : World) → length (classes W) ≤ 120000 → All HasCountedNames (classes W) → length (all_mentions (classes W)) ≤ 4800000000000000000000000
side_few W n h = omega (arith, all_few (classes W) (recursion_from_All HasCountedNames (classes W) h), n)

pub few_are_mentioned : FewAreMentioned
few_are_mentioned O N m n o w =
    omega (arith, length-append (all_mentions (classes O)) (all_mentions (classes N)), side_few O m o, side_few N n w)
