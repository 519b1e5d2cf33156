-- That a check finds other things over a part of a platform than over the whole, also where that part is enough for clients.
use Rattle.std.proofs.Common.{◌≡◌, List, [], ◌∷◌, refl, codes}
use Rattle.jc_facts.specs.declared.act.Act.TheVariants.{Assignment, InvokeStatic}
use Rattle.jc_facts.specs.declared.class_facts.ClassFacts.{ClassFacts}
use Rattle.jc_facts.specs.declared.key.Key.{Key}
use Rattle.jc_facts.specs.declared.link_error.LinkError.TheVariants.{IllegalAccessError, NoSuchMethodError, VerifyError}
use Rattle.jc_facts.specs.Names.{Bytes, object_name}
use Rattle.jc_facts.specs.world.World.{World, side}
use Rattle.jc_sound.proofs.Examples.{computes, member, key, object, extending, plain, findings, finding_to, finding_from}

abbrev d_Base : Bytes
d_Base = codes "d/Base"

abbrev a_Sub : Bytes
a_Sub = codes "a/Sub"

abbrev r_C : Bytes
r_C = codes "r/C"

abbrev m : Key
m = key (codes "m") (codes "()V")

-- the platform's d/Base has a protected static method m, and a/Sub of another package extends it
abbrev base : ClassFacts
base = extending d_Base object_name [] (member m.name m.descriptor 0xC ∷ [])

abbrev sub : ClassFacts
sub = extending a_Sub d_Base [] []

abbrev part : List ClassFacts
part = object ∷ base ∷ []

abbrev whole : List ClassFacts
whole = object ∷ base ∷ sub ∷ []

-- r/C extends d/Base in the old release, and java/lang/Object in the new one
abbrev old : List ClassFacts → World
old platform = side platform (extending r_C d_Base [] [] ∷ [])

abbrev new : List ClassFacts → World
new platform = side platform (plain r_C ∷ [])

over_part : findings (old part) (new part)
    ≡ (finding_to 4 r_C d_Base Assignment VerifyError
    ∷ finding_from 8 d_Base m InvokeStatic r_C IllegalAccessError
    ∷ finding_from 8 r_C m InvokeStatic d_Base NoSuchMethodError
    ∷ [])
unfolding computes
over_part = refl

-- clients can extend a/Sub too, which is before d/Base in byte order, and name m through it
over_whole : findings (old whole) (new whole)
    ≡ (finding_to 4 r_C d_Base Assignment VerifyError
    ∷ finding_from 8 d_Base m InvokeStatic r_C IllegalAccessError
    ∷ finding_from 8 a_Sub m InvokeStatic r_C IllegalAccessError
    ∷ finding_from 8 r_C m InvokeStatic a_Sub NoSuchMethodError
    ∷ [])
unfolding computes
over_whole = refl
