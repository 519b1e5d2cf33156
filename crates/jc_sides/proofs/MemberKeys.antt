-- Lists of the keys of which a rule may speak.
use Rattle.std.proofs.Common.{◌≡◌, Bool, List, Option, Some, ap, ◌∙◌, subst, sym}
use Rattle.jc_facts.specs.declared.key.Key.{Key}
use Rattle.jc_facts.specs.declared.class_facts.ClassFacts.{ClassFacts}
use Rattle.jc_facts.specs.Names.{Bytes}
use Rattle.jc_desc.specs.Names.{is_init_name}
use Rattle.jc_facts.specs.Options.{some_and}
use Rattle.jc_facts.specs.world.World.{find_class}
use Rattle.jc_sides.specs.steps.KeySets.{has_member}
use Rattle.jc_sides.specs.declared.members.Members.TheVariants as members
use Rattle.jc_sides.specs.Members.{HasAll, OfPassing, is_member}
use Rattle.jc_sides.specs.declared.members.Members.{Members}
use Rattle.jc_sides.specs.SidesOf.{SidesOf}
use Rattle.jc_sides.specs.Rules.{HasEachKey}

-- each key of which something is made is among those that pass
pub each_key : {F : Type 0} (makes : Key → Option F) (passes : Key → Bool) (keys : List Key) → HasAll passes keys → OfPassing makes passes → HasEachKey makes keys
each_key makes passes keys h of k f e = h k (of k f e)

-- the members by another name
pub named_so : (m n : Members) → m ≡ n → (s : SidesOf) (x : Bytes) (keys : List Key) → HasAll (is_member n s x) keys → HasAll (is_member m s x) keys
named_so m n e s x keys h = subst (λ (i : Members). HasAll (is_member i s x) keys) (sym e) h

-- the initializers of a class, of its record
pub inits : (s : SidesOf) (x : Bytes) (c : ClassFacts) → Some c ≡ find_class s.old x → (keys : List Key) → HasAll (has_member (λ m. is_init_name m.name) c.methods) keys → HasAll (is_member members.OldInitializers s x) keys
inits s x c f keys h k p = h k (ap (some_and (λ (d : ClassFacts). has_member (λ m. is_init_name m.name) d.methods k)) f ∙ p)
