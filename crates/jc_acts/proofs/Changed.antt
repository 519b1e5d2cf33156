-- Classes that are the same on both sides.
use Rattle.std.proofs.Common.{◌≡◌, Bool, true, false, not, ◌&&◌, ◌++◌, refl, sym, ◌∙◌, ap, Option, Some, None, is_some}
use Rattle.std.specs.Option.{option_eq}
use Rattle.std.proofs.lemmas.Bool.{not-false}
use Rattle.jc_facts.specs.declared.class_facts.ClassFacts.{ClassFacts}
use Rattle.jc_facts.specs.Names.{Bytes}
use Rattle.jc_facts.specs.world.World.{World, find_class, class_named}
use Rattle.jc_facts.specs.world.Hierarchy.{in_chain}
use Rattle.jc_facts.proofs.World.{class_named-first}
use Rattle.jc_index.specs.Ids.{id_of}
use Rattle.jc_index.proofs.Numbers.{find-None}
use Rattle.jc_sides.specs.SidesOf.{SidesOf}
use Rattle.jc_facts.specs.Records.{same_facts}
use Rattle.jc_acts.specs.Seats.{loses_class}
use Rattle.jc_acts.specs.Touched.{is_changed, left_chain_of}
use Rattle.jc_facts.proofs.SameRecords.{same_facts_itself, same_classes}
use Rattle.jc_acts.proofs.SeatChains.{keeps}

changed_by : (s : SidesOf) (y : Bytes) (o p : Option ClassFacts) → find_class s.old y ≡ o → find_class s.new y ≡ p → not (option_eq same_facts o p) ≡ is_changed s y
changed_by s y o p e f = sym (ap (λ q. not (option_eq same_facts q (find_class s.new y))) e ∙ ap (λ q. not (option_eq same_facts o q)) f)

-- the platform's class is found first
find_platform : (W : World) (y : Bytes) (c : ClassFacts) → class_named W.platform y ≡ Some c → find_class W y ≡ Some c
unfolding find_class
find_platform W y c e =
    let two = class_named-first W.platform W.release y (ap is_some e) in
    class_named-first (W.platform ++ W.release) W.clients y (ap is_some two ∙ ap is_some e) ∙ two ∙ e

pub platform_same : (s : SidesOf) → s.old.platform ≡ s.new.platform → (y : Bytes) → is_some (class_named s.old.platform y) ≡ true → false ≡ is_changed s y
platform_same s one y h = go (class_named s.old.platform y) refl h
  where
    go : (o : Option ClassFacts) → class_named s.old.platform y ≡ o → is_some o ≡ true → false ≡ is_changed s y
    go None e k = absurd (cc)
    go (Some c) e k =
        ap not (sym (same_facts_itself c)) ∙ changed_by s y (Some c) (Some c) (find_platform s.old y c e) (find_platform s.new y c (ap (λ cs. class_named cs y) (sym one) ∙ e))

pub changed_there : (s : SidesOf) (x : Bytes) (c d : ClassFacts) → Some c ≡ find_class s.old x → Some d ≡ find_class s.new x → not (same_facts c d) ≡ is_changed s x
changed_there s x c d e f = changed_by s x (Some c) (Some d) (sym e) (sym f)

pub changed_gone : (s : SidesOf) (x : Bytes) (c : ClassFacts) → Some c ≡ find_class s.old x → id_of s.new x ≡ None → true ≡ is_changed s x
changed_gone s x c e i = changed_by s x (Some c) None (sym e) (find-None s.new x i)

pub same_found : (s : SidesOf) (y : Bytes) → is_changed s y ≡ false → find_class s.old y ≡ find_class s.new y
same_found s y h = same_classes (find_class s.old y) (find_class s.new y) (not-false (option_eq same_facts (find_class s.old y) (find_class s.new y)) h)

-- nothing leaves a chain that lost no class
pub none_left : (s : SidesOf) (a : Bytes) → loses_class s a ≡ false → (y : Bytes) → left_chain_of s y a ≡ false
none_left s a h y = go (in_chain s.old a y) refl
  where
    go : (b : Bool) → in_chain s.old a y ≡ b → (b && not (in_chain s.new a y)) ≡ false
    go false e = refl
    go true e = ap not (keeps s a h y e)
