-- A platform and a release in one list.
use Rattle.std.proofs.Common.{◌≡◌, List, [], ◌∷◌, ◌++◌, refl, sym, ◌∙◌, ap, subst, Option, None, not, length, nat_le}
use Rattle.std.specs.Prelude.{is_some, IsTrue}
use Rattle.std.specs.List.{All, list_any}
use Rattle.std.specs.Str.{is_utf8}
use Rattle.std.proofs.lemmas.List.{append-nil}
use Rattle.std.proofs.lemmas.List.Elements.{recursion_from_All, All-from_recursion}
use Rattle.jc_facts.specs.declared.limits.TheConstants.{MAX_CLASS_NAME}
use Rattle.jc_facts.specs.declared.class_facts.ClassFacts.{ClassFacts}
use Rattle.jc_facts.specs.declared.client.ClientClass.{ClientClass}
use Rattle.jc_facts.specs.Names.{Bytes, in_same_package, is_name_among}
use Rattle.jc_facts.specs.Options.{or_else, some_where}
use Rattle.jc_facts.specs.client.Linked.{in_order, outcomes}
use Rattle.jc_facts.specs.client.Valid.{facts_of}
use Rattle.jc_facts.specs.file.Valid.{IsValidClass}
use Rattle.jc_facts.specs.world.Search.{supers}
use Rattle.jc_facts.specs.world.World.{World, side, modular_side, with_clients, classes, class_named, find_class, differ_by_name}
use Rattle.jc_index.specs.Root.{fault_of_root}
use Rattle.jc_index.specs.Sides.{overlap_of}
use Rattle.jc_index.proofs.Roots.{is_side}
use Rattle.jc_lemmas.proofs.Listed.{EachOf-append}
use Rattle.jc_link.specs.Refusals.{name_fault, first_refused}
use Rattle.jc_link.specs.declared.refusal.ClientPart.{ClientPart}
use Rattle.jc_link.specs.declared.refusal.ClientPart.TheVariants as parts
use Rattle.jc_link.proofs.Client.{all_alike}
use Rattle.jc_losses.specs.Losses.{losses}
use Rattle.jc_losses.specs.JudgedOf.{refused_by_either, losses_of, judged_of}
use Rattle.jc_losses.specs.Laws.{TogetherTheSame}
use Rattle.jc_losses.specs.Ground.{JudgeAlike}
use Rattle.jc_worlds.specs.Alike.{LinkAlike, FindAlike}
use Rattle.jc_worlds.proofs.Alike.{worlds_link_alike}
use Rattle.jc_losses.proofs.Alike.{losses_alike}

-- ---- the list

pub together_valid : (P R : List ClassFacts) → All IsValidClass P → All IsValidClass R → All IsValidClass (P ++ R)
together_valid P R h k = All-from_recursion IsValidClass (P ++ R) (EachOf-append IsValidClass P R (recursion_from_All IsValidClass P h) (recursion_from_All IsValidClass R k))

pub together_differ : (P R : List ClassFacts) → All IsValidClass P → All IsValidClass R → IsTrue (differ_by_name P) → IsTrue (differ_by_name R) → None ≡ fault_of_root P → None ≡ overlap_of P R → IsTrue (differ_by_name (P ++ R))
together_differ P R v w d e root overlap = subst (λ (cs : List ClassFacts). IsTrue (differ_by_name cs)) (append-nil (P ++ R)) (is_side P R v w d e root overlap).differ

-- ---- its classes

same_classes : (P R C : List ClassFacts) → classes (with_clients (side (P ++ R) []) C) ≡ classes (with_clients (side P R) C)
same_classes P R C = ap (λ (cs : List ClassFacts). cs ++ C) (append-nil (P ++ R))

same_found : (P R C : List ClassFacts) → FindAlike (with_clients (side (P ++ R) []) C) (with_clients (side P R) C)
unfolding find_class
same_found P R C x = ap (λ cs. class_named cs x) (same_classes P R C)

alike : (P R C : List ClassFacts) → LinkAlike (with_clients (side (P ++ R) []) C) (with_clients (side P R) C)
alike P R C = worlds_link_alike (with_clients (side (P ++ R) []) C) (with_clients (side P R) C) (same_found P R C) (λ x y. record { seen = refl; together = refl })

-- ---- refusals

fault_in : Bytes → List ClassFacts → Option ClientPart
fault_in x cs =
    or_else (some_where (is_some (class_named cs x)) parts.Declared)
    (or_else (some_where (list_any (λ c. is_name_among (supers c) x) cs) parts.Super)
    (or_else (some_where (list_any (λ c. in_same_package c.name x) cs) parts.Package)
    (or_else (some_where (not (nat_le (length x) MAX_CLASS_NAME)) parts.Length)
    (some_where (not (is_utf8 x)) parts.Encoding))))

by_classes : (W : World) (x : Bytes) → name_fault W x ≡ fault_in x (classes W)
unfolding name_fault find_class fault_in
by_classes W x = refl

same_fault : (P R : List ClassFacts) (x : Bytes) → name_fault (side (P ++ R) []) x ≡ name_fault (side P R) x
same_fault P R x = by_classes (side (P ++ R) []) x ∙ ap (fault_in x) (same_classes P R []) ∙ sym (by_classes (side P R) x)

same_refused : (P R : List ClassFacts) (cs : List ClientClass) → first_refused (side (P ++ R) []) cs ≡ first_refused (side P R) cs
same_refused P R [] = refl
same_refused P R (c ∷ cs) = rw (same_fault P R c.facts.name, same_refused P R cs) refl

-- the modules don't matter to the names of clients
same_fault_in : (exports : Option (List Bytes)) (P R : List ClassFacts) (x : Bytes) → name_fault (modular_side exports P R) x ≡ name_fault (side P R) x
same_fault_in exports P R x = by_classes (modular_side exports P R) x ∙ sym (by_classes (side P R) x)

pub same_in_modules : (exports : Option (List Bytes)) (P R : List ClassFacts) (cs : List ClientClass) → first_refused (modular_side exports P R) cs ≡ first_refused (side P R) cs
same_in_modules exports P R [] = refl
same_in_modules exports P R (c ∷ cs) = rw (same_fault_in exports P R c.facts.name, same_in_modules exports P R cs) refl

-- ---- what is said

pub in_one_list : (P R : List ClassFacts) → JudgeAlike (side (P ++ R) []) (side P R)
in_one_list P R = record { refused = same_refused P R; linked = alike P R }

pub judged_itself : (W : World) → JudgeAlike W W
judged_itself W = record { refused = λ cs. refl; linked = λ C. record { loading = λ x. refl; items = λ x i. refl } }

module _ (O P N Q : World) (a : JudgeAlike O P) (b : JudgeAlike N Q) (cs : List ClientClass) where
  same_outcomes : outcomes O cs ≡ outcomes P cs
  unfolding outcomes
  same_outcomes = all_alike _ _ (a.linked (facts_of cs)) (in_order cs)

  same_losses : losses O N cs ≡ losses P Q cs
  unfolding losses
  same_losses = losses_alike _ _ _ _ (a.linked (facts_of cs)) (b.linked (facts_of cs)) (in_order cs)

  same_either : refused_by_either O N cs ≡ refused_by_either P Q cs
  same_either = rw (a.refused (in_order cs), b.refused (in_order cs)) refl

  same_said : losses_of O N cs ≡ losses_of P Q cs
  same_said = rw (same_outcomes, same_losses) refl

  pub judged_alike : judged_of O N cs ≡ judged_of P Q cs
  judged_alike = rw (same_either, same_said) refl

pub together_the_same : TogetherTheSame
together_the_same P O N cs = judged_alike _ _ _ _ (in_one_list P O) (in_one_list P N) cs
