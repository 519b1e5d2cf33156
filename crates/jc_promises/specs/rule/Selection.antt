-- Which method a call runs, as far as a key and the classes above the object's class say it (JVMS 5.4.6). That the access of the method
-- that is selected isn't judged is this project's.
--     chain_kind W y k      what the chain of the class y has of the key
--     is_due W y k      a class above y declares the key abstract, so that y has to answer it
--     is_answered W y k      a call of the key on an object of the class y runs a method
use Rattle.std.specs.Prelude.{Bool, true, false, cond, List, [], ◌∷◌, ◌++◌, IsTrue}
use Rattle.std.specs.List.{list_any, list_all, filter}
use Rattle.jc_facts.specs.declared.class_facts.ClassFacts.{ClassFacts}
use Rattle.jc_facts.specs.declared.key.Key.{Key}
use Rattle.jc_facts.specs.Names.{Bytes, same}
use Rattle.jc_facts.specs.Flags.{abstract_flag}
use Rattle.jc_facts.specs.Options.{some_and}
use Rattle.jc_facts.specs.world.World.{World, DeclaredMember, own_method_of}
use Rattle.jc_facts.specs.world.Hierarchy.{chain, superinterfaces}
use Rattle.jc_facts.specs.world.Lookup.{declared_by, is_maximal, is_concrete}
use Rattle.jc_facts.specs.world.Assignment.{is_interface_of}
use Rattle.jc_facts.specs.world.Inheritance.{offers}
use Rattle.jc_promises.specs.rule.Bases.{is_key_of_method}
use Rattle.jc_facts.specs.declared.warning.ChainKind.{ChainKind}
use Rattle.jc_facts.specs.declared.warning.ChainKind.TheVariants.{Nothing, Abstract, Concrete}

-- the class declares the key as an abstract method
abbrev pub declares_abstract : Key → ClassFacts → Bool
declares_abstract k c = some_and (λ m. abstract_flag m.flags) (own_method_of c k)

-- ---- the chain

-- what these classes have of the key, by the first of them that declares it as an instance method that isn't private
unfoldable pub first_kind : Key → List ClassFacts → ChainKind
first_kind k [] = Nothing
first_kind k (c ∷ cs) = cond (offers k c) (cond (declares_abstract k c) Abstract Concrete) (first_kind k cs)

-- by the chain of the class y; an interface has nothing by its chain
unfoldable pub chain_kind : World → Bytes → Key → ChainKind
chain_kind W y k = cond (is_interface_of W y) Nothing (first_kind k (chain W y))

-- ---- superinterfaces

-- the maximally specific methods of the key that the superinterfaces of y declare, as far as they aren't abstract (JVMS 5.4.3.3)
unfoldable pub concrete_choices : World → Bytes → Key → List DeclaredMember
concrete_choices W y k =
    let all = declared_by k (superinterfaces W y) in
    filter is_concrete (filter (is_maximal W all) all)

-- there is one, and all are of its class
abbrev pub are_one : List DeclaredMember → Bool
are_one [] = false
are_one (m ∷ ms) = list_all (λ o. same o.owner m.owner) ms

-- ---- keys that are due, and those that are answered

-- a class of the chain of y or a superinterface declares the key abstract
unfoldable pub is_due : World → Bytes → Key → Bool
is_due W y k = list_any (declares_abstract k) (chain W y ++ superinterfaces W y)

-- a chain of this kind answers the key by itself, or leaves it to the superinterfaces, or can't
abbrev pub answers : ChainKind → Bool → Bool
answers Nothing above = above
answers Abstract above = false
answers Concrete above = true

-- a method of the chain answers the key, or, where the chain has nothing, the one of the superinterfaces that isn't abstract
unfoldable pub is_answered : World → Bytes → Key → Bool
is_answered W y k = answers (chain_kind W y k) (are_one (concrete_choices W y k))

-- each method key that is due to the class y is answered
abbrev pub AnswersAll : World → Bytes → Type 0
AnswersAll W y = (k : Key) → IsTrue (is_key_of_method k) → IsTrue (is_due W y k) → IsTrue (is_answered W y k)
