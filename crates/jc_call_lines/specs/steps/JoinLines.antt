-- Lines on superclasses where values met: which classes were left, and which stand below them.
use Rattle.std.specs.Prelude.{◌≡◌, ◌<◌, ◌&&◌, ◌||◌, ℕ, Bool, true, List, [], ◌∷◌, map, Option, None, Some, is_some}
use Rattle.std.specs.List.{All, Contains, list_any, list_all, filter_map}
use Rattle.jc_acts.specs.Seats.{loses_class}
use Rattle.jc_acts.specs.Touched.{left_chain_of}
use Rattle.jc_call_kinds.specs.declared.call_line.CallKind.TheVariants.{Joined}
use Rattle.jc_call_kinds.specs.declared.call_line.CallLine.{CallLine}
use Rattle.jc_calls.specs.Joins.{is_join, join_lost}
use Rattle.jc_exposed.specs.declared.exposed.Exposed.{Exposed}
use Rattle.jc_exposed.specs.Exposed.{AreExposed, is_wanted}
use Rattle.jc_facts.specs.Names.{Bytes}
use Rattle.jc_facts.specs.Options.{some_where}
use Rattle.jc_facts.specs.world.Hierarchy.{in_chain}
use Rattle.jc_facts.specs.world.World.{World, size}
use Rattle.jc_promises.specs.rule.Apart.{other_seat}
use Rattle.jc_promises.specs.rule.Bases.{is_kept}
use Rattle.jc_promises.specs.rule.Exposed.{is_hidden, is_exposed}
use Rattle.jc_promises.specs.rule.Findings.{takes_part}
use Rattle.jc_promises.specs.rule.OpenActs.{first_seat}
use Rattle.jc_sides.specs.SidesOf.{SidesOf}
use Rattle.jc_index.specs.Ids.{name_at, names}

-- ---- which were left

-- the class is kept or hidden: clients may hold values of it
abbrev pub may_be_held : SidesOf → Bytes → Bool
may_be_held s x = is_kept s.old s.new x || is_hidden s.old x

-- such a class, that has lost a class of its chain
abbrev pub is_losing : SidesOf → Bytes → Bool
is_losing s x = may_be_held s x && loses_class s x

-- such a class has lost the class t
abbrev pub left_by : SidesOf → Bytes → Bytes → Bool
left_by s t x = is_losing s x && left_chain_of s t x

-- some class has
abbrev pub is_left : SidesOf → Bytes → Bool
is_left s t = list_any (left_by s t) (names s.old)

-- clients can't name the class, and some class has lost it
abbrev pub is_target : SidesOf → Bytes → Bool
is_target s t = is_hidden s.old t && is_left s t

abbrev pub target_at : SidesOf → Bytes → Option Bytes
target_at s t = some_where (is_target s t) t

-- the numbers are those of all of them, in order
pub record AreTargets (s : SidesOf) (ts : List ℕ) : Type 0 where
  pub within : All (λ k. k < size s.old) ts
  pub names : map (name_at s.old) ts ≡ filter_map (target_at s) (names s.old)

-- ---- which stand below

-- the class is one of these or stands below one
abbrev pub is_below : World → List ℕ → Bytes → Bool
is_below W ts x = list_any (λ t. in_chain W x (name_at W t)) ts

abbrev pub below_at : World → List ℕ → Bytes → Option Bytes
below_at W ts x = some_where (is_below W ts x) x

-- the numbers are those of all that do, in order
pub record AreBelow (W : World) (ts ks : List ℕ) : Type 0 where
  pub within : All (λ k. k < size W) ks
  pub names : map (name_at W) ks ≡ filter_map (below_at W ts) (names W)

-- it is kept to whom members expose those that are hidden and stand below
pub record AreMet (s : SidesOf) (ts : List ℕ) (e : Exposed) : Type 0 where
  pub exposed : AreExposed s e
  pub wanted : (k : ℕ) → k < size s.old → is_hidden s.old (name_at s.old k) ≡ true → is_below s.old ts (name_at s.old k) ≡ true → is_wanted e k ≡ true

-- where the class of this number is hidden, the members that expose it are kept
abbrev pub IsCovered : World → Exposed → ℕ → Type 0
IsCovered W e k = is_hidden W (name_at W k) ≡ true → is_wanted e k ≡ true

-- of the class of number t: those of the numbers are all that stand below it, and others; it is kept to whom members expose those that are hidden
pub record IsServed (s : SidesOf) (e : Exposed) (ks : List ℕ) (t : ℕ) : Type 0 where
  pub within : All (λ k. k < size s.old) ks
  pub others : All (IsCovered s.old e) ks
  pub all : (k : ℕ) → k < size s.old → in_chain s.old (name_at s.old k) (name_at s.old t) ≡ true → Contains ks k × IsCovered s.old e k

-- ---- seats

-- clients of some seat hold values of all of these
abbrev pub share_seat : SidesOf → List Bytes → Bool
share_seat s xs = is_some (first_seat s.old s.new (λ a. list_all (takes_part s.old s.new a) xs))

-- clients of one seat hold values of x, and those of another of t
abbrev pub is_handed : SidesOf → Bytes → Bytes → Bool
is_handed s x t = is_some (first_seat s.old s.new (λ a. is_exposed s.old a x && is_some (other_seat s.old s.new a t)))

-- values of x meet those of y at t, where clients of some seat hold both
abbrev pub meets_by : SidesOf → Bytes → Bytes → Bytes → Bool
meets_by s x t y = is_join s.old x y t && share_seat s (x ∷ y ∷ [])

-- ---- lines

abbrev pub joined_line : Bytes → Bytes → CallLine
joined_line x t = record { kind = Joined; «class» = x; key = None; target = Some t }

abbrev pub join_line : SidesOf → Bytes → Bytes → Option CallLine
join_line s x t = some_where (join_lost s.old s.new x t) (joined_line x t)
