-- Classes that lost some of their chain, and hidden classes of which it matters to whom members expose them.
use Rattle.std.specs.Prelude.{ℕ, ◌<◌, Bool, true, not, ◌||◌, ◌&&◌, ◌≡◌, List, length}
use Rattle.std.specs.List.{list_any}
use Rattle.jc_facts.specs.Names.{Bytes}
use Rattle.jc_promises.specs.rule.Bases.{is_kept}
use Rattle.jc_promises.specs.rule.Exposed.{is_hidden}
use Rattle.jc_facts.specs.world.Assignment.{is_interface_of}
use Rattle.jc_facts.specs.world.World.{World}
use Rattle.jc_acts.specs.Seats.{loses_class}
use Rattle.jc_acts.specs.Touched.{flag_at, left_chain_of, AreFlags}
use Rattle.jc_exposed.specs.declared.exposed.Exposed.{Exposed}
use Rattle.jc_exposed.specs.Exposed.{AreExposed, AreWanted, is_wanted}
use Rattle.jc_rules.specs.declared.losses.Losses.{Losses}
use Rattle.jc_sides.specs.SidesOf.{SidesOf}
use Rattle.jc_index.specs.Ids.{name_at, names}

-- the class is kept or hidden: it may take part in an assignment of clients
abbrev pub may_take_part : SidesOf → Bytes → Bool
may_take_part s x = is_kept s.old s.new x || is_hidden s.old x

-- such a class, that has lost a class of its chain
abbrev pub loses : SidesOf → Bytes → Bool
loses s x = may_take_part s x && loses_class s x

-- such a class has lost the class y
abbrev pub is_lost : SidesOf → Bytes → Bool
is_lost s y = list_any (λ x. loses s x && left_chain_of s y x) (names s.old)

-- the class was an interface and isn't one of the new side
abbrev pub was_interface : SidesOf → Bytes → Bool
was_interface s x = is_interface_of s.old x && not (is_interface_of s.new x)

-- the class was an interface, or such a class has lost it
abbrev pub changed_place : SidesOf → Bytes → Bool
changed_place s x = was_interface s x || is_lost s x

-- the class is hidden, and a rule may ask to whom members expose it
abbrev pub matters : SidesOf → Bytes → Bool
matters s x = is_hidden s.old x && (changed_place s x || loses s x)

-- what is kept of the members that expose hidden classes
abbrev pub exposed_of : Losses → Exposed
exposed_of l = l.exposed

-- it is kept for each class of the old side whether it loses, and which members expose hidden ones, at least those of which it matters
pub record AreLosses (s : SidesOf) (l : Losses) : Type 0 where
  pub losing : AreFlags s.old (loses s) l.losing.items
  pub exposed : AreExposed s l.exposed
  pub wanted : AreWanted s (λ n. matters s (name_at s.old n)) l.exposed

-- no flag is cleared, and each is set that is set among the first n of the others
pub record AreJoined (before others : List Bool) (n : ℕ) (after : List Bool) : Type 0 where
  pub count : length after ≡ length before
  pub kept : (k : ℕ) → flag_at before k ≡ true → flag_at after k ≡ true
  pub joined : (k : ℕ) → k < n → k < length before → flag_at others k ≡ true → flag_at after k ≡ true

-- where the class of this number is hidden, the members that expose it are kept
abbrev pub IsCovered : World → Exposed → ℕ → Type 0
IsCovered W e n = is_hidden W (name_at W n) ≡ true → is_wanted e n ≡ true
