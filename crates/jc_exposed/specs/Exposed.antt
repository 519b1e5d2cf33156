-- To which seats hidden classes are exposed, as it is kept of the old side.
--     AreExposed s e      e tells of each wanted hidden class and each seat whether the class is exposed to it
--     AreWanted s on e      each class whose number passes the test is wanted
use Rattle.std.specs.Prelude.{◌<◌, ◌≡◌, ℕ, Bool, true, false, List, take, length, slice_index_or}
use Rattle.std.specs.List.{list_any, list_all}
use Rattle.jc_facts.specs.Names.{Bytes}
use Rattle.jc_facts.specs.world.World.{World, size}
use Rattle.jc_promises.specs.rule.Exposed.{is_exposed}
use Rattle.jc_sides.specs.SidesOf.{SidesOf}
use Rattle.jc_index.specs.Ids.{name_at}
use Rattle.jc_acts.specs.Seats.{all_seats}
use Rattle.jc_acts.specs.Touched.{flag_at}
use Rattle.jc_exposed.specs.Rows.{AreExposing, exposes_in}
use Rattle.jc_exposed.specs.declared.exposure.Exposure.{Exposure}
use Rattle.jc_exposed.specs.declared.exposed.Exposed.{Exposed}

-- one flag for each class of the old side: whether it is wanted
abbrev pub wanted_of : Exposed → List Bool
wanted_of e = e.wanted.items

-- the class of the number t is wanted
abbrev pub is_wanted : Exposed → ℕ → Bool
is_wanted e t = flag_at (wanted_of e) t

-- each class of the old side whose number passes the test is wanted, and maybe others
abbrev pub AreWanted : SidesOf → (ℕ → Bool) → Exposed → Type 0
AreWanted s on e = (n : ℕ) → n < size s.old → on n ≡ true → is_wanted e n ≡ true

-- how many of the first seats are known to see nothing of the class of the number t
abbrev pub start_at : List ℕ → ℕ → ℕ
start_at starts t = slice_index_or starts t 0

-- no member of the row of the class of the number t is open to one of the first n seats
abbrev pub IsStart : SidesOf → List (List Exposure) → ℕ → ℕ → Type 0
IsStart s rows t n = list_any (λ a. exposes_in s.old rows a t) (take n (all_seats s)) ≡ false

-- so is each of the first n places, for the class of its number
pub record AreStarts (s : SidesOf) (rows : List (List Exposure)) (n : ℕ) (starts : List ℕ) : Type 0 where
  pub count : length starts ≡ n
  pub each : (t : ℕ) → t < n → IsStart s rows t (start_at starts t)

-- a wanted hidden class is exposed to a seat exactly where a member of its row is open to the seat
pub record AreExposed (s : SidesOf) (e : Exposed) : Type 0 where
  pub marks : length (wanted_of e) ≡ size s.old
  pub rows : AreExposing s.old (is_wanted e) e.rows.items
  pub starts : AreStarts s e.rows.items (size s.old) e.starts.items

-- each of the classes of these numbers is exposed to the seat a
abbrev pub are_all_exposed : World → List ℕ → Bytes → Bool
are_all_exposed W ids a = list_all (λ t. is_exposed W a (name_at W t)) ids
