-- Lists sorted by name, and the least name.
--     by_name name xs      xs in byte order of names
--     least test cs      the least of the classes' names that pass
use Rattle.std.specs.Prelude.{cond, List, [], ◌∷◌, Bool, Option, None, Some}
use Rattle.std.specs.Ordering.{is_lt, nat_cmp}
use Rattle.jc_facts.specs.Names.{Bytes}
use Rattle.jc_facts.specs.Exactly.{name_order}
use Rattle.std.specs.Cmp.Lexicographic.{slice_cmp}
use Rattle.jc_facts.specs.declared.class_facts.ClassFacts.{ClassFacts}

-- x among those in order, before the first whose name isn't before its own
unfoldable pub placed : {A : Type 0} → (A → Bytes) → A → List A → List A
placed name x [] = x ∷ []
placed name x (y ∷ ys) = cond (is_lt (name_order (name y) (name x))) (y ∷ placed name x ys) (x ∷ y ∷ ys)

-- in byte order of names
unfoldable pub by_name : {A : Type 0} → (A → Bytes) → List A → List A
by_name name [] = []
by_name name (x ∷ xs) = placed name x (by_name name xs)

-- the name, or the other one where it is there and less in byte order
abbrev pub lower : Bytes → Option Bytes → Bytes
lower x None = x
lower x (Some y) = cond (is_lt (slice_cmp nat_cmp y x)) y x

-- the least of the classes' names that pass
unfoldable pub least : (Bytes → Bool) → List ClassFacts → Option Bytes
least test [] = None
least test (c ∷ cs) = cond (test c.name) (Some (lower c.name (least test cs))) (least test cs)
