-- Names that are collected, each once.
use Rattle.std.specs.Prelude.{List, [], ◌∷◌, ◌++◌, ◌≡◌, ◌||◌, cond, nat_eq}
use Rattle.std.specs.List.{list_any}
use Rattle.std.specs.Cmp.Lexicographic.{pointwise}
use Rattle.jc_facts.specs.Names.{Bytes, is_name_among}

-- there are now the names that there were before, and these
abbrev pub AddsNames : List Bytes → List Bytes → List Bytes → Type 0
AddsNames before now names = (x : Bytes) → is_name_among now x ≡ (is_name_among before x || is_name_among names x)

-- the names, and this one at the end where a test finds none of them equal
abbrev pub with_name : List Bytes → Bytes → List Bytes
with_name names x = cond (list_any (λ y. pointwise nat_eq x y) names) names (names ++ x ∷ [])
