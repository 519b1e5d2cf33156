-- What a table's rows say of one class, and its numbered keys of one key.
use Rattle.std.proofs.Common.{◌≡◌, ◌<◌, ℕ, Bool, true, List, [], get_or, length, map, sym, ◌∙◌, ap, subst, arith, Option, Some, None}
use Rattle.std.proofs.lemmas.List.{get_or_default, get_or-map, length-map}
use Rattle.jc_facts.specs.Names.{Bytes}
use Rattle.jc_facts.specs.world.World.{World, size, classes, differ_by_name}
use Rattle.jc_index.specs.Sides.{IsSide}
use Rattle.jc_facts.specs.world.Loading.{load_fault}
use Rattle.jc_index.specs.Ids.{name_at, names}
use Rattle.jc_index.proofs.Numbers.{names-length}
use Rattle.jc_rows.specs.declared.row.RowItem.{RowItem}
use Rattle.jc_rows.specs.AllRows.{HasRows}
use Rattle.jc_rows.specs.WithRows.{has_rows}
use Rattle.std.specs.Prelude.{IfSome}
use Rattle.std.proofs.lemmas.Option.{slice_get_within}
use Rattle.jc_facts.specs.declared.key.Key.{Key}
use Rattle.jc_rows.specs.Keys.{IsNumber, numbered_keys}

-- whether a class has rows, by its number
pub made-length : (W : World) (made : List Bool) → made ≡ map (has_rows W) (names W) → length made ≡ size W
made-length W made h = ap length h ∙ length-map (names W) (has_rows W) ∙ names-length W

pub made_at : (W V : World) → W ≡ V → (made : List Bool) → made ≡ map (has_rows W) (names W) → (id n : ℕ) → n ≡ id → id < size V → (b : Bool) → b ≡ get_or made n b → b ≡ has_rows V (name_at V id)
made_at W V v made h id n q l b r = subst (λ (U : World). id < size U → b ≡ has_rows U (name_at U id)) v at l
  where
    at : id < size W → b ≡ has_rows W (name_at W id)
    at m =
        let k : id < length (names W) = let c = names-length W in omega arith in
        r ∙ ap (λ j. get_or made j b) q ∙ ap (λ (bs : List Bool). get_or bs id b) h ∙ get_or-map (has_rows W) (names W) id [] b k

-- the row that is lent is the class's
pub row_at : (P : World → Bytes → List RowItem → Type 0) (W V : World) → W ≡ V → (rows : List (List RowItem)) → HasRows (P W) W rows → (id n : ℕ) → n ≡ id → id < size V → load_fault V (name_at V id) ≡ None → has_rows V (name_at V id) ≡ true
    → (row lent : List RowItem) → row ≡ get_or rows n row → lent ≡ row → P V (name_at V id) lent
row_at P W V v rows h id n q l o made row lent r s =
    subst (λ (U : World). id < size U → load_fault U (name_at U id) ≡ None → has_rows U (name_at U id) ≡ true → P U (name_at U id) lent) v at l o made
  where
    at : id < size W → load_fault W (name_at W id) ≡ None → has_rows W (name_at W id) ≡ true → P W (name_at W id) lent
    at m e made =
        let k : id < length rows = let c = h.count in omega arith in
        let is : lent ≡ get_or rows id [] = s ∙ r ∙ ap (λ j. get_or rows j row) q ∙ sym (get_or_default rows id [] row k) in
        subst (λ (xs : List RowItem). P W (name_at W id) xs) (sym is) (h.right id m e made)

-- the keys that are kept are those of the side
pub keys_are : (W V : World) (keys : List Key) → keys ≡ numbered_keys W → W ≡ V → keys ≡ numbered_keys V
keys_are W V keys h v = h ∙ ap numbered_keys v

pub number_below : (keys : List Key) (k : Key) (o : Option ℕ) → IsNumber keys k o → IfSome o (λ n. n < length keys)
number_below keys k None h = tt
number_below keys k (Some n) h = slice_get_within keys n k h

pub side_differs : (W : World) → IsSide W → differ_by_name (classes W) ≡ true
side_differs W s = s.differ
