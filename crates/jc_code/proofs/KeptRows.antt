-- The arguments of bootstrap methods that say nothing may be left out.
use Rattle.std.proofs.Common.{◌≡◌, ℕ, zero, suc, ◌*◌, ◌/◌, ◌≤◌, Bool, true, false, cond, ◌||◌, is_some, List, [], ◌∷◌, ◌++◌, map, length, take, drop, nat_lt, Option, Some, None, refl, sym, ap, ◌∙◌, append_assoc, arith}
use Rattle.std.specs.Prelude.{slice_get, is_none}
use Rattle.std.specs.Option.{option_map}
use Rattle.std.proofs.lemmas.List.{append-nil}
use Rattle.std.proofs.lemmas.Bool.Decides.{nat_tests}
use Rattle.jc_desc.specs.Pool.{PoolOf, short_from}
use Rattle.jc_desc.specs.PoolAnswers.{HandleRefOf, some_if, class_in, handle_in, tag_in}
use Rattle.jc_facts.specs.declared.client.Item.{Item}
use Rattle.jc_facts.specs.Names.{Bytes}
use Rattle.jc_facts.specs.file.Attributes.{BootstrapOf, ◌|>>◌, bootstraps_of}
use Rattle.jc_facts.specs.code.ClientItems.{boots_of}
use Rattle.jc_facts.specs.code.Code.{class_item, handle_item, handle_items, argument_items, arguments_items, row_items, boot_items}
use Rattle.jc_code.specs.steps.Kept.{argument_counts, kept_of, kept_row}
use Rattle.jc_code.proofs.Mapped.{map_twice}
use Rattle.std.proofs.lemmas.Option.{slice_get-map}

-- ---- the loop that keeps the others

pub kept_step : (pool : PoolOf) (n m : ℕ) (bytes old new total : Bytes) → n ≡ suc m → new ≡ old ++ cond (argument_counts pool (short_from 0 bytes)) (take 2 bytes) [] → old ++ kept_of pool n bytes ≡ total → new ++ kept_of pool m (drop 2 bytes) ≡ total
kept_step pool n m bytes old new total k e h =
    let here : Bytes = cond (argument_counts pool (short_from 0 bytes)) (take 2 bytes) [] in
    let one : old ++ kept_of pool n bytes ≡ new ++ kept_of pool m (drop 2 bytes) = rw (k, e) (sym (append_assoc old here (kept_of pool m (drop 2 bytes)))) in
    sym one ∙ h

pub kept_done : (pool : PoolOf) (n : ℕ) (bytes old total : Bytes) → n ≡ 0 → old ++ kept_of pool n bytes ≡ total → old ≡ total
kept_done pool n bytes old total k h =
    let one : old ++ kept_of pool n bytes ≡ old = rw k (append-nil old) in
    sym one ∙ h

-- ---- what they give

-- an argument that says nothing gives no item
says_nothing : (pool : PoolOf) (i : ℕ) → argument_counts pool i ≡ false → argument_items pool i ≡ Some []
says_nothing pool i e = go (class_in pool i) (handle_in pool i) (tag_in pool i) e where
  go : (c : Option Bytes) (h : Option HandleRefOf) (t : Option ℕ) → (is_some c || is_some h || is_none t) ≡ false → some_if (is_some t) (class_item c ++ handle_items h) ≡ Some []
  go None None (Some t) e = refl
  go None None None e = absurd (let q : true ≡ false = e in cc)
  go None (Some h) t e = absurd (let q : true ≡ false = e in cc)
  go (Some c) h t e = absurd (let q : true ≡ false = e in cc)

half : (n : ℕ) → suc (suc n) / 2 ≡ suc (n / 2)
half n = omega arith

-- the number of the first two bytes
short_front : (x y : ℕ) (xs ys : Bytes) → short_from 0 (x ∷ y ∷ xs) ≡ short_from 0 (x ∷ y ∷ ys)
short_front x y xs ys = rw (two (length xs), two (length ys)) refl where
  two : (n : ℕ) → nat_lt (suc (suc n)) 2 ≡ false
  two n = grind (arith, nat_tests)

nothing_more : (o : Option (List Item)) → o ≡ (o |>> λ xs. Some ([] ++ xs))
nothing_more None = refl
nothing_more (Some xs) = refl

kept_arguments : (pool : PoolOf) (n : ℕ) (bytes : Bytes) → 2 * n ≤ length bytes → arguments_items pool (length (kept_of pool n bytes) / 2) (kept_of pool n bytes) ≡ arguments_items pool n bytes
unfolding arguments_items
kept_arguments pool zero bytes p = refl
kept_arguments pool (suc n) [] p = absurd (omega (arith, p))
kept_arguments pool (suc n) (x ∷ []) p = absurd (omega (arith, p))
kept_arguments pool (suc n) (x ∷ y ∷ bs) p = by_test (kept_of pool n bs) (argument_counts pool (short_from 0 (x ∷ y ∷ bs))) refl (kept_arguments pool n bs (omega (arith, p))) where
  by_test : (kept : Bytes) (b : Bool) → argument_counts pool (short_from 0 (x ∷ y ∷ bs)) ≡ b → arguments_items pool (length kept / 2) kept ≡ arguments_items pool n bs
      → arguments_items pool (length (cond b (x ∷ y ∷ []) [] ++ kept) / 2) (cond b (x ∷ y ∷ []) [] ++ kept) ≡ arguments_items pool (suc n) (x ∷ y ∷ bs)
  by_test kept true e h = rw (half (length kept), short_front x y kept bs, h) refl
  by_test kept false e h = rw (says_nothing pool (short_from 0 (x ∷ y ∷ bs)) e, h) (nothing_more (arguments_items pool n bs))

kept_row_items : (pool : PoolOf) (row : BootstrapOf) → row_items pool (kept_row pool row) ≡ row_items pool row
kept_row_items pool row = go (handle_in pool row.handle) where
  go : (o : Option HandleRefOf) → (o |>> λ h. arguments_items pool (length (kept_row pool row).arguments / 2) (kept_row pool row).arguments |>> λ more. Some (handle_item h ∷ more))
      ≡ (o |>> λ h. arguments_items pool (length row.arguments / 2) row.arguments |>> λ more. Some (handle_item h ∷ more))
  go None = refl
  go (Some h) = rw (kept_arguments pool (length row.arguments / 2) row.arguments (omega arith)) refl

pub kept_boot_items : (pool : PoolOf) (boots : Option (List BootstrapOf)) (n : ℕ) → boot_items pool (option_map (map (kept_row pool)) boots) n ≡ boot_items pool boots n
unfolding boot_items
kept_boot_items pool None n = refl
kept_boot_items pool (Some rows) n = rw (slice_get-map (kept_row pool) rows n) (go (slice_get rows n)) where
  go : (o : Option BootstrapOf) → (option_map (kept_row pool) o |>> λ row. row_items pool row) ≡ (o |>> λ row. row_items pool row)
  go None = refl
  go (Some row) = kept_row_items pool row

-- the rows of a BootstrapMethods, each with the arguments that say something
pub rows_are : {X : Type 0} (pool : PoolOf) (view : X → BootstrapOf) (xs : List X) (kept : List BootstrapOf) (body : Option Bytes) (contents : Bytes) → body ≡ Some contents → kept ≡ map (λ x. kept_row pool (view x)) xs → Some (map view xs) ≡ bootstraps_of contents
    → Some kept ≡ option_map (map (kept_row pool)) (boots_of body)
unfolding boots_of
rows_are {X} pool view xs kept body contents b k e = rw (b, k, sym e) (ap (λ (rows : List BootstrapOf). Some rows) (map_twice (kept_row pool) view xs))
