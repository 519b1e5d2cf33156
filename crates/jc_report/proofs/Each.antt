-- The objects of items, one after the other.
use Rattle.std.proofs.Common.{◌≡◌, ◌+◌, ℕ, false, List, ◌++◌, drop}
use Rattle.serde_json.specs.Data.{Data}
use Rattle.serde_json.specs.View.{items_of}
use Rattle.serde_json.specs.Written.{items_have_float}
use Rattle.jc_report.specs.Listing.{values_from}

module _ {A : Type 0} (shaped : A → ℕ → Data) (first : ℕ) (xs : List A) where
  -- the objects of some items are made, and those of the rest are to come
  pub record AreMade (i : ℕ) (made : List Data) : Type 0 where
    pub exact : made ++ values_from shaped (first + i) (drop i xs) ≡ values_from shaped first xs
    pub plain : items_have_float (items_of (values_from shaped (first + i) (drop i xs))) ≡ false → items_have_float (items_of (values_from shaped first xs)) ≡ false
