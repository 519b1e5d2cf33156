-- The keys of which something may be warned.
use Rattle.std.specs.Prelude.{ℕ, ◌≡◌, false, List, [], slice_index_or, Option, None, Some}
use Rattle.std.specs.List.{AllByRecursion}
use Rattle.jc_facts.specs.declared.key.Key.{Key}
use Rattle.jc_facts.specs.declared.warning.ChainKind.TheVariants.{Nothing}
use Rattle.jc_facts.specs.file.Valid.{has_key}
use Rattle.jc_facts.specs.Names.{Bytes}
use Rattle.jc_promises.specs.rule.Selection.{first_kind}
use Rattle.jc_facts.specs.world.Hierarchy.{chain}
use Rattle.jc_facts.specs.world.World.{World}
use Rattle.jc_sides.specs.SidesOf.{SidesOf}
use Rattle.jc_index.specs.Ids.{name_at, id_of, superclass_of}
use Rattle.jc_select.specs.steps.Kinds.{kind_from}
use Rattle.jc_select.specs.steps.Warned.{parts_differ}

-- of keys that aren't among those after, none is before, and none among the changes of these classes
abbrev pub HaveThose : List (List Key) → List ℕ → List Key → List Key → Type 0
HaveThose changes ids before after = (k : Key) → has_key k after ≡ false → (has_key k before ≡ false) × AllByRecursion (λ n. has_key k (slice_index_or changes n []) ≡ false) ids

-- the old class, where there are both, and the new one has its name
abbrev pub IsMet : SidesOf → Option ℕ → Option ℕ → Option ℕ → Type 0
IsMet s before now None = Unit {0}
IsMet s before now (Some i) = (before ≡ Some i) × (j : ℕ) × (now ≡ Some j) × (id_of s.new (name_at s.old i) ≡ Some j)

-- the number of the superclass of the class, where there are both
abbrev pub up_of : World → Option ℕ → Option ℕ
up_of W None = None
up_of W (Some n) = superclass_of W (name_at W n)

-- of keys that aren't among these, chains from here up have nothing on either side, nor is one among those before
abbrev pub HaveNoRest : SidesOf → Option ℕ → Option ℕ → ℕ → ℕ → List Key → List Key → Type 0
HaveNoRest s before now old_levels new_levels keys all = (k : Key) → has_key k all ≡ false → (has_key k keys ≡ false) × (kind_from s.old k old_levels before ≡ Nothing) × (kind_from s.new k new_levels now ≡ Nothing)

-- of keys that aren't among these the chain of the class has the same on both sides
abbrev pub ChainsAgree : SidesOf → Bytes → List Key → Type 0
ChainsAgree s x keys = (k : Key) → has_key k keys ≡ false → first_kind k (chain s.old x) ≡ first_kind k (chain s.new x)

-- of keys that aren't among these its parts agree
abbrev pub PartsAgree : SidesOf → Bytes → List Key → Type 0
PartsAgree s x keys = (k : Key) → has_key k keys ≡ false → parts_differ s x k ≡ false
