-- A class file whose path is short has short names.
use Rattle.std.proofs.Common.{◌≡◌, ◌≤◌, ◌<◌, ℕ, suc, List, [], ◌∷◌, length, slice_index, codes, ap, arith, length-append}
use Rattle.std.specs.Prelude.{nat_lt, false}
use Rattle.std.specs.List.{All, list_any}
use Rattle.std.proofs.lemmas.Bool.{ltb-false}
use Rattle.std.proofs.lemmas.List.Elements.{All-from_recursion, recursion_from_All}
use Rattle.jc_facts.specs.file.ShortNames.{HasShortNames}
use Rattle.jc_facts.proofs.ShortNames.{short_names}
use Rattle.jc_desc.proofs.ShortTexts.{AreBytes}
use Rattle.jc_facts.specs.declared.class_facts.ClassFacts.{ClassFacts}
use Rattle.jc_facts.specs.declared.client.ClientClass.{ClientClass}
use Rattle.jc_facts.specs.Names.{Bytes}
use Rattle.jc_facts.specs.client.Valid.{facts_of}
use Rattle.jc_facts.specs.file.ClassGrammar.{Reads}
use Rattle.jc_lemmas.proofs.Listed.{EachOf, each_from, not_any}
use Rattle.jc_trees.specs.ClassFiles.{path_of}
use Rattle.jc_trees.specs.declared.limits.TheConstants.{MAX_PATH}

are_bytes : (bytes : Bytes) → ((k : ℕ) → slice_index bytes k < 256) → AreBytes bytes
are_bytes [] h = tt
are_bytes (b ∷ bs) h = (h 0, are_bytes bs (λ k. h (suc k)))

short_name : (path name : Bytes) → path ≡ path_of name → length path ≤ MAX_PATH → length name ≤ 4090
short_name path name is le = let e : length path ≡ length (path_of name) = ap length is in omega (arith, e, length-append name (codes ".class"), le)

pub short_read : (path bytes : Bytes) (c : ClassFacts) → length path ≤ MAX_PATH → ((k : ℕ) → slice_index bytes k < 256) → Reads bytes c → path ≡ path_of c.name → HasShortNames c
short_read path bytes c le small reads place = short_names bytes c reads (are_bytes bytes small) (short_name path c.name place le)

short_each : (ps : List Bytes) → list_any (λ p. nat_lt MAX_PATH (length p)) ps ≡ false → EachOf (λ p. length p ≤ MAX_PATH) ps
short_each ps e = each_from (λ p. length p ≤ MAX_PATH) ps (λ p k. ltb-false MAX_PATH (length p) (not_any (λ p. nat_lt MAX_PATH (length p)) ps p e k))

pub short_listed : (ps : List Bytes) → list_any (λ p. nat_lt MAX_PATH (length p)) ps ≡ false → All (λ p. length p ≤ MAX_PATH) ps
short_listed ps e = All-from_recursion (λ p. length p ≤ MAX_PATH) ps (short_each ps e)

short_facts : (cs : List ClientClass) → EachOf (λ c. HasShortNames c.facts) cs → EachOf HasShortNames (facts_of cs)
short_facts [] h = tt
short_facts (c ∷ cs) h = (h.0, short_facts cs h.1)

-- the records of classes with short names
pub short_records : (cs : List ClientClass) → All (λ c. HasShortNames c.facts) cs → All HasShortNames (facts_of cs)
short_records cs h = All-from_recursion HasShortNames (facts_of cs) (short_facts cs (recursion_from_All (λ c. HasShortNames c.facts) cs h))
