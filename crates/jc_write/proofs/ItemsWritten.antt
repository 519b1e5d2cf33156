-- The items of a class file that is written are those that its bodies type to.
use Rattle.std.proofs.Common.{◌≡◌, ℕ, ◌≤◌, Bool, true, false, ◌&&◌, List, [], ◌∷◌, ◌++◌, length, map, Option, Some, None, Result, Ok, refl, ap, ◌∙◌}
use Rattle.std.specs.List.{list_all}
use Rattle.std.specs.Prelude.{nat_le, codes, if◌then◌else◌}
use Rattle.jc_facts.specs.Options.{or_else}
use Rattle.std.proofs.lemmas.List.{length-map}
use Rattle.jc_desc.specs.Pool.{PoolOf}
use Rattle.jc_facts.specs.declared.class_facts.ClassFacts.{ClassFacts}
use Rattle.jc_facts.specs.declared.blueprint.Blueprint.{Blueprint}
use Rattle.jc_facts.specs.declared.client.Item.{Item}
use Rattle.jc_facts.specs.declared.code_fault.CodeFault.{CodeFault}
use Rattle.jc_facts.specs.Names.{Bytes}
use Rattle.jc_facts.specs.file.Attributes.{BootstrapOf}
use Rattle.jc_facts.specs.file.ClassParts.{Attribute}
use Rattle.jc_facts.specs.file.ClassSteps.{has_this_name}
use Rattle.jc_facts.specs.code.ClientItems.{take_boots, boots_of, methods_items, items}
use Rattle.jc_facts.specs.file.Refusals.{◌>>=◌}
use Rattle.jc_facts.specs.written.PoolEntries.{PoolEntry, fits, collected, all_parts, counted}
use Rattle.jc_facts.specs.written.Written.{permits_attribute, host_attribute, nest_attribute, class_attributes, attribute_bytes, methods_bytes, file_bytes, behind_pool, written, pool_of_plan, needs_of, IsFormed, HasShortFlags, fits_whole, fits_counts, fits_bodies}
use Rattle.jc_facts.specs.written.TypedItems.{typed_items, bodies_items, IsTyped}
use Rattle.jc_facts.proofs.AttributeLists.{taken}
use Rattle.jc_write.proofs.Collected.{IsPoolFor}
use Rattle.jc_write.proofs.Linked.{Answers}
use Rattle.jc_write.proofs.MembersStand.{plain}
use Rattle.jc_write.proofs.GoodNeeds.{has_needs}
use Rattle.jc_write.proofs.WholeFile.{pool_read, answers, head_of, file_stands, pool_fits}
use Rattle.jc_facts.proofs.ItemsRead.{items_read}
use Rattle.jc_write.proofs.MethodItems.{methods_found}

-- ---- no attribute of the class holds bootstrap rows

passed : (pool : PoolOf) (found : Option Bytes) (a : Attribute) → has_this_name a (codes "BootstrapMethods") ≡ false → take_boots pool found a ≡ Some found
unfolding take_boots
passed pool found a e = go (nat_le 51 pool.major) (has_this_name a (codes "BootstrapMethods")) e where
  go : (x y : Bool) → y ≡ false → Some (if x && y then or_else found (Some a.body) else found) ≡ Some found
  go true true h = absurd cc
  go true false h = refl
  go false y h = refl

abbrev NoBoots : PoolOf → List Attribute → Type 0
NoBoots p ats = (found : Option Bytes) → taken (take_boots p) found ats ≡ Some found

one_passed : (p : PoolOf) (a : Attribute) (ats : List Attribute) → has_this_name a (codes "BootstrapMethods") ≡ false → NoBoots p ats → NoBoots p (a ∷ ats)
one_passed p a ats e h found = rw (passed p found a e) (h found)

nest_passed : (pool : List PoolEntry) (p : PoolOf) (ns : List Bytes) → NoBoots p (nest_attribute pool ns)
nest_passed pool p [] found = refl
nest_passed pool p (n ∷ ns) found = one_passed p _ [] refl (λ f. refl) found

host_passed : (pool : List PoolEntry) (p : PoolOf) (o : Option Bytes) (ats : List Attribute) → NoBoots p ats → NoBoots p (host_attribute pool o ++ ats)
host_passed pool p None ats h found = h found
host_passed pool p (Some c) ats h found = one_passed p _ ats refl h found

permits_passed : (pool : List PoolEntry) (p : PoolOf) (o : Option (List Bytes)) (ats : List Attribute) → NoBoots p ats → NoBoots p (permits_attribute pool o ++ ats)
permits_passed pool p None ats h found = h found
permits_passed pool p (Some cs) ats h found = one_passed p _ ats refl h found

no_boots : (pool : List PoolEntry) (p : PoolOf) (c : ClassFacts) → taken (take_boots p) None (class_attributes pool c) ≡ Some None
no_boots pool p c = permits_passed pool p c.permits _ (host_passed pool p c.nest_host _ (nest_passed pool p c.nest_members)) None

none_of : boots_of None ≡ None
unfolding boots_of
none_of = refl

-- ---- the file

abbrev All : PoolOf → ClassFacts → Option (List BootstrapOf) → ℕ → Bytes → Result (List Item) CodeFault
All p c boots n bytes = methods_items p (head_of c) boots n bytes >>= λ all. Ok all.0

file_items : (pool : List PoolEntry) (b : Blueprint) → IsFormed b → HasShortFlags b.facts → IsTyped b → IsPoolFor (needs_of b) pool → list_all fits pool ≡ true → length pool ≤ 65534 → fits_counts b.facts ≡ true → fits_bodies pool b.bodies ≡ true
    → items (file_bytes pool b) ≡ Ok (bodies_items b.facts b.facts.methods b.bodies)
file_items pool b w g t s f l counts bodies =
    let c : ClassFacts = b.facts in
    let rest : Bytes = behind_pool pool b in
    let p : PoolOf = pool_read c.major pool rest in
    let a : Answers pool p = answers (needs_of b) pool c.major rest s l in
    let n = has_needs pool b s.there in
    let tail : Bytes = counted (attribute_bytes pool) (class_attributes pool c) in
    let bytes : Bytes = methods_bytes pool c.methods b.bodies ++ tail in
    let found = methods_found pool p a c c.methods b.bodies tail w.one_each n.methods g.methods w.valid.methods bodies w.bodies t in
    items_read (file_bytes pool b) c (file_stands pool b w g s f l counts bodies) None (no_boots pool p c)
    ∙ ap (λ (boots : Option (List BootstrapOf)). All p c boots (length (map plain c.methods)) bytes) none_of
    ∙ ap (λ (k : ℕ). All p c None k bytes) (length-map c.methods plain)
    ∙ rw found refl

pub written_items : (b : Blueprint) → IsFormed b → HasShortFlags b.facts → IsTyped b → fits_whole b ≡ true → items (written b) ≡ Ok (typed_items b)
unfolding written pool_of_plan typed_items
written_items b w g t f = let p = pool_fits b w f in file_items (collected [] (all_parts (needs_of b))) b w g t p.serves p.texts_fit p.few p.counts p.bodies
