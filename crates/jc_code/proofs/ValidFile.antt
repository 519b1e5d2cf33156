-- The record and the items of a class file are a valid client.
use Rattle.std.proofs.Common.{◌≡◌, ℕ, ◌+◌, ◌-◌, ◌/◌, Bool, true, false, cond, List, [], ◌++◌, length, Option, Some, None, Result, Ok, Err, refl, sym, ap, subst, ◌∙◌}
use Rattle.std.specs.Prelude.{codes}
use Rattle.jc_pool.proofs.Members.{member_ref_sound, handle_sound}
use Rattle.jc_facts.specs.declared.class_facts.ClassFacts.{ClassFacts}
use Rattle.jc_facts.specs.declared.class_facts.Member.{Member}
use Rattle.jc_facts.specs.declared.client.Item.{Item}
use Rattle.jc_facts.specs.declared.code_fault.CodeFault.{CodeFault}
use Rattle.jc_facts.specs.declared.code_fault.CodeReason.TheVariants as reasons
use Rattle.jc_facts.specs.Names.{Bytes}
use Rattle.jc_facts.specs.client.Valid.{IsValidClient}
use Rattle.jc_facts.specs.file.Attributes.{CodeOf, BootstrapOf}
use Rattle.jc_facts.specs.file.ClassParts.{Attribute}
use Rattle.jc_facts.specs.file.ClassGrammar.{IsClassFile, Reads}
use Rattle.jc_facts.specs.file.ClassSteps.{has_this_name}
use Rattle.jc_facts.specs.code.Code.{Around, scan_at, catches_at}
use Rattle.jc_facts.specs.code.ClientItems.{layout_of, of_code, items_of_code, code_items, attribute_items, around, boots_of, methods_items, items}
use Rattle.jc_facts.specs.file.Refusals.{◌>>=◌, want}
use Rattle.jc_facts.specs.code.Typing.{typed_code}
use Rattle.jc_facts.proofs.ItemsRead.{boots_taken, items_read}
use Rattle.jc_facts.proofs.ReadLists.{read_valid}
use Rattle.jc_code.proofs.Validity.{Good, Suits, Sound, joined, GoodOption, GoodResult, GoodRead, method_good, methods_good, scan_good}
use Rattle.jc_code.proofs.ValidUses.{used_good, catches_good}
use Rattle.jc_code.proofs.ValidTyped.{code_good}

-- ---- a Code

pick_result : (c : ClassFacts) (b : Bool) (x y : Result (List Item) CodeFault) → GoodResult c x → GoodResult c y → GoodResult c (cond b x y)
pick_result c true x y g h = g
pick_result c false x y g h = h

of_code_good : (c : ClassFacts) (o : Option (List Item)) (xs : List Item) → GoodOption c o → Good c xs → Good c (of_code o xs)
of_code_good c None xs g h = h
of_code_good c (Some ys) xs g h = g

items_of_code_good : (c : ClassFacts) (a : Around) (left : ℕ) (code : CodeOf) → Suits c a → Sound a.pool → GoodResult c (items_of_code a left code)
unfolding items_of_code
items_of_code_good c a left code u s = by_scan (scan_at a left (length code.bytes) 0 code.bytes) refl (scan_good c a left (length code.bytes) 0 code.bytes (λ o i. used_good c a o i u s)) where
  by_catches : (xs : List Item) → Good c xs → GoodOption c (typed_code a code) → (r : Result (List Item) CodeFault) → GoodResult c r → GoodResult c (r >>= λ ys. Ok (of_code (typed_code a code) (xs ++ ys)))
  by_catches xs g t (Err e) h = tt
  by_catches xs g t (Ok ys) h = of_code_good c (typed_code a code) (xs ++ ys) t (joined c xs ys g h)

  by_scan : (r : Result (List Item) CodeFault) → scan_at a left (length code.bytes) 0 code.bytes ≡ r → GoodResult c r
      → GoodResult c (r >>= λ xs. catches_at a.pool (left - (length code.bytes + 2)) (length code.catches / 8) code.catches >>= λ ys. Ok (of_code (typed_code a code) (xs ++ ys)))
  by_scan (Err e) d g = tt
  by_scan (Ok xs) d g = by_catches xs g (code_good c a left code xs u s d) (catches_at a.pool (left - (length code.bytes + 2)) (length code.catches / 8) code.catches) (catches_good c a.pool (left - (length code.bytes + 2)) (length code.catches / 8) code.catches)

code_items_good : (c : ClassFacts) (a : Around) (before : Bool) (left : ℕ) (body : Bytes) → Suits c a → Sound a.pool → GoodResult c (code_items a before left body)
unfolding code_items
code_items_good c a before left body u s = by_layout (cond before None (layout_of body)) where
  by_layout : (o : Option CodeOf) → GoodResult c (want o left reasons.BadLayout >>= λ code. items_of_code a (left - (6 + code.start)) code)
  by_layout None = tt
  by_layout (Some code) = items_of_code_good c a (left - (6 + code.start)) code u s

attribute_good : (c : ClassFacts) (a : Around) (before : Bool) (left : ℕ) (x : Attribute) → Suits c a → Sound a.pool → GoodResult c (attribute_items a before left x)
unfolding attribute_items
attribute_good c a before left x u s = pick_result c (has_this_name x (codes "Code")) (code_items a before left x.body) (Ok []) (code_items_good c a before left x.body u s) refl

-- ---- the file

sound : (bytes : Bytes) (c : ClassFacts) (h : IsClassFile bytes c) → Sound h.pool
sound bytes c h = record {
  members = λ i m e. member_ref_sound bytes h.pool h.after_pool i m h.pool_is e;
  handles = λ i k e. handle_sound bytes h.pool h.after_pool i k h.pool_is e;
}

suits : (bytes : Bytes) (c : ClassFacts) (h : IsClassFile bytes c) (boots : Option (List BootstrapOf)) (m : Member) → Suits c (around h.pool h.head boots m)
suits bytes c h boots m = record { class_is = ap (λ (d : ClassFacts). d.name) h.record_is; super_is = ap (λ (d : ClassFacts). d.superclass) h.record_is }

all_good : (c : ClassFacts) (r : Result (List Item × Bytes) CodeFault) → GoodRead c r → GoodResult c (r >>= λ all. Ok all.0)
all_good c (Err e) g = tt
all_good c (Ok x) g = g

pub file_good : (bytes : Bytes) (c : ClassFacts) (found : List Item) → Reads bytes c → items bytes ≡ Ok found → Good c found
file_good bytes c found h e =
    let b = boots_taken h.pool None h.attributes in
    let boots : Option (List BootstrapOf) = boots_of b.0 in
    let methods = methods_items h.pool h.head boots (length h.methods) h.methods_are.members_are.after_count in
    let g = methods_good c h.pool h.head boots (length h.methods) h.methods_are.members_are.after_count
    (λ bs. method_good c h.pool h.head boots bs (λ m s left x. attribute_good c (around h.pool h.head boots m) s left x (suits bytes c h boots m) (sound bytes c h))) in
    subst (λ (r : Result (List Item) CodeFault). GoodResult c r) (sym (items_read bytes c h b.0 b.1) ∙ e) (all_good c methods g)

-- record and items are a valid client
pub file_valid : (bytes : Bytes) (c : ClassFacts) (found : List Item) → Reads bytes c → items bytes ≡ Ok found → IsValidClient (record { facts = c; items = found })
file_valid bytes c found h e = record { facts = read_valid bytes c h; items = file_good bytes c found h e }
