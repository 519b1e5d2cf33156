-- Bootstrap methods that give the same items leave the items of a class as they are.
use Rattle.std.proofs.Common.{◌≡◌, ℕ, zero, suc, ◌+◌, ◌-◌, Bool, true, false, cond, ◌||◌, codes, List, [], ◌∷◌, ◌++◌, map, drop, length, Option, Some, None, Result, Ok, Err, refl, ap}
use Rattle.std.specs.Option.{option_map}
use Rattle.jc_desc.specs.Faults.{number_at}
use Rattle.jc_desc.specs.Pool.{PoolOf}
use Rattle.jc_desc.specs.PoolAnswers.{MemberRefOf, dynamic_in}
use Rattle.jc_facts.specs.declared.act.Act.{Act}
use Rattle.jc_facts.specs.declared.act.Act.TheVariants as acts
use Rattle.jc_facts.specs.declared.class_facts.Member.{Member}
use Rattle.jc_facts.specs.declared.client.Item.{Item}
use Rattle.jc_facts.specs.declared.code_fault.CodeFault.{CodeFault}
use Rattle.jc_facts.specs.declared.code_fault.CodeReason.TheVariants as reasons
use Rattle.jc_facts.specs.Names.{Bytes}
use Rattle.jc_facts.specs.file.Attributes.{CodeOf, BootstrapOf, ◌|>>◌}
use Rattle.jc_facts.specs.file.ClassParts.{Attribute, ClassHead}
use Rattle.jc_facts.specs.file.ClassSteps.{attribute_from, has_this_name, member_head_from}
use Rattle.jc_facts.specs.code.ClientItems.{around, layout_of, items_of_code, code_items, attribute_items, attributes_items, method_items, methods_items}
use Rattle.jc_facts.specs.code.Code.{Around, boot_items, dynamic_items, operand, used, instruction_at, next_at, scan_at}
use Rattle.jc_facts.specs.file.Refusals.{◌>>=◌, read, want}
use Rattle.jc_facts.specs.code.Typing.{Kind, Frame, Instruction, nothing, pushes, loads_class, loads, stores, pops, pops_two, dups, makes, casts, tests, uses, constructs, get_static, put_static, get_field, put_field, call_static, call, initialized, construct, act_on, run, decode, entry_instruction, decoded_at, step_at, leave, typed_at, typed_code, start_of, method_kinds, is_return, is_nil}
use Rattle.jc_code.specs.steps.Kept.{kept_row}
use Rattle.jc_code.specs.steps.Pushed.{with_before}
use Rattle.jc_code.proofs.KeptRows.{kept_boot_items}

-- the same steps after the same one
same_next : {A B : Type 0} (r : Result A CodeFault) (f g : A → Result B CodeFault) → ((x : A) → f x ≡ g x) → (r >>= f) ≡ (r >>= g)
same_next {A} {B} (Err e) f g h = refl
same_next {A} {B} (Ok x) f g h = h x

same_after : {A B : Type 0} (o : Option A) (f g : A → Option B) → ((x : A) → f x ≡ g x) → (o |>> f) ≡ (o |>> g)
same_after {A} {B} None f g h = refl
same_after {A} {B} (Some x) f g h = h x

-- items, and then others
abbrev followed : Result (List Item × Bytes) CodeFault → List Item → Result (List Item × Bytes) CodeFault
followed others is = others >>= λ o. Ok (is ++ o.0, o.1)

module _ (pool : PoolOf) (head : ClassHead) (b c : Option (List BootstrapOf)) (m : Member) (h : (n : ℕ) → boot_items pool b n ≡ boot_items pool c n) where
  -- the same method, with the one and the other
  abbrev one : Around
  one = around pool head b m

  abbrev other : Around
  other = around pool head c m

  -- ---- the scan

  same_dynamic : (i : ℕ) → dynamic_items one i ≡ dynamic_items other i
  same_dynamic i = same_after (dynamic_in pool i) (λ n. boot_items pool b n) (λ n. boot_items pool c n) h

  same_used : (op i : ℕ) → used one op i ≡ used other op i
  unfolding used
  same_used op i = rw (same_dynamic i) refl

  same_instruction : (left pc op : ℕ) (rest : Bytes) → instruction_at one left pc op rest ≡ instruction_at other left pc op rest
  unfolding instruction_at
  same_instruction left pc op rest = rw (same_used op (operand op rest)) refl

  same_front : (left pc : ℕ) (bytes : Bytes) → next_at one left pc bytes ≡ next_at other left pc bytes
  unfolding next_at
  same_front left pc [] = refl
  same_front left pc (op ∷ rest) = same_instruction left pc op rest

  same_scan : (left n pc : ℕ) (bytes : Bytes) → scan_at one left n pc bytes ≡ scan_at other left n pc bytes
  unfolding scan_at
  same_scan left zero pc bytes = refl
  same_scan left (suc n) pc bytes = go (λ p bs. same_scan left n p bs) where
    go : ((p : ℕ) (bs : Bytes) → scan_at one left n p bs ≡ scan_at other left n p bs)
        → (next_at one left pc bytes >>= λ x. scan_at one left n (pc + x.0) (drop x.0 bytes) >>= λ ys. Ok (x.1 ++ ys)) ≡ (next_at other left pc bytes >>= λ x. scan_at other left n (pc + x.0) (drop x.0 bytes) >>= λ ys. Ok (x.1 ++ ys))
    go ih = rw (same_front left pc bytes) (same_next (next_at other left pc bytes) _ _ (λ x. ap (λ (r : Result (List Item) CodeFault). r >>= λ ys. Ok (x.1 ++ ys)) (ih (pc + x.0) (drop x.0 bytes))))

  -- ---- typing

  same_construct : (r : MemberRefOf) (f : Frame) → construct one r f ≡ construct other r f
  unfolding construct initialized
  same_construct r f = refl

  same_act : (w : Act) (r : MemberRefOf) (f : Frame) → act_on one w r f ≡ act_on other w r f
  unfolding act_on get_static put_static get_field put_field call_static call
  same_act acts.GetStatic r f = refl
  same_act acts.PutStatic r f = refl
  same_act acts.GetField r f = refl
  same_act acts.PutField r f = refl
  same_act acts.InvokeStatic r f = refl
  same_act acts.InvokeStaticInterface r f = refl
  same_act w r f = refl

  same_run : (pc : ℕ) (i : Instruction) (f : Frame) → run one pc i f ≡ run other pc i f
  unfolding run
  same_run pc nothing f = refl
  same_run pc (pushes k) f = refl
  same_run pc (loads_class name) f = refl
  same_run pc (loads number place) f = refl
  same_run pc (stores number place) f = refl
  same_run pc pops f = refl
  same_run pc pops_two f = refl
  same_run pc dups f = refl
  same_run pc (makes name) f = refl
  same_run pc (casts name) f = refl
  same_run pc (tests name) f = refl
  same_run pc (uses what r) f = same_act what r f
  same_run pc (constructs r) f = same_construct r f

  same_decoded : (pc op : ℕ) (rest : Bytes) → decoded_at one pc op rest ≡ decoded_at other pc op rest
  unfolding decode entry_instruction
  same_decoded pc op rest = refl

  same_step : (pc op : ℕ) (f : Frame) (rest : Bytes) → step_at one pc f op rest ≡ step_at other pc f op rest
  unfolding step_at
  same_step pc op f rest = rw (same_decoded pc op rest) (same_after (decoded_at other pc op rest) _ _ (λ i. ap (λ (o : Option (List Item × Frame)). o |>> λ x. Some (i.0, x.0, x.1)) (same_run pc i.1 f)))

  same_leave : (op : ℕ) (f : Frame) (due : Option Kind) → leave one op f due ≡ leave other op f due
  unfolding leave
  same_leave op f due = refl

  same_typed : (due : Option Kind) (n pc : ℕ) (f : Frame) (bytes : Bytes) → typed_at one due n pc f bytes ≡ typed_at other due n pc f bytes
  unfolding typed_at
  same_typed due zero pc f bytes = refl
  same_typed due (suc n) pc f [] = refl
  same_typed due (suc n) pc f (op ∷ rest) = go (λ p g bs. same_typed due n p g bs) where
    go : ((p : ℕ) (g : Frame) (bs : Bytes) → typed_at one due n p g bs ≡ typed_at other due n p g bs)
        → cond (is_return op) (cond (is_nil rest) (leave one op f due) None) (step_at one pc f op rest |>> λ x. typed_at one due n (pc + x.0) x.2 (drop x.0 (op ∷ rest)) |>> λ ys. Some (x.1 ++ ys))
        ≡ cond (is_return op) (cond (is_nil rest) (leave other op f due) None) (step_at other pc f op rest |>> λ x. typed_at other due n (pc + x.0) x.2 (drop x.0 (op ∷ rest)) |>> λ ys. Some (x.1 ++ ys))
    go ih =
        let steps = same_after (step_at other pc f op rest) (λ x. typed_at one due n (pc + x.0) x.2 (drop x.0 (op ∷ rest)) |>> λ ys. Some (x.1 ++ ys)) (λ x. typed_at other due n (pc + x.0) x.2 (drop x.0 (op ∷ rest)) |>> λ ys. Some (x.1 ++ ys))
        (λ x. ap (λ (o : Option (List Item)). o |>> λ ys. Some (x.1 ++ ys)) (ih (pc + x.0) x.2 (drop x.0 (op ∷ rest)))) in
        rw (same_leave op f due, same_step pc op f rest, steps) refl

  same_typed_code : (code : CodeOf) → typed_code one code ≡ typed_code other code
  unfolding typed_code
  same_typed_code code = same_catches (is_nil code.catches) where
    same_catches : (t : Bool) → cond t (method_kinds m.descriptor |>> λ k. typed_at one k.result (length code.bytes) 0 (start_of one k.params) code.bytes) None
        ≡ cond t (method_kinds m.descriptor |>> λ k. typed_at other k.result (length code.bytes) 0 (start_of other k.params) code.bytes) None
    same_catches true = same_after (method_kinds m.descriptor) _ _ (λ k. same_typed k.result (length code.bytes) 0 (start_of other k.params) code.bytes)
    same_catches false = refl

  -- ---- a method's attributes

  same_code : (left : ℕ) (code : CodeOf) → items_of_code one left code ≡ items_of_code other left code
  unfolding items_of_code
  same_code left code = rw (same_scan left (length code.bytes) 0 code.bytes, same_typed_code code) refl

  same_code_items : (seen : Bool) (left : ℕ) (body : Bytes) → code_items one seen left body ≡ code_items other seen left body
  unfolding code_items
  same_code_items seen left body = same_next (want (cond seen None (layout_of body)) left reasons.BadLayout) _ _ (λ code. same_code (left - (6 + code.start)) code)

  same_attribute : (seen : Bool) (left : ℕ) (x : Attribute) → attribute_items one seen left x ≡ attribute_items other seen left x
  unfolding attribute_items
  same_attribute seen left x = rw (same_code_items seen left x.body) refl

  same_attributes : (seen : Bool) (n : ℕ) (bytes : Bytes) → attributes_items one seen n bytes ≡ attributes_items other seen n bytes
  unfolding attributes_items
  same_attributes seen zero bytes = refl
  same_attributes seen (suc n) bytes = go (λ s bs. same_attributes s n bs) where
    go : ((s : Bool) (bs : Bytes) → attributes_items one s n bs ≡ attributes_items other s n bs)
        → (read (attribute_from pool bytes) >>= λ x. attribute_items one seen (length bytes) x.0 >>= followed (attributes_items one (seen || has_this_name x.0 (codes "Code")) n x.1))
        ≡ (read (attribute_from pool bytes) >>= λ x. attribute_items other seen (length bytes) x.0 >>= followed (attributes_items other (seen || has_this_name x.0 (codes "Code")) n x.1))
    go ih = same_next (read (attribute_from pool bytes)) _ _ (λ x. rw (same_attribute seen (length bytes) x.0, ih (seen || has_this_name x.0 (codes "Code")) x.1) refl)

-- ---- all methods

same_method : (pool : PoolOf) (head : ClassHead) (b c : Option (List BootstrapOf)) → ((n : ℕ) → boot_items pool b n ≡ boot_items pool c n) → (bytes : Bytes) → method_items pool head b bytes ≡ method_items pool head c bytes
unfolding method_items
same_method pool head b c h bytes = same_next (read (member_head_from true pool head.flags bytes)) _ _ (λ m. same_next (read (number_at 2 m.1)) _ _ (λ k. same_attributes pool head b c m.0 h false k.0 k.1))

same_methods : (pool : PoolOf) (head : ClassHead) (b c : Option (List BootstrapOf)) → ((n : ℕ) → boot_items pool b n ≡ boot_items pool c n) → (n : ℕ) (bytes : Bytes) → methods_items pool head b n bytes ≡ methods_items pool head c n bytes
unfolding methods_items
same_methods pool head b c h zero bytes = refl
same_methods pool head b c h (suc n) bytes = go (λ bs. same_methods pool head b c h n bs) where
  go : ((bs : Bytes) → methods_items pool head b n bs ≡ methods_items pool head c n bs)
      → (method_items pool head b bytes >>= λ x. followed (methods_items pool head b n x.1) x.0) ≡ (method_items pool head c bytes >>= λ x. followed (methods_items pool head c n x.1) x.0)
  go ih = rw (same_method pool head b c h bytes) (same_next (method_items pool head c bytes) _ _ (λ x. rw (ih x.1) refl))

-- arguments that say nothing may be left out
pub kept_methods : (pool : PoolOf) (head : ClassHead) (boots : Option (List BootstrapOf)) (n : ℕ) (bytes : Bytes) → methods_items pool head (option_map (map (kept_row pool)) boots) n bytes ≡ methods_items pool head boots n bytes
kept_methods pool head boots n bytes = same_methods pool head (option_map (map (kept_row pool)) boots) boots (kept_boot_items pool boots) n bytes

-- ---- what is found in all of them

pub found_all : (pool : PoolOf) (head : ClassHead) (kept boots : Option (List BootstrapOf)) (n : ℕ) (bytes rest : Bytes) (found : List Item) → kept ≡ option_map (map (kept_row pool)) boots
    → Ok (found, rest) ≡ with_before [] (methods_items pool head kept n bytes) → Ok found ≡ (methods_items pool head boots n bytes >>= λ all. Ok all.0)
found_all pool head kept boots n bytes rest found k h = go (methods_items pool head boots n bytes) (rw (k, kept_methods pool head boots n bytes) at h) where
  go : (r : Result (List Item × Bytes) CodeFault) → Ok (found, rest) ≡ with_before [] r → Ok found ≡ (r >>= λ all. Ok all.0)
  go (Err e) h = absurd cc
  go (Ok x) h = let both : (found, rest) ≡ (x.0, x.1) = cc in ap (λ (p : List Item × Bytes). Ok p.0) both

pub fault_in_all : (pool : PoolOf) (head : ClassHead) (kept boots : Option (List BootstrapOf)) (n : ℕ) (bytes : Bytes) (e : CodeFault) → kept ≡ option_map (map (kept_row pool)) boots
    → Err e ≡ with_before [] (methods_items pool head kept n bytes) → Err e ≡ (methods_items pool head boots n bytes >>= λ all. Ok all.0)
fault_in_all pool head kept boots n bytes e k h = go (methods_items pool head boots n bytes) (rw (k, kept_methods pool head boots n bytes) at h) where
  go : (r : Result (List Item × Bytes) CodeFault) → Err e ≡ with_before [] r → Err e ≡ (r >>= λ all. Ok all.0)
  go (Err d) h = let same : e ≡ d = cc in ap (λ (x : CodeFault). Err x) same
  go (Ok x) h = absurd cc
