-- When references to a method are lost, by what is found on both sides.
use Rattle.std.proofs.Common.{◌≡◌, Bool, true, false, cond, not, ◌||◌, ◌&&◌, List, [], ◌∷◌, refl, sym, ◌∙◌, ap, Option, Some, None, is_some, is_none, ◌⊎◌, inl, inr}
use Rattle.std.specs.Bool.{beq}
use Rattle.std.specs.List.{list_any, list_all, filter, Contains}
use Rattle.std.proofs.lemmas.Bool.{and_parts, not-true}
use Rattle.jc_acts.specs.ClosedActs.{reported, IsFirstClosed}
use Rattle.jc_acts.specs.Seats.{all_seats}
use Rattle.jc_acts.specs.declared.closed_act.ClosedAct.{ClosedAct}
use Rattle.jc_acts.specs.steps.LookedUp.{use_at}
use Rattle.jc_acts.proofs.Firsts.{seat_is}
use Rattle.jc_calls.specs.Handles.{is_referable, are_referable, is_through_class}
use Rattle.jc_calls.specs.References.{are_of_open, is_handle_lost, is_of_open, is_open_to_some, is_told, reference_lost}
use Rattle.jc_facts.specs.declared.act.Act.{Act}
use Rattle.jc_facts.specs.declared.act.Act.TheVariants as act
use Rattle.jc_facts.specs.declared.class_facts.ClassFacts.{ClassFacts}
use Rattle.jc_facts.specs.declared.key.Key.{Key}
use Rattle.jc_facts.specs.declared.link_error.LinkError.{LinkError}
use Rattle.jc_facts.specs.declared.link_error.LinkError.TheVariants.{IncompatibleClassChangeError}
use Rattle.jc_facts.specs.Flags.{static_flag, no_static_flag, public_flag, synthetic_flag, interface_flag}
use Rattle.jc_facts.specs.Names.{Bytes, object_name}
use Rattle.jc_facts.specs.Options.{or_else, some_and}
use Rattle.jc_facts.specs.client.Acts.{Form, MethodForm, InterfaceForm, form_of, is_act_on_static, is_put_act}
use Rattle.jc_facts.specs.client.Outcome.{look_up, first_of, may_find}
use Rattle.jc_facts.specs.world.Assignment.{is_interface_of}
use Rattle.jc_facts.specs.world.Lookup.{are_none}
use Rattle.jc_facts.specs.world.Modules.{is_visible}
use Rattle.jc_facts.specs.world.World.{World, DeclaredMember, classes, find_class}
use Rattle.jc_facts.specs.ByName.{least}
use Rattle.jc_facts.proofs.World.{find-name}
use Rattle.jc_index.specs.Ids.{names}
use Rattle.jc_index.proofs.Numbers.{names-find, is_class}
use Rattle.jc_lemmas.proofs.Bools.{contradicts}
use Rattle.jc_lemmas.proofs.Listed.{EachOf, each_in, list_any-same, any_none, any_has, here, there, Passes, any_passes, in_filter, cases, each_from}
use Rattle.jc_lemmas.proofs.Lists.{found_any}
use Rattle.jc_lemmas.proofs.Options.{none_from, none_where}
use Rattle.jc_method.specs.FoundKeys.{finds_method}
use Rattle.jc_promises.specs.rule.Bases.{is_base_class, is_key_of_method, is_steady}
use Rattle.jc_promises.specs.rule.Findings.{first_act, finding_at, method_closed}
use Rattle.jc_promises.specs.rule.OpenActs.{act_fault, closed_act, first_seat, method_acts, where_open}
use Rattle.jc_rows.specs.Rows.{choices_by, lookup_choices}
use Rattle.jc_sides.specs.Rules.{on_key}
use Rattle.jc_sides.specs.SidesOf.{SidesOf, AreSides}
use Rattle.jc_sound.proofs.OpenActs.{IsSeat, first_act-none, first_seat-passes}
use Rattle.jc_call_lines.specs.steps.Openly.{is_said_open, choices_open, finds_referable}

-- ---- tests of lists

any_and : {A : Type 0} (p : A → Bool) (z : Bool) (xs : List A) → list_any (λ x. p x && z) xs ≡ (list_any p xs && z)
any_and p z [] = refl
any_and p z (x ∷ xs) = ap (λ b. (p x && z) || b) (any_and p z xs) ∙ go (p x) (list_any p xs) z
  where
    go : (a b z : Bool) → ((a && z) || (b && z)) ≡ ((a || b) && z)
    go true b true = refl
    go true true false = refl
    go true false false = refl
    go false b z = refl

all_same : {A : Type 0} (p q : A → Bool) → ((x : A) → p x ≡ q x) → (xs : List A) → list_all p xs ≡ list_all q xs
all_same p q h [] = refl
all_same p q h (x ∷ xs) = ap (λ b. b && list_all p xs) (h x) ∙ ap (λ b. q x && b) (all_same p q h xs)

-- ---- acts of one form

-- the form of references to an interface's methods, or to a class's
abbrev pub form_by : Bool → Form
form_by true = InterfaceForm
form_by false = MethodForm

-- each act of the rule on methods is by one of them
abbrev pub IsBy : Act → Type 0
IsBy what = (b : Bool) × (form_of what ≡ form_by b) × (is_through_class what ≡ not b)

each_by : EachOf IsBy method_acts
each_by = ((false, refl, refl), ((false, refl, refl), ((true, refl, refl), ((true, refl, refl), tt))))

-- through a class of the other kind nothing is found
module _ (W : World) (x : Bytes) (k : Key) (what : Act) (b : Bool) (f : form_of what ≡ form_by b) where
  by_form : (a : Bytes) → act_fault W a x k what ≡ look_up W (form_by b) x k (use_at W a x what)
  unfolding act_fault
  by_form a = ap (λ form. look_up W form x k (use_at W a x what)) f

  other_kind : is_interface_of W x ≡ not b → (a : Bytes) → act_fault W a x k what ≡ Some IncompatibleClassChangeError
  unfolding look_up
  other_kind i a = by_form a ∙ go b i
    where
      go : (c : Bool) → is_interface_of W x ≡ not c → look_up W (form_by c) x k (use_at W a x what) ≡ Some IncompatibleClassChangeError
      go true e = rw e refl
      go false e = rw e refl

  -- what it may find is what references to x may
  may_by : {A : Type 0} (g : List DeclaredMember → A) → is_interface_of W x ≡ b → g (may_find W (form_of what) x k) ≡ g (lookup_choices W x k)
  may_by g i = ap (λ form. g (may_find W form x k)) f ∙ go b ∙ ap (λ c. g (choices_by c W x k)) (sym i)
    where
      go : (c : Bool) → g (may_find W (form_by c) x k) ≡ g (choices_by c W x k)
      go true = refl
      go false = refl

  referable_is : is_interface_of W x ≡ b → are_referable W what x k ≡ list_all is_referable (lookup_choices W x k)
  referable_is i = may_by (list_all is_referable) i

  may_is : is_through_class what ≡ not b → is_interface_of W x ≡ b → are_of_open W what x k ≡ choices_open W x k
  may_is t i =
      may_by (list_all (is_of_open W what)) i
      ∙ all_same (is_of_open W what) (is_said_open (is_interface_of W x) W) one (lookup_choices W x k)
    where
      one : (m : DeclaredMember) → is_of_open W what m ≡ is_said_open (is_interface_of W x) W m
      one m = ap (λ c. some_and (λ d. (c && interface_flag d.flags) || (is_visible W d.name && public_flag d.flags)) (find_class W m.owner)) t ∙ go b (find_class W m.owner) refl ∙ ap (λ c. is_said_open c W m) (sym i)
        where
          go : (c : Bool) (o : Option ClassFacts) → find_class W m.owner ≡ o → some_and (λ d. (not c && interface_flag d.flags) || (is_visible W d.name && public_flag d.flags)) o ≡ is_said_open c W m
          go true None e = sym (ap (some_and (λ d. is_visible W m.owner && public_flag d.flags)) e)
          go false None e = sym (rw e refl)
          go true (Some d) e = ap (λ y. is_visible W y && public_flag d.flags) (find-name W m.owner d e) ∙ sym (ap (some_and (λ d. is_visible W m.owner && public_flag d.flags)) e)
          go false (Some d) e = ap (λ y. interface_flag d.flags || (is_visible W y && public_flag d.flags)) (find-name W m.owner d e) ∙ sym (rw e refl)

  -- where nothing is found at all
  nothing_open : lookup_choices W x k ≡ [] → (a : Bytes) → is_none (act_fault W a x k what) ≡ false
  unfolding look_up first_of
  nothing_open n a = ap is_none (by_form a) ∙ go b (is_interface_of W x) refl n
    where
      go : (c i : Bool) → is_interface_of W x ≡ i → choices_by i W x k ≡ [] → is_none (look_up W (form_by c) x k (use_at W a x what)) ≡ false
      go true true e q = rw (e, q) refl
      go true false e q = rw e refl
      go false true e q = rw e refl
      go false false e q = rw (e, q) refl

-- ---- what the use of a public member gives

used : (W : World) (a x : Bytes) (what : Act) (m : DeclaredMember) → public_flag m.member.flags ≡ true → cond (is_act_on_static what) (no_static_flag m.member.flags) (static_flag m.member.flags) ≡ false → is_put_act what ≡ false → use_at W a x what m ≡ None
unfolding or_else
used W a x what m o e p = rw (o, e, p) refl

-- ---- the four acts

at_virtual : Contains method_acts act.InvokeVirtual
at_virtual = here act.InvokeVirtual (act.InvokeStatic ∷ act.InvokeInterface ∷ act.InvokeStaticInterface ∷ [])

at_static : Contains method_acts act.InvokeStatic
at_static = there act.InvokeStatic act.InvokeVirtual (act.InvokeStatic ∷ act.InvokeInterface ∷ act.InvokeStaticInterface ∷ []) (here act.InvokeStatic (act.InvokeInterface ∷ act.InvokeStaticInterface ∷ []))

at_interface : Contains method_acts act.InvokeInterface
at_interface =
    there act.InvokeInterface act.InvokeVirtual (act.InvokeStatic ∷ act.InvokeInterface ∷ act.InvokeStaticInterface ∷ [])
    (there act.InvokeInterface act.InvokeStatic (act.InvokeInterface ∷ act.InvokeStaticInterface ∷ []) (here act.InvokeInterface (act.InvokeStaticInterface ∷ [])))

at_static_interface : Contains method_acts act.InvokeStaticInterface
at_static_interface =
    there act.InvokeStaticInterface act.InvokeVirtual (act.InvokeStatic ∷ act.InvokeInterface ∷ act.InvokeStaticInterface ∷ [])
    (there act.InvokeStaticInterface act.InvokeStatic (act.InvokeInterface ∷ act.InvokeStaticInterface ∷ [])
    (there act.InvokeStaticInterface act.InvokeInterface (act.InvokeStaticInterface ∷ []) (here act.InvokeStaticInterface [])))

-- ---- seats

module _ (s : SidesOf) (x : Bytes) (k : Key) where
  abbrev open_some : Act → Bool
  open_some what = is_open_to_some s.old s.new x k what

  none_open : (what : Act) → ((a : Bytes) → is_none (act_fault s.old a x k what) ≡ false) → open_some what ≡ false
  none_open what h = go (first_seat s.old s.new (λ a. is_none (act_fault s.old a x k what))) refl
    where
      go : (o : Option Bytes) → first_seat s.old s.new (λ a. is_none (act_fault s.old a x k what)) ≡ o → is_some o ≡ false
      go None e = refl
      go (Some a) e = absurd (contradicts (is_none (act_fault s.old a x k what)) (first_seat-passes s.old s.new (λ a. is_none (act_fault s.old a x k what)) a e) (h a))

  -- clients of the seat java/lang/Object could do the act
  all_open : (what : Act) → act_fault s.old object_name x k what ≡ None → open_some what ≡ true
  all_open what h = ap (λ b. is_some (cond b (Some object_name) (least (λ a. is_base_class s.old s.new a && is_none (act_fault s.old a x k what)) (classes s.old)))) (ap (λ o. is_none {T = LinkError} o) h)

  -- ---- by what the reference finds

  abbrev some_open : Bool
  some_open = list_any (is_open_to_some s.old s.new x k) method_acts

  -- a public method first
  public_first : (m : DeclaredMember) (ms : List DeclaredMember) → lookup_choices s.old x k ≡ m ∷ ms → public_flag m.member.flags ≡ true → some_open ≡ true
  unfolding look_up first_of
  public_first m ms e o = go (is_interface_of s.old x) refl e (static_flag m.member.flags) refl
    where
      by : (what : Act) (b : Bool) → form_of what ≡ form_by b → is_interface_of s.old x ≡ b → choices_by b s.old x k ≡ m ∷ ms → cond (is_act_on_static what) (no_static_flag m.member.flags) (static_flag m.member.flags) ≡ false → is_put_act what ≡ false → open_some what ≡ true
      by what b f i q u p = all_open what (by_form s.old x k what b f object_name ∙ at b i q ∙ used s.old object_name x what m o u p)
        where
          at : (b : Bool) → is_interface_of s.old x ≡ b → choices_by b s.old x k ≡ m ∷ ms → look_up s.old (form_by b) x k (use_at s.old object_name x what) ≡ use_at s.old object_name x what m
          at true i q = rw (i, q) refl
          at false i q = rw (i, q) refl

      go : (b : Bool) → is_interface_of s.old x ≡ b → choices_by b s.old x k ≡ m ∷ ms → (t : Bool) → static_flag m.member.flags ≡ t → some_open ≡ true
      go false i q false t = any_has (is_open_to_some s.old s.new x k) method_acts act.InvokeVirtual at_virtual (by act.InvokeVirtual false refl i q t refl)
      go false i q true t = any_has (is_open_to_some s.old s.new x k) method_acts act.InvokeStatic at_static (by act.InvokeStatic false refl i q (ap not t) refl)
      go true i q false t = any_has (is_open_to_some s.old s.new x k) method_acts act.InvokeInterface at_interface (by act.InvokeInterface true refl i q t refl)
      go true i q true t = any_has (is_open_to_some s.old s.new x k) method_acts act.InvokeStaticInterface at_static_interface (by act.InvokeStaticInterface true refl i q (ap not t) refl)

  abbrev are_all_fit : Bool
  are_all_fit = list_all is_referable (lookup_choices s.old x k)

  -- where javac makes handles of all, some act is open exactly where something is found
  found_opens : (some_open && are_all_fit) ≡ finds_referable s.old x k
  found_opens = go (lookup_choices s.old x k) refl
    where
      both : (a b c : Bool) → (c ≡ true → a ≡ true) → b ≡ c && b → (a && b) ≡ b
      both true b c h e = refl
      both false b true h e = absurd (let clash : false ≡ true = h refl in cc)
      both false b false h e = sym e

      shut : lookup_choices s.old x k ≡ [] → some_open ≡ false
      shut e = any_none (is_open_to_some s.old s.new x k) method_acts (each_from (λ what. open_some what ≡ false) method_acts (λ what i. let b = each_in IsBy method_acts what each_by i in none_open what (nothing_open s.old x k what b.0 b.1 e)))

      go : (ms : List DeclaredMember) → lookup_choices s.old x k ≡ ms → (some_open && are_all_fit) ≡ finds_referable s.old x k
      go [] e = ap (λ b. b && are_all_fit) (shut e) ∙ sym (ap (λ ms. not (are_none ms) && are_all_fit) e)
      go (m ∷ ms) e =
          both some_open are_all_fit (is_referable m) (λ r. public_first m ms e (and_parts (public_flag m.member.flags) (not (synthetic_flag m.member.flags)) r).0) (ap (list_all is_referable) e ∙ twice (is_referable m) (list_all is_referable ms) ∙ sym (ap (λ (ns : List DeclaredMember). is_referable m && list_all is_referable ns) e))
          ∙ sym (ap (λ (ns : List DeclaredMember). not (are_none ns) && are_all_fit) e)
        where
          twice : (a b : Bool) → (a && b) ≡ (a && (a && b))
          twice true b = refl
          twice false b = refl

  -- ---- handles

  -- an act that was open is by references to the class's kind
  open_kind : (what : Act) (b : Bool) → form_of what ≡ form_by b → open_some what ≡ true → is_interface_of s.old x ≡ b
  open_kind what b f o = go b (is_interface_of s.old x) refl f
    where
      shut : (c : Bool) → form_of what ≡ form_by c → is_interface_of s.old x ≡ not c → ⊥
      shut c g i = contradicts (open_some what) o (none_open what (λ a. ap is_none (other_kind s.old x k what c g i a)))

      go : (c i : Bool) → is_interface_of s.old x ≡ i → form_of what ≡ form_by c → is_interface_of s.old x ≡ c
      go true true e g = e
      go true false e g = absurd (shut true g e)
      go false true e g = absurd (shut false g e)
      go false false e g = e

  module _ (kind : is_interface_of s.old x ≡ is_interface_of s.new x) where
    -- what is asked of the class alone
    abbrev is_shut : Bool
    is_shut = are_all_fit && (choices_open s.old x k && not (choices_open s.new x k))

    one_handle : (what : Act) → IsBy what → is_handle_lost s.old s.new x k what ≡ (open_some what && is_shut)
    one_handle what by = go (open_some what) refl
      where
        four : (o p q n : Bool) → (((o && p) && q) && n) ≡ (o && (p && (q && n)))
        four true true true n = refl
        four true true false n = refl
        four true false q n = refl
        four false p q n = refl

        go : (o : Bool) → open_some what ≡ o → is_handle_lost s.old s.new x k what ≡ (open_some what && is_shut)
        go false e =
            ap (λ t. ((t && are_referable s.old what x k) && are_of_open s.old what x k) && not (are_of_open s.new what x k)) e
            ∙ sym (ap (λ t. t && is_shut) e)
        go true e =
            let i : is_interface_of s.old x ≡ by.0 = open_kind what by.0 by.1 e in
            ap (λ t. ((open_some what && t) && are_of_open s.old what x k) && not (are_of_open s.new what x k)) (referable_is s.old x k what by.0 by.1 i)
            ∙ ap (λ t. ((open_some what && are_all_fit) && t) && not (are_of_open s.new what x k)) (may_is s.old x k what by.0 by.1 by.2 i)
            ∙ ap (λ t. ((open_some what && are_all_fit) && choices_open s.old x k) && not t) (may_is s.new x k what by.0 by.1 by.2 (sym kind ∙ i))
            ∙ four (open_some what) are_all_fit (choices_open s.old x k) (not (choices_open s.new x k))

    handles : list_any (is_handle_lost s.old s.new x k) method_acts ≡ (finds_referable s.old x k && (choices_open s.old x k && not (choices_open s.new x k)))
    handles =
        list_any-same (is_handle_lost s.old s.new x k) (λ what. open_some what && is_shut) method_acts
        (each_from (λ what. is_handle_lost s.old s.new x k what ≡ (open_some what && is_shut)) method_acts (λ what c. one_handle what (each_in IsBy method_acts what each_by c)))
        ∙ any_and (is_open_to_some s.old s.new x k) is_shut method_acts
        ∙ three some_open are_all_fit (choices_open s.old x k && not (choices_open s.new x k)) ∙ ap (λ b. b && (choices_open s.old x k && not (choices_open s.new x k))) found_opens
      where
        three : (a b c : Bool) → (a && (b && c)) ≡ ((a && b) && c)
        three true b c = refl
        three false b c = refl

    -- what the code asks, in its order
    pub new_open : (n : Bool) → n ≡ choices_open s.new x k → n ≡ true → false ≡ list_any (is_handle_lost s.old s.new x k) method_acts
    new_open n e t = sym (handles ∙ ap (λ v. finds_referable s.old x k && (choices_open s.old x k && not v)) (sym e ∙ t) ∙ go (finds_referable s.old x k) (choices_open s.old x k))
      where
        go : (a b : Bool) → (a && (b && false)) ≡ false
        go true true = refl
        go true false = refl
        go false b = refl

    pub none_referable : (p : Bool) → p ≡ finds_referable s.old x k → p ≡ false → false ≡ list_any (is_handle_lost s.old s.new x k) method_acts
    none_referable p e t = sym (handles ∙ ap (λ v. v && (choices_open s.old x k && not (choices_open s.new x k))) (sym e ∙ t))

    pub by_old : (n p o : Bool) → n ≡ choices_open s.new x k → n ≡ false → p ≡ finds_referable s.old x k → p ≡ true → o ≡ choices_open s.old x k → o ≡ list_any (is_handle_lost s.old s.new x k) method_acts
    by_old n p o e f g h q =
        q ∙ sym (handles ∙ ap (λ v. v && (choices_open s.old x k && not (choices_open s.new x k))) (sym g ∙ h) ∙ ap (λ v. choices_open s.old x k && not v) (sym e ∙ f) ∙ go (choices_open s.old x k))
      where
        go : (a : Bool) → (a && true) ≡ a
        go true = refl
        go false = refl

  -- ---- all that is asked

  -- the act of a handle that is lost was open
  was_open : (what : Act) → is_handle_lost s.old s.new x k what ≡ true → open_some what ≡ true
  was_open what h =
      let p = and_parts (open_some what && are_referable s.old what x k && are_of_open s.old what x k) (not (are_of_open s.new what x k)) h in
      let q = and_parts (open_some what && are_referable s.old what x k) (are_of_open s.old what x k) p.0 in
      (and_parts (open_some what) (are_referable s.old what x k) q.0).0

  -- where a reference is lost
  pub record IsLost : Type 0 where
    pub method : is_key_of_method k ≡ true
    pub steady : is_steady s.old s.new x ≡ true
    pub handle : list_any (is_handle_lost s.old s.new x k) method_acts ≡ true
    pub untold : is_told s.old s.new x k ≡ false

  pub lost_parts : reference_lost s.old s.new x k ≡ true → IsLost
  unfolding reference_lost
  lost_parts h =
      let p = and_parts (is_key_of_method k && is_steady s.old s.new x && list_any (is_handle_lost s.old s.new x k) method_acts) (not (is_told s.old s.new x k)) h in
      let q = and_parts (is_key_of_method k && is_steady s.old s.new x) (list_any (is_handle_lost s.old s.new x k) method_acts) p.0 in
      let r = and_parts (is_key_of_method k) (is_steady s.old s.new x) q.0 in
      record { method = r.0; steady = r.1; handle = q.1; untold = not-true (is_told s.old s.new x k) p.1 }

  never : (reference_lost s.old s.new x k ≡ true → ⊥) → reference_lost s.old s.new x k ≡ false
  never h = go (reference_lost s.old s.new x k) refl
    where
      go : (b : Bool) → reference_lost s.old s.new x k ≡ b → b ≡ false
      go true e = absurd (h e)
      go false e = refl

  pub no_method : is_key_of_method k ≡ false → false ≡ reference_lost s.old s.new x k
  no_method e = sym (never (λ h. contradicts (is_key_of_method k) (lost_parts h).method e))

  pub no_handle : (b : Bool) → b ≡ list_any (is_handle_lost s.old s.new x k) method_acts → b ≡ false → false ≡ reference_lost s.old s.new x k
  no_handle b e t = sym (never (λ h. contradicts (list_any (is_handle_lost s.old s.new x k) method_acts) (lost_parts h).handle (sym e ∙ t)))

  -- the finding on the class and the key
  told_is : is_key_of_method k ≡ true → is_steady s.old s.new x ≡ true → is_told s.old s.new x k ≡ is_some (first_act s.old s.new (on_key 8 x k) k method_acts)
  unfolding finding_at method_closed
  told_is m t = rw (m, t) refl

  pub untold_is : is_key_of_method k ≡ true → is_steady s.old s.new x ≡ true → (h b : Bool) → h ≡ list_any (is_handle_lost s.old s.new x k) method_acts → h ≡ true
      → (r : Option ClosedAct) → IsFirstClosed s x k method_acts r → is_some r ≡ not b → b ≡ reference_lost s.old s.new x k
  unfolding reference_lost
  untold_is m t h b e q r first n =
      twice b ∙ sym (ap not n) ∙ go r ∙ sym (ap (λ f. not (is_some f)) (first (on_key 8 x k) refl)) ∙ sym (ap not (told_is m t))
      ∙ sym (all (is_key_of_method k) (is_steady s.old s.new x) (list_any (is_handle_lost s.old s.new x k) method_acts) (is_told s.old s.new x k) m t (sym e ∙ q))
    where
      twice : (b : Bool) → b ≡ not (not b)
      twice true = refl
      twice false = refl

      go : (r : Option ClosedAct) → not (is_some r) ≡ not (is_some (reported (on_key 8 x k) r))
      go None = refl
      go (Some c) = refl

      all : (a b c d : Bool) → a ≡ true → b ≡ true → c ≡ true → (a && b && c && not d) ≡ not d
      all true true true d p q r = refl
      all false b c d p q r = absurd (let clash : false ≡ true = p in cc)
      all true false c d p q r = absurd (let clash : false ≡ true = q in cc)
      all true true false d p q r = absurd (let clash : false ≡ true = r in cc)

  -- ---- keys that references found

  pub lost_found : reference_lost s.old s.new x k ≡ true → finds_method s.old x k ≡ true
  lost_found h = go (lookup_choices s.old x k) refl
    where
      p : is_handle_lost s.old s.new x k (any_passes (is_handle_lost s.old s.new x k) method_acts (lost_parts h).handle).one ≡ true
      p = (any_passes (is_handle_lost s.old s.new x k) method_acts (lost_parts h).handle).passes

      what : Act
      what = (any_passes (is_handle_lost s.old s.new x k) method_acts (lost_parts h).handle).one

      o : open_some what ≡ true
      o = was_open what p

      by : IsBy what
      by = each_in IsBy method_acts what each_by (any_passes (is_handle_lost s.old s.new x k) method_acts (lost_parts h).handle).is_in

      go : (ms : List DeclaredMember) → lookup_choices s.old x k ≡ ms → not (are_none ms) ≡ true
      go [] e = absurd (contradicts (open_some what) o (none_open what (nothing_open s.old x k what by.0 by.1 e)))
      go (m ∷ ms) e = refl

  module _ (are : AreSides s) where
    -- ---- classes that became interfaces

    some_is : (what : Act) → open_some what ≡ list_any (λ a. is_none (act_fault s.old a x k what)) (all_seats s)
    some_is what = ap is_some (seat_is s are.old_side.differ (λ a. is_none (act_fault s.old a x k what))) ∙ sym (found_any (λ a. is_none (act_fault s.old a x k what)) (all_seats s))

    seat_of : (a : Bytes) → Contains (all_seats s) a → IsSeat s.old s.new a
    seat_of a c = go (cases object_name (filter (is_base_class s.old s.new) (names s.old)) a c)
      where
        go : (object_name ≡ a) ⊎ Contains (filter (is_base_class s.old s.new) (names s.old)) a → IsSeat s.old s.new a
        go (inl e) = inl (sym e)
        go (inr d) =
            let f = in_filter (is_base_class s.old s.new) (names s.old) a d in
            let i = is_class s.old a (names-find s.old a f.0) in
            inr (f.1, (i.facts, i.found))

    pub kept_apart : beq (is_interface_of s.old x) (is_interface_of s.new x) ≡ false → reference_lost s.old s.new x k ≡ false
    kept_apart apart = never lost
      where
        closed : (o n : Option LinkError) (e : LinkError) → o ≡ None → n ≡ Some e → where_open o n ≡ None → ⊥
        closed o n e p q r = let clash : Some e ≡ None = sym (ap (λ v. where_open None v) q) ∙ sym (ap (λ v. where_open v n) p) ∙ r in absurd (cc)

        other : (b c i : Bool) → is_interface_of s.old x ≡ b → is_interface_of s.new x ≡ i → beq b i ≡ false → is_interface_of s.new x ≡ not b
        other true c true e f h = absurd (let clash : true ≡ false = h in cc)
        other true c false e f h = f
        other false c true e f h = f
        other false c false e f h = absurd (let clash : true ≡ false = h in cc)

        lost : reference_lost s.old s.new x k ≡ true → ⊥
        lost h = by (each_in IsBy method_acts w.one each_by w.is_in)
          where
            l : IsLost
            l = lost_parts h

            w : Passes (is_handle_lost s.old s.new x k) method_acts
            w = any_passes (is_handle_lost s.old s.new x k) method_acts l.handle

            o : open_some w.one ≡ true
            o = was_open w.one w.passes

            a : Passes (λ a. is_none (act_fault s.old a x k w.one)) (all_seats s)
            a = any_passes (λ a. is_none (act_fault s.old a x k w.one)) (all_seats s) (sym (some_is w.one) ∙ o)

            none : first_act s.old s.new (on_key 8 x k) k method_acts ≡ None
            none = none_from (first_act s.old s.new (on_key 8 x k) k method_acts) (sym (told_is l.method l.steady) ∙ l.untold)

            by : IsBy w.one → ⊥
            by t =
                let i : is_interface_of s.old x ≡ t.0 = open_kind w.one t.0 t.1 o in
                let j : is_interface_of s.new x ≡ not t.0 = other t.0 true (is_interface_of s.new x) i refl (ap (λ b. beq b (is_interface_of s.new x)) (sym i) ∙ apart) in
                closed (act_fault s.old a.one x k w.one) (act_fault s.new a.one x k w.one) IncompatibleClassChangeError (none_where (act_fault s.old a.one x k w.one) a.passes) (other_kind s.new x k w.one t.0 t.1 j a.one)
                (each_in (λ z. (b : Bytes) → IsSeat s.old s.new b → closed_act s.old s.new x k z b ≡ None) method_acts w.one (first_act-none s.old s.new (on_key 8 x k) k method_acts none) w.is_in a.one (seat_of a.one a.is_in))

    -- ---- classes above which clients can name all

    pub kept_open : choices_open s.new x k ≡ true → reference_lost s.old s.new x k ≡ false
    kept_open n = go (is_interface_of s.old x) refl (is_interface_of s.new x) refl
      where
        same_kind : is_interface_of s.old x ≡ is_interface_of s.new x → reference_lost s.old s.new x k ≡ false
        same_kind e = sym (no_handle false (new_open e true (sym n) refl) refl)

        go : (a : Bool) → is_interface_of s.old x ≡ a → (b : Bool) → is_interface_of s.new x ≡ b → reference_lost s.old s.new x k ≡ false
        go true e true f = same_kind (e ∙ sym f)
        go false e false f = same_kind (e ∙ sym f)
        go true e false f = kept_apart (ap (λ a. beq a (is_interface_of s.new x)) e ∙ ap (beq true) f)
        go false e true f = kept_apart (ap (λ a. beq a (is_interface_of s.new x)) e ∙ ap (beq false) f)
